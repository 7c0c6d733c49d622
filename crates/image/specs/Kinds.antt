-- The parts of 6 and 7.
use Rattle.std.specs.Prelude.{Bool, not, List, ℕ, eqb, ltb, length}
use Rattle.meaning.specs.Base.{◌and◌, ◌or◌}
use Rattle.meaning.specs.Image.{Node, node_of, is_statement, is_spanless, is_expression, arg_below, count_stands}

-- what `node_stands` asks of a node but for its end
unfoldable pub record_stands : ℕ → Node → Bool
record_stands N d =
    let k : ℕ = d.kind in
    (is_statement k or is_spanless k or is_expression k)
    and ltb d.arg (arg_below N k)
    and count_stands k d.children
    and (not (is_spanless k) or eqb d.span_start 0 and eqb d.span_end 0)

-- what `nests` asks of node 0 alone
unfoldable pub root_stands : List Node → Bool
root_stands ds = eqb (node_of ds 0).kind 12 and eqb (node_of ds 0).stop (length ds)
