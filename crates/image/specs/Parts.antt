-- What the readers hand out, in the words of `meaning`.
use Rattle.std.specs.Prelude.{◌≡◌, List, [], ◌∷◌, ℕ, ◌<◌, Bool, eqb, length, get_or, take, drop}
use Prim.Native.String.{String}
use Rattle.meaning.specs.Base.{◌and◌}
use Rattle.meaning.specs.Image.{NameRecord, name_count, node_count, text_count, nodes_from, texts_from, total, nodes_of, node_of, text_stands, role_stands}
use Rattle.meaning.specs.Image.{Node as ImageNode}
use Rattle.image.specs.declared.Layout.{Layout}
use Rattle.image.specs.declared.Node.{Node}
use Rattle.image.specs.declared.NameAt.{NameAt}
use Rattle.image.specs.declared.Cursor.{Cursor}
use Rattle.image.specs.declared.Read.{Read}

-- the header's counts, and where the areas start
pub record Laid (bs : List ℕ) (l : Layout) : Type 0 where
  pub names : l.names ≡ name_count bs
  pub nodes : l.nodes ≡ nodes_from bs
  pub count : l.count ≡ node_count bs
  pub texts : l.texts ≡ texts_from bs
  pub size : l.size ≡ text_count bs
  pub total : l.total ≡ total bs

abbrev pub node_means : Node → ImageNode
node_means d =
    record { kind = d.kind; arg = d.arg; children = d.children; stop = d.stop; span_start = d.begins; span_end = d.ends }

abbrev pub name_means : NameAt → NameRecord
name_means r = record { start = r.start; size = r.len; role = r.role; p = r.p; q = r.q }

-- the name record of a number
abbrev pub no_record : NameRecord
no_record = record { start = 0; size = 0; role = 0; p = 0; q = 0 }

unfoldable pub record_of : List NameRecord → ℕ → NameRecord
record_of rs k = get_or rs k no_record

-- the test that `wrong_name` makes of one record, whose text starts at `from` and comes after the text `last`
unfoldable pub name_stands : List ℕ → ℕ → List ℕ → NameRecord → Bool
name_stands texts from last r =
    let s : List ℕ = take r.size (drop from texts) in
    eqb r.start from and eqb (length s) r.size and text_stands last s and role_stands r

-- the builtins whose rule looks at a first argument, and those whose rule looks at two
abbrev pub one_argument : List String
one_argument = "int" ∷ "float" ∷ "bool" ∷ "str" ∷ "len" ∷ "assert" ∷ []

abbrev pub two_arguments : List String
two_arguments = "map" ∷ "filter" ∷ []

-- a cursor that stands at a node
pub record On (bs : List ℕ) (c : Cursor) : Type 0 where
  pub nodes : c.nodes ≡ nodes_from bs
  pub within : c.at < node_count bs

-- the node that a cursor stood at, and the cursor at another place
pub record Moved (bs : List ℕ) (c : Cursor) (r : Read) (to : ℕ) : Type 0 where
  pub node : node_means r.node ≡ node_of (nodes_of bs) c.at
  pub at : r.cursor.at ≡ to
  pub nodes : r.cursor.nodes ≡ nodes_from bs
