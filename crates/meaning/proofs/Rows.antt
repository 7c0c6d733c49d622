-- How tables of runs are written: an image by its names and nodes, and the answer that it gets.
use mathlib.Core.List.{List, [], ◌∷◌, ◌++◌}
use Prim.Native.Nat.{ℕ, ◌+◌, ◌*◌}
use Prim.Native.String.{String}
use lib.ListN.{length}
use Rattle.meaning.specs.Base.{bytes, words}
use Rattle.meaning.specs.Answer.{Answer}

-- an image, and its answer
abbrev pub Run : Type 0
Run = List ℕ × Answer

-- text, role, p, q
abbrev pub NameRow : Type 0
NameRow = String × ℕ × ℕ × ℕ

abbrev spelled : List NameRow → List ℕ
spelled [] = []
spelled (n ∷ ns) = bytes n.0 ++ spelled ns

abbrev name_words : ℕ → List NameRow → List ℕ
name_words from [] = []
name_words from (n ∷ ns) = from ∷ length (bytes n.0) ∷ n.1 ∷ n.2 ∷ n.3 ∷ name_words (from + length (bytes n.0)) ns

abbrev joined : List (List ℕ) → List ℕ
joined [] = []
joined (r ∷ rs) = r ++ joined rs

-- an image from its names and its nodes (kind, arg, children, end, span)
abbrev pub image : List NameRow → List (List ℕ) → List ℕ
image ns rows =
    let at_nodes : ℕ = 32 + 20 * length ns in
    let at_texts : ℕ = at_nodes + 24 * length rows in
    let size : ℕ = length (spelled ns) in
    words (1 ∷ length ns ∷ 32 ∷ length rows ∷ at_nodes ∷ size ∷ at_texts ∷ (at_texts + size) ∷ [])
    ++ words (name_words 0 ns)
    ++ words (joined rows)
    ++ spelled ns

-- accepted, with this sheet
abbrev pub accepts : List ℕ → Answer
accepts sheet = record { code = 0; place = 0; span_start = 0; span_end = 0; second_start = 0; second_end = 0; sheet = sheet; message = [] }

-- refused: code, place, span and message
abbrev pub refuses : ℕ → ℕ → ℕ → ℕ → List ℕ → Answer
refuses c n a b m = record { code = c; place = n; span_start = a; span_end = b; second_start = 0; second_end = 0; sheet = []; message = m }

-- the same with a second span, d to e
abbrev pub refuses_over : ℕ → ℕ → ℕ → ℕ → ℕ → ℕ → List ℕ → Answer
refuses_over c n a b d e m = record { code = c; place = n; span_start = a; span_end = b; second_start = d; second_end = e; sheet = []; message = m }

-- an answer as T gives it: it has no second span
abbrev pub as_before : Answer → Answer
as_before a =
    record { code = a.code; place = a.place; span_start = a.span_start; span_end = a.span_end; second_start = 0; second_end = 0; sheet = a.sheet; message = a.message }
