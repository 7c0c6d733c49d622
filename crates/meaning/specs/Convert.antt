-- The converter for stored images (document 02, request Four): it "turns each TreeSet into a Set, all else equal byte for byte".
use Rattle.std.specs.Prelude.{List, [], ℕ, zero, suc, ◌+◌, ◌*◌, leb, length, set}
use Rattle.meaning.specs.Base.{test◌then◌else◌, if_some}
use Rattle.meaning.specs.Image.{node_count, nodes_from, nodes_of, node_of, is_tree_set, image_fault}

-- where node i's kind stands. It is a word, and of a TreeSet's 30,0,0,0 the first byte alone differs from a Set's
unfoldable pub kind_from : List ℕ → ℕ → ℕ
kind_from bs i = nodes_from bs + 24 * i

-- the image with each TreeSet among its first n nodes made a Set
unfoldable pub converted_to : List ℕ → ℕ → List ℕ
converted_to bs zero = bs
converted_to bs (suc i) =
    let earlier : List ℕ = converted_to bs i in
    test is_tree_set (node_of (nodes_of bs) i) then set earlier (kind_from bs i) 29 else earlier

unfoldable pub converted : List ℕ → List ℕ
converted bs = converted_to bs (node_count bs)

-- code and place, and what is written at the front of the output buffer
pub record Conversion : Type 0 where
  pub code : ℕ
  pub place : ℕ
  pub image : List ℕ

-- "touching nothing"
abbrev pub unconverted : ℕ → ℕ → Conversion
unconverted c n = record { code = c; place = n; image = [] }

-- "the converter gives codes 1 to 8 as the check does, then 15 if its output buffer is shorter than the image"
unfoldable pub convert_answer : List ℕ → ℕ → Conversion
convert_answer bs room =
    let sound : Conversion =
    test leb (length bs) room then record { code = 0; place = 0; image = converted bs } else unconverted 15 0
    in if_some (image_fault bs) (λ f. unconverted f.code f.place) sound

unfoldable pub convert_open : Unit {0}
unfolding kind_from converted_to converted convert_answer
convert_open = tt
