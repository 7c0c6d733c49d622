-- Document 02, request Four: "the converted image gets the answer the old one got before the retirement", and "other images come out
-- unchanged". Nothing is asked of the bytes: they need not be an image.
use mathlib.Core.Path.{◌≡◌, refl, ◌∙◌, ap, sym}
use mathlib.Core.Bool.{Bool, true, false, not, false≢true}
use mathlib.Core.Logic.{◌↔◌}
use mathlib.Core.Option.{Option, none, some, none-ne-some}
use mathlib.Core.List.{List, [], ◌∷◌, map}
use Prim.Native.Nat.{ℕ, zero, suc, ◌+◌, ◌*◌, ◌≤◌, ◌<◌}
use native.Mathlib.Omega.{arith}
use native.Mathlib.Decide.{dec_lt}
use borrow.Author.Tests.{eqb-true, le-leb, lt-leb, not-true}
use lib.Dec.{eqb}
use lib.ListN.{length, get_or, set, drop, length-set, length-map, get_or-map, get_or-eq_default}
use lib.Seq.{get_or-set_same, get_or-set_other, drop-set-lt, ext_get_or}
use Rattle.meaning.specs.Limits.{largest_image}
use Rattle.meaning.specs.Base.{test◌then◌else◌, if_some, word}
use Rattle.meaning.specs.Image.{name_count, node_count, texts_from, Name, names_of, Node, node, nodes_of, node_of, Fault, first_not, first_found, broken_node, badly_nested, too_deep_node, image_fault, is_tree_set, first_tree_set, check_fault}
use Rattle.meaning.specs.Convert.{kind_from, converted_to, converted, Conversion, unconverted, convert_answer}
use Rattle.meaning.specs.Decode.{tree_of}
use Rattle.meaning.specs.Known.{defs_in_ifs, steady_by, steadiness}
use Rattle.meaning.specs.Walk.{Setting, End, done, wrong, too_deep}
use Rattle.meaning.specs.Answer.{bare, ended, walked, walk_answer, unless_fault, answer_under, setting_of, answer, former_under, former_answer}
use Rattle.meaning.proofs.Choices.{all_pass}
use Rattle.meaning.proofs.Records.{node_words, node_at}
use Rattle.meaning.proofs.Faults.{Sound, sound, fault_told, image_length}
use Rattle.meaning.proofs.Nesting.{nodes_many}
use Rattle.meaning.proofs.Beside.{Beside, names_same, nodes_same, from_same, names_of_same, fault_same}
use Rattle.meaning.proofs.Answers.{fault_first, only_tree_sets}
use Rattle.meaning.proofs.Renewed.{renewed, never_tree_set, span_alike, stands_alike, nests_alike, depth_alike, search_alike, tree_alike}

-- ---- one node

module _ (xs : List ℕ) (at : ℕ) where
  step_length : (b : Bool) → length (test b then set xs at 29 else xs) ≡ length xs
  unfolding test◌then◌else◌
  step_length true = length-set xs at 29
  step_length false = refl

  step_other : (b : Bool) (j : ℕ) → (b ≡ true → j ≡ at → ⊥) → get_or (test b then set xs at 29 else xs) j 0 ≡ get_or xs j 0
  unfolding test◌then◌else◌
  step_other true j h = get_or-set_other xs at j 29 0 (h refl)
  step_other false j h = refl

  step_same : (b : Bool) → b ≡ true → at < length xs → get_or (test b then set xs at 29 else xs) at 0 ≡ 29
  unfolding test◌then◌else◌
  step_same true e h = get_or-set_same xs at 29 0 h
  step_same false e h = absurd (false≢true e)

  step_drop : (b : Bool) (n : ℕ) → at < n → drop n (test b then set xs at 29 else xs) ≡ drop n xs
  unfolding test◌then◌else◌
  step_drop true n h = drop-set-lt n xs at 29 h
  step_drop false n h = refl

-- ---- byte for byte

module _ (bs : List ℕ) where
  -- node i is a TreeSet
  abbrev TreeSetAt : ℕ → Type 0
  TreeSetAt i = is_tree_set (node_of (nodes_of bs) i) ≡ true

  pub length_to : (n : ℕ) → length (converted_to bs n) ≡ length bs
  unfolding converted_to
  length_to zero = refl
  length_to (suc n) = step_length (converted_to bs n) (kind_from bs n) _ ∙ length_to n

  else_to : (n j : ℕ) → ((i : ℕ) → i < n → TreeSetAt i → j ≡ kind_from bs i → ⊥) → get_or (converted_to bs n) j 0 ≡ get_or bs j 0
  unfolding converted_to
  else_to zero j h = refl
  else_to (suc n) j h = step_other (converted_to bs n) (kind_from bs n) _ j (h n (omega arith)) ∙ else_to n j (λ i l. h i (omega arith))

  -- what comes first leaves a node's record as it was
  pub record_to : (i k : ℕ) → get_or (converted_to bs i) (kind_from bs i + k) 0 ≡ get_or bs (kind_from bs i + k) 0
  unfolding kind_from
  record_to i k = else_to i (kind_from bs i + k) (λ m l t e. omega arith)

  kind_to : (n i : ℕ) → i < n → TreeSetAt i → kind_from bs i < length bs → get_or (converted_to bs n) (kind_from bs i) 0 ≡ 29
  unfolding converted_to kind_from
  kind_to zero i l r h = absurd (omega arith)
  kind_to (suc n) i l r h = elim (dec_lt i n) [
    | yes m ↦ step_other (converted_to bs n) (kind_from bs n) _ (kind_from bs i) (λ t e. omega arith) ∙ kind_to n i m r h
    | no m ↦ let e : n ≡ i = omega arith in rw e (step_same (converted_to bs i) (kind_from bs i) _ r (rw length_to h))
  ]

  drop_to : (n : ℕ) → n ≤ node_count bs → drop (texts_from bs) (converted_to bs n) ≡ drop (texts_from bs) bs
  unfolding converted_to kind_from texts_from
  drop_to zero h = refl
  drop_to (suc n) h = step_drop (converted_to bs n) (kind_from bs n) _ (texts_from bs) (omega arith) ∙ drop_to n (omega arith)

  pub converted_length : length (converted bs) ≡ length bs
  unfolding converted
  converted_length = length_to (node_count bs)

  -- "all else equal byte for byte"
  pub converted_else : (j : ℕ) → ((i : ℕ) → i < node_count bs → TreeSetAt i → j ≡ kind_from bs i → ⊥) → get_or (converted bs) j 0 ≡ get_or bs j 0
  unfolding converted
  converted_else j h = else_to (node_count bs) j h

  -- the header, the names and the texts stay
  beside : Beside bs (converted bs)
  unfolding converted kind_from
  beside =
      record {
        long = converted_length;
        front = λ j h. converted_else j (λ i l r e. omega arith);
        back = drop_to (node_count bs) (omega arith);
      }

-- ---- a node is the same, but that a TreeSet is a Set

module _ (bs : List ℕ) where
  inside_same : (i j : ℕ) → kind_from bs i < j → j < kind_from bs i + 24 → get_or (converted bs) j 0 ≡ get_or bs j 0
  unfolding kind_from
  inside_same i j p q = converted_else bs j (λ m a b e. omega arith)

  inside_word : (i k : ℕ) → 0 < k → k + 4 ≤ 24 → word (converted bs) (kind_from bs i + k) ≡ word bs (kind_from bs i + k)
  inside_word i k p q =
      rw (
        inside_same i (kind_from bs i + k) (omega arith) (omega arith),
        inside_same i (kind_from bs i + k + 1) (omega arith) (omega arith),
        inside_same i (kind_from bs i + k + 2) (omega arith) (omega arith),
        inside_same i (kind_from bs i + k + 3) (omega arith) (omega arith),
      )

  -- a kind of 30 is the byte 30 and three zeros
  thirty_inside : (at : ℕ) → get_or bs at 0 ≡ 30 → at < length bs
  thirty_inside at e = elim (dec_lt at (length bs)) [
    | yes h ↦ h
    | no h ↦ let z = get_or-eq_default bs 0 {n = at} (omega arith) in absurd (omega arith)
  ]

  kind_byte : (i : ℕ) → i < node_count bs → is_tree_set (node_of (nodes_of bs) i) ≡ true → get_or bs (kind_from bs i) 0 ≡ 30 → get_or (converted bs) (kind_from bs i) 0 ≡ 29
  unfolding converted
  kind_byte i l t e = kind_to bs (node_count bs) i l t (thirty_inside (kind_from bs i) e)

  kind_word : (i : ℕ) → i < node_count bs → is_tree_set (node_of (nodes_of bs) i) ≡ true → word bs (kind_from bs i) ≡ 30 → word (converted bs) (kind_from bs i) ≡ 29
  kind_word i l t e =
      let at : ℕ = kind_from bs i in
      rw (
        kind_byte i l t (omega arith),
        inside_same i (at + 1) (omega arith) (omega arith),
        inside_same i (at + 2) (omega arith) (omega arith),
        inside_same i (at + 3) (omega arith) (omega arith),
      ) (omega arith)

  plain_byte : (i : ℕ) → is_tree_set (node_of (nodes_of bs) i) ≡ false → get_or (converted bs) (kind_from bs i) 0 ≡ get_or bs (kind_from bs i) 0
  unfolding kind_from
  plain_byte i f =
      converted_else bs _ (λ j a b e. let k : i ≡ j = omega arith in absurd (false≢true (sym f ∙ ap (λ m. is_tree_set (node_of (nodes_of bs) m)) k ∙ b)))

  plain_word : (i : ℕ) → is_tree_set (node_of (nodes_of bs) i) ≡ false → word (converted bs) (kind_from bs i) ≡ word bs (kind_from bs i)
  plain_word i f =
      let at : ℕ = kind_from bs i in
      rw (
        plain_byte i f,
        inside_same i (at + 1) (omega arith) (omega arith),
        inside_same i (at + 2) (omega arith) (omega arith),
        inside_same i (at + 3) (omega arith) (omega arith),
      )

  kind_is : (i : ℕ) → i < node_count bs → (node_of (nodes_of bs) i).kind ≡ word bs (kind_from bs i)
  unfolding kind_from
  kind_is i l = ap (λ d. d.kind) (node_at bs i l ∙ node_words bs _)

  pub tree_set_word : (i : ℕ) → i < node_count bs → is_tree_set (node_of (nodes_of bs) i) ≡ true → word bs (kind_from bs i) ≡ 30
  unfolding is_tree_set
  tree_set_word i l t = sym (kind_is i l) ∙ eqb-true _ 30 t

  kind_renewed : (i : ℕ) → i < node_count bs
      → word (converted bs) (kind_from bs i) ≡ (test eqb (word bs (kind_from bs i)) 30 then 29 else word bs (kind_from bs i))
  unfolding test◌then◌else◌ is_tree_set
  kind_renewed i l = by (eqb (word bs (kind_from bs i)) 30) refl
    where
      by : (b : Bool) → eqb (word bs (kind_from bs i)) 30 ≡ b → word (converted bs) (kind_from bs i) ≡ (test b then 29 else word bs (kind_from bs i))
      by true e = kind_word i l (rw (kind_is i l) e) (eqb-true _ 30 e)
      by false e = plain_word i (rw (kind_is i l) e)

  node_renewed : (i : ℕ) → i < node_count bs → node (drop (kind_from bs i) (converted bs)) ≡ renewed (node_of (nodes_of bs) i)
  unfolding renewed kind_from is_tree_set
  node_renewed i l =
      let at : ℕ = kind_from bs i in
      let e = node_at bs i l ∙ node_words bs at in
      node_words (converted bs) at
      ∙ rw (
        inside_word i 4 (omega arith) (omega arith),
        inside_word i 8 (omega arith) (omega arith),
        inside_word i 12 (omega arith) (omega arith),
        inside_word i 16 (omega arith) (omega arith),
        inside_word i 20 (omega arith) (omega arith),
        kind_renewed i l,
        e,
      )

  -- the same nodes, but that each TreeSet is a Set
  pub nodes_renewed : nodes_of (converted bs) ≡ map renewed (nodes_of bs)
  unfolding node_of renewed is_tree_set test◌then◌else◌ kind_from
  nodes_renewed =
      let none : Node = record { kind = 0; arg = 0; children = 0; stop = 0; span_start = 0; span_end = 0 } in
      ext_get_or none _ _ (nodes_many (converted bs) ∙ nodes_same (beside bs) ∙ sym (nodes_many bs) ∙ sym (length-map (nodes_of bs) renewed))
      (λ i l. let h : i < node_count (converted bs) = rw (nodes_many (converted bs)) at l in
      let m : i < node_count bs = rw (nodes_same (beside bs)) at h in
      node_at (converted bs) i h ∙ ap (λ at. node (drop (at + 24 * i) (converted bs))) (from_same (beside bs)) ∙ node_renewed i m
      ∙ sym (get_or-map renewed (nodes_of bs) i none))

-- ---- the same faults

module _ (bs : List ℕ) where
  broken_same : broken_node (converted bs) ≡ broken_node bs
  unfolding broken_node
  broken_same =
      rw (names_same (beside bs), nodes_same (beside bs), nodes_renewed bs) (search_alike _ _ 0 (nodes_of bs) (stands_alike (name_count bs) (node_count bs)))

  nested_same : badly_nested (converted bs) ≡ badly_nested bs
  unfolding badly_nested
  nested_same = rw (nodes_renewed bs) (search_alike _ _ 0 (nodes_of bs) (nests_alike (nodes_of bs)))

  deep_same : too_deep_node (converted bs) ≡ too_deep_node bs
  unfolding too_deep_node
  deep_same = rw (nodes_renewed bs) (search_alike _ _ 0 (nodes_of bs) (λ i d. rw (depth_alike i 0 (nodes_of bs))))

  -- 1 to 8: the converted bytes have the old ones' fault, whatever those are
  pub faults_same : image_fault (converted bs) ≡ image_fault bs
  faults_same = fault_same (beside bs) broken_same nested_same deep_same

  -- so they are a well-formed image exactly when the old ones are
  pub well_formed : Sound (converted bs) ↔ Sound bs
  well_formed = (
    λ s. (sound bs).0 (sym faults_same ∙ (sound (converted bs)).1 s),
    λ s. (sound (converted bs)).0 (faults_same ∙ (sound bs).1 s),
  )

-- ---- no TreeSet is left

none_left : (i : ℕ) (ds : List Node) → first_not (λ j d. not (is_tree_set d)) i (map renewed ds) ≡ none
unfolding first_not test◌then◌else◌
none_left i [] = refl
none_left i (d ∷ ds) = rw (never_tree_set d, none_left (suc i) ds)

pub no_tree_set : (bs : List ℕ) → first_tree_set (converted bs) ≡ none
unfolding first_tree_set
no_tree_set bs = rw (nodes_renewed bs) (none_left 0 (nodes_of bs))

some_or_none : (o : Option Fault) → if_some o some none ≡ o
unfolding if_some
some_or_none none = refl
some_or_none (some f) = refl

check_same : (bs : List ℕ) → check_fault (converted bs) ≡ image_fault bs
unfolding check_fault first_found if_some
check_same bs = rw (no_tree_set bs, faults_same bs) (some_or_none (image_fault bs))

-- ---- the answer

second_alike : (ds : List Node) (o : Option ℕ)
    → (if_some o (λ m. (node_of (map renewed ds) m).span_start) 0 ≡ if_some o (λ m. (node_of ds m).span_start) 0)
    × (if_some o (λ m. (node_of (map renewed ds) m).span_end) 0 ≡ if_some o (λ m. (node_of ds m).span_end) 0)
unfolding if_some
second_alike ds none = (refl, refl)
second_alike ds (some m) = span_alike ds m

ended_alike : (ws : List Name) (ds : List Node) (a b : ℕ) (e : End) → ended ws (map renewed ds) a b e ≡ ended ws ds a b e
unfolding ended
ended_alike ws ds a b (done s) = rw (tree_alike ds)
ended_alike ws ds a b (wrong r s) =
    rw ((span_alike ds r.node).0, (span_alike ds r.node).1, (second_alike ds r.first).0, (second_alike ds r.first).1)
ended_alike ws ds a b (too_deep n) = refl

unless_same : (o : Option Fault) (setting : Setting) (bs : List ℕ) (sheet_room message_room : ℕ)
    → unless_fault o setting (converted bs) sheet_room message_room ≡ unless_fault o setting bs sheet_room message_room
unfolding unless_fault walk_answer walked
unless_same o setting bs sheet_room message_room =
    rw (names_of_same (beside bs), nodes_renewed bs, tree_alike (nodes_of bs), ended_alike (names_of bs) (nodes_of bs) sheet_room message_room)

module _ (bs : List ℕ) (sheet_room message_room : ℕ) where
  pub converted_under : (setting : Setting) → answer_under setting (converted bs) sheet_room message_room ≡ former_under setting bs sheet_room message_room
  unfolding answer_under former_under
  converted_under setting = rw (check_same bs) (unless_same (image_fault bs) setting bs sheet_room message_room)

  -- code, place, both spans, sheet and message, for any setting's number and any buffers. (False of a converter that makes TreeSets Lists:
  -- `x = {1}` would turn from Unknown to List(Int). False of one that moves a span, and of one that leaves a TreeSet behind a List's end.)
  pub converted_answer : (n : ℕ) → answer n (converted bs) sheet_room message_room ≡ former_answer n bs sheet_room message_room
  unfolding answer former_answer if_some
  converted_answer n = by (setting_of n)
    where
      by : (o : Option Setting) → if_some o (λ setting. answer_under setting (converted bs) sheet_room message_room) (bare 13 0)
          ≡ if_some o (λ setting. former_under setting bs sheet_room message_room) (bare 13 0)
      by none = refl
      by (some setting) = converted_under setting

  -- it is never refused for a TreeSet. (False of a converter that turns the first one alone.)
  pub never_14 : (n : ℕ) → (answer n (converted bs) sheet_room message_room).code ≡ 14 → ⊥
  never_14 n e = none-ne-some _ (sym (no_tree_set bs) ∙ (only_tree_sets (converted bs) sheet_room message_room n e).1)

-- ---- whether known stays known: what is told of the old image holds of the converted one

steady_alike : (ds : List Node) (ns : List ℕ) → steady_by (map renewed ds) ns ≡ steady_by ds ns
unfolding steady_by
steady_alike ds [] = refl
steady_alike ds (n ∷ ns) = rw ((span_alike ds n).0, (span_alike ds n).1)

-- (False of a converter that moves a Def's span.)
pub converted_steadiness : (bs : List ℕ) → steadiness (converted bs) ≡ steadiness bs
unfolding steadiness
converted_steadiness bs =
    rw (faults_same bs, nodes_renewed bs, tree_alike (nodes_of bs), steady_alike (nodes_of bs) (defs_in_ifs (tree_of (nodes_of bs))))

-- ---- "Other images come out unchanged."

unchanged_to : (bs : List ℕ) → first_tree_set bs ≡ none → (n : ℕ) → n ≤ node_count bs → converted_to bs n ≡ bs
unfolding converted_to first_tree_set node_of test◌then◌else◌
unchanged_to bs e zero h = refl
unchanged_to bs e (suc n) h =
    let none : Node = record { kind = 0; arg = 0; children = 0; stop = 0; span_start = 0; span_end = 0 } in
    let l : n < length (nodes_of bs) = rw (nodes_many bs) (omega arith) in
    let p : is_tree_set (get_or (nodes_of bs) n none) ≡ false = not-true _ (all_pass (λ i d. not (is_tree_set d)) (nodes_of bs) none e n l) in
    rw p (unchanged_to bs e n (omega arith))

-- (False of a converter that turns every word 30: a span that starts at 30 would move.)
pub unchanged : (bs : List ℕ) → first_tree_set bs ≡ none → converted bs ≡ bs
unfolding converted
unchanged bs e = unchanged_to bs e (node_count bs) (omega arith)

-- converting twice changes nothing
pub converted_twice : (bs : List ℕ) → converted (converted bs) ≡ converted bs
converted_twice bs = unchanged (converted bs) (no_tree_set bs)

-- ---- what the converter answers

-- "codes 1 to 8 as the check does", whatever the room
pub convert_refused : (bs : List ℕ) (room : ℕ) (f : Fault) → image_fault bs ≡ some f → convert_answer bs room ≡ unconverted f.code f.place
unfolding convert_answer if_some
convert_refused bs room f e = rw e

pub convert_as_check : (bs : List ℕ) (room sheet_room message_room : ℕ) (setting : Setting) (f : Fault) → image_fault bs ≡ some f
    → ((convert_answer bs room).code ≡ (answer_under setting bs sheet_room message_room).code)
    × ((convert_answer bs room).place ≡ (answer_under setting bs sheet_room message_room).place)
convert_as_check bs room sheet_room message_room setting f e =
    rw (convert_refused bs room f e, fault_first setting bs sheet_room message_room f e) (refl, refl)

-- "then 15 if its output buffer is shorter than the image"
pub convert_short : (bs : List ℕ) (room : ℕ) → Sound bs → room < length bs → convert_answer bs room ≡ unconverted 15 0
unfolding convert_answer if_some test◌then◌else◌
convert_short bs room s h = rw ((sound bs).1 s, lt-leb (length bs) room h)

-- an equal length is enough, and nothing is typed
pub convert_done : (bs : List ℕ) (room : ℕ) → Sound bs → length bs ≤ room
    → convert_answer bs room ≡ record { code = 0; place = 0; image = converted bs }
unfolding convert_answer if_some test◌then◌else◌
convert_done bs room s h = rw ((sound bs).1 s, le-leb (length bs) room h)

-- no image is longer than 59,936 bytes, so that in so much room 15 does not come. (False of a room for 59,935.)
roomy_by : (bs : List ℕ) (room : ℕ) → largest_image ≤ room → (o : Option Fault) → image_fault bs ≡ o → (convert_answer bs room).code ≡ 15 → ⊥
roomy_by bs room h (some f) e c =
    let q = ap (λ (a : Conversion). a.code) (convert_refused bs room f e) in omega (arith, q, c, (fault_told bs f e).below)
roomy_by bs room h none e c =
    let s = (sound bs).0 e in
    let q = ap (λ (a : Conversion). a.code) (convert_done bs room s (omega (arith, h, image_length s.headed))) in omega (arith, q, c)

pub convert_roomy : (bs : List ℕ) (room : ℕ) → largest_image ≤ room → (convert_answer bs room).code ≡ 15 → ⊥
convert_roomy bs room h = roomy_by bs room h (image_fault bs) refl
