-- Each byte of a message can be read, none is a 0: so it is of the format strings and of all that is put into them.
use mathlib.Core.Path.{◌≡◌, refl}
use mathlib.Core.Bool.{Bool, true, false}
use mathlib.Core.List.{List, [], ◌∷◌, ◌++◌, map}
use mathlib.Core.Option.{Option, none}
use Prim.Native.Nat.{ℕ, zero, suc, ◌+◌, ◌/◌, ◌%◌, ◌≤◌}
use Prim.Native.String.{String}
use native.Mathlib.Omega.{arith}
use native.Mathlib.Decide.{dec_lt}
use borrow.Author.Tests.{eqb-true, leb-true, le-leb, lt-ltb, le-ltb}
use lib.Dec.{eqb}
use lib.ListN.{get_or, take, drop}
use Rattle.meaning.specs.Base.{◌and◌, test◌then◌else◌, choose, all, bytes, digits, decimal}
use Rattle.meaning.specs.Types.{Ty, Tys, no_types, ◌⊕◌, unknown, int, bool, string, float, nonetype, range, function, list, dict, tuple, map_iter, filter_iter, text, texts, others}
use Rattle.meaning.specs.Image.{NameRecord, Name, Role, plain, exactly, between, any, takes, printable, text_stands, wrong_name, broken_name, name_records, name_from, names_of, name_of, texts_of}
use Rattle.meaning.specs.Rules.{described}
use Rattle.meaning.specs.Message.{Piece, conflict, template, said, fill, message}
use Rattle.meaning.specs.Answer.{fitting}
use Rattle.meaning.proofs.Choices.{and_left, and_right, both, if_none}
use Rattle.meaning.proofs.Faults.{Sound}
use Rattle.types.specs.Table.{Tab, denote}
use Rattle.rules.specs.Outcome.{types_named, taken, pieces}
use Rattle.checker.specs.Answers.{readable}

-- ---- what passes a test

all_get : {A : Type 0} (f : A → Bool) (xs : List A) (k : ℕ) (d : A) → f d ≡ true → all f xs ≡ true → f (get_or xs k d) ≡ true
unfolding all
all_get f [] k d z h = z
all_get f (x ∷ xs) zero d z h = and_left _ _ h
all_get f (x ∷ xs) (suc k) d z h = all_get f xs k d z (and_right _ _ h)

pub if_passes : {A : Type 0} (f : A → Bool) (b : Bool) (x y : A) → f x ≡ true → f y ≡ true → f (test b then x else y) ≡ true
unfolding test◌then◌else◌
if_passes f true x y p q = p
if_passes f false x y p q = q

pub choose_passes : {A : Type 0} (f : A → Bool) (k : ℕ) (d : A) (rs : List (ℕ × A)) → f d ≡ true → all (λ (r : ℕ × A). f r.1) rs ≡ true
    → f (choose k d rs) ≡ true
unfolding choose all
choose_passes f k d [] z h = z
choose_passes f k d (r ∷ rs) z h = if_passes f (eqb k r.0) r.1 (choose k d rs) (and_left _ _ h) (choose_passes f k d rs z (and_right _ _ h))

-- ---- texts

abbrev pub Legible : List ℕ → Type 0
Legible s = all readable s ≡ true

pub join : (xs ys : List ℕ) → Legible xs → Legible ys → Legible (xs ++ ys)
unfolding all
join [] ys p q = q
join (x ∷ xs) ys p q = both _ _ (and_left _ _ p) (join xs ys (and_right _ _ p) q)

pub amid : (xs ys zs : List ℕ) → Legible xs → Legible ys → Legible zs → Legible (xs ++ ys ++ zs)
amid xs ys zs p q r = join (xs ++ ys) zs (join xs ys p q) r

readable_in : (b : ℕ) → 32 ≤ b → b ≤ 126 → readable b ≡ true
unfolding readable
readable_in b l h = both _ _ (le-leb 32 b l) (le-leb b 126 h)

one : (b : ℕ) → 32 ≤ b → b ≤ 126 → Legible (b ∷ [])
unfolding all
one b l h = both _ _ (readable_in b l h) refl

mutual
  unfolding text texts others bytes all readable ◌and◌

  pub text_legible : (t : Ty) → Legible (text t)
  text_legible unknown = refl
  text_legible int = refl
  text_legible bool = refl
  text_legible string = refl
  text_legible float = refl
  text_legible nonetype = refl
  text_legible range = refl
  text_legible function = refl
  text_legible (list t) = amid (bytes "List(") (text t) (bytes ")") refl (text_legible t) refl
  text_legible (dict k v) =
      amid (bytes "Dict(" ++ text k ++ bytes ", ") (text v) (bytes ")") (amid (bytes "Dict(") (text k) (bytes ", ") refl (text_legible k) refl) (text_legible v) refl
  text_legible (tuple ts) = amid (bytes "Tuple([") (texts ts) (bytes "])") refl (texts_legible ts) refl
  text_legible (map_iter t) = amid (bytes "MapIter(") (text t) (bytes ")") refl (text_legible t) refl
  text_legible (filter_iter t) = amid (bytes "FilterIter(") (text t) (bytes ")") refl (text_legible t) refl

  texts_legible : (ts : Tys) → Legible (texts ts)
  texts_legible no_types = refl
  texts_legible (t ⊕ ts) = join (text t) (others ts) (text_legible t) (others_legible ts)

  others_legible : (ts : Tys) → Legible (others ts)
  others_legible no_types = refl
  others_legible (t ⊕ ts) = amid (bytes ", ") (text t) (others ts) refl (text_legible t) (others_legible ts)

digits_legible : (most n : ℕ) → Legible (digits most n)
unfolding digits all test◌then◌else◌
digits_legible zero n = refl
digits_legible (suc most) n = elim (dec_lt n 10) [
  | yes h ↦ rw (lt-ltb n 10 h) (one (48 + n) (omega arith) (omega arith))
  | no h ↦
      let last : Legible ((48 + n % 10) ∷ []) = one (48 + n % 10) (omega arith) (omega arith) in
      rw (le-ltb n 10 (omega arith)) (join (digits most (n / 10)) ((48 + n % 10) ∷ []) (digits_legible most (n / 10)) last)
]

decimal_legible : (n : ℕ) → Legible (decimal n)
unfolding decimal
decimal_legible n = digits_legible 10 n

described_legible : (r : Role) → Legible (described r)
unfolding described bytes all readable ◌and◌
described_legible plain = refl
described_legible (exactly p) = decimal_legible p
described_legible (between p q) =
    if_passes (all readable) (eqb p q) _ _ (decimal_legible p)
    (amid (decimal p) (bytes "-") (decimal q) (decimal_legible p) refl (decimal_legible q))
described_legible any = refl
described_legible (takes p) = decimal_legible p

-- ---- names: each byte of theirs is 33 to 126

pub printable_legible : (s : List ℕ) → all printable s ≡ true → Legible s
unfolding all printable
printable_legible [] h = refl
printable_legible (b ∷ s) h =
    let l = leb-true 33 b (and_left _ _ (and_left _ _ h)) in
    let u = leb-true b 126 (and_right _ _ (and_left _ _ h)) in
    both _ _ (readable_in b (omega (arith, l)) u) (printable_legible s (and_right _ _ h))

names_legible : (texts : List ℕ) (i from : ℕ) (last : List ℕ) (rs : List NameRecord) → wrong_name texts i from last rs ≡ none
    → all (λ (w : Name). all readable w.spelling) (map (name_from texts) rs) ≡ true
unfolding wrong_name name_from text_stands all
names_legible texts i from last [] h = refl
names_legible texts i from last (r ∷ rs) h =
    let t = if_none _ _ _ h in
    let s : List ℕ = take r.size (drop from texts) in
    let e : r.start ≡ from = eqb-true _ _ (and_left _ _ (and_left _ _ (and_left _ _ t.0))) in
    let stands = and_right _ _ (and_left _ _ t.0) in
    rw e (both _ _ (printable_legible s (and_right _ _ (and_left _ _ stands))) (names_legible texts (suc i) (from + r.size) s rs t.1))

name_legible : {bs : List ℕ} → Sound bs → (x : ℕ) → Legible (name_of (names_of bs) x).spelling
unfolding names_of name_of broken_name all
name_legible {bs} s x =
    all_get (λ (w : Name). all readable w.spelling) (names_of bs) x (record { spelling = []; role = plain }) refl
    (names_legible (texts_of bs) 0 0 [] (name_records bs) s.names)

-- ---- messages

unfoldable spoken : Piece → Bool
spoken p = all readable (said p)

fill_legible : (s : List ℕ) (ps : List Piece) → Legible s → all spoken ps ≡ true → Legible (fill s ps)
unfolding fill all spoken
fill_legible [] ps h k = refl
fill_legible (c ∷ cs) [] h k = both _ _ (and_left _ _ h) (fill_legible cs [] (and_right _ _ h) k)
fill_legible (c ∷ cs) (p ∷ ps) h k =
    if_passes (all readable) (eqb c 95) (said p ++ fill cs ps) (c ∷ fill cs (p ∷ ps))
    (join (said p) (fill cs ps) (and_left _ _ k) (fill_legible cs ps (and_right _ _ h) (and_right _ _ k)))
    (both _ _ (and_left _ _ h) (fill_legible cs (p ∷ ps) (and_right _ _ h) k))

-- each format string
template_legible : (c : ℕ) → Legible (bytes (template c))
unfolding template bytes all readable ◌and◌
template_legible c = choose_passes (λ (s : String). all readable (bytes s)) c "" _ refl refl

pieces_legible : {bs : List ℕ} → Sound bs → (t : Tab) (c a b : ℕ) → all spoken (pieces (names_of bs) t c a b) ≡ true
unfolding pieces spoken said all
pieces_legible {bs} s t c a b =
    let w : Name = name_of (names_of bs) a in
    let named : Legible w.spelling = name_legible s a in
    choose_passes (all spoken) (types_named c) _ _
    (choose_passes (all spoken) c [] _ refl
    (both _ _ (both _ _ named refl)
    (both _ _ (both _ _ (decimal_legible a) (both _ _ (decimal_legible b) refl))
    (both _ _ (both _ _ named (both _ _ (described_legible w.role) (both _ _ (decimal_legible b) refl)))
    (both _ _ (both _ _ named (both _ _ (decimal_legible (taken w.role)) (both _ _ (decimal_legible b) refl))) refl)))))
    (both _ _ (both _ _ (text_legible (denote t a)) refl)
    (both _ _ (both _ _ (text_legible (denote t a)) (both _ _ (text_legible (denote t b)) refl)) refl))

-- whatever a refusal tells of a sound image
pub message_legible : {bs : List ℕ} → Sound bs → (t : Tab) (c n : ℕ) (f : Option ℕ) (a b room : ℕ)
    → all readable (fitting room (message (conflict c n f (pieces (names_of bs) t c a b)))) ≡ true
unfolding fitting message all
message_legible {bs} s t c n f a b room =
    if_passes (all readable) _ _ [] (fill_legible (bytes (template c)) (pieces (names_of bs) t c a b) (template_legible c) (pieces_legible s t c a b)) refl
