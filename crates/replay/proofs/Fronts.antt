-- The lines: digits, a checksum or a second span in the place of a line's end, and what the check left in the buffers. Assumes nothing.
use Rattle.std.proofs.Common.{◌≡◌, ℕ, ◌+◌, ◌-◌, ◌^◌, ◌<◌, ◌≤◌, Bool, true, false, eqb, leb, ◌⊎◌, List, [], ◌∷◌, ◌++◌, length, take, drop, sym, refl, ap, ◌∙◌, inl, inr, zero-add, arith, length-append, length-take-le, drop-drop, eq-eqb, ne_eqb}
use mathlib.Core.Option.{Option, none, some}
use native.Mathlib.Nat.{pow-le-pow_right}
use native.Mathlib.Decide.{dec_lt}
use lib.Seq.{take-append-le, take-append_seam, drop-append-add}
use Rattle.io.specs.Digits.{last_digits, IsDigitCount}
use Rattle.meaning.specs.Base.{test◌then◌else◌, choose, if_some, bytes, decimal, word}
use Rattle.meaning.specs.Sheet.{Entry, sheet_of}
use Rattle.meaning.specs.Read.{read_sheet}
use Rattle.meaning.specs.Answer.{Answer, bare, written, write_answer, overlaid}
use Rattle.meaning.specs.Line.{spaced, accepted_line, refused_line, line_of}
use Rattle.meaning.proofs.Answers.{overlaid_length, written_answered, overlaid_front}
use Rattle.meaning.proofs.SheetForm.{sheet_size}
use Rattle.words.specs.Words.{put_at, Wrote}
use Rattle.words.proofs.Laws.{decimal_length, put_overlaid, wrote, and_then}
use Rattle.checker.specs.Answers.{Numbers, rewritten, Relaid}
use Rattle.line.specs.Printing.{Fronted, Lined, SecondTold, answered, or_dash}
use Rattle.line.proofs.Pieces.{spaced_next}
use Rattle.line.proofs.Answered.{Header, bare_header, written_header}
use Rattle.line.proofs.Answered.{fronted as to_front}
use Rattle.line.proofs.One.{sheet_is}
use Rattle.replay.specs.Lines.{fnv_of, hex_of, checksum, second_span, behind, summed_line, read_line, rewritten_line, sheet_line}

-- ---- sixteen digits

sixteen : (n k : ℕ) → n < 2 ^ 64 → IsDigitCount 16 16 n k → k ≡ 16
sixteen n k h f =
    elim (dec_lt 16 k) [
      | yes a ↦ absurd (omega (arith, h, f.2 a, pow-le-pow_right {n = 16} (omega arith) {i = 16} {j = k - 1} (omega arith)))
      | no a ↦ omega (arith, f.0, a)
    ]

module _ (n k : ℕ) (out : List ℕ) (below : n < 2 ^ 64) (f : IsDigitCount 16 16 n k) (counts : k ≡ length (take k out)) where
  pub hex_wrote : {d e : List ℕ} {at r : ℕ} → at + 16 ≤ length d → take k out ≡ last_digits 16 k n
      → e ≡ put_at d at (take k out) → r ≡ at + length (take k out) → Wrote d at (hex_of n) e r × (r ≡ at + 16)
  unfolding hex_of
  hex_wrote room q w p =
      let all : take k out ≡ hex_of n = q ∙ ap (λ (j : ℕ). last_digits 16 j n) (sixteen n k below f) in
      let long : length (hex_of n) ≡ 16 = sym (ap length all) ∙ sym counts ∙ sixteen n k below f in
      (wrote (hex_of n) (omega (arith, long, room)) (rw all at w) (rw all at p), omega (arith, p, counts, sixteen n k below f))

-- ---- the checksum, and the line of a sheet

pub checksum_wrote : {d e f g : List ℕ} {at m n r : ℕ} (sheet : List ℕ) (h : ℕ) → h ≡ fnv_of sheet
    → Wrote d at (bytes " #") e m → Wrote e m (hex_of h) f n → Wrote f n (bytes "\n") g r → Wrote d at (checksum sheet) g r
unfolding checksum
checksum_wrote sheet h p a b c = rw (← p) (and_then (and_then a b) c)

pub read_wrote : {d e f g h : List ℕ} {m n o r : ℕ} (sheet : List ℕ) (names types : ℕ) → names ≡ word sheet 20 → types ≡ word sheet 4
    → Wrote d 0 (bytes "read") e m → Wrote e m (spaced (names ∷ [])) f n → Wrote f n (spaced (types ∷ [])) g o → Wrote g o (checksum sheet) h r
    → Wrote d 0 (read_line sheet) h r
unfolding read_line
read_wrote sheet names types p q a b c s = rw (← p, ← q) (and_then (and_then a (spaced_next names (types ∷ []) b c)) s)

-- ---- sizes

end_long : length (bytes "\n") ≡ 1
unfolding bytes
end_long = refl

accepted_some : (s : List ℕ) → 1 ≤ length (accepted_line s)
unfolding accepted_line
accepted_some s = rw (length-append, end_long) (omega arith)

refused_some : (a : Answer) → 1 ≤ length (refused_line a)
unfolding refused_line
refused_some a = rw (length-append, end_long) (omega arith)

-- of the two lines one
abbrev either : Bool → Answer → List ℕ
either b a = test b then accepted_line a.sheet else refused_line a

either_some : (b : Bool) (a : Answer) → 1 ≤ length (either b a)
unfolding test◌then◌else◌
either_some true a = accepted_some a.sheet
either_some false a = refused_some a

line_some : (a : Answer) → 1 ≤ length (line_of a)
unfolding line_of
line_some a = either_some (eqb a.code 0) a

checksum_size : (s : List ℕ) → 1 ≤ length (checksum s)
unfolding checksum
checksum_size s = rw (length-append, end_long) (omega arith)

-- ---- the second span

at_long : length (bytes " @") ≡ 2
unfolding bytes
at_long = refl

comma_long : length (bytes ",") ≡ 1
unfolding bytes
comma_long = refl

module _ (d : List ℕ) {e : List ℕ} (at : ℕ) {m : ℕ} (start end : ℕ) (room : at + 24 ≤ length d) (w : e ≡ put_at d at (bytes " @")) (p : m ≡ at + length (bytes " @")) where
  sign : Wrote d at (bytes " @") e m
  sign = wrote (bytes " @") (omega (arith, at_long, room)) w p

  pub start_fits : m + length (decimal start) ≤ length e
  start_fits = omega (arith, p, at_long, sign.long, room, (decimal_length start).1)

  module _ {f : List ℕ} {n : ℕ} (w₁ : f ≡ put_at e m (decimal start)) (p₁ : n ≡ m + length (decimal start)) where
    from : Wrote d at (bytes " @" ++ decimal start) f n
    from = and_then sign (wrote (decimal start) start_fits w₁ p₁)

    pub comma_fits : n + length (bytes ",") ≤ length f
    comma_fits = omega (arith, p₁, p, at_long, comma_long, from.long, room, (decimal_length start).1)

    module _ {g : List ℕ} {o : ℕ} (w₂ : g ≡ put_at f n (bytes ",")) (p₂ : o ≡ n + length (bytes ",")) where
      comma : Wrote d at (bytes " @" ++ decimal start ++ bytes ",") g o
      comma = and_then from (wrote (bytes ",") comma_fits w₂ p₂)

      pub end_fits : o + length (decimal end) ≤ length g
      end_fits = omega (arith, p₂, p₁, p, at_long, comma_long, comma.long, room, (decimal_length start).1, (decimal_length end).1)

      module _ {h : List ℕ} {q : ℕ} (w₃ : h ≡ put_at g o (decimal end)) (p₃ : q ≡ o + length (decimal end)) where
        to : Wrote d at (bytes " @" ++ decimal start ++ bytes "," ++ decimal end) h q
        to = and_then comma (wrote (decimal end) end_fits w₃ p₃)

        pub last_fits : q + length (bytes "\n") ≤ length h
        last_fits =
            omega (arith, p₃, p₂, p₁, p, at_long, comma_long, end_long, to.long, room, (decimal_length start).1, (decimal_length end).1)

        pub second_wrote : {i : List ℕ} {r : ℕ} → i ≡ put_at h q (bytes "\n") → r ≡ q + length (bytes "\n") → Wrote d at (second_span start end) i r
        unfolding second_span
        second_wrote w₄ p₄ = and_then to (wrote (bytes "\n") last_fits w₄ p₄)

-- ---- what takes the place of the line's end

-- what is written over the end of what was laid over a buffer
over : (d s t : List ℕ) (m : ℕ) → m ≤ length s → length s ≤ m + length t → put_at (overlaid s d) m t ≡ overlaid (take m s ++ t) d
unfolding put_at overlaid
over d s t m h k =
    let j : ℕ = m + length t - length s in
    let e : m + length t ≡ length s + j = omega arith in
    let tail : drop (m + length t) (s ++ drop (length s) d) ≡ drop (m + length t) d =
    ap (λ (n : ℕ). drop n (s ++ drop (length s) d)) e ∙ drop-append-add s (drop (length s) d) j ∙ drop-drop j (length s) d
    ∙ ap (λ (n : ℕ). drop n d) (sym e) in
    rw (take-append-le m s (drop (length s) d) h, tail, length-append, length-take-le m s h)

cut_end : (w : List ℕ) → take (length (w ++ bytes "\n") - 1) (w ++ bytes "\n") ++ bytes "\n" ≡ w ++ bytes "\n"
cut_end w =
    let e : length (w ++ bytes "\n") - 1 ≡ length w = rw length-append (omega (arith, end_long)) in
    rw (e, take-append_seam w (bytes "\n"))

accepted_cut : (s : List ℕ) → take (length (accepted_line s) - 1) (accepted_line s) ++ bytes "\n" ≡ accepted_line s
unfolding accepted_line
accepted_cut s = cut_end (bytes "accepted" ++ spaced (word s 20 ∷ word s 4 ∷ length s ∷ []))

refused_cut : (a : Answer) → take (length (refused_line a) - 1) (refused_line a) ++ bytes "\n" ≡ refused_line a
unfolding refused_line or_dash
refused_cut a = cut_end (bytes "refused" ++ spaced (a.code ∷ a.place ∷ a.span_start ∷ a.span_end ∷ []) ++ bytes " " ++ or_dash a.message)

either_cut : (b : Bool) (a : Answer) → take (length (either b a) - 1) (either b a) ++ bytes "\n" ≡ either b a
unfolding test◌then◌else◌
either_cut true a = accepted_cut a.sheet
either_cut false a = refused_cut a

line_cut : (a : Answer) → take (length (line_of a) - 1) (line_of a) ++ bytes "\n" ≡ line_of a
unfolding line_of
line_cut a = either_cut (eqb a.code 0) a

-- ---- what stands there, by the code

summed_behind : (a : Answer) → a.code ≡ 0 → checksum a.sheet ≡ behind a
unfolding behind choose test◌then◌else◌
summed_behind a z = rw z

second_behind : (a : Answer) → (a.code ≡ 23) ⊎ (a.code ≡ 25) → second_span a.second_start a.second_end ≡ behind a
unfolding behind choose test◌then◌else◌
second_behind a (inl z) = rw z
second_behind a (inr z) = rw z

end_behind : (a : Answer) → (a.code ≡ 0 → ⊥) → ((a.code ≡ 23) ⊎ (a.code ≡ 25) → ⊥) → bytes "\n" ≡ behind a
unfolding behind choose test◌then◌else◌
end_behind a nz n = rw (ne_eqb a.code 0 nz, ne_eqb a.code 25 (λ z. n (inr z)), ne_eqb a.code 23 (λ z. n (inl z)))

second_size : (start end : ℕ) → 1 ≤ length (second_span start end)
unfolding second_span
second_size start end = rw (length-append, end_long) (omega arith)

module _ {a : Answer} {old mid s s₁ t t₁ : List ℕ} {size code count : ℕ} (l : Lined a old mid s s₁ t t₁ size code count) where
  pub some_line : 1 ≤ size
  some_line = omega (arith, l.front.ends, line_some a)

  ended : {new : List ℕ} {r : ℕ} (e : List ℕ) → e ≡ behind a → 1 ≤ length e → Wrote mid (size - 1) e new r → Fronted (summed_line a) old new r
  unfolding summed_line
  ended {new} {r} e b more w =
      let first : length (line_of a) - 1 ≤ length (line_of a) = omega arith in
      let q : new ≡ put_at (overlaid (line_of a) old) (length (line_of a) - 1) e = rw (l.front.line, l.front.ends) at w.same in
      let p : r ≡ length (line_of a) - 1 + length e = rw l.front.ends at w.ends in
      rw (← b) record {
        line = q ∙ over old (line_of a) e (length (line_of a) - 1) first (omega (arith, more));
        ends = p ∙ sym (length-append (take (length (line_of a) - 1) (line_of a)) e ∙ rw (length-take-le (length (line_of a) - 1) (line_of a) first));
        long = w.long ∙ l.front.long;
        inside = w.inside;
      }

  pub summed : {new : List ℕ} {r : ℕ} → code ≡ 0 → Wrote mid (size - 1) (checksum (take count s₁)) new r → Fronted (summed_line a) old new r
  summed z w = ended (checksum a.sheet) (summed_behind a (sym l.told ∙ z)) (checksum_size a.sheet) (rw (sheet_is l) at w)

  pub pointed : {new : List ℕ} {start end r : ℕ} → (code ≡ 23) ⊎ (code ≡ 25) → SecondTold a start end → Wrote mid (size - 1) (second_span start end) new r
      → Fronted (summed_line a) old new r
  pointed z k w =
      ended (second_span a.second_start a.second_end) (second_behind a (rw l.told at z)) (second_size a.second_start a.second_end) (rw (k.from, k.to) at w)

  pub fronted : (code ≡ 0 → ⊥) → ((code ≡ 23) ⊎ (code ≡ 25) → ⊥) → Fronted (summed_line a) old mid size
  unfolding summed_line
  fronted nz n = rw (← end_behind a (rw l.told at nz) (rw l.told at n), line_cut a) l.front

-- ---- what was read and written again

written_refused : (room : ℕ) (bs : List ℕ) → ((written room bs).code ≡ 0 → ⊥) → written room bs ≡ bare (written room bs).code 0
unfolding written test◌then◌else◌
written_refused room bs n = by (leb (length bs) room) n
  where
    by : (b : Bool) → ((test b then record { code = 0; place = 0; span_start = 0; span_end = 0; second_start = 0; second_end = 0; sheet = bs; message = [] } else bare 10 0).code ≡ 0 → ⊥)
        → (test b then record { code = 0; place = 0; span_start = 0; span_end = 0; second_start = 0; second_end = 0; sheet = bs; message = [] } else bare 10 0)
        ≡ bare (test b then record { code = 0; place = 0; span_start = 0; span_end = 0; second_start = 0; second_end = 0; sheet = bs; message = [] } else bare 10 0).code 0
    by true h = absurd (h refl)
    by false h = refl

-- of what was read or of nothing
abbrev of : Option (List Entry) → ℕ → Answer
of o room = if_some o (λ es. write_answer es room) (bare 12 0)

of_refused : (o : Option (List Entry)) (room : ℕ) → ((of o room).code ≡ 0 → ⊥) → of o room ≡ bare (of o room).code 0
unfolding if_some write_answer
of_refused none room n = refl
of_refused (some es) room n = written_refused room (sheet_of es) n

of_header : (o : Option (List Entry)) (room : ℕ) → Header (of o room)
unfolding if_some write_answer
of_header none room = bare_header 12 0 (omega arith)
of_header (some es) room = written_header room (sheet_of es) (omega (arith, sheet_size es))

of_fits : (o : Option (List Entry)) (room : ℕ) → length (of o room).sheet ≤ room
unfolding if_some write_answer
of_fits none room = omega arith
of_fits (some es) room = (written_answered room 0 (sheet_of es)).sheet_fits

is_read : (a : Answer) → a.code ≡ 0 → rewritten_line a ≡ read_line a.sheet
unfolding rewritten_line test◌then◌else◌
is_read a z = rw (eq-eqb _ _ z)

not_read : (a : Answer) → (a.code ≡ 0 → ⊥) → rewritten_line a ≡ line_of a
unfolding rewritten_line test◌then◌else◌
not_read a nz = rw (ne_eqb _ _ nz)

module _ (bs : List ℕ) {n : Numbers} (s s₁ : List ℕ) (r : Relaid (rewritten bs (length s)) n s s₁) where
  size_is : n.sheet ≡ length (rewritten bs (length s)).sheet
  size_is = ap (λ k. k.sheet) r.numbers

  code_is : n.code ≡ (rewritten bs (length s)).code
  code_is = ap (λ k. k.code) r.numbers

  fits : length (rewritten bs (length s)).sheet ≤ length s
  unfolding rewritten
  fits = of_fits (read_sheet bs) (length s)

  long : length s₁ ≡ length s
  long = ap length r.sheet ∙ overlaid_length _ s fits

  pub again_in : n.sheet ≤ length s₁
  again_in = omega (arith, size_is, long, fits)

  again_is : take n.sheet s₁ ≡ (rewritten bs (length s)).sheet
  again_is = rw (size_is, r.sheet) (overlaid_front _ s)

  header : n.code ≡ 0 → 40 ≤ length (rewritten bs (length s)).sheet
  unfolding rewritten
  header z = (of_header (read_sheet bs) (length s)).forty (sym code_is ∙ z)

  pub again_headed : n.code ≡ 0 → 40 ≤ length (take n.sheet s₁)
  again_headed z = rw again_is (header z)

  read_front : {d e : List ℕ} {m : ℕ} → n.code ≡ 0 → Wrote d 0 (read_line (take n.sheet s₁)) e m
      → Fronted (rewritten_line (rewritten bs (length s))) d e m
  read_front {d} {e} {m} z w =
      let l : rewritten_line (rewritten bs (length s)) ≡ read_line (take n.sheet s₁) = is_read _ (sym code_is ∙ z) ∙ rw again_is in
      rw l record { line = w.same ∙ put_overlaid d (read_line (take n.sheet s₁)); ends = w.ends ∙ zero-add _; long = w.long; inside = w.inside }

  refused_is : (n.code ≡ 0 → ⊥) → rewritten bs (length s) ≡ bare n.code 0
  unfolding rewritten
  refused_is nz = of_refused (read_sheet bs) (length s) (λ e. nz (code_is ∙ e)) ∙ rw (sym code_is)

  refused_front : {d e : List ℕ} {m : ℕ} → (n.code ≡ 0 → ⊥)
      → (e ≡ overlaid (line_of (answered n.code 0 0 0 [] [])) d) × (m ≡ length (line_of (answered n.code 0 0 0 [] [])))
      → length e ≡ length d → Fronted (rewritten_line (rewritten bs (length s))) d e m
  refused_front {d} {e} {m} nz w k =
      let l : rewritten_line (rewritten bs (length s)) ≡ line_of (bare n.code 0) = not_read _ (λ z. nz (code_is ∙ z)) ∙ ap line_of (refused_is nz) in
      rw l (to_front d (line_of (bare n.code 0)) w.0 w.1 k)

  pub read_fronted : {d e : List ℕ} {m : ℕ} → length s ≡ 42532 → n.code ≡ 0 → Wrote d 0 (read_line (take n.sheet s₁)) e m → Fronted (sheet_line bs) d e m
  unfolding sheet_line
  read_fronted ls z w = rw ls at (read_front z w)

  pub refused_fronted : {d e : List ℕ} {m : ℕ} → length s ≡ 42532 → (n.code ≡ 0 → ⊥)
      → (e ≡ overlaid (line_of (answered n.code 0 0 0 [] [])) d) × (m ≡ length (line_of (answered n.code 0 0 0 [] [])))
      → length e ≡ length d → Fronted (sheet_line bs) d e m
  unfolding sheet_line
  refused_fronted ls nz w k = rw ls at (refused_front nz w k)
