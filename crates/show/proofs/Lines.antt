-- What a line is made of, piece by piece: pieces written one after the other are one.
use mathlib.Core.Path.{◌≡◌, refl, sym, ◌∙◌}
use mathlib.Core.Bool.{Bool, true, false}
use mathlib.Core.List.{List, [], ◌++◌}
use Prim.Native.Nat.{ℕ, ◌+◌, ◌<◌, ◌≤◌, min}
use native.Mathlib.Numerals.{add-one}
use native.Mathlib.Omega.{arith}
use borrow.Author.Tests.{leb-true, leb-false, le-leb, lt-leb, ne_eqb}
use lib.Dec.{leb}
use lib.ListN.{length, get_or, drop, length-append, drop_of_length-le}
use lib.Seq.{drop-cons}
use Rattle.meaning.specs.Limits.{longest_shown}
use Rattle.meaning.specs.Base.{test◌then◌else◌, choose, bytes}
use Rattle.meaning.specs.Types.{Ty, unknown, kind, text}
use Rattle.meaning.specs.Sheet.{Entry}
use Rattle.meaning.specs.Show.{dotted, shown, entry_text, entries_text, change_text}
use Rattle.words.specs.Words.{put_at, Wrote}
use Rattle.words.proofs.Laws.{put_nil, wrote, and_then}
use Rattle.types.specs.Reading.{type_at}
use Rattle.message.specs.Texts.{clipped, size_at, Sized}
use Rattle.message.proofs.Writing.{Left, left_all, left_front, left_step, left_as, left_none}
use Rattle.show.specs.Words.{entry_at, retold}

-- ---- one piece, and one more

module _ (d : List ℕ) (at : ℕ) (s t : List ℕ) (h : at + length (s ++ t) ≤ length d) where
  pub first_fits : at + length s ≤ length d
  first_fits = omega (arith, h, length-append s t)

  module _ {e : List ℕ} {m : ℕ} (p : Wrote d at s e m) where
    pub next_fits : m + length t ≤ length e
    next_fits = omega (arith, h, length-append s t, p.ends, p.long)

    pub and_put : {f : List ℕ} {n : ℕ} → f ≡ put_at e m t → n ≡ m + length t → Wrote d at (s ++ t) f n
    and_put w q = and_then p (wrote t next_fits w q)

-- ---- a type: whole, or by its kind with dots

clip_told : (n : ℕ) → leb (min n (longest_shown + 1)) longest_shown ≡ leb n longest_shown
clip_told n = by (leb n longest_shown) refl
  where
    by : (b : Bool) → leb n longest_shown ≡ b → leb (min n (longest_shown + 1)) longest_shown ≡ leb n longest_shown
    by true e = le-leb (min n (longest_shown + 1)) longest_shown (omega (arith, leb-true n longest_shown e)) ∙ sym e
    by false e = lt-leb (min n (longest_shown + 1)) longest_shown (omega (arith, leb-false n longest_shown e)) ∙ sym e

pub short_told : {cs lens : List ℕ} {i n : ℕ} → Sized cs (longest_shown + 1) lens n → i < n → leb (get_or lens i 0) longest_shown ≡ leb (length (text (type_at cs i))) longest_shown
unfolding size_at clipped
short_told {cs} {lens} {i} z h = rw (z.each i h) (clip_told (length (text (type_at cs i))))

pub shown_whole : (ty : Ty) → leb (length (text ty)) longest_shown ≡ true → shown ty ≡ text ty
unfolding shown test◌then◌else◌
shown_whole ty e = rw e

pub shown_dotted : (ty : Ty) → leb (length (text ty)) longest_shown ≡ false → shown ty ≡ dotted (kind ty)
unfolding shown test◌then◌else◌
shown_dotted ty e = rw e

-- a plain kind has no dotted form
pub no_dots : (k : ℕ) → k < 8 → dotted k ≡ []
unfolding dotted choose test◌then◌else◌ bytes
no_dots k h = rw (ne_eqb k 8 (omega arith), ne_eqb k 9 (omega arith), ne_eqb k 10 (omega arith), ne_eqb k 11 (omega arith), ne_eqb k 12 (omega arith))

pub wrote_nothing : (d : List ℕ) (at : ℕ) → at ≤ length d → Wrote d at [] d at
wrote_nothing d at h = record { same = sym (put_nil d at); ends = omega arith; long = refl; inside = h }

-- ---- `step: Int`

module _ (d : List ℕ) (at : ℕ) (e : Entry) (h : at + length (entry_text e) ≤ length d) where
  colon_room : at + length (e.0 ++ bytes ": ") ≤ length d
  unfolding entry_text
  colon_room = first_fits d at (e.0 ++ bytes ": ") (shown e.1) h

  pub name_fits : at + length e.0 ≤ length d
  name_fits = first_fits d at e.0 (bytes ": ") colon_room

  module _ {f : List ℕ} {m : ℕ} (p : f ≡ put_at d at e.0) (q : m ≡ at + length e.0) where
    name_wrote : Wrote d at e.0 f m
    name_wrote = wrote e.0 name_fits p q

    pub colon_fits : m + length (bytes ": ") ≤ length f
    colon_fits = next_fits d at e.0 (bytes ": ") colon_room name_wrote

    module _ {g : List ℕ} {n : ℕ} (v : g ≡ put_at f m (bytes ": ")) (w : n ≡ m + length (bytes ": ")) where
      colon_wrote : Wrote d at (e.0 ++ bytes ": ") g n
      colon_wrote = and_put d at e.0 (bytes ": ") colon_room name_wrote v w

      pub type_fits : n + length (shown e.1) ≤ length g
      unfolding entry_text
      type_fits = next_fits d at (e.0 ++ bytes ": ") (shown e.1) h colon_wrote

      pub entry_wrote : {o : List ℕ} {r : ℕ} → Wrote g n (shown e.1) o r → Wrote d at (entry_text e) o r
      unfolding entry_text
      entry_wrote x = and_then colon_wrote x

-- ---- all entries, a line each

entries_step : (es : List Entry) (k : ℕ) → k < length es → entries_text (drop k es) ≡ entry_text (entry_at es k) ++ bytes "\n" ++ entries_text (drop (k + 1) es)
unfolding entries_text
entries_step es k h = rw (drop-cons es k ([], unknown) h, add-one k)

pub record EntriesLeft (es : List Entry) (d₀ d : List ℕ) (k at : ℕ) : Type 0 where
  pub passed : k ≤ length es
  pub left : Left d at (entries_text (drop k es)) d₀ 0 (entries_text es)

pub entries_first : (es : List Entry) (d : List ℕ) → length (entries_text es) ≤ length d → EntriesLeft es d d 0 0
entries_first es d h = record { passed = omega arith; left = left_all d 0 (entries_text es) (omega (arith, h)) }

module _ {es : List Entry} {d₀ d : List ℕ} {k at : ℕ} (l : EntriesLeft es d₀ d k at) where
  module _ (h : k < length es) where
    line_left : Left d at (entry_text (entry_at es k) ++ bytes "\n" ++ entries_text (drop (k + 1) es)) d₀ 0 (entries_text es)
    line_left = left_as (entries_step es k h) l.left

    line_room : at + length (entry_text (entry_at es k) ++ bytes "\n") ≤ length d
    line_room = left_front (entry_text (entry_at es k) ++ bytes "\n") (entries_text (drop (k + 1) es)) line_left

    pub entry_fits : at + length (entry_text (entry_at es k)) ≤ length d
    entry_fits = first_fits d at (entry_text (entry_at es k)) (bytes "\n") line_room

    module _ {f : List ℕ} {m : ℕ} (p : Wrote d at (entry_text (entry_at es k)) f m) where
      pub line_end_fits : m + length (bytes "\n") ≤ length f
      line_end_fits = next_fits d at (entry_text (entry_at es k)) (bytes "\n") line_room p

      pub entries_next : {g : List ℕ} {n : ℕ} → g ≡ put_at f m (bytes "\n") → n ≡ m + length (bytes "\n") → EntriesLeft es d₀ g (k + 1) n
      entries_next v w =
          let q = and_put d at (entry_text (entry_at es k)) (bytes "\n") line_room p v w in
          record { passed = omega (arith, h); left = left_step (entry_text (entry_at es k) ++ bytes "\n") (entries_text (drop (k + 1) es)) line_left q.same q.ends }

  pub entries_end : (k < length es → ⊥) → Wrote d₀ 0 (entries_text es) d at
  unfolding entries_text
  entries_end n =
      let short : length es ≤ k = omega (arith, n) in
      let none : entries_text (drop k es) ≡ [] = rw (drop_of_length-le es short) in
      let z = left_none (left_as none l.left) in
      record { same = z.0; ends = z.1; long = l.left.long; inside = omega (arith, l.left.fits) }

-- ---- `+ mode: String`, `- laps: List(Int)`

module _ (d : List ℕ) (at : ℕ) (sign : List ℕ) (e : Entry) (h : at + length (sign ++ entry_text e ++ bytes "\n") ≤ length d) where
  signed_room : at + length (sign ++ entry_text e) ≤ length d
  signed_room = first_fits d at (sign ++ entry_text e) (bytes "\n") h

  pub sign_fits : at + length sign ≤ length d
  sign_fits = first_fits d at sign (entry_text e) signed_room

  module _ {f : List ℕ} {m : ℕ} (p : f ≡ put_at d at sign) (q : m ≡ at + length sign) where
    pub signed_fits : m + length (entry_text e) ≤ length f
    signed_fits = next_fits d at sign (entry_text e) signed_room (wrote sign sign_fits p q)

    module _ {g : List ℕ} {n : ℕ} (x : Wrote f m (entry_text e) g n) where
      signed_wrote : Wrote d at (sign ++ entry_text e) g n
      signed_wrote = and_then (wrote sign sign_fits p q) x

      pub signed_end_fits : n + length (bytes "\n") ≤ length g
      signed_end_fits = next_fits d at (sign ++ entry_text e) (bytes "\n") h signed_wrote

      pub signed_line : {o : List ℕ} {r : ℕ} → o ≡ put_at g n (bytes "\n") → r ≡ n + length (bytes "\n") → Wrote d at (sign ++ entry_text e ++ bytes "\n") o r
      signed_line v w = and_put d at (sign ++ entry_text e) (bytes "\n") h signed_wrote v w

-- ---- `~ step: Int -> Float`

module _ (d : List ℕ) (at : ℕ) (e : Entry) (u : Ty) (h : at + length (retold e u) ≤ length d) where
  abbrev named : List ℕ
  named = bytes "~ " ++ entry_text e

  abbrev changed : List ℕ
  changed = named ++ bytes " -> " ++ shown u

  changed_room : at + length changed ≤ length d
  unfolding retold change_text
  changed_room = first_fits d at changed (bytes "\n") h

  arrow_room : at + length (named ++ bytes " -> ") ≤ length d
  arrow_room = first_fits d at (named ++ bytes " -> ") (shown u) changed_room

  named_room : at + length named ≤ length d
  named_room = first_fits d at named (bytes " -> ") arrow_room

  pub tilde_fits : at + length (bytes "~ ") ≤ length d
  tilde_fits = first_fits d at (bytes "~ ") (entry_text e) named_room

  module _ {f : List ℕ} {m : ℕ} (p : f ≡ put_at d at (bytes "~ ")) (q : m ≡ at + length (bytes "~ ")) where
    pub named_fits : m + length (entry_text e) ≤ length f
    named_fits = next_fits d at (bytes "~ ") (entry_text e) named_room (wrote (bytes "~ ") tilde_fits p q)

    module _ {g : List ℕ} {n : ℕ} (x : Wrote f m (entry_text e) g n) where
      named_wrote : Wrote d at named g n
      named_wrote = and_then (wrote (bytes "~ ") tilde_fits p q) x

      pub arrow_fits : n + length (bytes " -> ") ≤ length g
      arrow_fits = next_fits d at named (bytes " -> ") arrow_room named_wrote

      module _ {f₂ : List ℕ} {m₂ : ℕ} (p₂ : f₂ ≡ put_at g n (bytes " -> ")) (q₂ : m₂ ≡ n + length (bytes " -> ")) where
        arrow_wrote : Wrote d at (named ++ bytes " -> ") f₂ m₂
        arrow_wrote = and_put d at named (bytes " -> ") arrow_room named_wrote p₂ q₂

        pub new_type_fits : m₂ + length (shown u) ≤ length f₂
        new_type_fits = next_fits d at (named ++ bytes " -> ") (shown u) changed_room arrow_wrote

        module _ {g₂ : List ℕ} {n₂ : ℕ} (y : Wrote f₂ m₂ (shown u) g₂ n₂) where
          changed_wrote : Wrote d at changed g₂ n₂
          changed_wrote = and_then arrow_wrote y

          pub retold_end_fits : n₂ + length (bytes "\n") ≤ length g₂
          unfolding retold change_text
          retold_end_fits = next_fits d at changed (bytes "\n") h changed_wrote

          pub retold_line : {o : List ℕ} {r : ℕ} → o ≡ put_at g₂ n₂ (bytes "\n") → r ≡ n₂ + length (bytes "\n") → Wrote d at (retold e u) o r
          unfolding retold change_text
          retold_line v w = and_put d at changed (bytes "\n") h changed_wrote v w
