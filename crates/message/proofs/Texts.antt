-- A type's text by its kind and its parts, and how the loops over the parts go on.
use mathlib.Core.Path.{◌≡◌, refl, sym, ap, ◌∙◌}
use mathlib.Core.List.{List, [], ◌++◌, append_assoc, append-nil}
use Prim.Native.Nat.{ℕ, zero, suc}
use Rattle.meaning.specs.Base.{bytes, choose, test◌then◌else◌}
use Rattle.meaning.specs.Types.{Ty, Tys, unknown, int, bool, string, float, nonetype, range, function, list, dict, tuple, map_iter, filter_iter, no_types, ◌⊕◌, elements, kind, parts, text, texts, others}
use Rattle.message.specs.Texts.{opening, closing, comma, listed}

-- ---- the text

others_listed : (j : ℕ) (ts : Tys) → others ts ≡ listed (suc j) (elements ts)
unfolding others listed elements comma
others_listed j no_types = refl
others_listed j (t ⊕ ts) = rw (others_listed (suc j) ts)

texts_listed : (ts : Tys) → texts ts ≡ listed 0 (elements ts)
unfolding texts listed elements comma
texts_listed no_types = refl
texts_listed (t ⊕ ts) = rw (others_listed 0 ts)

pub text_is : (ty : Ty) → text ty ≡ opening (kind ty) ++ listed 0 (parts ty) ++ closing (kind ty)
unfolding text opening closing choose test◌then◌else◌ bytes listed comma kind parts
text_is unknown = refl
text_is int = refl
text_is bool = refl
text_is string = refl
text_is float = refl
text_is nonetype = refl
text_is range = refl
text_is function = refl
text_is (list t) = ap (λ (s : List ℕ). bytes "List(" ++ s ++ bytes ")") (sym (append-nil (text t)))
text_is (dict k v) =
    ap (λ (s : List ℕ). bytes "Dict(" ++ s ++ bytes ")")
    (append_assoc (text k) (bytes ", ") (text v) ∙ ap (λ (s : List ℕ). text k ++ s) (sym (append-nil (bytes ", " ++ text v))))
text_is (tuple ts) = ap (λ (s : List ℕ). bytes "Tuple([" ++ s ++ bytes "])") (texts_listed ts)
text_is (map_iter t) = ap (λ (s : List ℕ). bytes "MapIter(" ++ s ++ bytes ")") (sym (append-nil (text t)))
text_is (filter_iter t) = ap (λ (s : List ℕ). bytes "FilterIter(" ++ s ++ bytes ")") (sym (append-nil (text t)))

pub no_comma : (j : ℕ) → j ≡ 0 → comma j ≡ []
unfolding comma
no_comma j e = rw e

pub a_comma : (j : ℕ) → (j ≡ 0 → ⊥) → comma j ≡ bytes ", "
unfolding comma
a_comma zero n = absurd (n refl)
a_comma (suc j) n = refl
