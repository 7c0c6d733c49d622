-- An expression's refusal has a code from 29 to 50 and no first place; every typing refusal has a code from 20 to 50.
use mathlib.Core.Path.{◌≡◌, refl}
use mathlib.Core.Bool.{Bool, true, false}
use mathlib.Core.Logic.{⊎_elim}
use mathlib.Core.Option.{Option, none, some}
use mathlib.Core.List.{List, [], ◌∷◌, ◌++◌}
use Prim.Native.Nat.{ℕ, zero, suc, ◌≤◌}
use native.Mathlib.Omega.{arith}
use borrow.Author.Tests.{eqb-false, ltb-false}
use lib.Dec.{eqb, ltb}
use Rattle.meaning.specs.Base.{test◌then◌else◌, choose, if_some}
use Rattle.meaning.specs.Types.{Ty, kind}
use Rattle.meaning.specs.Tree.{UnaryOp, BinaryOp, Expr, at, Form, literal, variable, unary, binary, call, attribute, list_of, dict_of, tuple_of, set_of, index, lambda, Exprs, no_exprs, ◌also◌}
use Rattle.meaning.specs.Image.{Role, plain, exactly, between, any, takes, Name}
use Rattle.meaning.specs.Message.{Piece, Refusal, refusal}
use Rattle.meaning.specs.Frames.{Frames}
use Rattle.meaning.specs.Operators.{Checked, ok, refused, ◌>>=◌, when, unary_answer, answered, binary_rule, unary_rule}
use Rattle.meaning.specs.Rules.{Children, child, each, each_then, first_then, list_rule, joined, dict_rule, streamed, index_rule, input_rule, len_rule, range_rule, stream_rule, choose_text, builtin_rule, builtin_call, function_call, name_rule, call_rule, check, check_form, check_all}
use Rattle.meaning.proofs.Operators.{Range, answer_range, unary_range}

pub record Typing (r : Refusal) : Type 0 where
  pub above : 20 ≤ r.code
  pub below : r.code ≤ 50
  -- only 25 and 23 point at a first place
  pub alone : (r.code ≡ 23 → ⊥) → (r.code ≡ 25 → ⊥) → r.first ≡ none

-- an expression's
pub record Judged (r : Refusal) : Type 0 where
  pub above : 29 ≤ r.code
  pub below : r.code ≤ 50
  pub alone : r.first ≡ none

pub Fair : Checked → Type 0
Fair (ok t) = Unit {0}
Fair (refused r) = Judged r

pub typing : (c n : ℕ) (ps : List Piece) → 20 ≤ c → c ≤ 50 → Typing (refusal c n ps)
typing c n ps l u = record { above = l; below = u; alone = λ p q. refl }

pub ok_fair : (t : Ty) → Fair (ok t)
unfolding Fair
ok_fair t = tt

pub refused_fair : (c n : ℕ) (ps : List Piece) → 29 ≤ c → c ≤ 50 → Fair (refused (refusal c n ps))
unfolding Fair
refused_fair c n ps l u = record { above = l; below = u; alone = refl }

pub fair_judged : {r : Refusal} → Fair (refused r) → Judged r
unfolding Fair
fair_judged f = f

pub fair_typing : {r : Refusal} → Fair (refused r) → Typing r
unfolding Fair
fair_typing f = record { above = omega (arith, f.above); below = f.below; alone = λ p q. f.alone }

-- ---- one law for each way to put results together

then_fair : (c : Checked) (k : Ty → Checked) → Fair c → ((t : Ty) → Fair (k t)) → Fair (c >>= k)
unfolding Fair ◌>>=◌
then_fair (ok t) k f g = g t
then_fair (refused r) k f g = f

pub if_fair : (b : Bool) (c d : Checked) → Fair c → Fair d → Fair (test b then c else d)
unfolding test◌then◌else◌
if_fair true c d f g = f
if_fair false c d f g = g

if_told : (b : Bool) (c d : Checked) → (b ≡ true → Fair c) → (b ≡ false → Fair d) → Fair (test b then c else d)
unfolding test◌then◌else◌
if_told true c d f g = f refl
if_told false c d f g = g refl

when_fair : (b : Bool) (t : Ty) (c n : ℕ) (ps : List Piece) → 29 ≤ c → c ≤ 50 → Fair (when b t c n ps)
unfolding when
when_fair b t c n ps l u = if_fair b _ _ (ok_fair t) (refused_fair c n ps l u)

pub some_fair : (o : Option Ty) (f : Ty → Checked) (d : Checked) → ((t : Ty) → Fair (f t)) → Fair d → Fair (if_some o f d)
unfolding if_some
some_fair none f d g h = h
some_fair (some t) f d g h = g t

abbrev Rows : List (ℕ × Checked) → Type 0
Rows [] = Unit {0}
Rows (r ∷ rs) = Fair r.1 × Rows rs

choose_fair : (k : ℕ) (d : Checked) (rs : List (ℕ × Checked)) → Fair d → Rows rs → Fair (choose k d rs)
unfolding choose
choose_fair k d [] f g = f
choose_fair k d (r ∷ rs) f g = if_fair _ _ _ g.0 (choose_fair k d rs f g.1)

abbrev Texts : List (List ℕ × Checked) → Type 0
Texts [] = Unit {0}
Texts (r ∷ rs) = Fair r.1 × Texts rs

text_fair : (s : List ℕ) (d : Checked) (rs : List (List ℕ × Checked)) → Fair d → Texts rs → Fair (choose_text s d rs)
unfolding choose_text
text_fair s d [] f g = f
text_fair s d (r ∷ rs) f g = if_fair _ _ _ g.0 (text_fair s d rs f g.1)

-- ---- operators

answered_fair : (n : ℕ) (a b : Ty) (x : ℕ) → Range x → Fair (answered n a b x)
unfolding answered
answered_fair n a b x r =
    if_told (ltb x 8) _ _ (λ l. ok_fair _)
    (λ l. if_told (eqb x 8) _ _ (λ e. when_fair _ _ 32 n _ (omega arith) (omega arith)) (λ e. let h = code l e in refused_fair x n _ h.0 h.1))
  where
    code : ltb x 8 ≡ false → eqb x 8 ≡ false → (29 ≤ x) × (x ≤ 50)
    code l e = ⊎_elim (λ h. absurd (eqb-false x 8 e (omega (arith, ltb-false x 8 l)))) (λ h. omega arith) r.says

pub binary_fair : (n : ℕ) (o : BinaryOp) (a b : Ty) → Fair (binary_rule n o a b)
unfolding binary_rule
binary_fair n o a b = answered_fair n a b _ (answer_range o (kind a) (kind b))

pub unary_fair : (n : ℕ) (o : UnaryOp) (t : Ty) → Fair (unary_rule n o t)
unfolding unary_rule
unary_fair n o t = if_told (ltb x 8) _ _ (λ l. ok_fair _) (λ l. let h = code l in refused_fair x n _ h.0 h.1)
  where
    x : ℕ
    x = unary_answer o (kind t)

    code : ltb x 8 ≡ false → (29 ≤ x) × (x ≤ 50)
    code l = ⊎_elim (λ h. absurd (omega (arith, ltb-false x 8 l))) (λ h. omega arith) (unary_range o (kind t)).says

-- ---- rules over children

pub AllFair : Children → Type 0
AllFair [] = Unit {0}
AllFair (c ∷ cs) = Fair c.1 × AllFair cs

child_fair : (i : ℕ) (cs : Children) → AllFair cs → Fair (child i cs).1
unfolding child AllFair Fair
child_fair i [] a = tt
child_fair zero (c ∷ cs) a = a.0
child_fair (suc i) (c ∷ cs) a = child_fair i cs a.1

each_fair : (cs : Children) (k : List Ty → Checked) (ts : List Ty) → AllFair cs → ((us : List Ty) → Fair (k us)) → Fair (each cs k ts)
unfolding each AllFair
each_fair [] k ts a f = f ts
each_fair (c ∷ cs) k ts a f = then_fair c.1 _ a.0 (λ t. each_fair cs k (ts ++ (t ∷ [])) a.1 f)

each_then_fair : (t : Ty) (cs : Children) → AllFair cs → Fair (each_then t cs)
unfolding each_then
each_then_fair t cs a = each_fair cs _ [] a (λ us. ok_fair t)

first_then_fair : (t : Ty) (cs : Children) → AllFair cs → Fair (first_then t cs)
unfolding first_then
first_then_fair t cs a = then_fair (child 0 cs).1 _ (child_fair 0 cs a) (λ u. ok_fair t)

list_fair : (a : Ty) (cs : Children) → AllFair cs → Fair (list_rule a cs)
unfolding list_rule AllFair
list_fair a [] f = ok_fair _
list_fair a (c ∷ cs) f = then_fair c.1 _ f.0 (λ t. if_fair _ _ _ (list_fair t cs f.1) (ok_fair _))

dict_fair : (k v : Ty) (cs : Children) → AllFair cs → Fair (dict_rule k v cs)
unfolding dict_rule AllFair
dict_fair k v [] f = ok_fair _
dict_fair k v (c ∷ []) f = ok_fair _
dict_fair k v (c ∷ d ∷ cs) f =
    then_fair c.1 _ f.0
    (λ a. then_fair d.1 _ f.1.0 (λ b. if_fair _ _ _ (ok_fair _) (dict_fair (joined k a) (joined v b) cs f.1.1)))

pub index_fair : (m : ℕ) (t : Ty) (n : ℕ) (i : Ty) → Fair (index_rule m t n i)
unfolding index_rule
index_fair m t n i =
    choose_fair (kind t) _ _ (refused_fair 50 m _ (omega arith) (omega arith)) (
      ok_fair _,
      (
        when_fair _ _ 49 n _ (omega arith) (omega arith),
        (
          when_fair _ _ 46 n _ (omega arith) (omega arith),
          (when_fair _ _ 47 n _ (omega arith) (omega arith), (when_fair _ _ 48 n _ (omega arith) (omega arith), tt)),
        ),
      ),
    )

-- ---- calls

input_fair : (n : ℕ) (cs : Children) → AllFair cs → Fair (input_rule n cs)
unfolding input_rule
input_fair n cs a =
    if_fair _ _ _ (then_fair (child 0 cs).1 _ (child_fair 0 cs a) (λ t. when_fair _ _ 39 n _ (omega arith) (omega arith))) (ok_fair _)

len_fair : (n : ℕ) (cs : Children) → AllFair cs → Fair (len_rule n cs)
unfolding len_rule
len_fair n cs a = then_fair (child 0 cs).1 _ (child_fair 0 cs a) (λ t. when_fair _ _ 40 n _ (omega arith) (omega arith))

range_fair : (n : ℕ) (cs : Children) → AllFair cs → Fair (range_rule n cs)
unfolding range_rule AllFair
range_fair n [] a = ok_fair _
range_fair n (c ∷ cs) a =
    then_fair c.1 _ a.0 (λ t. then_fair _ _ (when_fair _ _ 41 n _ (omega arith) (omega arith)) (λ u. range_fair n cs a.1))

stream_fair : (c : ℕ) (f : Ty → Ty) (cs : Children) → 29 ≤ c → suc c ≤ 50 → AllFair cs → Fair (stream_rule c f cs)
unfolding stream_rule
stream_fair c f cs l u a =
    then_fair (child 0 cs).1 _ (child_fair 0 cs a)
    (λ s. then_fair _ _ (when_fair _ _ c _ _ l (omega arith))
    (λ _. then_fair (child 1 cs).1 _ (child_fair 1 cs a)
    (λ b. some_fair (streamed b) _ _ (λ t. ok_fair _) (refused_fair (suc c) _ _ (omega arith) u))))

builtin_fair : (n : ℕ) (s : List ℕ) (cs : Children) → AllFair cs → Fair (builtin_rule n s cs)
unfolding builtin_rule
builtin_fair n s cs a =
    text_fair s _ _ (each_then_fair _ cs a) (
      each_then_fair _ cs a,
      (
        input_fair n cs a,
        (
          first_then_fair _ cs a,
          (
            first_then_fair _ cs a,
            (
              first_then_fair _ cs a,
              (
                first_then_fair _ cs a,
                (
                  len_fair n cs a,
                  (
                    range_fair n cs a,
                    (first_then_fair _ cs a, (stream_fair 42 _ cs (omega arith) (omega arith) a, (stream_fair 44 _ cs (omega arith) (omega arith) a, tt))),
                  ),
                ),
              ),
            ),
          ),
        ),
      ),
    )

builtin_call_fair : (n : ℕ) (w : Name) (cs : Children) → AllFair cs → Fair (builtin_call n w cs)
unfolding builtin_call
builtin_call_fair n w cs a = then_fair _ _ (when_fair _ _ 37 n _ (omega arith) (omega arith)) (λ t. builtin_fair n _ cs a)

name_fair : (n : ℕ) (w : Name) (r : Role) (cs : Children) → AllFair cs → Fair (name_rule n w r cs)
unfolding name_rule function_call
name_fair n w plain cs a = each_then_fair _ cs a
name_fair n w (exactly p) cs a = builtin_call_fair n w cs a
name_fair n w (between p q) cs a = builtin_call_fair n w cs a
name_fair n w any cs a = builtin_call_fair n w cs a
name_fair n w (takes p) cs a = then_fair _ _ (when_fair _ _ 38 n _ (omega arith) (omega arith)) (λ t. each_then_fair _ cs a)

-- ---- expressions

module _ (ws : List Name) where
  call_fair : (n : ℕ) (o : Option ℕ) (f : Checked) (cs : Children) → Fair f → AllFair cs → Fair (call_rule ws n o f cs)
  unfolding call_rule
  call_fair n (some x) f cs h a = name_fair n _ _ cs a
  call_fair n none f cs h a = then_fair f _ h (λ t. each_then_fair _ cs a)

  mutual
    unfolding check AllFair Fair

    pub check_fair : (Γ : Frames) (e : Expr) → Fair (check ws Γ e)
    check_fair Γ (at n f) = form_fair Γ n f

    form_fair : (Γ : Frames) (n : ℕ) (f : Form) → Fair (check_form ws Γ n f)
    form_fair Γ n (literal t) = tt
    form_fair Γ n (variable x) = tt
    form_fair Γ n (unary o e) = then_fair (check ws Γ e) _ (check_fair Γ e) (λ t. unary_fair n o t)
    form_fair Γ n (binary o l r) =
        then_fair (check ws Γ l) _ (check_fair Γ l) (λ a. then_fair (check ws Γ r) _ (check_fair Γ r) (λ b. binary_fair n o a b))
    form_fair Γ n (call f es) = call_fair n _ _ _ (check_fair Γ f) (all_fair Γ es)
    form_fair Γ n (attribute e) = then_fair (check ws Γ e) _ (check_fair Γ e) (λ t. tt)
    form_fair Γ n (list_of es) = list_fair _ _ (all_fair Γ es)
    form_fair Γ n (dict_of es) = dict_fair _ _ _ (all_fair Γ es)
    form_fair Γ n (tuple_of es) = each_fair _ _ [] (all_fair Γ es) (λ ts. tt)
    form_fair Γ n (set_of es) = each_then_fair _ _ (all_fair Γ es)
    form_fair Γ n (index o i) =
        then_fair (check ws Γ o) _ (check_fair Γ o) (λ a. then_fair (check ws Γ i) _ (check_fair Γ i) (λ b. index_fair _ a _ b))
    form_fair Γ n lambda = tt

    all_fair : (Γ : Frames) (es : Exprs) → AllFair (check_all ws Γ es)
    all_fair Γ no_exprs = tt
    all_fair Γ (e also es) = (check_fair Γ e, all_fair Γ es)
