-- Every place is small: a name's number, a node's, or 0.
use mathlib.Core.Path.{◌≡◌, refl, sym, ap, ◌∙◌}
use mathlib.Core.Bool.{Bool, true, false}
use mathlib.Core.List.{List, [], ◌∷◌}
use mathlib.Core.Option.{Option, none, some, none-ne-some, some-injective}
use Prim.Native.Nat.{ℕ, suc, ◌+◌, ◌≤◌, ◌<◌}
use native.Mathlib.Omega.{arith}
use lib.ListN.{length}
use Rattle.meaning.specs.Base.{test◌then◌else◌, if_some}
use Rattle.meaning.specs.Image.{Fault, NameRecord, name_records, names_of, nodes_of, wrong_name, first_not, first_found, unless, head_stands, counts_stand, offsets_stand, image_fault, head_fault, body_fault, broken_name, unsafe_name, broken_node, badly_nested, too_deep_node, first_tree_set}
use Rattle.meaning.proofs.Faults.{Headed, sizes, fault_1, fault_2, fault_3}
use Rattle.meaning.proofs.Nesting.{nodes_many}
use Rattle.meaning.proofs.Nesting.{records_count, names_many}

pick_near : (b : Bool) (o : Option ℕ) (i n j : ℕ) → (test b then o else some i) ≡ some j → (o ≡ some j → j ≤ suc i + n) → j ≤ i + suc n
unfolding test◌then◌else◌
pick_near true o i n j e h = omega (arith, h e)
pick_near false o i n j e h = omega (arith, some-injective i j e)

first_near : {A : Type 0} (f : ℕ → A → Bool) (i : ℕ) (xs : List A) (j : ℕ) → first_not f i xs ≡ some j → j ≤ i + length xs
unfolding first_not
first_near f i [] j e = absurd (none-ne-some j e)
first_near f i (x ∷ xs) j e = pick_near (f i x) (first_not f (suc i) xs) i (length xs) j e (λ p. first_near f (suc i) xs j p)

last_near : (b : Bool) (i j : ℕ) → (test b then none else some i) ≡ some j → j ≤ i + 0
unfolding test◌then◌else◌
last_near true i j e = absurd (none-ne-some j e)
last_near false i j e = omega (arith, some-injective i j e)

name_near : (texts : List ℕ) (i from : ℕ) (last : List ℕ) (rs : List NameRecord) (j : ℕ) → wrong_name texts i from last rs ≡ some j → j ≤ i + length rs
unfolding wrong_name
name_near texts i from last [] j e = last_near _ i j e
name_near texts i from last (r ∷ rs) j e = pick_near _ _ i (length rs) j e (λ p. name_near texts (suc i) _ _ rs j p)

-- the first search that finds a place, of searches that all find near ones
abbrev Near : List (ℕ × Option ℕ) → Type 0
Near [] = Unit {0}
Near (c ∷ cs) = ((i : ℕ) → c.1 ≡ some i → i < 4294967296) × Near cs

some_near : (o : Option ℕ) (k : ℕ) (l : Option Fault) (f : Fault) → if_some o (λ i. some (record { code = k; place = i })) l ≡ some f
    → ((i : ℕ) → o ≡ some i → i < 4294967296) → (l ≡ some f → f.place < 4294967296) → f.place < 4294967296
unfolding if_some
some_near none k l f e h g = g e
some_near (some i) k l f e h g = rw (ap (λ x. x.place) (some-injective _ _ e)) at (h i refl)

found_near : (cs : List (ℕ × Option ℕ)) → Near cs → (f : Fault) → first_found cs ≡ some f → f.place < 4294967296
unfolding first_found
found_near [] n f e = absurd (none-ne-some f e)
found_near (c ∷ cs) n f e = some_near c.1 c.0 (first_found cs) f e n.0 (λ p. found_near cs n.1 f p)

module _ (bs : List ℕ) where
  body_near : Headed bs → (f : Fault) → body_fault bs ≡ some f → f.place < 4294967296
  unfolding body_fault broken_name unsafe_name broken_node badly_nested too_deep_node
  body_near h f e =
      let s = sizes h in
      let a = records_count bs in
      let b = names_many bs in
      let c = nodes_many bs in
      found_near _ (
        λ i p. omega (arith, name_near _ 0 0 [] (name_records bs) i p, s.names),
        (
          λ i p. omega (arith, first_near _ 0 (names_of bs) i p, s.names),
          (
            λ i p. omega (arith, first_near _ 0 (nodes_of bs) i p, s.nodes),
            (
              λ i p. omega (arith, first_near _ 0 (nodes_of bs) i p, s.nodes),
              (
                λ i p. omega (arith, first_near _ 0 (nodes_of bs) i p, s.nodes),
                tt,
              ),
            ),
          ),
        ),
      ) f e

  zero_near : (c : ℕ) (f : Fault) → some (record { code = c; place = 0 }) ≡ some f → f.place < 4294967296
  zero_near c f e = let p : 0 ≡ f.place = ap (λ x. x.place) (some-injective _ _ e) in omega arith

  only_body : Headed bs → image_fault bs ≡ body_fault bs
  unfolding image_fault head_fault first_found unless if_some test◌then◌else◌
  only_body h = rw (h.head, h.counts, h.offsets)

  by_offsets : (b : Bool) → offsets_stand bs ≡ b → head_stands bs ≡ true → counts_stand bs ≡ true → (f : Fault) → image_fault bs ≡ some f → f.place < 4294967296
  by_offsets true o h c f e = let k : Headed bs = record { head = h; counts = c; offsets = o } in body_near k f (sym (only_body k) ∙ e)
  by_offsets false o h c f e = zero_near 3 f (sym (fault_3 bs h c o) ∙ e)

  by_counts : (b : Bool) → counts_stand bs ≡ b → head_stands bs ≡ true → (f : Fault) → image_fault bs ≡ some f → f.place < 4294967296
  by_counts true c h f e = by_offsets (offsets_stand bs) refl h c f e
  by_counts false c h f e = zero_near 2 f (sym (fault_2 bs h c) ∙ e)

  by_head : (b : Bool) → head_stands bs ≡ b → (f : Fault) → image_fault bs ≡ some f → f.place < 4294967296
  by_head true h f e = by_counts (counts_stand bs) refl h f e
  by_head false h f e = zero_near 1 f (sym (fault_1 bs h) ∙ e)

  pub fault_near : (f : Fault) → image_fault bs ≡ some f → f.place < 4294967296
  fault_near f e = by_head (head_stands bs) refl f e

  pub tree_set_near : Headed bs → (i : ℕ) → first_tree_set bs ≡ some i → i < 4294967296
  unfolding first_tree_set
  tree_set_near h i e = omega (arith, first_near _ 0 (nodes_of bs) i e, (sizes h).nodes, nodes_many bs)
