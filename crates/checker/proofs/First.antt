-- One run of `check` or of its C twin: "Codes 25 and 23 answer with a second span .. ; every other code has 0,0 there."
use mathlib.Core.Path.{◌≡◌, sym, ap, ◌∙◌, subst}
use mathlib.Core.Logic.{◌⊎◌, inl, inr}
use mathlib.Core.List.{List}
use Prim.Native.Nat.{ℕ, suc, ◌<◌}
use lib.ListN.{length}
use Rattle.meaning.specs.Image.{nodes_of, node_of}
use Rattle.meaning.specs.Decode.{stop_of}
use Rattle.meaning.specs.Answer.{answer}
use Rattle.meaning.proofs.Answers.{answered}
use Rattle.meaning.proofs.SecondSpan.{Makes}
use Rattle.meaning.proofs.InOrder.{second_in_order}
use Rattle.checker.specs.Answers.{Numbers, Replies}

-- where the second span of the numbers n lies: it is that of a node of the image, a Variable or what comes right after a For; for 25 before the
-- place, and for 23 before the end of the If whose first condition is the place
pub record FirstPlace (image : List ℕ) (n : Numbers) : Type 0 where
  pub node : ℕ
  pub makes : Makes (nodes_of image) node
  pub inside : node < length (nodes_of image)
  pub from : n.second_start ≡ (node_of (nodes_of image) node).span_start
  pub to : n.second_end ≡ (node_of (nodes_of image) node).span_end
  pub assigning : n.code ≡ 25 → node < n.place
  pub merging : n.code ≡ 23 → (i : ℕ) × (((node_of (nodes_of image) i).kind ≡ 8) × ((n.place ≡ suc i) × (node < stop_of (nodes_of image) i)))

module _ (setting : ℕ) (image : List ℕ) (room told : ℕ) {n : Numbers} {old new old_message new_message : List ℕ}
    (x : Replies (answer setting image room told) n old new old_message new_message) where
  code_is : n.code ≡ (answer setting image room told).code
  code_is = ap (λ (k : Numbers). k.code) x.numbers

  place_is : n.place ≡ (answer setting image room told).place
  place_is = ap (λ (k : Numbers). k.place) x.numbers

  either_code : (n.code ≡ 23) ⊎ (n.code ≡ 25) → ((answer setting image room told).code ≡ 23) ⊎ ((answer setting image room told).code ≡ 25)
  either_code (inl e) = inl (sym code_is ∙ e)
  either_code (inr e) = inr (sym code_is ∙ e)

  -- (False of a checker that points at the newest assignment of an equal type, at the Assign, or at the place itself.)
  pub first_place : (n.code ≡ 23) ⊎ (n.code ≡ 25) → FirstPlace image n
  first_place c =
      let o = second_in_order image room told setting (either_code c) in
      let s = o.second in
      record {
        node = s.node;
        makes = s.makes;
        inside = s.inside;
        from = ap (λ (k : Numbers). k.second_start) x.numbers ∙ s.from;
        to = ap (λ (k : Numbers). k.second_end) x.numbers ∙ s.to;
        assigning = λ e. subst (λ (p : ℕ). s.node < p) (sym place_is) (o.assigning (sym code_is ∙ e));
        merging = λ e. let m = o.merging (sym code_is ∙ e) in (m.0, (m.1.0, (place_is ∙ m.1.1.0, m.1.1.1)));
      }

  -- (False of a checker that leaves the second span of an earlier refusal beside 22.)
  pub no_first_place : (n.code ≡ 23 → ⊥) → (n.code ≡ 25 → ⊥) → (n.second_start ≡ 0) × (n.second_end ≡ 0)
  no_first_place p q =
      let a = (answered room told setting image).second (λ e. p (code_is ∙ e)) (λ e. q (code_is ∙ e)) in
      (ap (λ (k : Numbers). k.second_start) x.numbers ∙ a.0, ap (λ (k : Numbers). k.second_end) x.numbers ∙ a.1)
