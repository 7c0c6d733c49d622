use Rattle.image.proofs.Searches.{name_fits, wrong_here, wrong_next, wrong_short, wrong_end}
use Rattle.meaning.proofs.Nesting.{records_count}
use Rattle.image.specs.Parts.{name_means, name_stands}
use Rattle.meaning.specs.Image.{NameRecord, name_records}
use lib.ListN.{length}
use Prim.Native.Nat.{◌≤◌, ◌<◌}
use mathlib.Core.Path.{◌≡◌, sym, ap, ◌∙◌}
use native.Mathlib.Omega.{arith}
use Rattle.image.proofs.broken_name.Goals as goal

pub returns-then-not-name_stands : goal.returns-then-not-name_stands
returns-then-not-name_stands c =
    let a = c.args in
    let t = c.text-texts.result.now in
    let inside : c.loop-i.i < length (name_records a.image.now) = rw records_count (omega (arith, c.requires.laid.names)) in
    sym
    (wrong_here t (name_records a.image.now) c.loop-i.i c.loop-i.from _ inside
    (ap (name_stands _ _ _) (sym c.name_at-r.ensures) ∙ sym c.name_stands.ensures ∙ c.if-not-name_stands.true))
    ∙ c.loop-i.invariant.2

pub loop-i-preserved : goal.loop-i-preserved
loop-i-preserved c =
    let a = c.args in
    let t = c.text-texts.result.now in
    let l = c.loop-i in
    let stands = sym c.name_stands.ensures ∙ c.if-not-name_stands.false in
    let fits = (name_fits t l.from _ (name_means c.name_at-r.result) stands).1 in
    let inside : l.i < length (name_records a.image.now) = rw records_count (omega (arith, c.requires.laid.names)) in (
      omega arith,
      fits,
      rw (ap (λ (r : NameRecord). r.size) c.name_at-r.ensures)
          (sym (wrong_next t (name_records a.image.now) l.i l.from _ inside (ap (name_stands _ _ _) (sym c.name_at-r.ensures) ∙ stands)) ∙ l.invariant.2),
    )

pub returns-then-from-texts : goal.returns-then-from-texts
returns-then-from-texts c =
    let a = c.args in
    let t = c.text-texts.result.now in
    let done : length (name_records a.image.now) ≤ c.loop-i.i = rw records_count (omega (arith, c.requires.laid.names)) in
    let end : c.loop-i.i ≡ a.l.names = omega arith in
    rw (← end) (sym (wrong_short t (name_records a.image.now) c.loop-i.i c.loop-i.from _ done (λ e. omega arith)) ∙ c.loop-i.invariant.2)

pub returns : goal.returns
returns c =
    let a = c.args in
    let t = c.text-texts.result.now in
    let done : length (name_records a.image.now) ≤ c.loop-i.i = rw records_count (omega (arith, c.requires.laid.names)) in
    sym (wrong_end t (name_records a.image.now) c.loop-i.i c.loop-i.from _ done (omega arith)) ∙ c.loop-i.invariant.2
