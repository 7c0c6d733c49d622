use Rattle.names.proofs.Naming.{naming_first, naming_skip, naming_put, naming_end}
use Rattle.image.proofs.Records.{head_long, text_fits, text_inside}
use Rattle.meaning.specs.Image.{NameRecord, name_count}
use Rattle.meaning.proofs.Faults.{sizes, image_length}
use Prim.Native.Nat.{◌<◌}
use mathlib.Core.Path.{ap}
use native.Mathlib.Omega.{arith}
use Rattle.names.proofs.list_names.Goals as goal
use Rattle.names.proofs.list_names.Goals.{in-Some, in_default}

pub areas-l-requires : goal.areas-l-requires
areas-l-requires c =
    head_long c.requires.sound.headed

pub loop-k-init : goal.loop-k-init
loop-k-init c =
    naming_first _ _ _ _

pub told_of-requires : goal.told_of-requires
told_of-requires c =
    (c.requires.top_lt_most_frames, omega (arith, (sizes c.requires.sound.headed).names))

pub put_name-requires : goal.put_name-requires
put_name-requires c =
    omega (arith, (sizes c.requires.sound.headed).names)

pub overflow_cast-l : goal.overflow_cast-l
overflow_cast-l c =
    omega (arith, image_length c.requires.sound.headed, text_inside c.requires.sound.headed)

pub overflow_add-l : goal.overflow_add-l
overflow_add-l c =
    let s = c.requires.sound in
    let start = ap (λ (r : NameRecord). r.start) c.name_at-name.ensures in
    let here : c.loop-k.k < name_count c.args.image.now = omega arith in
    omega (arith, image_length s.headed, text_inside s.headed, text_fits s.headed s.names c.loop-k.k here)

pub loop-k-preserved : goal.loop-k-preserved
loop-k-preserved c =
    let s = c.requires.sound in
    let here : c.loop-k.k < name_count c.args.image.now = omega arith in
    let texts = c.areas-l.ensures.texts in
    elim c.match-told_of.branch [
      | in-Some w ↦
          let start = ap (λ (r : NameRecord). r.start) w.name_at-name.ensures in
          let size = ap (λ (r : NameRecord). r.size) w.name_at-name.ensures in
          rw (w.names-is, w.count-is) (naming_put s c.loop-k.invariant here c.may_bind-bound.ensures c.told_of.ensures w.in-Some.is w.put_name.ensures (omega (arith, texts, start)) size)
      | in_default w ↦ rw (w.names-is, w.count-is) (naming_skip s c.loop-k.invariant here c.may_bind-bound.ensures c.told_of.ensures w.in_default.is)
    ]

pub returns : goal.returns
returns c =
    naming_end c.requires.sound c.loop-k.invariant (omega arith)
