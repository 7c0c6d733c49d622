use native.Mathlib.Omega.{arith}
use Rattle.codes.specs.Codes.{code_number}
use Rattle.message.proofs.Codes.{format_short, format_read}
use Rattle.message.proofs.tell.Goals as goal

pub put_format-length-requires : goal.put_format-length-requires
put_format-length-requires c = omega (arith, format_short (code_number c.args.code))

pub slice_bounds-format-end : goal.slice_bounds-format-end
slice_bounds-format-end c = omega (arith, c.put_format-length.auto.out, c.put_format-length.ensures.value, format_short (code_number c.args.code))

pub slice_bounds-message-end : goal.slice_bounds-message-end
slice_bounds-message-end c =
    let w = c.put_format-length.ensures in
    rw (format_read _ (code_number c.args.code) (w.out_after, w.value)) w.value

pub deliver-requires : goal.deliver-requires
deliver-requires c =
    let w = c.put_format-length.ensures in
    record { ready = c.requires.ready; many = rw (format_read _ (code_number c.args.code) (w.out_after, w.value)) c.requires.many }

pub returns-clause-value : goal.returns-clause-value
returns-clause-value c =
    let w = c.put_format-length.ensures in
    rw (format_read _ (code_number c.args.code) (w.out_after, w.value)) at c.deliver.ensures.value

pub returns-clause-out_after : goal.returns-clause-out_after
returns-clause-out_after c =
    let w = c.put_format-length.ensures in
    rw (format_read _ (code_number c.args.code) (w.out_after, w.value)) at c.deliver.ensures.out_after
