use Rattle.image.proofs.Builtins.{no_builtin}
use Rattle.image.proofs.Records.{role_of_lem, name_is}
use Rattle.meaning.specs.Image.{safe}
use mathlib.Core.Path.{sym, ap, ◌∙◌}
use Rattle.image.proofs.safe_at.Goals as goal

pub returns-then-not-is_builtin : goal.returns-then-not-is_builtin
returns-then-not-is_builtin c =
    rw c.if-not-is_builtin.true
    (sym (no_builtin _ _ (role_of_lem c.args.image.now c.args.k c.name_at-r.ensures) (sym c.if-not-is_builtin.ensures)))

pub returns-else-not-is_builtin : goal.returns-else-not-is_builtin
returns-else-not-is_builtin c =
    c.safe_name.ensures ∙ ap safe (name_is c.args.image.now c.args.k c.name_at-r.ensures c.name_text.ensures)
