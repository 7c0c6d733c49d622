use mathlib.Core.Path.{ap, ◌∙◌}
use mathlib.Core.Bool.{not}
use Rattle.show.proofs.Turning.{turned_told}
use Rattle.show.proofs.has_turned.Goals as goal

pub returns : goal.returns
returns c =
    ap not (c.same.ensures ∙ turned_told c.args.old.now c.args.new.now c.requires.i_bound c.requires.j_bound c.requires.one_name (c.text.ensures ∙ c.write_alone-n.ensures.out_after) (c.text-2.ensures ∙ c.write_alone-m.ensures.out_after))
