use Rattle.std.proofs.Common.{◌∙◌, ◌≡◌, fold, rules}
use Rattle.replay.specs.Lines.{fnv_start}
use Rattle.replay.proofs.Sums.{step, sum_folded}
use Rattle.replay.proofs.fnv.Goals as goal

pub returns : goal.returns
returns c =
    let e : c.fold.result ≡ fold step fnv_start c.args.s.now = search rules in
    e ∙ sum_folded c.args.s.now
