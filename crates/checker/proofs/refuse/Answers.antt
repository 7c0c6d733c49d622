use mathlib.Core.Path.{◌≡◌, refl}
use Rattle.state.specs.Notes.{code_in}
use Rattle.checker.proofs.Ends.{refused}
use Rattle.checker.proofs.refuse.Goals as goal

pub returns : goal.returns
returns c =
    let e : c.unwrap-code.result ≡ code_in c.args.notes.now = rw c.unwrap-code.ensures in
    let told = rw e at c.write-length.ensures.value in
    let out = rw e at c.write-length.ensures.out_after in
    refused c.requires.refusing _ c.node_at-node.ensures c.requires.points e refl refl refl c.span_of-second.ensures.0 c.span_of-second.ensures.1 told out
