use Rattle.meaning.specs.Base.{bytes}
use Rattle.words.proofs.Laws.{wrote}
use Rattle.line.specs.Printing.{or_dash}
use Rattle.line.proofs.Pieces.{dash_short, refused_wrote}
use native.Mathlib.Omega.{arith}
use Rattle.line.proofs.refused_line.Goals as goal

pub put-end-requires : goal.put-end-requires
unfolding bytes
put-end-requires c =
    let a = wrote (bytes "refused") (omega arith) c.put-numbers.ensures.buf_after c.put-numbers.ensures.value in
    let b = c.put_numbers-space.ensures.wrote in
    let s = wrote (bytes " ") (omega (arith, a.long, b.long)) c.put-text.ensures.buf_after c.put-text.ensures.value in
    let short = dash_short c.args.message.now in
    rw c.or_dash.ensures (omega (arith, a.long, b.long, s.long))

pub put-requires : goal.put-requires
unfolding bytes
put-requires c =
    let a = wrote (bytes "refused") (omega arith) c.put-numbers.ensures.buf_after c.put-numbers.ensures.value in
    let b = c.put_numbers-space.ensures.wrote in
    let s = wrote (bytes " ") (omega (arith, a.long, b.long)) c.put-text.ensures.buf_after c.put-text.ensures.value in
    let short = dash_short c.args.message.now in
    let t = wrote (or_dash c.args.message.now) (omega (arith, a.long, b.long, s.long)) (rw c.or_dash.ensures at c.put-end.ensures.buf_after) (rw c.or_dash.ensures at c.put-end.ensures.value) in
    omega (arith, a.long, b.long, s.long, t.long, t.ends)

pub returns-clause-wrote : goal.returns-clause-wrote
unfolding bytes
returns-clause-wrote c =
    let a = wrote (bytes "refused") (omega arith) c.put-numbers.ensures.buf_after c.put-numbers.ensures.value in
    let b = c.put_numbers-space.ensures.wrote in
    let s = wrote (bytes " ") (omega (arith, a.long, b.long)) c.put-text.ensures.buf_after c.put-text.ensures.value in
    let short = dash_short c.args.message.now in
    let t = wrote (or_dash c.args.message.now) (omega (arith, a.long, b.long, s.long)) (rw c.or_dash.ensures at c.put-end.ensures.buf_after) (rw c.or_dash.ensures at c.put-end.ensures.value) in
    let z = wrote (bytes "\n") (omega (arith, a.long, b.long, s.long, t.long, t.ends)) c.put.ensures.buf_after c.put.ensures.value in
    refused_wrote _ _ _ _ _ a b s t z

pub returns-clause-upper_bound : goal.returns-clause-upper_bound
unfolding bytes
returns-clause-upper_bound c =
    let a = wrote (bytes "refused") (omega arith) c.put-numbers.ensures.buf_after c.put-numbers.ensures.value in
    let b = c.put_numbers-space.ensures.wrote in
    let s = wrote (bytes " ") (omega (arith, a.long, b.long)) c.put-text.ensures.buf_after c.put-text.ensures.value in
    let short = dash_short c.args.message.now in
    let t = wrote (or_dash c.args.message.now) (omega (arith, a.long, b.long, s.long)) (rw c.or_dash.ensures at c.put-end.ensures.buf_after) (rw c.or_dash.ensures at c.put-end.ensures.value) in
    omega (arith, t.ends)
