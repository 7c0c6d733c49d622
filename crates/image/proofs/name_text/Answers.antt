use Rattle.image.proofs.Records.{text_inside, text_fits, text_of}
use Rattle.meaning.specs.Image.{NameRecord}
use mathlib.Core.Path.{sym, ap, ◌∙◌}
use native.Mathlib.Omega.{arith}
use Rattle.image.proofs.name_text.Goals as goal

pub text-requires : goal.text-requires
text-requires c =
    let fits = text_fits c.requires.headed c.requires.image_value c.args.k c.requires.texts_value.1 in
    let start = ap (λ (r : NameRecord). r.start) c.name_at-r.ensures in
    let size = ap (λ (r : NameRecord). r.size) c.name_at-r.ensures in
    omega (arith, text_inside c.requires.headed)

pub returns : goal.returns
returns c =
    let start = ap (λ (r : NameRecord). r.start) c.name_at-r.ensures in
    let size = ap (λ (r : NameRecord). r.size) c.name_at-r.ensures in
    rw (start, size, c.requires.texts_value.0) at c.text.ensures ∙ sym (text_of c.requires.headed c.args.k)
