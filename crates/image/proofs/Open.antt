-- The definitions that the tests of records are made of, opened together.
use Rattle.meaning.specs.Base.{base_open}
use Rattle.meaning.specs.Image.{image_open}
use Rattle.image.specs.Kinds.{record_stands, root_stands}
use Rattle.image.specs.Parts.{name_stands, record_of}

unfoldable pub tests_open : Unit {0}
unfolding base_open image_open record_stands root_stands name_stands record_of
tests_open = tt
