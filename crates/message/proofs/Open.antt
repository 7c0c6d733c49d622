-- The definitions of small texts and of lengths, opened together.
use Rattle.meaning.specs.Base.{base_open}
use Rattle.message.specs.Texts.{closing, comma, clipped}

unfoldable pub texts_open : Unit {0}
unfolding base_open closing comma clipped
texts_open = tt
