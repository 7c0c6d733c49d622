-- The definitions of what is asked and of what is said, opened together.
use Rattle.meaning.specs.Base.{base_open}
use Rattle.verbs.specs.Words.{words_open}
use Rattle.verbs.specs.Said.{said_open}

unfoldable pub tests_open : Unit {0}
unfolding base_open words_open said_open
tests_open = tt
