-- The load rule: "A script loads unseen exactly when it is accepted and its type sheet equals the last approved sheet, byte for byte."
use Rattle.std.specs.Prelude.{List, ℕ, eqb}
use Rattle.meaning.specs.Base.{test◌then◌else◌, same_text}
use Rattle.meaning.specs.Answer.{Answer}

-- it loads unseen; it is accepted with another sheet, and someone must look; or the check refused it, code 10 among the reasons
pub data Loading : Type 0 where
  loads look refused : Loading

-- of the check's answer and the last approved sheet, whatever bytes that is
unfoldable pub loading : Answer → List ℕ → Loading
loading a approved = test eqb a.code 0 then test same_text a.sheet approved then loads else look else refused

-- the number of each, for other languages and as a program's exit status
abbrev pub loading_number : Loading → ℕ
loading_number loads = 0
loading_number look = 1
loading_number refused = 2

unfoldable pub load_open : Unit {0}
unfolding loading
load_open = tt
