-- `do_schedule` AND `schedule` OVER RECORDS AND WORDS ARE THE RULES'.
use Rattle.std.specs.Prelude.{Bool, true, false, Option, None, Some}
use Rattle.rules.specs.declared.choice.Best.{Best}

-- ---- a choice finds a CPU where there is one

unfoldable pub is_found : Option Best → Bool
is_found None = false
is_found (Some b) = true
