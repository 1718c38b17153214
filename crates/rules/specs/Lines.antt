-- "What the program prints": lines as bytes, and the whole output of a run.
use Rattle.std.specs.Prelude.{ℕ, zero, suc, ◌+◌, ◌/◌, ◌%◌, Bool, true, false, cond, ◌||◌, List, [], ◌∷◌, ◌++◌, length, eqb, ltb, Option, None, Some}
use Rattle.rules.specs.State.{State, Limits, start}
use Rattle.rules.specs.Requests.{Reading, unknown, cut_short, asks, read, past}
use Rattle.rules.specs.declared.Running.{Running}
use Rattle.rules.specs.declared.Running.TheVariants as running
use Rattle.rules.specs.Commands.{Answer, Step, step}

-- the decimal digits of n, with at most k of them
unfoldable pub digits : ℕ → ℕ → List ℕ
digits zero n = []
digits (suc k) n = cond (ltb n 10) [] (digits k (n / 10)) ++ ((48 + n % 10) ∷ [])

-- Numbers shown are below 2^64 and so have at most twenty digits.
unfoldable pub decimal : ℕ → List ℕ
decimal n = digits 20 n

unfoldable pub space : List ℕ
space = 32 ∷ []

unfoldable pub line_feed : List ℕ
line_feed = 10 ∷ []

-- `-`
unfoldable pub dash : List ℕ
dash = 45 ∷ []

-- `idle`, `sched 1` with its line feed, `end`
unfoldable pub idle_word : List ℕ
idle_word = 105 ∷ 100 ∷ 108 ∷ 101 ∷ []

unfoldable pub header : List ℕ
header = 115 ∷ 99 ∷ 104 ∷ 101 ∷ 100 ∷ 32 ∷ 49 ∷ 10 ∷ []

unfoldable pub end_word : List ℕ
end_word = 101 ∷ 110 ∷ 100 ∷ []

unfoldable pub number_or_dash : Option ℕ → List ℕ
number_or_dash None = dash
number_or_dash (Some n) = decimal n

unfoldable pub running_or_dash : Option Running → List ℕ
running_or_dash None = dash
running_or_dash (Some running.Idle) = idle_word
running_or_dash (Some (running.Thread x)) = decimal x

-- "Per command: number from 0, refusal (0 if obeyed), CPU, thread it now runs or `idle`, queue load, calls of `wakeup` made by this command."
-- 2026-01: "It shall count only calls to a different CPU."
unfoldable pub line : ℕ → Answer → List ℕ
line number a =
    decimal number ++ (space ++ (decimal a.refused ++ (space ++ (number_or_dash a.cpu ++ (space ++ (running_or_dash a.running
    ++ (space ++ (number_or_dash a.load ++ (space ++ (number_or_dash a.wakeups ++ line_feed))))))))))

-- "Last: `end`, commands read (refused ones and the one that ends the run included), refused."
unfoldable pub end_line : ℕ → ℕ → List ℕ
end_line commands refused = end_word ++ (space ++ (decimal commands ++ (space ++ (decimal refused ++ line_feed))))

unfoldable pub last_number : ℕ
last_number = 4294967294

-- how many bytes a command takes; one that ends the run takes all
unfoldable pub used : Reading → ℕ
used unknown = 0
used cut_short = 0
used (asks r n) = n

-- "Refusals 1 and 2 end the run, as does command number 4,294,967,294."
unfoldable pub ends : ℕ → ℕ → Bool
ends number refusal = eqb refusal 1 || (eqb refusal 2 || eqb number last_number)

unfoldable pub refused_by : Answer → ℕ
refused_by a = cond (eqb a.refused 0) 0 1

unfoldable pub no_bytes : List ℕ → Bool
no_bytes [] = true
no_bytes (b ∷ bytes) = false

-- the lines from command `number` on, k of them at most; each command takes one byte at least
unfoldable pub lines_from : ℕ → State → ℕ → ℕ → List ℕ → List ℕ
lines_from zero s number refused bytes = end_line number refused
lines_from (suc k) s number refused bytes =
    let st : Step = step s bytes in
    let r : ℕ = refused + refused_by st.answer in
    cond (no_bytes bytes) (end_line number refused)
    (line number st.answer
    ++ cond (ends number st.answer.refused) (end_line (number + 1) r)
    (lines_from k st.state (number + 1) r (past (used (read s.limits bytes)) bytes)))

-- the whole output for a stream
unfoldable pub output : Limits → List ℕ → List ℕ
output limits bytes = header ++ lines_from (length bytes) (start limits) 0 0 bytes
