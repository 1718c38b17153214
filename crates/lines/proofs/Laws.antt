-- Laws of lines: a line of document 01's numbers has at most 48 bytes, and a line that fits stands whole.
use Rattle.std.specs.Prelude.{Ok, Option, None, Some}
use Prim.Native.Nat.{ℕ, suc, ◌+◌, ◌^◌, ◌<◌, ◌≤◌}
use mathlib.Core.Path.{◌≡◌, ap}
use mathlib.Core.Bool.{true}
use mathlib.Core.List.{List, ◌++◌}
use lib.ListN.{length, take, drop, length-append}
use lib.Seq.{sets-eq}
use native.Mathlib.Omega.{arith}
use native.Mathlib.Nat.{min-eq_left}
use Rattle.rules.specs.declared.Running.{Running}
use Rattle.rules.specs.declared.Running.TheVariants as running
use Rattle.rules.specs.Commands.{Answer}
use Rattle.rules.specs.Lines.{space, line_feed, dash, idle_word, number_or_dash, running_or_dash, line}
use Rattle.rules.specs.Waits.{Under}
use Rattle.lines.specs.Lines.{room, rendered, buffer_with}
use Rattle.lines.proofs.Digits.{decimal_length}

-- ---- the largest numbers of a line

unfoldable pub RunsBelow : ℕ → Option Running → Type 0
RunsBelow limit None = Unit
RunsBelow limit (Some running.Idle) = Unit
RunsBelow limit (Some (running.Thread x)) = x < limit

-- Numbers of CPUs and threads below 1,024, a load of at most 1,024.
pub record Shows (number : ℕ) (a : Answer) : Type 0 where
  pub number_below : number < 2 ^ 32
  pub refused_below : a.refused ≤ 16
  pub cpu_below : Under 1024 a.cpu
  pub running_below : RunsBelow 1024 a.running
  pub load_below : Under 1025 a.load
  pub wakeups_below : Under 10000 a.wakeups

pub number_length : (k limit : ℕ) (o : Option ℕ) → limit ≤ 10 ^ suc k → Under limit o → length (number_or_dash o) ≤ suc k
unfolding number_or_dash dash Under
number_length k limit None l h = omega arith
number_length k limit (Some n) l h = decimal_length k n (omega arith)

pub running_length : (limit : ℕ) (o : Option Running) → limit ≤ 10000 → RunsBelow limit o → length (running_or_dash o) ≤ 4
unfolding running_or_dash dash idle_word RunsBelow
running_length limit None l h = omega arith
running_length limit (Some running.Idle) l h = omega arith
running_length limit (Some (running.Thread x)) l h = decimal_length 3 x (omega arith)

pub line_length : (number : ℕ) (a : Answer) → Shows number a → length (line number a) ≤ 48
unfolding line space line_feed
line_length number a s =
    simp length-append
    (omega (
      arith,
      decimal_length 9 number (omega (arith, s.number_below)),
      decimal_length 1 a.refused (omega (arith, s.refused_below)),
      number_length 3 1024 a.cpu (omega arith) s.cpu_below,
      running_length 1024 a.running (omega arith) s.running_below,
      number_length 3 1025 a.load (omega arith) s.load_below,
      number_length 3 10000 a.wakeups (omega arith) s.wakeups_below,
    ))

-- ---- a line that fits: all of it stands from `at` on, and every other byte is kept

module _ (b : List ℕ) (at : ℕ) (l : List ℕ) (there : room b at ≡ true) (fits : at + length l ≤ length b) where
  pub rendered_whole : rendered b at l ≡ Ok (length l)
  unfolding rendered
  rendered_whole = rw there (ap Ok (min-eq_left (omega arith)))

  pub buffer_whole : buffer_with b at l ≡ take at b ++ l ++ drop (at + length l) b
  unfolding buffer_with
  buffer_whole = rw there (sets-eq l b at fits)
