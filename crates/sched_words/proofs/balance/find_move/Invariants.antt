use Rattle.std.proofs.Common.{◌≡◌, ◌-◌, length}
use Rattle.sched_words.specs.Balance.{find_move}
use Rattle.sched_words.proofs.balance.find_move.Given as goal

abbrev pub invariant-loop-i : goal.invariant-loop-i
invariant-loop-i l = (length l.cpus ≡ length l.initial.cpus) × (find_move 20 l.nodes l.k.us l.k.limit l.initial.b l.initial.cpus ≡ find_move (20 - l._i) l.nodes l.k.us l.k.limit l.b l.cpus)
