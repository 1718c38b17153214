-- "Its line shows `-` four times, as do those of commands later added before the seal": whatever the command.
use Rattle.std.specs.Prelude.{ℕ, ◌≡◌, false, List}
use Rattle.rules.specs.State.{State}
use Rattle.rules.specs.Commands.{nothing_shown, step}
use Rattle.rules.proofs.Laws.Shortest as laws

pub before_the_seal : (s : State) (bytes : List ℕ) → s.sealed ≡ false → (step s bytes).answer ≡ nothing_shown (step s bytes).answer.refused
before_the_seal s bytes h = (laws.read_any s bytes).before h
