-- The draw (`quick_random`, utils.rs).
use Rattle.std.specs.Prelude.{ℕ, ◌+◌, ◌*◌, ◌/◌, ◌%◌, ◌^◌, cond, eqb}

-- "One state per CPU, at first 0; a state of 0 is replaced by the CPU number."
unfoldable pub seed : ℕ → ℕ → ℕ
seed cpu state = cond (eqb state 0) cpu state

-- "The state is multiplied by 69069 and 5 is added, both modulo 2^32;"
unfoldable pub next_state : ℕ → ℕ → ℕ
next_state cpu state = (seed cpu state * 69069 % 2 ^ 32 + 5) % 2 ^ 32

-- "the draw is the new state divided by 65,536, rounded down."
unfoldable pub draw : ℕ → ℕ
draw state = state / 65536
