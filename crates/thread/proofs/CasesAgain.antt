-- There and back, a CPU or none is what it was, and so is a pin.
use Rattle.std.specs.Prelude.{ℕ, ◌≡◌, refl, Option, None, Some}
use Rattle.thread.proofs.Cases.{each_case, named, as_cpu, pin_option, pin_back}

again : {T : Type 0} (o : Option T) → each_case (each_case o) ≡ o
unfolding each_case
again None = refl
again (Some x) = refl

pub as_named : (c : Option ℕ) → as_cpu (named c) ≡ c
as_named c = again c

pub named_as : (c : Option ℕ) → named (as_cpu c) ≡ c
named_as c = again c

pub pin_again : (p : Option ℕ) → pin_back (pin_option p) ≡ p
pin_again p = again p

pub pin_there : (p : Option ℕ) → pin_option (pin_back p) ≡ p
pin_there p = again p
