-- What questions 3 and 4 answered yes give of a command that a CPU runs: the CPU is one of the CPUs, on a node.
use Rattle.std.specs.Prelude.{ℕ, ◌<◌, ◌≡◌, true, List, ◌∷◌, ltb, Option, None, Some, is_some}
use Rattle.std.proofs.Math.Path.{refl}
use Rattle.std.proofs.lemmas.Bool.{false≢true}
use Rattle.std.specs.Cmp.{second_so}
use Rattle.rules.specs.State.{State}
use Rattle.rules.specs.Questions.{Question, question, first_no, sealed_now, declared, cpu_declared}
use Rattle.rules.proofs.Laws.Reached.{yes, declared_in}
use Rattle.sched_laws.specs.Sealed.{Sealed}
use Rattle.command_laws.specs.Asked.{On}

on_some : (s : State) (c : ℕ) (o : Option ℕ) → s.topology.placed c ≡ o → is_some o ≡ true → c < s.limits.cpus → On s c
on_some s c None e i h = absurd (false≢true i)
on_some s c (Some n) e i h = record { near = h; node = n; put_on = e }

pub on_node : (s : State) (c : ℕ) (l : List Question) → Sealed s → first_no (sealed_now s ∷ cpu_declared s c ∷ l) ≡ 0 → On s c × (first_no l ≡ 0)
unfolding sealed_now cpu_declared
on_node s c l k e =
    let a = yes 2 s.sealed (question 4 (declared s c) ∷ l) e in
    let b = yes 3 (declared s c) l a.1 in
    let near : c < s.limits.cpus = declared_in s c b.0 in
    let there : s.topology.declared c ≡ true = unfold declared in second_so (ltb c s.limits.cpus) (s.topology.declared c) b.0 in
    (on_some s c (s.topology.placed c) refl (k.on_node a.0 c near there) near, b.1)
