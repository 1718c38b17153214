-- What a search finds, as the rules have it, and one step of a search.
use Rattle.std.specs.Prelude.{ℕ, ◌+◌, ◌-◌, ◌≤◌, ◌<◌, ◌≡◌, Bool, cond, eqb, None}
use Rattle.std.proofs.Math.Path.{refl}
use mathlib.Core.List.{List, [], ◌∷◌, ◌++◌}
use Rattle.rules.specs.State.{join_all}
use Rattle.rules.proofs.Laws.Line.{both}
use Rattle.rules.specs.Draw.{next_state, draw}
use Rattle.rules.specs.Choice.{score, lower, find_cpu}
use Rattle.topology.specs.Words.{word}
use Rattle.topology.specs.Walk.{those_from, to_root, those_turn, those_end, root_turn}
use Rattle.rules.specs.declared.choice.Searched.{Searched}

-- nothing found yet
unfoldable pub begun : ℕ → Searched
begun draws = record { found = None; draws = draws }

-- a CPU that is not skipped: one draw, and the lower of the scores
unfoldable pub weighed : ℕ → (ℕ → ℕ) → ℕ → Searched → Searched
weighed us load c f = record { found = lower f.found (score (load c) (draw (next_state us f.draws))) c; draws = next_state us f.draws }

-- a number that may be a CPU of the node
unfoldable pub considered : ℕ → (ℕ → Bool) → (ℕ → ℕ) → (ℕ → Bool) → ℕ → Searched → Searched
considered us skip load test c f = cond (test c) (cond (skip c) f (weighed us load c f)) f

-- ---- for proofs

module _ (us : ℕ) (skip : ℕ → Bool) (load : ℕ → ℕ) where
  pub find_append : (a b : List ℕ) (f : Searched) → find_cpu us skip load (a ++ b) f ≡ find_cpu us skip load b (find_cpu us skip load a f)
  unfolding find_cpu
  find_append [] b f = refl
  find_append (c ∷ a) b f = both (skip c) (λ e. rw e (find_append a b f)) (λ e. rw e (find_append a b _))

  -- one turn of the loop over the numbers of a node
  pub find_turn : (test : ℕ → Bool) (c to : ℕ) (f : Searched) → c < to
      → find_cpu us skip load (those_from test c (to - c)) f ≡ find_cpu us skip load (those_from test (c + 1) (to - (c + 1))) (considered us skip load test c f)
  unfolding find_cpu considered weighed
  find_turn test c to f h =
      rw (those_turn test c to h)
      (both (test c) (λ e. rw e (both (skip c) (λ s. rw s) (λ s. rw s))) (λ e. rw e))

  pub find_end : (test : ℕ → Bool) (c to : ℕ) (f : Searched) → to ≤ c → find_cpu us skip load (those_from test c (to - c)) f ≡ f
  unfolding find_cpu
  find_end test c to f h = rw (those_end test c to h)

  -- one turn of the loop over the nodes
  pub find_node : (rows : List (List ℕ)) (cpus : ℕ → List ℕ) (w k n : ℕ) (f : Searched) → 0 < k
      → find_cpu us skip load (join_all cpus (to_root rows w k n)) f
      ≡ cond (eqb n 0) (find_cpu us skip load (cpus n) f)
      (find_cpu us skip load (join_all cpus (to_root rows w (k - 1) (word rows n w))) (find_cpu us skip load (cpus n) f))
  unfolding join_all find_cpu
  find_node rows cpus w k n f h =
      rw (root_turn rows w k n h)
      (both (eqb n 0) (λ e. rw e (find_append (cpus n) [] f)) (λ e. rw e (find_append (cpus n) _ f)))
