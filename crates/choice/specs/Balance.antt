-- What `choose_cpu_balance` finds, as the rules have it, and one step of it.
use Rattle.std.specs.Prelude.{ℕ, ◌+◌, ◌-◌, ◌≤◌, ◌<◌, ◌≡◌, Bool, true, false, cond, ◌&&◌, None}
use Rattle.std.proofs.Common.{◌∙◌, ap, sym}
use Rattle.rules.proofs.Laws.Line.{both}
use Rattle.rules.specs.Draw.{next_state, draw}
use Rattle.rules.specs.Choice as rule
use Rattle.rules.specs.Choice.{score, weigh, extremes}
use Rattle.topology.specs.Walk.{those_from, those_turn, those_end}
use Rattle.rules.specs.declared.choice.Extremes.{Extremes}
use Rattle.rules.specs.declared.choice.Chosen.{Chosen}

-- at first
unfoldable pub unraised : ℕ → Extremes
unraised draws = record { highest = 0; highest_score = 0; lowest = None; draws = draws }

-- a CPU that is allowed: one draw, and its score beside the highest and the lowest
unfoldable pub raised : ℕ → (ℕ → ℕ) → ℕ → Extremes → Extremes
raised us load c e = weigh e (score (load c) (draw (next_state us e.draws))) c (next_state us e.draws)

-- a number that may be a CPU of the node
unfoldable pub compared : ℕ → (ℕ → Bool) → (ℕ → ℕ) → (ℕ → Bool) → ℕ → Extremes → Extremes
compared us allowed load test c e = cond (test c) (cond (allowed c) (raised us load c e) e) e

-- ---- for proofs

-- what comes of it in the end
unfoldable pub finished : Extremes → Chosen
finished e = record { found = rule.pair_of e.highest e.lowest; draws = e.draws }

module _ (us : ℕ) (allowed : ℕ → Bool) (load : ℕ → ℕ) where
  -- one turn of the loop over the numbers of a node
  pub extremes_turn : (test : ℕ → Bool) (c to : ℕ) (e : Extremes) → c < to
      → extremes us allowed load (those_from test c (to - c)) e ≡ extremes us allowed load (those_from test (c + 1) (to - (c + 1))) (compared us allowed load test c e)
  unfolding extremes compared raised
  extremes_turn test c to e h =
      rw (those_turn test c to h)
      (both (test c) (λ p. rw p (both (allowed c) (λ s. rw s) (λ s. rw s))) (λ p. rw p))

  -- the same, where it is asked at once whether the number counts
  compared_if : (test : ℕ → Bool) (c : ℕ) (e : Extremes) → compared us allowed load test c e ≡ cond (test c && allowed c) (raised us load c e) e
  unfolding compared
  compared_if test c e = both (test c) (λ p. rw p) (λ p. rw p)

  pub extremes_yes : (test : ℕ → Bool) (c to : ℕ) (e e' : Extremes) → c < to → (test c && allowed c) ≡ true → e' ≡ raised us load c e
      → extremes us allowed load (those_from test c (to - c)) e ≡ extremes us allowed load (those_from test (c + 1) (to - (c + 1))) e'
  extremes_yes test c to e e' h t q =
      extremes_turn test c to e h ∙ ap (extremes us allowed load (those_from test (c + 1) (to - (c + 1)))) (compared_if test c e ∙ (ap (λ b. cond b (raised us load c e) e) t ∙ sym q))

  pub extremes_no : (test : ℕ → Bool) (c to : ℕ) (e e' : Extremes) → c < to → (test c && allowed c) ≡ false → e' ≡ e
      → extremes us allowed load (those_from test c (to - c)) e ≡ extremes us allowed load (those_from test (c + 1) (to - (c + 1))) e'
  extremes_no test c to e e' h t q =
      extremes_turn test c to e h ∙ ap (extremes us allowed load (those_from test (c + 1) (to - (c + 1)))) (compared_if test c e ∙ (ap (λ b. cond b (raised us load c e) e) t ∙ sym q))

  pub extremes_end : (test : ℕ → Bool) (c to : ℕ) (e : Extremes) → to ≤ c → extremes us allowed load (those_from test c (to - c)) e ≡ e
  unfolding extremes
  extremes_end test c to e h = rw (those_end test c to h)
