-- What a choice of `balance` comes to, of what `choose_cpu_balance` answered.
use Rattle.std.specs.Prelude.{◌≡◌, ℕ, List, Option, None}
use Rattle.rules.specs.declared.choice.Chosen.{Chosen}
use Rattle.rules.specs.declared.choice.Pair.{Pair}
use Rattle.rules.specs.Choice.{pair_at, choose_cpu_balance}
use Rattle.topology.specs.CpuSet as set
use Rattle.topology.specs.Walk.{cpus_at}
use Rattle.processor.specs.Words.{word, put_word}
use Rattle.processor.specs.Word.{RAND_STATE}
use Rattle.choice.specs.Reads.{weight_at}
use Rattle.sched_words.specs.declared.balance.Balancing.{Balancing}
use Rattle.sched_words.specs.Balance.{passed, pair_step, pair_of_def, chosen_at, balance_step_def}

module _ (cs ns : List (List ℕ)) (us limit : ℕ) (b : Balancing) (r : Chosen) (draws : ℕ) (drawn : draws ≡ word cs us RAND_STATE)
    (answered : r ≡ choose_cpu_balance us (set.contains b.allowed) (weight_at cs) (cpus_at ns limit 0) draws) where
  step_is : (p : Option Pair) → r.found ≡ p → pair_of_def b p (put_word cs us RAND_STATE r.draws) ≡ balance_step_def ns us limit b cs
  unfolding balance_step_def chosen_at
  step_is p e = rw (← drawn, ← answered, ← e)

  pub step_nothing : (after : List (List ℕ)) → r.found ≡ None → after ≡ put_word cs us RAND_STATE r.draws
      → record { answer = passed b; memory = after } ≡ balance_step_def ns us limit b cs
  unfolding pair_of_def
  step_nothing after e h = rw h (step_is None e)

  pub step_cpus : (after : List (List ℕ)) (donor recipient : ℕ) → r.found ≡ pair_at donor recipient → after ≡ put_word cs us RAND_STATE r.draws
      → pair_step b donor recipient after ≡ balance_step_def ns us limit b cs
  unfolding pair_of_def
  step_cpus after donor recipient e h = rw h (step_is (pair_at donor recipient) e)
