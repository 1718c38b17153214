-- The bound's provisos (Provisos) can be met, and so many takes as it counts can be made: lists of calls in which a timeshare thread comes in, others arrive while
-- it waits, and it is handed out by take 4; `demand_3_bound` applies to one with 8,192 takes.
use Rattle.std.specs.Prelude.{ℕ, zero, suc, ◌+◌, ◌≤◌, ◌<◌, ◌≡◌, ◌≢◌, Bool, true, false, List, [], ◌∷◌, ◌++◌, eqb, Some}
use Rattle.std.proofs.Math.Path.{refl}
use Rattle.std.proofs.Common.{sym, ap, ◌∙◌, inl, inr, append_assoc, append-nil, arith, lt-ltb, eqb-true}
use Rattle.rules.specs.declared.Part.TheVariants as part
use Rattle.rules.proofs.Laws.Line.{both}
use Rattle.rules.specs.Times.{Thread}
use Rattle.rules.specs.Puts.{Put, PutOrTake, a_put, a_take}
use Rattle.rules.specs.Ahead.{gone, Wait, waiting, In, how_many, rank, first_bucket, onward, earlier_part, same_part, how_far, ahead_of, put_after, a_of, puts_ahead, b_of, counts, served}
use Rattle.rules.specs.State.{at, is_number, base_limits, Cpu, State, start}
use Rattle.rules.specs.Requests.{schedule}
use Rattle.rules.specs.Commands.{Step, obeys, step, after_calls, history}
use Rattle.rules.specs.Laws.Computed.{computed}
use Rattle.rules.specs.Witnesses.{one_cpu, comes}
use Rattle.demands.specs.Provisos.{Arrivals, Provided}
use Rattle.demands.proofs.Demand3.{demand_3_bound}
use Rattle.demands.specs.Witness.{begun}
use Rattle.demands.proofs.Witness.{ready}
use Rattle.demands.specs.ProvisosMet.{alone, before, blocks, calls, cpu_then, first, into, put_0, put_1, returns, rounds, since, soon, thread_then, ticks, turning}

-- ---- that they are so, for every n

history_then : (s : State) (a b : List (List ℕ)) (c : ℕ) → history s (a ++ b) c ≡ history s a c ++ history (after_calls s a) b c
unfolding history after_calls
history_then s [] b c = refl
history_then s (bytes ∷ a) b c =
    rw (history_then (step s bytes).state a b c)
    (sym (append_assoc ((step s bytes).log c) (history (step s bytes).state a c) (history (after_calls (step s bytes).state a) b c)))

log_first : history (start base_limits) first 0 ≡ before ++ (a_put put_0 ∷ soon)
unfolding computed one_cpu comes ticks blocks returns first
log_first = refl

pub log_is : (n : ℕ) → history (start base_limits) (calls n) 0 ≡ before ++ (a_put put_0 ∷ since n) ++ []
log_is n =
    let rest : List PutOrTake = history (after_calls (start base_limits) first) (rounds n) 0 in
    history_then (start base_limits) first (rounds n) 0 ∙ ap (λ (l : List PutOrTake). l ++ rest) log_first ∙ sym (append-nil (before ++ (a_put put_0 ∷ since n)))

-- Nobody is ahead of thread 0 when it comes in, and three come ahead of it: its turn is take 4.
pub turn : (n : ℕ) → (a_of before put_0 ≡ 0) × (b_of before put_0 (since n) ≡ 3)
unfolding computed gone waiting how_many rank first_bucket onward earlier_part same_part how_far ahead_of put_after a_of puts_ahead b_of
turn n = (refl, refl)

-- ---- THE PROVISOS ARE MET

timeshare≢realtime : part.Timeshare ≢ part.Realtime
timeshare≢realtime e = let z : ◌≡◌ {A = ℕ} 0 1 = cc in absurd (omega arith)

idle≢realtime : part.Idle ≢ part.Realtime
idle≢realtime e = let z : ◌≡◌ {A = ℕ} 0 1 = cc in absurd (omega arith)

only_one : (p : Put) → p.part ≢ part.Realtime → (w : Wait) → In w (waiting 0 (a_put p ∷ [])) → w.put.part ≢ part.Realtime
unfolding gone waiting In
only_one p a w (inl e) r = a (ap (λ (v : Wait). v.put.part) e ∙ r)
only_one p a w (inr e) r = absurd e

one_on : (i : ℕ) → suc i ≢ i
one_on i e = absurd (omega arith)

pub provided : (n : ℕ) → Provided before put_0 (since n)
unfolding Arrivals is_number
provided n = record {
  nobody_realtime = only_one put_1 idle≢realtime;
  none_to_realtime = (timeshare≢realtime, (idle≢realtime, (timeshare≢realtime, (timeshare≢realtime, (timeshare≢realtime, tt)))));
  none_current = ((λ t. refl), ((λ t. refl), ((λ t. refl), ((λ t. refl), ((λ t. refl), tt)))));
  buckets_differ = ((λ t. one_on 0), ((λ t. one_on 0), ((λ t. one_on 1), ((λ t. one_on 2), ((λ t. one_on 3), tt)))));
}

at_same : {A : Type 0} (f : ℕ → A) (x : ℕ) (v : A) → f x ≡ v → (y : ℕ) → f y ≡ at f x v y
unfolding at
at_same f x v e y = both (eqb y x) (λ t. rw t (ap f (eqb-true y x t) ∙ e)) (λ t. rw t)

module _ (accepted draws : ℕ) (known : ℕ → Bool) (cpus : ℕ → Cpu) (threads : ℕ → Thread) where
  abbrev returned : Step
  returned = obeys (turning accepted draws known cpus threads) (schedule 0 5)

  obeyed : accepted < 4294967295 → step (turning accepted draws known cpus threads) returns ≡ returned
  unfolding computed returns
  obeyed h = rw (lt-ltb accepted 4294967295 h)

  logged : returned.log 0 ≡ a_put (into 2 part.Timeshare 4 4 4) ∷ a_take false (Some 2) ∷ []
  unfolding computed
  logged = refl

  turned : returned.state ≡ turning (accepted + 1) draws known returned.state.cpus returned.state.threads
  unfolding computed
  turned = λ i. record {
    limits = base_limits;
    topology = alone;
    sealed = true;
    tick = 0;
    accepted = accepted + 1;
    known = known;
    cpus = λ y. at_same returned.state.cpus 0 (cpu_then draws) refl y i;
    threads = λ y. at_same returned.state.threads 2 thread_then refl y i;
  }

served_rounds : (n accepted draws : ℕ) (known : ℕ → Bool) (cpus : ℕ → Cpu) (threads : ℕ → Thread) → accepted + n ≤ 4294967295
    → served (history (turning accepted draws known cpus threads) (rounds n) 0) ≡ n
unfolding history rounds served counts
served_rounds zero accepted draws known cpus threads h = refl
served_rounds (suc n) accepted draws known cpus threads h =
    rw (obeyed accepted draws known cpus threads (omega arith), logged accepted draws known cpus threads, turned accepted draws known cpus threads)
    (rw (served_rounds n (accepted + 1) draws known _ _ (omega arith)) (omega arith))

turns_first : let s : State = after_calls (start base_limits) first in s ≡ turning 25 3502118652 s.known s.cpus s.threads
unfolding computed one_cpu comes ticks blocks returns first
turns_first =
    let s : State = after_calls (start base_limits) first in
    λ i. record {
      limits = base_limits;
      topology = alone;
      sealed = true;
      tick = 0;
      accepted = 25;
      known = s.known;
      cpus = λ y. at_same s.cpus 0 (cpu_then 3502118652) refl y i;
      threads = λ y. at_same s.threads 2 thread_then refl y i;
    }

-- ---- SO MANY TAKES AS THE BOUND COUNTS, and the bound applied

-- so long as no call is refused by question 10
pub takes : (n : ℕ) → n ≤ 4294967270 → served (since n) ≡ 6 + n
unfolding served counts
takes n h = rw (turns_first, served_rounds n 25 3502118652 _ _ _ (omega arith)) (omega arith)

-- Thread 0 is gone once 8,192 takes have handed out a thread, by the theorem on the memory of Witness.
pub left_within : gone 0 (since 8186) ≡ true
left_within =
    demand_3_bound begun ready (calls 8186) 0 (omega arith) before (since 8186) [] put_0 (log_is 8186) refl (provided 8186)
    (unfold served counts in rw (turns_first, served_rounds 8186 25 3502118652 _ _ _ (omega arith)) (omega arith))
