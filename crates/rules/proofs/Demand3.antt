-- Demand 3. Document 01:
-- "After every call the queues it left hold exactly the threads that then wait by these puts and takes, in the order of being ahead; this belongs to demand 3."
-- "For one put, a is how many threads are ahead of it just after; b counts the later puts into that queue, up to the take looked at, that are ahead of it just
-- after theirs, a returning thread each time anew. The later takes that hand out a thread, own or stealing, are numbered from 1. While the thread waits, take n
-- hands it out exactly when n = a + b + 1."
-- A CPU's own take finds nothing exactly when nobody waits in its queue, a stealing one exactly when nobody unpinned does.
-- A timeshare thread is gone within 8,192 of those takes, if nobody arrives while it waits in the realtime part, as the current thread, or in timeshare while
-- the filling and emptying buckets are the same.
-- Waiting, being ahead, a, b, and what is asked of the arrivals are defined in Ahead.antt, over the puts and takes alone.
use Rattle.std.specs.Prelude.{ℕ, ◌+◌, ◌≤◌, ◌*◌, refl, true, false, List, [], ◌∷◌, ◌++◌, Some}
use Rattle.std.proofs.Common.{◌∙◌, append_assoc, arith}
use Rattle.rules.proofs.Laws.Line.{both}
use Rattle.rules.specs.Queue.{Queue, nr_buckets}
use Rattle.rules.specs.Puts.{PutOrTake, a_put, a_take}
use Rattle.rules.specs.Ahead.{gone, a_of, b_of}
use Rattle.rules.specs.State.{Limits, base_limits, start}
use Rattle.rules.specs.Commands.{after_calls, history}
use Rattle.rules.proofs.Laws.Kept.{Kept}
use Rattle.rules.proofs.Laws.Reached.{kept_calls}
use Rattle.rules.proofs.Laws.InOrder.{by_ahead}
use Rattle.rules.specs.Demand3.{AsDemanded}

-- ---- the proof

pub as_demanded : {limit : ℕ} {q : Queue} {log : List PutOrTake} → Kept limit q log → AsDemanded (limit * nr_buckets) q log
as_demanded {limit} {q} {log} k = record {
  holds = k.fits.holds;
  once = k.fits.once;
  in_order = by_ahead k.fits;
  turn = λ pre mid post p s x e.
      (k.past (pre ++ (a_put p ∷ mid) ++ (a_take s (Some x) ∷ [])) post (e ∙ rw (append_assoc (pre ++ (a_put p ∷ mid)) (a_take s (Some x) ∷ []) post))).turn pre mid p s x refl;
  waits = λ pre mid post p e. (k.past (pre ++ (a_put p ∷ mid)) post e).still pre mid p refl;
  own = λ pre post o e. (k.past (pre ++ (a_take false o ∷ [])) post (e ∙ rw (append_assoc pre (a_take false o ∷ []) post))).own pre o refl;
  stealing = λ pre post o e. (k.past (pre ++ (a_take true o ∷ [])) post (e ∙ rw (append_assoc pre (a_take true o ∷ []) post))).stealing pre o refl;
  within = λ pre mid post p e t m.
      let n : a_of pre p + b_of pre p mid + 1 ≤ limit * nr_buckets = (k.past (pre ++ (a_put p ∷ mid)) post e).within pre mid p refl t m in
      (n, λ h. both (gone p.thread mid) (λ g. g) (λ g. absurd (omega (arith, ((k.past (pre ++ (a_put p ∷ mid)) post e).still pre mid p refl).0 g))));
}

-- with any limits: the bound is the number of threads times that of buckets
pub demand_3_of : (limits : Limits) (calls : List (List ℕ)) (c : ℕ)
    → AsDemanded (limits.threads * nr_buckets) ((after_calls (start limits) calls).cpus c).queue (history (start limits) calls c)
demand_3_of limits calls c = as_demanded (kept_calls limits calls c)

-- ---- THE THEOREM: for every list of calls from the library's start, of any length, each on any bytes, and every CPU

pub demand_3 : (calls : List (List ℕ)) (c : ℕ) → AsDemanded 8192 ((after_calls (start base_limits) calls).cpus c).queue (history (start base_limits) calls c)
unfolding base_limits nr_buckets
demand_3 calls c = demand_3_of base_limits calls c
