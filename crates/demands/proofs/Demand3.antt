-- DEMAND 3, of what the calls leave in the lent memory.
-- "For every list of commands, obeyed and refused, from the library's start, in every CPU's queue and whatever arrivals, loads and ticks the commands bring: a
-- thread put in behind a others, with b put ahead of it while it waits, leaves at exactly the take numbered a + b + 1, counting that queue's later takes that hand
-- out a thread; if fewer are made, it still waits. A CPU's take from its own queue finds nothing exactly when nobody waits there. Every timeshare thread is gone
-- within 8,192 of the counted takes, if so many are made, provided that nobody waits there as realtime when it comes in and that, while it waits, no arrival there
-- goes to the realtime queue or into timeshare as the current thread, and the filling and emptying buckets differ at each arrival in timeshare."
-- Document 01: "This document's rules, run over the bytes of the list, give the puts and takes of each CPU's queue in their order"; "After every call the
-- queues it left hold exactly the threads that then wait by these puts and takes, in the order of being ahead".
-- The calls and the queue read off the memory are defined in Calls, what is demanded of a queue and its puts and takes (AsDemanded) in the rules' Demand3,
-- waiting, being ahead, a and b in the rules' Ahead, the provisos of the bound in Provisos.
use Rattle.std.specs.Prelude.{ℕ, ◌≤◌, ◌<◌, ◌≡◌, true, List, ◌∷◌, ◌++◌}
use Rattle.std.proofs.Common.{sym, subst}
use Rattle.rules.specs.declared.Part.TheVariants as part
use Rattle.rules.specs.Queue.{Queue}
use Rattle.rules.specs.Puts.{Put, PutOrTake, a_put}
use Rattle.rules.specs.Ahead.{gone, served}
use Rattle.rules.specs.State.{base_limits, start}
use Rattle.rules.specs.Commands.{after_calls, history}
use Rattle.rules.proofs.Laws.Reached.{limits_kept}
use Rattle.rules.proofs.Demand3 as rules
use Rattle.rules.specs.Demand3.{AsDemanded}
use Rattle.demands.specs.Calls.{LentState, Ready, after, queue_in}
use Rattle.demands.specs.Provisos.{Provided}
use Rattle.demands.proofs.Provisos.{gone_within}
use Rattle.demands.proofs.Laws.Kept.{follows_start, follows_after, queue_is}

-- THE THEOREM: h is what `start` left when it answered Ready; for every list of calls, of any length, each on any bytes, and every CPU.
pub demand_3 : (h : LentState) → Ready h → (calls : List (List ℕ)) (c : ℕ) → c < 64 → AsDemanded 8192 (queue_in (after h calls) c) (history (start base_limits) calls c)
unfolding start
demand_3 h ready calls c near =
    let f = follows_after h (start base_limits) calls (follows_start h ready) in
    subst (λ (q : Queue). AsDemanded 8192 q (history (start base_limits) calls c))
    (sym (queue_is (after h calls) (after_calls (start base_limits) calls) (limits_kept (start base_limits) calls) f.stood c near)) (rules.demand_3 calls c)

-- The bound with the provisos as the demand words them (Provisos): a timeshare thread that was put in by p is gone once 8,192 takes after it handed out a thread.
pub demand_3_bound : (h : LentState) → Ready h → (calls : List (List ℕ)) (c : ℕ) → c < 64
    → (pre mid post : List PutOrTake) (p : Put) → history (start base_limits) calls c ≡ pre ++ (a_put p ∷ mid) ++ post
    → p.part ≡ part.Timeshare → Provided pre p mid → 8192 ≤ served mid → gone p.thread mid ≡ true
demand_3_bound h ready calls c near pre mid post p = gone_within (rules.demand_3 calls c) pre mid post p
