-- The bound of demand 3 in the committee's own words:
-- "Every timeshare thread is gone within 8,192 of the counted takes, if so many are made, provided that nobody waits there as realtime when it comes in and
-- that, while it waits, no arrival there goes to the realtime queue or into timeshare as the current thread, and the filling and emptying buckets differ at each
-- arrival in timeshare."
-- The four provisos, and that under them the bound of AsDemanded holds; the first is not needed for it.
use Rattle.std.specs.Prelude.{ℕ, ◌≤◌, ◌≡◌, refl, ◌≢◌, Bool, true, false, not, ◌&&◌, ◌||◌, List, [], ◌∷◌, ◌++◌, eqb}
use Rattle.std.proofs.Common.{true≢false, ne_eqb}
use Rattle.rules.specs.declared.Part.{Part}
use Rattle.rules.specs.declared.Part.TheVariants as part
use Rattle.rules.proofs.Laws.Line.{both}
use Rattle.rules.specs.Queue.{Queue}
use Rattle.rules.specs.Puts.{Put, PutOrTake, a_put, a_take}
use Rattle.rules.specs.Ahead.{gone, served, calm_in, calm_while}
use Rattle.rules.specs.State.{is_number}
use Rattle.rules.specs.Demand3.{AsDemanded}
use Rattle.demands.specs.Provisos.{Arrivals, Provided}

-- ---- for the proof

calm_numbers : (current : Bool) (filling emptying bucket : ℕ) → current ≡ false → filling ≢ emptying
    → ((not current && not (eqb filling emptying)) || not (eqb bucket emptying)) ≡ true
calm_numbers true f e b c d = absurd (true≢false c)
calm_numbers false f e b c d = rw (ne_eqb f e d)

calm_part : (k : Part) (r : Put) → r.part ≡ k → r.part ≢ part.Realtime → (r.part ≡ part.Timeshare → r.current ≡ false)
    → (r.part ≡ part.Timeshare → r.insert_idx ≢ r.take_idx) → calm_in k r ≡ true
unfolding calm_in
calm_part part.Realtime r e a b c = absurd (a e)
calm_part part.Timeshare r e a b c = calm_numbers r.current r.insert_idx r.take_idx r.bucket (b e) (c e)
calm_part part.Idle r e a b c = refl

calm : (x : ℕ) (es : List PutOrTake) → Arrivals x es (λ r. r.part ≢ part.Realtime) → Arrivals x es (λ r. r.part ≡ part.Timeshare → r.current ≡ false)
    → Arrivals x es (λ r. r.part ≡ part.Timeshare → r.insert_idx ≢ r.take_idx) → calm_while x es ≡ true
unfolding calm_while Arrivals
calm x [] a b c = refl
calm x (a_put r ∷ es) a b c = rw (calm_part r.part r refl a.0 b.0 c.0, calm x es a.1 b.1 c.1)
calm x (a_take s o ∷ es) a b c = both (is_number x o) (λ e. rw e) (λ e. rw e (calm x es (rw e at a) (rw e at b) (rw e at c)))

-- THE BOUND: under the provisos the thread is gone once so many takes as the bound have handed out a thread.
pub gone_within : {bound : ℕ} {q : Queue} {log : List PutOrTake} → AsDemanded bound q log
    → (pre mid post : List PutOrTake) (p : Put) → log ≡ pre ++ (a_put p ∷ mid) ++ post → p.part ≡ part.Timeshare → Provided pre p mid
    → bound ≤ served mid → gone p.thread mid ≡ true
gone_within d pre mid post p e t k = (d.within pre mid post p e t (calm p.thread mid k.none_to_realtime k.none_current k.buckets_differ)).1
