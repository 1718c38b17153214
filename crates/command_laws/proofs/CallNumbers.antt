-- The numbers of a call: the thread that they name and the bytes that they take are those of what was read.
use Rattle.std.specs.Prelude.{◌≡◌, unwrap_or}
use Rattle.std.proofs.Math.Path.{refl}
use Rattle.rules.specs.Requests.{declare_cpu, add_node, place_cpu, seal, set_shortest, declare_thread, set_tick, schedule_thread, schedule, hardtick, stattick, resched, maybe_preempt, donate, remove_donation, set_critical, Reading, unknown, cut_short, asks}
use Rattle.rules.specs.Lines.{used}
use Rattle.thread.specs.Thread.{NONE}
use Rattle.outcome.specs.Numbers.{call_of, call_read}
use Rattle.outcome.specs.Call.{thread_named, thread_in}

pub call_numbers : (r : Reading) → ((call_read r).used ≡ used r) × (unwrap_or (thread_in r) NONE ≡ (call_read r).thread)
unfolding call_read call_of used thread_in thread_named
call_numbers unknown = (refl, refl)
call_numbers cut_short = (refl, refl)
call_numbers (asks (declare_cpu c) n) = (refl, refl)
call_numbers (asks (add_node p k) n) = (refl, refl)
call_numbers (asks (place_cpu i c) n) = (refl, refl)
call_numbers (asks seal n) = (refl, refl)
call_numbers (asks (set_shortest k) n) = (refl, refl)
call_numbers (asks (declare_thread x k v p) n) = (refl, refl)
call_numbers (asks (set_tick t) n) = (refl, refl)
call_numbers (asks (schedule_thread c x) n) = (refl, refl)
call_numbers (asks (schedule c f) n) = (refl, refl)
call_numbers (asks (hardtick c) n) = (refl, refl)
call_numbers (asks (stattick c i) n) = (refl, refl)
call_numbers (asks (resched c) n) = (refl, refl)
call_numbers (asks (maybe_preempt c) n) = (refl, refl)
call_numbers (asks (donate c x k v) n) = (refl, refl)
call_numbers (asks (remove_donation x) n) = (refl, refl)
call_numbers (asks (set_critical x k) n) = (refl, refl)
