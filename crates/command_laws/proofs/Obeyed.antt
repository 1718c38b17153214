-- A COMMAND THAT IS OBEYED, any of the table: memory and answer are those of the rules.
use Rattle.std.specs.Prelude.{ℕ, ◌≡◌, refl, List}
use Rattle.rules.specs.Puts.{PutOrTake}
use Rattle.rules.specs.State as rules
use Rattle.rules.specs.Requests.{Request, declare_cpu, add_node, place_cpu, seal, set_shortest, declare_thread, set_tick, schedule_thread, schedule, hardtick, stattick, resched, maybe_preempt, donate, remove_donation, set_critical, asks}
use Rattle.rules.specs.Questions.{refusal}
use Rattle.rules.specs.Commands.{obeys}
use Rattle.thread.specs.declared.Thread.{Thread}
use Rattle.lines.specs.Lines.{refusal_number}
use Rattle.questions.specs.declared.state.State.{State}
use Rattle.outcome.specs.declared.numbers.Call.{Call}
use Rattle.outcome.specs.Answer.{nothing_shown, shown, changed, ran}
use Rattle.outcome.specs.Numbers.{prepared_by}
use Rattle.command.specs.Command.{declare_thread_command, schedule_thread_command, schedule_command, hardtick_command, stattick_command, resched_command, maybe_preempt_command, donate_command, remove_donation_command, set_critical_command, obey_def}
use Rattle.represents.specs.State.{StateRep}
use Rattle.command_laws.specs.Law.{Reachable, AsRuled}
use Rattle.command_laws.proofs.Plain.{plain_declare_cpu, plain_add_node, plain_place_cpu, plain_seal, plain_set_shortest, plain_declare_thread, plain_set_tick, plain_remove_donation, plain_set_critical}
use Rattle.command_laws.proofs.Ran.{ran_schedule_thread, ran_schedule, ran_hardtick, ran_stattick, ran_resched, ran_maybe_preempt, ran_donate}
use Rattle.command_laws.specs.Law.{lent}
use Rattle.command_laws.specs.Obeyed.{Obeyed}

pub obey_law : {H : ℕ → List PutOrTake} {ts : List Thread} {cs ns : List (List ℕ)} {a : State} {s : rules.State} → StateRep ts cs ns a s → Reachable H s
    → (r : Request) (used : ℕ) → refusal s (asks r used) ≡ 0 → AsRuled (obey_def a r used (lent ts cs ns)) (obeys s r)
unfolding obey_def
obey_law m h (declare_cpu c) used e = plain_declare_cpu m h c used e
obey_law m h (add_node p k) used e = plain_add_node m h p k used e
obey_law m h (place_cpu n c) used e = plain_place_cpu m h n c used e
obey_law m h seal used e = plain_seal m h used e
obey_law m h (set_shortest n) used e = plain_set_shortest m h n used e
obey_law m h (declare_thread x k v pin) used e = plain_declare_thread m h x k v pin used e
obey_law m h (set_tick t) used e = plain_set_tick m h t used e
obey_law m h (schedule_thread c x) used e = ran_schedule_thread m h c x used e
obey_law m h (schedule c flags) used e = ran_schedule m h c flags used e
obey_law m h (hardtick c) used e = ran_hardtick m h c used e
obey_law m h (stattick c n) used e = ran_stattick m h c n used e
obey_law m h (resched c) used e = ran_resched m h c used e
obey_law m h (maybe_preempt c) used e = ran_maybe_preempt m h c used e
obey_law m h (donate c x k v) used e = ran_donate m h c x k v used e
obey_law m h (remove_donation x) used e = plain_remove_donation m h x used e
obey_law m h (set_critical x k) used e = plain_set_critical m h x k used e

pub obey_obeyed : (ts : List Thread) (cs ns : List (List ℕ)) (a : State) (r : Request) (n : ℕ) → Obeyed n (obey_def a r n (lent ts cs ns))
unfolding obey_def declare_thread_command schedule_thread_command schedule_command hardtick_command stattick_command resched_command maybe_preempt_command donate_command remove_donation_command set_critical_command changed ran nothing_shown shown refusal_number
obey_obeyed ts cs ns a (declare_cpu c) n = record { number = refl; used = refl }
obey_obeyed ts cs ns a (add_node p k) n = record { number = refl; used = refl }
obey_obeyed ts cs ns a (place_cpu i c) n = record { number = refl; used = refl }
obey_obeyed ts cs ns a seal n = record { number = refl; used = refl }
obey_obeyed ts cs ns a (set_shortest k) n = record { number = refl; used = refl }
obey_obeyed ts cs ns a (declare_thread x k v pin) n = record { number = refl; used = refl }
obey_obeyed ts cs ns a (set_tick t) n = record { number = refl; used = refl }
obey_obeyed ts cs ns a (schedule_thread c x) n = record { number = refl; used = refl }
obey_obeyed ts cs ns a (schedule c flags) n = record { number = refl; used = refl }
obey_obeyed ts cs ns a (hardtick c) n = record { number = refl; used = refl }
obey_obeyed ts cs ns a (stattick c k) n = record { number = refl; used = refl }
obey_obeyed ts cs ns a (resched c) n = record { number = refl; used = refl }
obey_obeyed ts cs ns a (maybe_preempt c) n = record { number = refl; used = refl }
obey_obeyed ts cs ns a (donate c x k v) n = record { number = refl; used = refl }
obey_obeyed ts cs ns a (remove_donation x) n = record { number = refl; used = refl }
obey_obeyed ts cs ns a (set_critical x k) n = record { number = refl; used = refl }

-- so are the numbers of a command before the seal
pub prepares_obeyed : (ts : List Thread) (cs ns : List (List ℕ)) (a : State) (k : Call) → Obeyed k.used (obey_def a (prepared_by k) k.used (lent ts cs ns))
prepares_obeyed ts cs ns a k = obey_obeyed ts cs ns a (prepared_by k) k.used
