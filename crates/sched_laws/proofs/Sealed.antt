-- ONCE SEALED, EVERY DECLARED CPU IS ON A NODE, whatever calls are made.
use Rattle.std.specs.Prelude.{ℕ, ◌<◌, ◌≡◌, true, false, not, List, [], ◌∷◌, ◌++◌, Option, None, Some, is_some}
use Rattle.std.proofs.Common.{sym, ◌∙◌, true≢false, lt-ltb}
use Rattle.std.proofs.lemmas.Bool.{false≢true, not-true}
use Rattle.rules.specs.State.{Limits, State, start}
use Rattle.rules.specs.Schedule.{World}
use Rattle.rules.specs.Requests.{Request, declare_cpu, add_node, place_cpu, seal, set_shortest, declare_thread, set_tick, schedule_thread, schedule, hardtick, stattick, resched, maybe_preempt, donate, remove_donation, set_critical, Reading, read}
use Rattle.rules.specs.Questions.{Question, question, open_yet, placed, all_placed, declared, concerning, first_no, room}
use Rattle.rules.proofs.Seal.{question_9}
use Rattle.rules.proofs.Laws.Answered.{kept_by_answer, kept_by_calls}
use Rattle.rules.proofs.Laws.Reached.{yes}
use Rattle.rules.specs.Commands.{changed, ran, ran_on, schedules, scheduled_on, obeys, step, after_calls, answered}
use Rattle.sched_laws.specs.Sealed.{Sealed}

pub sealed_start : (limits : Limits) → Sealed (start limits)
unfolding start
sealed_start limits = record { on_node = λ e c h d. absurd (false≢true e) }

unsealed : (s : State) (l : List Question) → first_no (open_yet s ∷ l) ≡ 0 → s.sealed ≡ false
unfolding open_yet
unsealed s l e = not-true s.sealed (yes 2 (not s.sealed) l e).0

open_rest : (s : State) (l : List Question) → first_no (open_yet s ∷ l) ≡ 0 → first_no l ≡ 0
unfolding open_yet
open_rest s l e = (yes 2 (not s.sealed) l e).1

module _ (s : State) (k : Sealed s) where
  on_cpu : (us x : ℕ) (w : World) (o : Option ℕ) → Sealed (scheduled_on s us x w o).state
  unfolding scheduled_on ran
  on_cpu us x w None = record { on_node = k.on_node }
  on_cpu us x w (Some c) = record { on_node = k.on_node }

  all_on_nodes : first_no (open_yet s ∷ all_placed s ∷ room s ∷ []) ≡ 0 → (c : ℕ) → c < s.limits.cpus → s.topology.declared c ≡ true → is_some (s.topology.placed c) ≡ true
  unfolding all_placed question placed declared
  all_on_nodes e c h d = ((question_9 s).0 (yes 8 (all_placed s).answer (room s ∷ []) (open_rest s _ e)).0).1 c (rw (lt-ltb c s.limits.cpus h) d)

  goes : (r : Request) → first_no (concerning s r ++ (room s ∷ [])) ≡ 0 → Sealed (obeys s r).state
  unfolding concerning obeys changed ran_on ran schedules
  goes (declare_cpu c) e = record { on_node = λ t. absurd (true≢false (sym t ∙ unsealed s _ e)) }
  goes (add_node p n) e = record { on_node = λ t. absurd (true≢false (sym t ∙ unsealed s _ e)) }
  goes (place_cpu n c) e = record { on_node = λ t. absurd (true≢false (sym t ∙ unsealed s _ e)) }
  goes seal e = record { on_node = λ t. all_on_nodes e }
  goes (set_shortest n) e = record { on_node = λ t. absurd (true≢false (sym t ∙ unsealed s _ e)) }
  goes (declare_thread x c v p) e = record { on_node = k.on_node }
  goes (set_tick t) e = record { on_node = k.on_node }
  goes (schedule_thread c x) e = on_cpu c x _ _
  goes (schedule c f) e = record { on_node = k.on_node }
  goes (hardtick c) e = record { on_node = k.on_node }
  goes (stattick c n) e = record { on_node = k.on_node }
  goes (resched c) e = record { on_node = k.on_node }
  goes (maybe_preempt c) e = record { on_node = k.on_node }
  goes (donate c x n v) e = record { on_node = k.on_node }
  goes (remove_donation x) e = record { on_node = k.on_node }
  goes (set_critical x m) e = record { on_node = k.on_node }

  sealed_answered : (q : Reading) → Sealed (answered s q).state
  sealed_answered q = kept_by_answer Sealed s q k goes

  pub sealed_step : (bytes : List ℕ) → Sealed (step s bytes).state
  unfolding step
  sealed_step bytes = sealed_answered (read s.limits bytes)

pub sealed_calls : (s : State) (calls : List (List ℕ)) → Sealed s → Sealed (after_calls s calls)
sealed_calls s calls k = kept_by_calls Sealed (λ v bytes h. sealed_step v h bytes) s calls k
