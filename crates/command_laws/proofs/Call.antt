-- ONE CALL, by the rules' reading of its bytes: refused or obeyed.
use Prim.Native.Nat.{ℕ, suc, ◌≤◌}
use Rattle.std.specs.Prelude.{◌≡◌, ◌≢◌, ◌<◌, false, cond, not, ◌&&◌, List, eqb, ltb, take, drop, Option, Some}
use Rattle.std.proofs.Math.Path.{refl, ap, subst}
use Rattle.std.proofs.Common.{sym, ◌∙◌, ltb-true, arith}
use borrow.Author.Tests.{eqb-true, eqb-false}
use Rattle.std.specs.Cmp.{first_so}
use Rattle.rules.proofs.Laws.Line.{both}
use Rattle.rules.proofs.Laws.Reached.{yes}
use Rattle.rules.specs.Puts.{PutOrTake}
use Rattle.rules.specs.State as rules
use Rattle.rules.specs.Requests.{Request, declare_cpu, add_node, place_cpu, seal, set_shortest, declare_thread, set_tick, schedule_thread, schedule, hardtick, stattick, resched, maybe_preempt, donate, remove_donation, set_critical, Reading, unknown, cut_short, asks, read}
use Rattle.rules.specs.Questions as rules_ask
use Rattle.rules.specs.Commands as ruled
use Rattle.rules.specs.Commands.{obeys, answered}
use Rattle.rules.specs.Lines.{used}
use Rattle.thread.specs.declared.Thread.{Thread}
use Rattle.thread.specs.Thread.{NONE}
use Rattle.request.specs.Request.{limits_of, request_of, reading_of}
use Rattle.lines.specs.declared.Refusal.{Refusal}
use Rattle.lines.specs.Lines.{question_number, refusal_number, answer_of}
use Rattle.questions.specs.declared.state.State.{State}
use Rattle.questions.specs.Questions.{refusal_in}
use Rattle.outcome.specs.Answer.{nothing_shown, refuses}
use Rattle.outcome.specs.Numbers.{request_by, call_of, call_read}
use Rattle.outcome.proofs.CallNumbers.{numbers_again}
use Rattle.outcome.specs.Call.{request_back, reading_back, refusal_back, thread_named, thread_in, named_record}
use Rattle.command.specs.Command.{obey_def, answered_def, command_def}
use Rattle.represents.specs.State.{StateRep}
use Rattle.question_laws.proofs.Refusals.{refusal_same}
use Rattle.command_laws.specs.Law.{Reachable, AsRuled}
use Rattle.command_laws.proofs.CallNumbers.{call_numbers}
use Rattle.command_laws.proofs.Numbers.{refusal_most}
use Rattle.command_laws.proofs.Obeyed.{obey_law, obey_obeyed}
-- ---- there and back: the rules' requests and the declared ones, a refusal and its number
use Rattle.command_laws.specs.Law.{lent}
use Rattle.command.specs.Lent.{Lent, kept}
use Rattle.processor.specs.Left.{Left}
use Rattle.outcome.specs.declared.answer.Answered.{Answered}

request_there : (r : Request) → request_of (request_back r) ≡ r
unfolding request_of request_back
request_there (declare_cpu c) = refl
request_there (add_node p k) = refl
request_there (place_cpu n c) = refl
request_there seal = refl
request_there (set_shortest n) = refl
request_there (declare_thread x k v p) = refl
request_there (set_tick t) = refl
request_there (schedule_thread c x) = refl
request_there (schedule c f) = refl
request_there (hardtick c) = refl
request_there (stattick c n) = refl
request_there (resched c) = refl
request_there (maybe_preempt c) = refl
request_there (donate c x k v) = refl
request_there (remove_donation x) = refl
request_there (set_critical x k) = refl

reading_there : (r : Reading) → reading_of (reading_back r) ≡ r
unfolding reading_of reading_back
reading_there unknown = refl
reading_there cut_short = refl
reading_there (asks r used) = ap (λ (q : Request). asks q used) (request_there r)

number_or : (n k : ℕ) (x y : Option Refusal) → refusal_number x ≡ k → k ≤ n → (suc k ≤ n → refusal_number y ≡ n) → refusal_number (cond (eqb n k) x y) ≡ n
number_or n k x y e l h = both (eqb n k) (λ t. rw t (e ∙ sym (eqb-true n k t))) (λ t. let q : n ≢ k = eqb-false n k t in rw t (h (omega (arith, q))))

pub number_there : (n : ℕ) → n ≤ 10 → refusal_number (refusal_back n) ≡ n
unfolding refusal_back refusal_number question_number
number_there n l =
    number_or n 0 _ _ refl (omega arith)
    (λ a. number_or n 1 _ _ refl a
    (λ b. number_or n 2 _ _ refl b
    (λ c. number_or n 3 _ _ refl c
    (λ d. number_or n 4 _ _ refl d
    (λ e. number_or n 5 _ _ refl e
    (λ f. number_or n 6 _ _ refl f
    (λ g. number_or n 7 _ _ refl g
    (λ h. number_or n 8 _ _ refl h
    (λ i. number_or n 9 _ _ refl i
    (λ j. number_or n 10 _ _ refl j (λ k. absurd (omega arith))))))))))))

-- ---- the numbers of a call

call_taken : (r : Request) (n : ℕ) → (call_of r n).used ≡ n
unfolding call_read used
call_taken r n = (call_numbers (asks r n)).0

-- ---- a call by the rules' reading of its bytes, and by the number of its refusal

module _ (ts : List Thread) (cs ns : List (List ℕ)) (a : State) where
  unfoldable pub numbered_call : Request → ℕ → ℕ → Left Answered Lent
  numbered_call r used n =
      cond (not (eqb (refusal_number (refusal_back n)) 0)) (kept (lent ts cs ns) (refuses a (refusal_back n) used)) (obey_def a r used (lent ts cs ns))

  -- bytes that are no command are refused, and none is taken
  unfoldable pub unread_call : ℕ → Left Answered Lent
  unread_call n = kept (lent ts cs ns) (refuses a (refusal_back n) 0)

  unfoldable pub read_call : Reading → Left Answered Lent
  read_call unknown = unread_call 1
  read_call cut_short = unread_call 2
  read_call (asks r used) = numbered_call r used (refusal_in cs ns a (named_record ts (thread_named r)) (asks r used))

  reading_call : (r : Reading) → answered_def a (reading_back r) (lent ts cs ns) ≡ read_call r
  unfolding answered_def read_call unread_call numbered_call reading_back reading_of thread_in refusal_in
  reading_call unknown = refl
  reading_call cut_short = refl
  reading_call (asks r used) = ap (λ (q : Request). numbered_call q used (refusal_in cs ns a (named_record ts (thread_named q)) (asks q used))) (request_there r)

  pub command_read : (bytes : List ℕ) (n at : ℕ) → command_def n at a bytes (lent ts cs ns) ≡ read_call (read (limits_of a.wide) (drop at (take n bytes)))
  unfolding command_def
  command_read bytes n at = reading_call (read (limits_of a.wide) (drop at (take n bytes)))

  numbered_used : (r : Request) (k n : ℕ) → (numbered_call r k n).answer.used ≡ k
  unfolding numbered_call refuses
  numbered_used r k n = both (eqb (refusal_number (refusal_back n)) 0) (λ t. rw t (obey_obeyed ts cs ns a r k).used) (λ t. rw t)

  pub read_used : (r : Reading) → (read_call r).answer.used ≡ used r
  unfolding read_call unread_call refuses used
  read_used unknown = refl
  read_used cut_short = refl
  read_used (asks r k) = numbered_used r k _

  numbered_refused : (r : Request) (k n : ℕ) → refusal_number (numbered_call r k n).answer.answer.refusal ≢ 0
      → ((numbered_call r k n).memory.threads ≡ ts) × ((numbered_call r k n).memory.cpus ≡ cs) × ((numbered_call r k n).memory.nodes ≡ ns) × ((numbered_call r k n).answer.state ≡ a)
  unfolding numbered_call refuses
  numbered_refused r k n h =
      both (eqb (refusal_number (refusal_back n)) 0) (λ t. absurd (h (rw t (obey_obeyed ts cs ns a r k).number))) (λ t. rw t (refl, refl, refl, refl))

  pub read_refused : (r : Reading) → refusal_number (read_call r).answer.answer.refusal ≢ 0
      → ((read_call r).memory.threads ≡ ts) × ((read_call r).memory.cpus ≡ cs) × ((read_call r).memory.nodes ≡ ns) × ((read_call r).answer.state ≡ a)
  unfolding read_call unread_call refuses
  read_refused unknown h = (refl, refl, refl, refl)
  read_refused cut_short h = (refl, refl, refl, refl)
  read_refused (asks r k) h = numbered_refused r k _ h

module _ {H : ℕ → List PutOrTake} {ts : List Thread} {cs ns : List (List ℕ)} {a : State} {s : rules.State} (m : StateRep ts cs ns a s) (h : Reachable H s) where
  refused_law : (r : Request) (used n : ℕ) → n ≤ 10 → eqb n 0 ≡ false → AsRuled (numbered_call ts cs ns a r used n) (ruled.refuses s n)
  unfolding numbered_call refuses nothing_shown ruled.refuses ruled.nothing_shown answer_of
  refused_law r used n l e = rw (number_there n l, e) (record { stands = m; answer = ap ruled.nothing_shown (number_there n l) })

  unread_law : (n : ℕ) → n ≤ 10 → AsRuled (unread_call ts cs ns a n) (ruled.refuses s n)
  unfolding unread_call refuses nothing_shown ruled.refuses ruled.nothing_shown answer_of
  unread_law n l = record { stands = m; answer = ap ruled.nothing_shown (number_there n l) }

  obeyed_law : (r : Request) (used : ℕ) → rules_ask.refusal s (asks r used) ≡ 0 → AsRuled (numbered_call ts cs ns a r used 0) (obeys s r)
  unfolding numbered_call refusal_back refusal_number
  obeyed_law r used e = obey_law m h r used e

  asked_law : (r : Request) (used : ℕ) → AsRuled (numbered_call ts cs ns a r used (rules_ask.refusal s (asks r used))) (answered s (asks r used))
  unfolding answered
  asked_law r used =
      let n : ℕ = rules_ask.refusal s (asks r used) in
      both (eqb n 0)
      (λ t. let z : n ≡ 0 = eqb-true n 0 t in
      subst (λ (k : ℕ). AsRuled (numbered_call ts cs ns a r used k) (cond (eqb k 0) (obeys s r) (ruled.refuses s k))) (sym z) (obeyed_law r used z))
      (λ t. rw t (refused_law r used n (refusal_most s (asks r used)) t))

  pub read_law : (r : Reading) → AsRuled (read_call ts cs ns a r) (answered s r)
  unfolding read_call answered thread_in
  read_law unknown = unread_law 1 (omega arith)
  read_law cut_short = unread_law 2 (omega arith)
  read_law (asks r used) =
      subst (λ (n : ℕ). AsRuled (numbered_call ts cs ns a r used n) (answered s (asks r used))) (sym (refusal_same m h.reached (asks r used))) (asked_law r used)

  -- a pin that is declared is not the number for none
  pin_fits : (x k v used : ℕ) → rules_ask.refusal s (asks (declare_thread x k v (Some NONE)) used) ≢ 0
  unfolding rules_ask.refusal rules_ask.concerning rules_ask.sealed_now rules_ask.pin_declared rules_ask.cpu_declared rules_ask.declared
  pin_fits x k v used e =
      let y = yes 3 (ltb NONE s.limits.cpus && s.topology.declared NONE) _ (yes 2 _ _ e).1 in
      let near : NONE < s.limits.cpus = ltb-true _ _ (first_so (ltb NONE s.limits.cpus) (s.topology.declared NONE) y.0) in
      omega (arith, near, m.small.cpus)

  -- the numbers of a request that is obeyed ask it again
  obeyed_again : (r : Request) (used : ℕ) → rules_ask.refusal s (asks r used) ≡ 0 → request_by (call_of r used) ≡ r
  obeyed_again r used e =
      numbers_again r used (λ x k v q. pin_fits x k v used (subst (λ (o : Request). rules_ask.refusal s (asks o used) ≡ 0) q e))

  asked_numbers : (r : Request) (used : ℕ)
      → AsRuled (numbered_call ts cs ns a (request_by (call_of r used)) (call_of r used).used (rules_ask.refusal s (asks r used))) (answered s (asks r used))
  unfolding answered
  asked_numbers r used =
      let n : ℕ = rules_ask.refusal s (asks r used) in
      subst (λ (i : ℕ). AsRuled (numbered_call ts cs ns a (request_by (call_of r used)) i n) (answered s (asks r used))) (sym (call_taken r used))
      (both (eqb n 0)
      (λ t. subst (λ (o : Request). AsRuled (numbered_call ts cs ns a o used n) (answered s (asks r used))) (sym (obeyed_again r used (eqb-true n 0 t))) (asked_law r used))
      (λ t. rw t (refused_law (request_by (call_of r used)) used n (refusal_most s (asks r used)) t)))

  -- the call by the numbers of what is read
  pub numbered_law : (r : Reading) → AsRuled (numbered_call ts cs ns a (request_by (call_read r)) (call_read r).used (rules_ask.refusal s r)) (answered s r)
  unfolding answered rules_ask.refusal call_read
  numbered_law unknown = refused_law _ 0 1 (omega arith) refl
  numbered_law cut_short = refused_law _ 0 2 (omega arith) refl
  numbered_law (asks r used) = asked_numbers r used
