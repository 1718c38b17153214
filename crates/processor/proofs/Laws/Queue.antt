-- Lemmas about Queue.
use Rattle.std.specs.Prelude.{◌≡◌, ℕ, ◌+◌, ◌%◌, ◌<◌, ◌≤◌, List, [], length, replicate, ◌==◌, ◌≢◌, nat_lt, slice_index, slice_index_or, refl}
use Rattle.std.proofs.Common.{eqb-true, ltb-true, ltb-false, ◌∙◌, length-set, get_or-set_same, get_or-set_other, arith, add_assoc}
use Rattle.std.proofs.lemmas.Bool.{eqb-false}
use Rattle.processor.specs.Words.{width, word, put_word}
use Rattle.processor.proofs.Laws.Words.{put_row_other}
use Rattle.std.proofs.lemmas.List.{get_or-replicate}
use Rattle.std.proofs.Math.ListN.{get_or-eq_default}
use Rattle.std.proofs.Math.Seq.{set_out}
use Rattle.rules.proofs.Laws.Line.{both}
use Rattle.queue.specs.declared.lists.Lists.{Lists}
use Rattle.runqueue.specs.declared.rq.RunQueue.{RunQueue}
use Rattle.processor.specs.Window.{load_n, place_n, length_place, load_store, load_other, place_away, load_same}
use Rattle.processor.specs.Queue.{lists_at, lists_stored_def, first_eight, last_two, built_of, queue_from, stored_from, queue_in_def, queue_into, queue_at, queue_stored}

-- ---- lists

pub record Eight (l : Lists) : Type 0 where
  pub heads_8 : length l.heads ≡ 8
  pub tails_8 : length l.tails ≡ 8

pub length_lists : (ws : List ℕ) (at : ℕ) (l : Lists) → length (lists_stored_def ws at l) ≡ length ws
unfolding lists_stored_def
length_lists ws at l = length_place _ (at + 8) l.tails 8 ∙ length_place ws at l.heads 8

lists_again : (ws : List ℕ) (at : ℕ) (l : Lists) → at + 16 ≤ length ws → Eight l → lists_at (lists_stored_def ws at l) at ≡ l
unfolding lists_at lists_stored_def
lists_again ws at l h n =
    rw (
      load_other (place_n ws at l.heads 8) (at + 8) at l.tails 8 8 (omega arith),
      load_store ws at l.heads 8 (omega arith) n.heads_8,
      load_store (place_n ws at l.heads 8) (at + 8) l.tails 8 (omega (arith, length_place ws at l.heads 8)) n.tails_8,
    )

-- reads before a store
lists_past_place : (ws : List ℕ) (at b : ℕ) (v : List ℕ) → b + 16 ≤ at → lists_at (place_n ws at v 8) b ≡ lists_at ws b
unfolding lists_at
lists_past_place ws at b v h = rw (load_other ws at b v 8 8 (omega arith), load_other ws at (b + 8) v 8 8 (omega arith))

lists_past_lists : (ws : List ℕ) (at b : ℕ) (l : Lists) → b + 16 ≤ at → lists_at (lists_stored_def ws at l) b ≡ lists_at ws b
unfolding lists_stored_def
lists_past_lists ws at b l h = lists_past_place (place_n ws at l.heads 8) (at + 8) b l.tails (omega arith) ∙ lists_past_place ws at b l.heads h

load_past_lists : (ws : List ℕ) (at b : ℕ) (l : Lists) → b + 8 ≤ at → load_n (lists_stored_def ws at l) b 8 8 ≡ load_n ws b 8 8
unfolding lists_stored_def
load_past_lists ws at b l h = load_other (place_n ws at l.heads 8) (at + 8) b l.tails 8 8 (omega arith) ∙ load_other ws at b l.heads 8 8 h

-- ---- the queue

module _ (ws : List ℕ) (at : ℕ) (q : RunQueue) (room : at + 72 ≤ length ws) (na : Eight q.realtime.queues) (nc : length q.timeshare.priorities ≡ 8)
    (nd : Eight q.timeshare.queues) (nf : Eight q.idle.queues) where
  abbrev w1 : List ℕ
  w1 = lists_stored_def ws at q.realtime.queues

  abbrev w2 : List ℕ
  w2 = place_n w1 (at + 16) q.timeshare.priorities 8

  abbrev w3 : List ℕ
  w3 = lists_stored_def w2 (at + 24) q.timeshare.queues

  abbrev w4 : List ℕ
  w4 = lists_stored_def w3 (at + 40) q.idle.queues

  abbrev w5 : List ℕ
  w5 = place_n w4 (at + 56) (first_eight q) 8

  l1 : length w1 ≡ length ws
  l1 = length_lists ws at q.realtime.queues

  l2 : length w2 ≡ length ws
  l2 = length_place w1 (at + 16) q.timeshare.priorities 8 ∙ l1

  l3 : length w3 ≡ length ws
  l3 = length_lists w2 (at + 24) q.timeshare.queues ∙ l2

  l4 : length w4 ≡ length ws
  l4 = length_lists w3 (at + 40) q.idle.queues ∙ l3

  l5 : length w5 ≡ length ws
  l5 = length_place w4 (at + 56) (first_eight q) 8 ∙ l4

  -- a list read back: the stores behind it, then its own
  rt : load_n (place_n w5 (at + 64) (last_two q) 8) (at + 64) 8 8 ≡ last_two q
  rt = load_store w5 (at + 64) (last_two q) 8 (omega (arith, l5)) (unfold last_two in refl)

  rs : load_n (place_n w5 (at + 64) (last_two q) 8) (at + 56) 8 8 ≡ first_eight q
  rs = load_other w5 (at + 64) (at + 56) (last_two q) 8 8 (omega arith) ∙ load_store w4 (at + 56) (first_eight q) 8 (omega (arith, l4)) (unfold first_eight in refl)

  rf : lists_at (place_n w5 (at + 64) (last_two q) 8) (at + 40) ≡ q.idle.queues
  rf = lists_past_place w5 (at + 64) (at + 40) (last_two q) (omega arith) ∙ lists_past_place w4 (at + 56) (at + 40) (first_eight q) (omega arith)
      ∙ lists_again w3 (at + 40) q.idle.queues (omega (arith, l3)) nf

  rd : lists_at (place_n w5 (at + 64) (last_two q) 8) (at + 24) ≡ q.timeshare.queues
  rd = lists_past_place w5 (at + 64) (at + 24) (last_two q) (omega arith) ∙ lists_past_place w4 (at + 56) (at + 24) (first_eight q) (omega arith)
      ∙ lists_past_lists w3 (at + 40) (at + 24) q.idle.queues (omega arith) ∙ lists_again w2 (at + 24) q.timeshare.queues (omega (arith, l2)) nd

  rc : load_n (place_n w5 (at + 64) (last_two q) 8) (at + 16) 8 8 ≡ q.timeshare.priorities
  rc = load_other w5 (at + 64) (at + 16) (last_two q) 8 8 (omega arith) ∙ load_other w4 (at + 56) (at + 16) (first_eight q) 8 8 (omega arith)
      ∙ load_past_lists w3 (at + 40) (at + 16) q.idle.queues (omega arith) ∙ load_past_lists w2 (at + 24) (at + 16) q.timeshare.queues (omega arith)
      ∙ load_store w1 (at + 16) q.timeshare.priorities 8 (omega (arith, l1)) nc

  ra : lists_at (place_n w5 (at + 64) (last_two q) 8) at ≡ q.realtime.queues
  ra = lists_past_place w5 (at + 64) at (last_two q) (omega arith) ∙ lists_past_place w4 (at + 56) at (first_eight q) (omega arith)
      ∙ lists_past_lists w3 (at + 40) at q.idle.queues (omega arith) ∙ lists_past_lists w2 (at + 24) at q.timeshare.queues (omega arith)
      ∙ lists_past_place w1 (at + 16) at q.timeshare.priorities (omega arith) ∙ lists_again ws at q.realtime.queues (omega arith) na

  -- A LOAD AFTER A STORE
  pub queue_again : queue_from (stored_from ws at q) at ≡ q
  unfolding queue_from stored_from built_of
  queue_again = rw (ra, rc, rd, rf, rs, rt) (unfold first_eight last_two in refl)

-- ---- other words

-- a store changes the 72 words from at on, and no other
stored_away : (ws : List ℕ) (at : ℕ) (q : RunQueue) (i : ℕ) → ((j : ℕ) → j < 72 → i ≢ at + j) → slice_index (stored_from ws at q) i ≡ slice_index ws i
unfolding stored_from lists_stored_def
stored_away ws at q i h =
    place_away _ (at + 64) (last_two q) 8 i (λ j l e. h (64 + j) (omega arith) (omega arith))
    ∙ place_away _ (at + 56) (first_eight q) 8 i (λ j l e. h (56 + j) (omega arith) (omega arith))
    ∙ place_away _ (at + 40 + 8) q.idle.queues.tails 8 i (λ j l e. h (48 + j) (omega arith) (omega arith))
    ∙ place_away _ (at + 40) q.idle.queues.heads 8 i (λ j l e. h (40 + j) (omega arith) (omega arith))
    ∙ place_away _ (at + 24 + 8) q.timeshare.queues.tails 8 i (λ j l e. h (32 + j) (omega arith) (omega arith))
    ∙ place_away _ (at + 24) q.timeshare.queues.heads 8 i (λ j l e. h (24 + j) (omega arith) (omega arith))
    ∙ place_away _ (at + 16) q.timeshare.priorities 8 i (λ j l e. h (16 + j) (omega arith) (omega arith))
    ∙ place_away _ (at + 8) q.realtime.queues.tails 8 i (λ j l e. h (8 + j) (omega arith) (omega arith))
    ∙ place_away ws at q.realtime.queues.heads 8 i (λ j l e. h j (omega arith) e)

-- what a load reads are the 72 words from b on
pub queue_same : (ws vs : List ℕ) (b : ℕ) → ((j : ℕ) → j < 72 → slice_index vs (b + j) ≡ slice_index ws (b + j)) → queue_from vs b ≡ queue_from ws b
unfolding queue_from lists_at
queue_same ws vs b h =
    let k : (o : ℕ) → o + 8 ≤ 72 → load_n vs (b + o) 8 8 ≡ load_n ws (b + o) 8 8 = λ o l. load_same ws vs (b + o) 8 (λ j m. rw (add_assoc b o j) (h (o + j) (omega arith))) in
    rw (
      load_same ws vs b 8 (λ j m. h j (omega arith)),
      k 8 (omega arith),
      k 16 (omega arith),
      k 56 (omega arith),
      k 64 (omega arith),
      load_same ws vs (b + 24) 8 (λ j m. rw (add_assoc b 24 j) (h (24 + j) (omega arith))),
      load_same ws vs (b + 24 + 8) 8 (λ j m. rw (add_assoc (b + 24) 8 j, add_assoc b 24 (8 + j)) (h (24 + (8 + j)) (omega arith))),
      load_same ws vs (b + 40) 8 (λ j m. rw (add_assoc b 40 j) (h (40 + j) (omega arith))),
      load_same ws vs (b + 40 + 8) 8 (λ j m. rw (add_assoc (b + 40) 8 j, add_assoc b 40 (8 + j)) (h (40 + (8 + j)) (omega arith))),
    )

length_stored : (ws : List ℕ) (at : ℕ) (q : RunQueue) → length (stored_from ws at q) ≡ length ws
unfolding stored_from
length_stored ws at q =
    length_place _ (at + 64) (last_two q) 8 ∙ length_place _ (at + 56) (first_eight q) 8 ∙ length_lists _ (at + 40) q.idle.queues
    ∙ length_lists _ (at + 24) q.timeshare.queues ∙ length_place _ (at + 16) q.timeshare.priorities 8 ∙ length_lists ws at q.realtime.queues

-- ---- laws

-- the arrays of a run queue have eight elements each
pub record Eights (q : RunQueue) : Type 0 where
  pub realtime_8 : Eight q.realtime.queues
  pub priorities_8 : length q.timeshare.priorities ≡ 8
  pub timeshare_8 : Eight q.timeshare.queues
  pub idle_8 : Eight q.idle.queues

pub no_row : queue_in_def (replicate 96 0) ≡ queue_in_def []
unfolding queue_in_def
no_row = queue_same [] (replicate 96 0) 0 (λ j h. get_or-replicate 96 (0 + j) 0 0 (omega arith))

pub stored_out : (cs : List (List ℕ)) (c : ℕ) (q : RunQueue) → length cs ≤ c → queue_stored cs c q ≡ cs
unfolding queue_stored
stored_out cs c q h = set_out cs c _ h

pub queue_out : (cs : List (List ℕ)) (c : ℕ) → length cs ≤ c → queue_at cs c ≡ queue_in_def []
unfolding queue_at
queue_out cs c h = rw (get_or-eq_default cs [] {n = c} h)

-- a load after a store
pub queue_after_store : (cs : List (List ℕ)) (c : ℕ) (q : RunQueue) → c < length cs → 72 ≤ length (slice_index_or cs c []) → Eights q → queue_at (queue_stored cs c q) c ≡ q
unfolding queue_at queue_stored queue_in_def queue_into
queue_after_store cs c q h r e =
    rw (get_or-set_same cs c (stored_from (slice_index_or cs c []) 0 q) [] h) (queue_again (slice_index_or cs c []) 0 q (omega arith) e.realtime_8 e.priorities_8 e.timeshare_8 e.idle_8)

-- another CPU's words
pub queue_elsewhere : (cs : List (List ℕ)) (c d : ℕ) (q : RunQueue) → (d ≢ c) → slice_index_or (queue_stored cs c q) d [] ≡ slice_index_or cs d []
unfolding queue_stored
queue_elsewhere cs c d q n = get_or-set_other cs c d (queue_into (slice_index_or cs c []) q) [] n

-- a word that is none of the queue's
pub word_after_store : (cs : List (List ℕ)) (c d : ℕ) (q : RunQueue) (w : ℕ) → 72 ≤ w % width → word (queue_stored cs c q) d w ≡ word cs d w
unfolding word queue_stored queue_into
word_after_store cs c d q w h =
    both (d == c)
    (λ e. both (nat_lt c (length cs))
    (λ l. rw (eqb-true d c e, get_or-set_same cs c (stored_from (slice_index_or cs c []) 0 q) [] (ltb-true _ _ l)) (stored_away (slice_index_or cs c []) 0 q (w % width) (λ j k r. omega arith)))
    (λ l. rw (set_out cs c (stored_from (slice_index_or cs c []) 0 q) (ltb-false _ _ l))))
    (λ e. rw (get_or-set_other cs c d (stored_from (slice_index_or cs c []) 0 q) [] (eqb-false d c e)))

-- a load after a store of a word that is none of the queue's
pub queue_after_put : (cs : List (List ℕ)) (c d w v : ℕ) → 72 ≤ w % width → queue_at (put_word cs c w v) d ≡ queue_at cs d
unfolding queue_at queue_in_def
queue_after_put cs c d w v h =
    queue_same (slice_index_or cs d []) (slice_index_or (put_word cs c w v) d []) 0
    (λ j l. put_row_other cs c d w (0 + j) v (λ e. omega arith))

-- rows keep their lengths
pub row_length_store : (cs : List (List ℕ)) (c d : ℕ) (q : RunQueue) → length (slice_index_or (queue_stored cs c q) d []) ≡ length (slice_index_or cs d [])
unfolding queue_stored queue_into
row_length_store cs c d q =
    both (d == c)
    (λ e. both (nat_lt c (length cs))
    (λ l. rw (eqb-true d c e, get_or-set_same cs c (stored_from (slice_index_or cs c []) 0 q) [] (ltb-true _ _ l)) (length_stored (slice_index_or cs c []) 0 q))
    (λ l. rw (set_out cs c (stored_from (slice_index_or cs c []) 0 q) (ltb-false _ _ l))))
    (λ e. rw (get_or-set_other cs c d (stored_from (slice_index_or cs c []) 0 q) [] (eqb-false d c e)))

pub length_store : (cs : List (List ℕ)) (c : ℕ) (q : RunQueue) → length (queue_stored cs c q) ≡ length cs
unfolding queue_stored
length_store cs c q = length-set cs c (queue_into (slice_index_or cs c []) q)
