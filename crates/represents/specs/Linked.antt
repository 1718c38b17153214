-- One list of threads that runs through the thread records: from the first by each one's link to the last, whose link leads nowhere; and the lists of one
-- part of a run queue.
use Rattle.std.specs.Prelude.{ℕ, ◌<◌, ◌≡◌, List, [], ◌∷◌, length, get_or}
use Rattle.rules.specs.Queue.{nr_buckets}
use Rattle.thread.specs.Thread.{NONE}
use Rattle.rules.specs.Buckets.{Buckets}
use Rattle.queue.specs.declared.lists.Lists.{Lists}

-- the links run from h through the list, and end
unfoldable pub Chain : (ℕ → ℕ) → ℕ → List ℕ → Type 0
Chain next h [] = h ≡ NONE
Chain next h (x ∷ l) = (h ≡ x) × Chain next (next x) l

-- the last of the threads from x on
unfoldable pub last : ℕ → List ℕ → ℕ
last x [] = x
last x (y ∷ l) = last y l

-- t is the last, if there is one
unfoldable pub Ends : ℕ → List ℕ → Type 0
Ends t [] = Unit {0}
Ends t (x ∷ l) = t ≡ last x l

-- from h, the first, to t, the last
pub record Linked (next : ℕ → ℕ) (h t : ℕ) (l : List ℕ) : Type 0 where
  pub runs : Chain next h l
  pub ends : Ends t l

-- each bucket is a list that runs from the code's first thread to its last
pub record ListsRep (next : ℕ → ℕ) (l : Lists) (bs : Buckets) : Type 0 where
  pub heads_full : length l.heads ≡ nr_buckets
  pub tails_full : length l.tails ≡ nr_buckets
  pub full : length bs ≡ nr_buckets
  pub linked : (i : ℕ) → i < nr_buckets → Linked next (get_or l.heads i 0) (get_or l.tails i 0) (get_or bs i [])
