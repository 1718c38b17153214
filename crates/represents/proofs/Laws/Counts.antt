-- Counts: how many of a line have a mark, and the code's sums, which go round, on numbers that stay small.
use Rattle.std.specs.Prelude.{ℕ, suc, ◌+◌, ◌/◌, ◌≤◌, ◌<◌, ◌≡◌, refl, Bool, true, false, cond, not, List, [], ◌∷◌, ◌++◌, length, eqb}
use Rattle.std.proofs.Common.{◌∙◌, eq-eqb, arith}
use Rattle.rules.specs.Line.{has, count}
use Rattle.rules.proofs.Laws.Line.{both, Comes}
use Rattle.rules.specs.Queue.{width, movable}
use Rattle.thread.specs.Thread.{NONE}
use Rattle.queue.specs.Num.{sum, difference}
use Rattle.queue.specs.Timeshare.{less_one_def}
use Rattle.represents.specs.Queue.{tally}

-- one more, one less: on numbers that stay small nothing wraps
pub up_one : (x : ℕ) → x < NONE → sum x 1 ≡ suc x
unfolding sum
up_one x h = omega arith

pub down_one : (x : ℕ) → x < NONE → difference (suc x) 1 ≡ x
unfolding difference
down_one x h = omega arith

pub less_one : (x : ℕ) → less_one_def (1 + x) ≡ x
unfolding less_one_def
less_one x = omega arith

movable_insert : (pinned : ℕ → Bool) (y : ℕ) (f b : List ℕ) → movable pinned (f ++ y ∷ b) ≡ count (not (pinned y)) + movable pinned (f ++ b)
unfolding movable
movable_insert pinned y [] b = refl
movable_insert pinned y (x ∷ f) b = rw (movable_insert pinned y f b) (omega arith)

pub movable_comes : (pinned : ℕ → Bool) {y : ℕ} {l m : List ℕ} → Comes y l m → movable pinned m ≡ count (not (pinned y)) + movable pinned l
movable_comes pinned {y} c = rw (c.before, c.after) (movable_insert pinned y c.front c.back)

tally_insert : (value : ℕ → ℕ) (k y : ℕ) (f b : List ℕ) → tally value k (f ++ y ∷ b) ≡ count (eqb (value y / width) k) + tally value k (f ++ b)
unfolding tally
tally_insert value k y [] b = refl
tally_insert value k y (x ∷ f) b = rw (tally_insert value k y f b) (omega arith)

pub tally_comes : (value : ℕ → ℕ) (k : ℕ) {y : ℕ} {l m : List ℕ} → Comes y l m → tally value k m ≡ count (eqb (value y / width) k) + tally value k l
tally_comes value k {y} c = rw (c.before, c.after) (tally_insert value k y c.front c.back)

pub tally_same : (f g : ℕ → ℕ) (k : ℕ) (l : List ℕ) → ((x : ℕ) → has x l ≡ true → g x ≡ f x) → tally g k l ≡ tally f k l
unfolding tally has
tally_same f g k [] h = refl
tally_same f g k (x ∷ l) h =
    rw (h x (rw (eq-eqb x x refl)), tally_same f g k l (λ z e. h z (rw e (both (eqb x z) (λ p. rw p) (λ p. rw p)))))

pub tally_most : (value : ℕ → ℕ) (k : ℕ) (l : List ℕ) → tally value k l ≤ length l
unfolding tally
tally_most value k [] = omega arith
tally_most value k (x ∷ l) = both (eqb (value x / width) k) (λ e. rw e (omega (arith, tally_most value k l))) (λ e. rw e (omega (arith, tally_most value k l)))

pub movable_most : (pinned : ℕ → Bool) (l : List ℕ) → movable pinned l ≤ length l
unfolding movable
movable_most pinned [] = omega arith
movable_most pinned (x ∷ l) = both (pinned x) (λ e. rw e (omega (arith, movable_most pinned l))) (λ e. rw e (omega (arith, movable_most pinned l)))

-- the movable count, up and down
pub moved_up : (pinned : Bool) (x y : ℕ) → x < NONE → y ≡ count (not pinned) + x → cond pinned x (sum x 1) ≡ y
moved_up true x y h e = omega arith
moved_up false x y h e = up_one x h ∙ omega arith

pub moved_down : (pinned : Bool) (x y : ℕ) → y < NONE → x ≡ count (not pinned) + y → cond pinned x (difference x 1) ≡ y
moved_down true x y h e = omega arith
moved_down false x y h e = let f : x ≡ suc y = omega arith in rw f (down_one y h)
