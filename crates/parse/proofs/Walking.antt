-- How many bytes at the front of a text pass a test: before a comment, blanks, a word.
use Prim.Native.Nat.{ℕ, ◌≤◌}
use mathlib.Core.Path.{◌≡◌, refl, ap, ◌∙◌}
use mathlib.Core.Bool.{Bool, false, not}
use mathlib.Core.List.{List, [], ◌∷◌}
use lib.Dec.{eqb}
use lib.ListN.{length, take}
use native.Mathlib.Omega.{arith}
use Rattle.std.specs.Borrow.{Bor}
use Rattle.std.specs.Fn.{Mut, CalledAt}
use Rattle.std.specs.List.{prefix_len}
use Rattle.std.specs.Iterator.{Drains}
use Rattle.std.specs.declared.iter.TakeWhile.{TakeWhile}
use Rattle.std.specs.Iterator.Adapters.{take_while_steps, take_while_source, take_while_callee, take_while_done}
use Rattle.std.proofs.Common.{Iter}
use Rattle.std.specs.Slice.Iter.{iter_rest}
use Rattle.std.proofs.lemmas.Fn.{fronts}
use Rattle.std.proofs.lemmas.List.Sums.{prefix_len-le-length}
use Rattle.std.proofs.lemmas.List.Folds.{length-prefix_len}
use Rattle.std.proofs.lemmas.Iterator.{YieldsList-from_slice}
use Rattle.std.proofs.lemmas.Iterator.Search.{YieldsList-from_take_while}
use Rattle.std.proofs.lemmas.Iterator.Consumers.{count_from_yields_List}
use Rattle.rules.proofs.Laws.Line.{both}
use Rattle.parse.specs.Words.{before_comment, blank, blanks, letters}

-- what `count` answers after `take_while`
module _ {F : Type 0} {g : Mut F (Bor (Bor ℕ) × Unit {0}) Bool} {s : TakeWhile (Iter ℕ) F} (test : ℕ → Bool) (l : List ℕ) (f : F) (n : ℕ) where
  pub front_count : ((xs : List (Bor ℕ)) × Drains (take_while_steps fronts g) s xs × (n ≡ length xs))
      → iter_rest (take_while_source s) ≡ l → take_while_callee s ≡ f → take_while_done s ≡ false
      → ((x : Bor ℕ) (b : Bool) (q : F) → CalledAt g f x b q → (q ≡ f) × (b ≡ test x.now)) → n ≡ prefix_len test l
  front_count ran rest callee done calls =
      count_from_yields_List s n ran (YieldsList-from_take_while g test (YieldsList-from_slice l rest) callee done calls) ∙ length-prefix_len test l

pub comment_length : (l : List ℕ) → length (before_comment l) ≡ prefix_len (λ b. not (eqb b 35)) l
unfolding before_comment
comment_length [] = refl
comment_length (b ∷ l) = both (eqb b 35) (λ e. rw e) (λ e. rw (e, comment_length l) (omega arith))

pub comment_front : (l : List ℕ) → take (length (before_comment l)) l ≡ before_comment l
unfolding before_comment
comment_front [] = refl
comment_front (b ∷ l) = both (eqb b 35) (λ e. rw e) (λ e. rw e (ap (λ (m : List ℕ). b ∷ m) (comment_front l)))

pub blanks_length : (l : List ℕ) → blanks l ≡ prefix_len blank l
unfolding blanks
blanks_length [] = refl
blanks_length (b ∷ l) = both (blank b) (λ e. rw (e, blanks_length l) (omega arith)) (λ e. rw e)

pub letters_length : (l : List ℕ) → letters l ≡ prefix_len (λ b. not (blank b)) l
unfolding letters
letters_length [] = refl
letters_length (b ∷ l) = both (blank b) (λ e. rw e) (λ e. rw (e, letters_length l) (omega arith))

-- ---- these are no more than there are

pub comment_within : (l : List ℕ) → length (before_comment l) ≤ length l
comment_within l = rw (comment_length l) (prefix_len-le-length (λ b. not (eqb b 35)) l)

pub blanks_within : (l : List ℕ) → blanks l ≤ length l
blanks_within l = rw (blanks_length l) (prefix_len-le-length blank l)

pub letters_within : (l : List ℕ) → letters l ≤ length l
letters_within l = rw (letters_length l) (prefix_len-le-length (λ b. not (blank b)) l)
