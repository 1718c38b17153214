-- Writing byte after byte: one text after another, and what is left of the buffer.
use Rattle.std.specs.Prelude.{Ok, Err}
use Prim.Native.Nat.{ℕ, suc, ◌+◌, ◌-◌, ◌<◌, ◌≤◌, min}
use mathlib.Core.Path.{◌≡◌, refl, ap, sym, ◌∙◌}
use mathlib.Core.Bool.{true, false}
use mathlib.Core.List.{List, [], ◌∷◌, ◌++◌, append_assoc}
use lib.Dec.{ltb, leb}
use lib.ListN.{length, set, length-set, drop, drop_of_length-le}
use lib.Seq.{sets, set_out}
use native.Mathlib.Omega.{arith}
use native.Mathlib.Nat.{zero-min, min-zero, suc-min-suc}
use native.Mathlib.Numerals.{add-one}
use borrow.Author.Tests.{lt-ltb, le-ltb, le-leb, lt-leb, leb-true, leb-false, ltb-true, ltb-false}
use Rattle.rules.proofs.Laws.Line.{both}
use Rattle.lines.specs.declared.Refusal.TheVariants as refusal
use Rattle.lines.specs.declared.Text as lent
use Rattle.lines.specs.Text.{Text, text, write_one, write, text_of, Wrote, numbers_part}
use Rattle.rules.specs.Lines.{line_feed, end_line, end_word, space}
use Rattle.lines.specs.Lines.{room, rendered, buffer_with}

pub write_append : (t : Text) (l m : List ℕ) → write t (l ++ m) ≡ write (write t l) m
unfolding write
write_append t [] m = refl
write_append t (b ∷ l) m = write_append (write_one t b) l m

-- one byte, then a text
pub write_byte : (t : Text) (b : ℕ) (l : List ℕ) → write t (b ∷ l) ≡ write (write t (b ∷ [])) l
unfolding write
write_byte t b l = refl

-- one text, then another
pub then : (t u v : Text) (l m : List ℕ) → u ≡ write t l → v ≡ write u m → v ≡ write t (l ++ m)
then t u v l m p q = rw write_append (rw p at q)

pub wrote_then : (t u v : lent.Text) (l m : List ℕ) → Wrote t l u → Wrote u m v → Wrote t (l ++ m) v
wrote_then t u v l m p q = (then (text_of t) (text_of u) (text_of v) l m p.0 q.0, q.1 ∙ p.1)

-- the last line, of which "end " is one string
pub end_parts : (commands refused : ℕ) → 101 ∷ 110 ∷ 100 ∷ 32 ∷ (numbers_part commands refused ++ (10 ∷ [])) ≡ end_line commands refused
unfolding numbers_part end_line end_word space line_feed
end_parts commands refused = simp append_assoc refl

-- ---- one byte

pub write_there : (b : List ℕ) (at x : ℕ) → at < length b → text (set b at x) (at + 1) ≡ write (text b at) (x ∷ [])
unfolding write write_one
write_there b at x h = rw (lt-ltb at (length b) h)

pub write_past : (b : List ℕ) (at x : ℕ) → length b ≤ at → text b at ≡ write (text b at) (x ∷ [])
unfolding write write_one
write_past b at x h = rw (le-ltb at (length b) h, set_out b at x h)

-- ---- a loop over the bytes of a string: what is left to write

pub write_next : (t u : Text) (l : List ℕ) (i x : ℕ) → u ≡ write t (x ∷ []) → drop i l ≡ x ∷ drop (suc i) l
    → write u (drop (i + 1) l) ≡ write t (drop i l)
unfolding write
write_next t u l i x p q = rw (add-one, q, p)

-- ---- what is left of the buffer

write_full : (l b : List ℕ) (at : ℕ) → length b ≤ at → write (text b at) l ≡ text b at
unfolding write write_one
write_full [] b at h = refl
write_full (x ∷ l) b at h = rw (le-ltb at (length b) h, set_out b at x h) (write_full l b at h)

sets_out : (l b : List ℕ) (at : ℕ) → length b ≤ at → sets b at l ≡ b
sets_out [] b at h = refl
sets_out (x ∷ l) b at h = rw (set_out b at x h) (sets_out l b (suc at) (omega arith))

position_step : (at k n : ℕ) → at < n → suc at + min k (n - suc at) ≡ at + min (suc k) (n - at)
position_step at k n h =
    let e : n - at ≡ suc (n - suc at) = omega arith in
    rw (e, suc-min-suc) (omega arith)

position_full : (at k n : ℕ) → n ≤ at → at ≡ at + min k (n - at)
position_full at k n h =
    let e : n - at ≡ 0 = omega arith in
    rw (e, min-zero) (omega arith)

pub write_sets : (l b : List ℕ) (at : ℕ) → write (text b at) l ≡ text (sets b at l) (at + min (length l) (length b - at))
unfolding write write_one
write_sets [] b at = ap (text b) (rw zero-min (omega arith))
write_sets (x ∷ l) b at = both (ltb at (length b))
    (λ e. rw (e, add-one, write_sets l (set b at x) (suc at), length-set) (ap (text (sets (set b at x) (suc at) l)) (position_step at (length l) (length b) (ltb-true at (length b) e))))
    (λ e. let h : length b ≤ at = ltb-false at (length b) e in
    rw (e, set_out b at x h, write_full l b at h, sets_out l b (suc at) (omega arith)) (ap (text b) (position_full at (suc (length l)) (length b) h)))

pub write_done : (t : Text) (l : List ℕ) (i : ℕ) → length l ≤ i → write t (drop i l) ≡ t
unfolding write
write_done t l i h = rw (drop_of_length-le l h)

-- ---- room for a line

pub room_left : (b : List ℕ) (at : ℕ) → leb 48 (length b - at) ≡ room b at
unfolding room
room_left b at = both (leb 48 (length b - at))
    (λ e. e ∙ sym (le-leb (at + 48) (length b) (omega (arith, leb-true 48 (length b - at) e))))
    (λ e. e ∙ sym (lt-leb (at + 48) (length b) (omega (arith, leb-false 48 (length b - at) e))))

module _ (b : List ℕ) (at : ℕ) (l b' : List ℕ) (next : ℕ) (is : text b' next ≡ write (text b at) l) where
  pub now_at : text b' next ≡ text (sets b at l) (at + min (length l) (length b - at))
  now_at = is ∙ write_sets l b at

  next_is : next ≡ at + min (length l) (length b - at)
  next_is = ap (λ (t : Text). t.at) now_at

module _ (b : List ℕ) (at : ℕ) (l : List ℕ) (fits : room b at ≡ true) (b' : List ℕ) (next : ℕ) (is : text b' next ≡ write (text b at) l) where
  pub rendered_is : Ok (next - at) ≡ rendered b at l
  unfolding rendered
  rendered_is = rw fits (ap Ok (omega (arith, next_is b at l b' next is)))

  pub buffer_is : b' ≡ buffer_with b at l
  unfolding buffer_with
  buffer_is = rw fits (ap (λ (t : Text). t.bytes) (now_at b at l b' next is))

-- refused: nothing is changed
module _ (b : List ℕ) (at : ℕ) (l : List ℕ) (small : room b at ≡ false) where
  pub refused_is : Err refusal.SmallBuffer ≡ rendered b at l
  unfolding rendered
  refused_is = rw small

  pub buffer_kept : b ≡ buffer_with b at l
  unfolding buffer_with
  buffer_kept = rw small
