-- Lemmas about Writer: numbers and fields as bytes, read back.
use Prim.Native.Nat.{ℕ, zero, suc, ◌+◌, ◌*◌, ◌-◌, ◌/◌, ◌%◌, ◌^◌, ◌≤◌, ◌<◌}
use Rattle.std.specs.Prelude.{◌≡◌, Bool, true, false, cond, ◌&&◌, length, take, drop, replicate, eqb, ltb, leb, Option, None, Some}
use Rattle.std.proofs.Math.Path.{refl}
use Rattle.std.proofs.Common.{sym, ap, ◌∙◌, true≢false, length-append, arith, suc-add, zero-add, eqb-true, ltb-true, lt-ltb}
use mathlib.Core.List.{List, [], ◌∷◌, ◌++◌, append_assoc}
use Rattle.std.proofs.Math.Seq.{take-add}
use Rattle.std.proofs.Math.Nat.{pow-succ', one-le-pow}
use Rattle.std.specs.Cmp.{first_so, second_so}
use Rattle.rules.specs.State.{Limits}
use Rattle.rules.specs.Requests.{Request, unknown, cut_short, asks, read_operands, operand, past, at_least, operands, nth, sum, widths, widths_or, request}
use Rattle.rules.specs.Questions.{question, first_no}
use Rattle.rules.specs.Writer.{Bytes, little_endian, field_bytes, row, bytes_of, fits, ranges, has_row, in_table, no_misfit, buffer_holds, write_refusal}
use Rattle.rules.proofs.Laws.Line.{both}

-- ---- one number

pub little_length : (n v : ℕ) → length (little_endian n v) ≡ n
unfolding little_endian
little_length zero v = refl
little_length (suc n) v = ap suc (little_length n (v / 256))

pub operand_little : (n v : ℕ) (rest : List ℕ) → v < 256 ^ n → operand n (little_endian n v ++ rest) ≡ v
unfolding operand little_endian
operand_little zero v rest h = omega arith
operand_little (suc n) v rest h =
    let k : v < 256 * 256 ^ n = rw pow-succ' at h in
    rw (operand_little n (v / 256) rest (omega arith)) (omega arith)

pub past_little : (n v : ℕ) (rest : List ℕ) → past n (little_endian n v ++ rest) ≡ rest
unfolding past little_endian
past_little zero v rest = refl
past_little (suc n) v rest = past_little n (v / 256) rest

-- ---- the fields

pub fields_length : (ns vs : List ℕ) → length (field_bytes ns vs) ≡ sum ns
unfolding field_bytes sum
fields_length [] vs = refl
fields_length (n ∷ ns) [] = rw (length-append, little_length, fields_length ns [])
fields_length (n ∷ ns) (v ∷ vs) = rw (length-append, little_length, fields_length ns vs)

pub fits_length : (ns vs : List ℕ) → fits ns vs ≡ true → length ns ≤ length vs
unfolding fits
fits_length [] vs h = omega arith
fits_length (n ∷ ns) [] h = let z : false ≡ true = h in absurd (true≢false (sym z))
fits_length (n ∷ ns) (v ∷ vs) h = omega (arith, fits_length ns vs (second_so (ltb v (256 ^ n)) (fits ns vs) h))

zeros_are : (k : ℕ) (vs : List ℕ) → length vs ≡ k → fits [] vs ≡ true → replicate k 0 ≡ vs
unfolding fits
zeros_are zero [] e h = refl
zeros_are (suc k) [] e h = absurd (omega arith)
zeros_are zero (v ∷ vs) e h = absurd (omega arith)
zeros_are (suc k) (v ∷ vs) e h =
    let p : v ≡ 0 = eqb-true v 0 (first_so (eqb v 0) (fits [] vs) h) in
    let q : replicate k 0 ≡ vs = zeros_are k vs (omega arith) (second_so (eqb v 0) (fits [] vs) h) in
    rw (p, q)

-- the operands read off, with zeros behind them, are the fields
read_with : (k : ℕ) (ns vs rest : List ℕ) → length vs ≡ length ns + k → fits ns vs ≡ true → operands ns (field_bytes ns vs ++ rest) ++ replicate k 0 ≡ vs
unfolding operands field_bytes fits
read_with k [] vs rest e h = zeros_are k vs (omega arith) h
read_with k (n ∷ ns) [] rest e h = let z : false ≡ true = h in cc
read_with k (n ∷ ns) (v ∷ vs) rest e h =
    let m : v < 256 ^ n = ltb-true v (256 ^ n) (first_so (ltb v (256 ^ n)) (fits ns vs) h) in
    let f : operands ns (field_bytes ns vs ++ rest) ++ replicate k 0 ≡ vs = read_with k ns vs rest (omega arith) (second_so (ltb v (256 ^ n)) (fits ns vs) h) in
    rw (append_assoc (little_endian n v) (field_bytes ns vs) rest, operand_little n v (field_bytes ns vs ++ rest) m, past_little n v (field_bytes ns vs ++ rest)) (ap (λ (l : List ℕ). v ∷ l) f)

pub fields_read : (ns vs rest : List ℕ) → fits ns vs ≡ true → operands ns (field_bytes ns vs ++ rest) ++ replicate (length vs - length ns) 0 ≡ vs
fields_read ns vs rest h = read_with (length vs - length ns) ns vs rest (omega (arith, fits_length ns vs h)) h

-- zeros behind a list: no operand changes
pub nth_zeros : (i k : ℕ) (vs : List ℕ) → nth i (vs ++ replicate k 0) ≡ nth i vs
unfolding nth
nth_zeros i zero [] = refl
nth_zeros zero (suc k) [] = refl
nth_zeros (suc i) (suc k) [] = nth_zeros i k []
nth_zeros zero k (v ∷ vs) = refl
nth_zeros (suc i) k (v ∷ vs) = nth_zeros i k vs

pub request_zeros : (l : Limits) (byte k : ℕ) (vs : List ℕ) → request l byte (vs ++ replicate k 0) ≡ request l byte vs
unfolding request
request_zeros l byte k vs = rw (nth_zeros 0 k vs, nth_zeros 1 k vs, nth_zeros 2 k vs, nth_zeros 3 k vs)

-- ---- bytes that were read, written again

pub little_operand : (n : ℕ) (bytes : List ℕ) → Bytes bytes → at_least n bytes ≡ true → little_endian n (operand n bytes) ≡ take n bytes
unfolding little_endian operand at_least
little_operand zero bytes h e = refl
little_operand (suc n) [] h e = let z : false ≡ true = e in cc
little_operand (suc n) (b ∷ bytes) h e =
    let k : b < 256 = h 0 in
    let low : (b + 256 * operand n bytes) % 256 ≡ b = omega arith in
    let high : (b + 256 * operand n bytes) / 256 ≡ operand n bytes = omega arith in
    rw (low, high) (ap (λ (l : List ℕ). b ∷ l) (little_operand n bytes (λ i. h (suc i)) e))

pub operand_lt : (n : ℕ) (l : List ℕ) → Bytes l → operand n l < 256 ^ n
unfolding operand
operand_lt zero l h = omega arith
operand_lt (suc n) [] h = omega (arith, one-le-pow (suc n) 256 (omega arith))
operand_lt (suc n) (b ∷ l) h = rw pow-succ' (omega (arith, h 0, operand_lt n l (λ i. h (suc i))))

bytes_past : (n : ℕ) (l : List ℕ) → Bytes l → Bytes (past n l)
unfolding past
bytes_past zero l h = h
bytes_past (suc n) [] h = λ i. h i
bytes_past (suc n) (b ∷ l) h = bytes_past n l (λ i. h (suc i))

-- so many bytes, then so many more
at_least_first : (n m : ℕ) (l : List ℕ) → at_least (n + m) l ≡ true → at_least n l ≡ true
unfolding at_least
at_least_first zero m l h = refl
at_least_first (suc n) m [] h = rw suc-add at h
at_least_first (suc n) m (b ∷ l) h = at_least_first n m l (rw suc-add at h)

at_least_then : (n m : ℕ) (l : List ℕ) → at_least (n + m) l ≡ true → at_least m (past n l) ≡ true
unfolding at_least past
at_least_then zero m l h = rw zero-add at h
at_least_then (suc n) m [] h = let z : false ≡ true = rw suc-add at h in cc
at_least_then (suc n) m (b ∷ l) h = at_least_then n m l (rw suc-add at h)

pub past_drop : (n : ℕ) (l : List ℕ) → past n l ≡ drop n l
unfolding past
past_drop zero l = refl
past_drop (suc n) [] = refl
past_drop (suc n) (b ∷ l) = past_drop n l

module _ (k : ℕ) where
  pub fields_again : (ns bytes : List ℕ) → Bytes bytes → at_least (sum ns) bytes ≡ true → field_bytes ns (operands ns bytes ++ replicate k 0) ≡ take (sum ns) bytes
  unfolding field_bytes operands sum
  fields_again [] bytes h e = refl
  fields_again (n ∷ ns) bytes h e =
      rw (little_operand n bytes h (at_least_first n (sum ns) bytes e), fields_again ns (past n bytes) (bytes_past n bytes h) (at_least_then n (sum ns) bytes e), take-add n (sum ns) bytes, past_drop n bytes)

  zeros_fit : (j : ℕ) → fits [] (replicate j 0) ≡ true
  unfolding fits
  zeros_fit zero = refl
  zeros_fit (suc j) = zeros_fit j

  pub fits_again : (ns bytes : List ℕ) → Bytes bytes → fits ns (operands ns bytes ++ replicate k 0) ≡ true
  unfolding fits operands
  fits_again [] bytes h = zeros_fit k
  fits_again (n ∷ ns) bytes h = rw (lt-ltb _ _ (operand_lt n bytes h)) (fits_again ns (past n bytes) (bytes_past n bytes h))

-- ---- three questions: what the first no says of them

unfoldable pub of_three : Bool → Bool → Bool → ℕ
of_three p q r = cond p (cond q (cond r 0 12) 6) 1

three : (p q r : Bool) → first_no (question 1 p ∷ question 6 q ∷ question 12 r ∷ []) ≡ of_three p q r
unfolding first_no question of_three
three p q r = refl

pub refusal_is : (l : Limits) (byte : ℕ) (fields : List ℕ) (room : ℕ)
    → write_refusal l byte fields room ≡ of_three (has_row (widths l byte)) (fits (row l byte) fields && ranges l byte fields) (leb (length (bytes_of l byte fields)) room)
unfolding write_refusal in_table no_misfit buffer_holds
refusal_is l byte fields room = three _ _ _

pub none_fails : (p q r : Bool) → of_three p q r ≡ 0 → (p ≡ true) × (q ≡ true) × (r ≡ true)
unfolding of_three
none_fails true true true e = (refl, refl, refl)
none_fails true true false e = absurd (omega arith)
none_fails true false r e = absurd (omega arith)
none_fails false q r e = absurd (omega arith)

pub first_fails : (p q r : Bool) → of_three p q r ≡ 1 → p ≡ false
unfolding of_three
first_fails true true true e = absurd (omega arith)
first_fails true true false e = absurd (omega arith)
first_fails true false r e = absurd (omega arith)
first_fails false q r e = refl

pub second_fails : (p q r : Bool) → of_three p q r ≡ 6 → (p ≡ true) × (q ≡ false)
unfolding of_three
second_fails true true true e = absurd (omega arith)
second_fails true true false e = absurd (omega arith)
second_fails true false r e = (refl, refl)
second_fails false q r e = absurd (omega arith)

pub third_fails : (p q r : Bool) → of_three p q r ≡ 12 → (p ≡ true) × (q ≡ true) × (r ≡ false)
unfolding of_three
third_fails true true true e = absurd (omega arith)
third_fails true true false e = (refl, refl, refl)
third_fails true false r e = absurd (omega arith)
third_fails false q r e = absurd (omega arith)

module _ (p q r : Bool) where
  pub all_hold : p ≡ true → q ≡ true → r ≡ true → of_three p q r ≡ 0
  unfolding of_three
  all_hold e f g = rw (e, f, g)

  pub fails_first : p ≡ false → of_three p q r ≡ 1
  unfolding of_three
  fails_first e = rw e

  pub fails_second : p ≡ true → q ≡ false → of_three p q r ≡ 6
  unfolding of_three
  fails_second e f = rw (e, f)

  pub fails_third : p ≡ true → q ≡ true → r ≡ false → of_three p q r ≡ 12
  unfolding of_three
  fails_third e f g = rw (e, f, g)

-- ---- a written command, read

enough_bytes : (l m : List ℕ) (n : ℕ) → length l ≡ n → at_least n (l ++ m) ≡ true
unfolding at_least
enough_bytes l m zero e = refl
enough_bytes [] m (suc n) e = absurd (omega arith)
enough_bytes (b ∷ l) m (suc n) e = enough_bytes l m n (omega arith)

pub request_read : (l : Limits) (byte : ℕ) (ns vs rest : List ℕ) → fits ns vs ≡ true → request l byte (operands ns (field_bytes ns vs ++ rest)) ≡ request l byte vs
request_read l byte ns vs rest h =
    sym (request_zeros l byte (length vs - length ns) (operands ns (field_bytes ns vs ++ rest))) ∙ ap (request l byte) (fields_read ns vs rest h)

pub read_row : (l : Limits) (byte : ℕ) (vs rest : List ℕ) (o : Option (List ℕ)) → widths l byte ≡ o → has_row o ≡ true → fits (widths_or [] o) vs ≡ true
    → read_operands l byte (field_bytes (widths_or [] o) vs ++ rest) o ≡ asks (request l byte vs) (suc (length (field_bytes (widths_or [] o) vs)))
unfolding read_operands widths_or has_row
read_row l byte vs rest None e k h = let z : false ≡ true = k in cc
read_row l byte vs rest (Some ns) e k h =
    rw (enough_bytes (field_bytes ns vs) rest (sum ns) (fields_length ns vs), request_read l byte ns vs rest h, fields_length ns vs) (ap (asks (request l byte vs)) (omega arith))

-- ---- a command that was read

no_asks : (q : Request) (used : ℕ) → unknown ≡ asks q used → ⊥
no_asks q used e = let z : ◌≡◌ {A = ℕ} 0 1 = cc in absurd (omega arith)

cut_asks : (q : Request) (used : ℕ) → cut_short ≡ asks q used → ⊥
cut_asks q used e = let z : ◌≡◌ {A = ℕ} 0 1 = cc in absurd (omega arith)

pub read_known : (l : Limits) (byte : ℕ) (bytes : List ℕ) (q : Request) (used : ℕ) (o : Option (List ℕ)) → read_operands l byte bytes o ≡ asks q used
    → (has_row o ≡ true) × (at_least (sum (widths_or [] o)) bytes ≡ true) × (request l byte (operands (widths_or [] o) bytes) ≡ q) × (suc (sum (widths_or [] o)) ≡ used)
unfolding read_operands widths_or has_row
read_known l byte bytes q used None e = absurd (no_asks q used e)
read_known l byte bytes q used (Some ns) e =
    both (at_least (sum ns) bytes)
    (λ h. let k : asks (request l byte (operands ns bytes)) (1 + sum ns) ≡ asks q used = rw h at e in
    let u : 1 + sum ns ≡ used = cc in
    (refl, h, cc, omega (arith, u)))
    (λ h. absurd (cut_asks q used (rw h at e)))

pub two_hold : {p f g h r : Bool} → p ≡ true → f ≡ true → g ≡ h → r ≡ true → of_three p (f && g) r ≡ cond h 0 6
unfolding of_three
two_hold e f g r = rw (e, f, g, r)
