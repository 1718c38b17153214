-- Lemmas about words in a row: a word without blanks and comments is read as it stands.
use Rattle.std.specs.Prelude.{ℕ, zero, suc, ◌+◌, ◌/◌, ◌%◌, ◌≤◌, ◌≡◌, refl, true, false, List, [], ◌∷◌, ◌++◌, eqb, ltb, leb, length}
use Rattle.std.proofs.Common.{ap, length-append, arith, ne_eqb, leb-true, le-leb}
use Rattle.std.proofs.lemmas.Bool.{false≢true}
use Rattle.std.proofs.Math.Seq.{take-append_seam, drop-append_seam}
use Rattle.rules.proofs.Laws.Line.{both}
use Rattle.rules.specs.Lines.{digits, decimal, space}
use Rattle.names.specs.Names.{ascii}
use Rattle.std.specs.Str.{bytes_eq}
use Rattle.parse.specs.Words.{before_comment, blank, blanks, letters, skip_blanks, word, behind}
use Rattle.listing.specs.Listing.{numbers}
use Rattle.text_laws.specs.Words.{plain}

head_plain : (b : ℕ) (l : List ℕ) → plain (b ∷ l) ≡ true → 48 ≤ b
unfolding plain
head_plain b l h = both (leb 48 b) (λ e. leb-true 48 b e) (λ e. absurd (false≢true (rw e at h)))

tail_plain : (b : ℕ) (l : List ℕ) → plain (b ∷ l) ≡ true → plain l ≡ true
unfolding plain
tail_plain b l h = both (leb 48 b) (λ e. rw e at h) (λ e. absurd (false≢true (rw e at h)))

plain_append : (l m : List ℕ) → plain l ≡ true → plain m ≡ true → plain (l ++ m) ≡ true
unfolding plain
plain_append [] m h k = k
plain_append (b ∷ l) m h k = rw (le-leb 48 b (head_plain b l h)) (plain_append l m (tail_plain b l h) k)

-- ---- a number in decimal

one_digit : (n : ℕ) → plain ((48 + n % 10) ∷ []) ≡ true
unfolding plain
one_digit n = rw (le-leb 48 (48 + n % 10) (omega arith))

digits_plain : (k n : ℕ) → plain (digits k n) ≡ true
unfolding digits plain
digits_plain zero n = refl
digits_plain (suc k) n = both (ltb n 10)
    (λ e. rw e (one_digit n))
    (λ e. rw e (plain_append (digits k (n / 10)) ((48 + n % 10) ∷ []) (digits_plain k (n / 10)) (one_digit n)))

pub decimal_plain : (n : ℕ) → plain (decimal n) ≡ true
unfolding decimal
decimal_plain n = digits_plain 20 n

pub decimal_some : (n : ℕ) → 1 ≤ length (decimal n)
unfolding decimal digits
decimal_some n = rw length-append (omega arith)

-- ---- comments

comment_append : (w l : List ℕ) → plain w ≡ true → before_comment l ≡ l → before_comment (w ++ l) ≡ w ++ l
unfolding before_comment
comment_append [] l h e = e
comment_append (b ∷ w) l h e =
    rw (ne_eqb b 35 (λ q. omega (arith, head_plain b w h))) (ap (λ (m : List ℕ). b ∷ m) (comment_append w l (tail_plain b w h) e))

comment_numbers : (vs : List ℕ) → before_comment (numbers vs) ≡ numbers vs
unfolding before_comment numbers space
comment_numbers [] = refl
comment_numbers (v ∷ vs) = ap (λ (m : List ℕ). 32 ∷ m) (comment_append (decimal v) (numbers vs) (decimal_plain v) (comment_numbers vs))

pub no_comment : (w vs : List ℕ) → plain w ≡ true → before_comment (w ++ numbers vs) ≡ w ++ numbers vs
no_comment w vs h = comment_append w (numbers vs) h (comment_numbers vs)

-- ---- the word at the front

not_blank : (b : ℕ) → 48 ≤ b → blank b ≡ false
unfolding blank
not_blank b h = rw (ne_eqb b 32 (λ q. omega arith), ne_eqb b 9 (λ q. omega arith), ne_eqb b 13 (λ q. omega arith))

letters_numbers : (vs : List ℕ) → letters (numbers vs) ≡ 0
unfolding letters numbers space blank
letters_numbers [] = refl
letters_numbers (v ∷ vs) = refl

letters_append : (w l : List ℕ) → plain w ≡ true → letters l ≡ 0 → letters (w ++ l) ≡ length w
unfolding letters
letters_append [] l h e = e
letters_append (b ∷ w) l h e = rw (not_blank b (head_plain b w h)) (ap suc (letters_append w l (tail_plain b w h) e))

module _ (w vs : List ℕ) (h : plain w ≡ true) where
  pub word_front : word (w ++ numbers vs) ≡ w
  unfolding word
  word_front = rw (letters_append w (numbers vs) h (letters_numbers vs)) (take-append_seam w (numbers vs))

  pub behind_front : behind (w ++ numbers vs) ≡ numbers vs
  unfolding behind
  behind_front = rw (letters_append w (numbers vs) h (letters_numbers vs)) (drop-append_seam w (numbers vs))

no_blanks : (w l : List ℕ) → plain w ≡ true → 1 ≤ length w → blanks (w ++ l) ≡ 0
unfolding blanks
no_blanks [] l h k = absurd (omega arith)
no_blanks (b ∷ w) l h k = rw (not_blank b (head_plain b w h))

pub skip_none : (w l : List ℕ) → plain w ≡ true → 1 ≤ length w → skip_blanks (w ++ l) ≡ w ++ l
unfolding skip_blanks
skip_none w l h k = rw (no_blanks w l h k)

pub skip_numbers : (v : ℕ) (vs : List ℕ) → skip_blanks (numbers (v ∷ vs)) ≡ decimal v ++ numbers vs
unfolding skip_blanks blanks blank numbers space
skip_numbers v vs = rw (no_blanks (decimal v) (numbers vs) (decimal_plain v) (decimal_some v))

-- ---- what a word is not

pub not_empty : (w l : List ℕ) → 1 ≤ length w → eqb (length (w ++ l)) 0 ≡ false
not_empty w l h = ne_eqb (length (w ++ l)) 0 (λ q. omega (arith, length-append w l))

pub no_dash : (w : List ℕ) → plain w ≡ true → 1 ≤ length w → bytes_eq w (ascii "-") ≡ false
unfolding ascii
no_dash [] h k = refl
no_dash (b ∷ w) h k = rw (ne_eqb b 45 (λ q. omega (arith, head_plain b w h)))
