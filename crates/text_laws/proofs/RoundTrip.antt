-- The text of a command means that command.
use Rattle.std.specs.Prelude.{ℕ, suc, ◌≤◌, ◌<◌, ◌^◌, ◌≡◌, Bool, true, false, eqb, ltb, length, take, set, Some}
use Rattle.std.proofs.Math.Path.{refl}
use Rattle.std.proofs.Common.{sym, ◌∙◌, arith}
use Rattle.std.proofs.lemmas.Bool.{false≢true}
use mathlib.Core.List.{List, [], ◌∷◌, ◌++◌, append_assoc}
use Rattle.std.proofs.Math.Dec.{leb}
use borrow.Author.Tests.{eqb-true, ne_eqb, ltb-true, leb-true}
use Rattle.std.specs.Cmp.{first_so, second_so}
use Rattle.rules.proofs.Laws.Line.{both}
use Rattle.rules.specs.State.{Limits}
use Rattle.rules.specs.Requests.{nth, widths, widths_or}
use Rattle.rules.specs.Writer.{fits, has_row, row as rules_row}
use Rattle.rules.specs.Lines.{decimal, line_feed}
use Rattle.names.specs.Names.{namings, naming, naming_among, name_of, ascii}
use Rattle.request.specs.declared.fields.Fields.{Fields}
use Rattle.request.specs.Request.{limits_of, all_ones_of}
use Rattle.request.specs.Fields.{list_of, four, row}
use Rattle.request.proofs.Table.{by_row}
use Rattle.request.proofs.ByWidths as by_widths
use Rattle.request.proofs.ByWidths.{plain_row, row_plain, not_five}
use Rattle.parse.specs.Words.{skip_blanks, blanks}
use Rattle.parse.specs.Meaning.{command, byte_among, byte_named, is_pin, pin, field, given, ended, fields_from, named_meaning, text_meaning, meaning}
use Rattle.parse.specs.Meaning as parse
use Rattle.parse.proofs.Laws.{decimal_read}
use Rattle.listing.specs.Listing.{numbers, no_pin, shown_fields, listed}
use Rattle.text_laws.specs.Words.{plain}
use Rattle.text_laws.proofs.Pin.{pin_missing}
use Rattle.text_laws.proofs.Words.{decimal_plain, decimal_some, no_comment, word_front, behind_front, skip_none, skip_numbers, not_empty, no_dash}

-- ---- the names of the table

module _ (l : Limits) (byte : ℕ) (h : has_row (widths l byte) ≡ true) where
  byte_small : byte < 256
  byte_small = ltb-true byte 256 (by_row (λ b. ltb b 256) (λ b. true) byte l h refl)

  -- a name is read as its command
  name_read : byte_named (name_of byte) ≡ Some byte
  unfolding byte_named byte_among name_of naming_among namings naming ascii
  name_read = by_row (λ b. byte_named (name_of b)) (λ b. Some b) byte l h refl

  name_plain : plain (name_of byte) ≡ true
  unfolding plain name_of naming_among namings naming ascii
  name_plain = by_row (λ b. plain (name_of b)) (λ b. true) byte l h refl

  name_some : 1 ≤ length (name_of byte)
  unfolding name_of naming_among namings naming ascii
  name_some = leb-true 1 (length (name_of byte)) (by_row (λ b. leb 1 (length (name_of b))) (λ b. true) byte l h refl)

-- ---- one field

field_decimal : (wide : Bool) (byte i v : ℕ) → v < 2 ^ 64 → field wide byte i (decimal v) ≡ Some v
unfolding field pin parse.no_pin
field_decimal wide byte i v h = both (is_pin byte i)
    (λ e. rw (e, ne_eqb (length (decimal v)) 0 (λ q. omega (arith, decimal_some v)), no_dash (decimal v) (decimal_plain v) (decimal_some v)) (decimal_read v h))
    (λ e. rw e (decimal_read v h))

field_next : (wide : Bool) (byte i n : ℕ) (before : List ℕ) (v : ℕ) (vs : List ℕ) → v < 2 ^ 64
    → fields_from wide byte i (suc n) before (numbers (v ∷ vs)) ≡ fields_from wide byte (suc i) n (set before i v) (numbers vs)
unfolding fields_from given
field_next wide byte i n before v vs h =
    rw (skip_numbers v vs, word_front (decimal v) vs (decimal_plain v), behind_front (decimal v) vs (decimal_plain v), field_decimal wide byte i v h)

line_ends : (wide : Bool) (byte i : ℕ) (fields : List ℕ) → fields_from wide byte i 0 fields (numbers []) ≡ command byte fields
unfolding fields_from ended numbers skip_blanks blanks
line_ends wide byte i fields = refl

-- ---- all fields

power_small : (n v : ℕ) → by_widths.plain n ≡ true → v < 256 ^ n → v < 2 ^ 64
unfolding by_widths.plain
power_small n v h k =
    both (eqb n 1) (λ e. let p : v < 256 ^ 1 = rw (eqb-true n 1 e) at k in omega arith) λ e₁.
    both (eqb n 2) (λ e. let p : v < 256 ^ 2 = rw (eqb-true n 2 e) at k in omega arith) λ e₂.
    both (eqb n 4) (λ e. let p : v < 256 ^ 4 = rw (eqb-true n 4 e) at k in omega arith) λ e₄.
    both (eqb n 8) (λ e. let p : v < 256 ^ 8 = rw (eqb-true n 8 e) at k in omega arith) λ e₈.
    absurd (false≢true (rw (e₁, e₂, e₄, e₈) at h))

module _ (k n : ℕ) (ns : List ℕ) (v : ℕ) (vs : List ℕ) (p : plain_row (suc k) (n ∷ ns) ≡ true) (f : fits (n ∷ ns) (v ∷ vs) ≡ true) where
  field_small : v < 2 ^ 64
  unfolding plain_row fits
  field_small = power_small n v (first_so (by_widths.plain n) (plain_row k ns) p) (ltb-true v (256 ^ n) (first_so (ltb v (256 ^ n)) (fits ns vs) f))

  row_left : plain_row k ns ≡ true
  unfolding plain_row
  row_left = second_so (by_widths.plain n) (plain_row k ns) p

  fits_left : fits ns vs ≡ true
  unfolding fits
  fits_left = second_so (ltb v (256 ^ n)) (fits ns vs) f

module _ (v : ℕ) (vs : List ℕ) (f : fits [] (v ∷ vs) ≡ true) where
  unused_zero : v ≡ 0
  unfolding fits
  unused_zero = eqb-true v 0 (first_so (eqb v 0) (fits [] vs) f)

  unused_left : fits [] vs ≡ true
  unfolding fits
  unused_left = second_so (eqb v 0) (fits [] vs) f

module _ (wide : Bool) (byte : ℕ) where
  -- the first field, the first two, three and four
  read_1 : (k a : ℕ) (vs : List ℕ) → a < 2 ^ 64 → fields_from wide byte 0 (suc k) (0 ∷ 0 ∷ 0 ∷ 0 ∷ []) (numbers (a ∷ vs)) ≡ fields_from wide byte 1 k (a ∷ 0 ∷ 0 ∷ 0 ∷ []) (numbers vs)
  read_1 k a vs h = field_next wide byte 0 k (0 ∷ 0 ∷ 0 ∷ 0 ∷ []) a vs h

  read_2 : (k a b : ℕ) (vs : List ℕ) → a < 2 ^ 64 → b < 2 ^ 64
      → fields_from wide byte 0 (suc (suc k)) (0 ∷ 0 ∷ 0 ∷ 0 ∷ []) (numbers (a ∷ b ∷ vs)) ≡ fields_from wide byte 2 k (a ∷ b ∷ 0 ∷ 0 ∷ []) (numbers vs)
  read_2 k a b vs h i = read_1 (suc k) a (b ∷ vs) h ∙ field_next wide byte 1 k (a ∷ 0 ∷ 0 ∷ 0 ∷ []) b vs i

  read_3 : (k a b c : ℕ) (vs : List ℕ) → a < 2 ^ 64 → b < 2 ^ 64 → c < 2 ^ 64
      → fields_from wide byte 0 (suc (suc (suc k))) (0 ∷ 0 ∷ 0 ∷ 0 ∷ []) (numbers (a ∷ b ∷ c ∷ vs)) ≡ fields_from wide byte 3 k (a ∷ b ∷ c ∷ 0 ∷ []) (numbers vs)
  read_3 k a b c vs h i j = read_2 (suc k) a b (c ∷ vs) h i ∙ field_next wide byte 2 k (a ∷ b ∷ 0 ∷ 0 ∷ []) c vs j

  read_4 : (a b c d : ℕ) → a < 2 ^ 64 → b < 2 ^ 64 → c < 2 ^ 64 → d < 2 ^ 64
      → fields_from wide byte 0 4 (0 ∷ 0 ∷ 0 ∷ 0 ∷ []) (numbers (a ∷ b ∷ c ∷ d ∷ [])) ≡ command byte (a ∷ b ∷ c ∷ d ∷ [])
  read_4 a b c d h i j k =
      read_3 1 a b c (d ∷ []) h i j ∙ field_next wide byte 3 0 (a ∷ b ∷ c ∷ 0 ∷ []) d [] k ∙ line_ends wide byte 4 (a ∷ b ∷ c ∷ d ∷ [])

  -- As many numbers as the row has widths: the fields behind them are 0.
  fields_read : (ns : List ℕ) (a b c d : ℕ) → plain_row 4 ns ≡ true → fits ns (a ∷ b ∷ c ∷ d ∷ []) ≡ true
      → fields_from wide byte 0 (length ns) (0 ∷ 0 ∷ 0 ∷ 0 ∷ []) (numbers (take (length ns) (a ∷ b ∷ c ∷ d ∷ []))) ≡ command byte (a ∷ b ∷ c ∷ d ∷ [])
  fields_read [] a b c d p f =
      let f₁ : fits [] (b ∷ c ∷ d ∷ []) ≡ true = unused_left a _ f in
      let f₂ : fits [] (c ∷ d ∷ []) ≡ true = unused_left b _ f₁ in
      let f₃ : fits [] (d ∷ []) ≡ true = unused_left c _ f₂ in
      rw (unused_zero a _ f, unused_zero b _ f₁, unused_zero c _ f₂, unused_zero d _ f₃) (line_ends wide byte 0 (0 ∷ 0 ∷ 0 ∷ 0 ∷ []))
  fields_read (n ∷ []) a b c d p f =
      let f₁ : fits [] (b ∷ c ∷ d ∷ []) ≡ true = fits_left 3 n [] a _ p f in
      let f₂ : fits [] (c ∷ d ∷ []) ≡ true = unused_left b _ f₁ in
      let f₃ : fits [] (d ∷ []) ≡ true = unused_left c _ f₂ in
      rw (unused_zero b _ f₁, unused_zero c _ f₂, unused_zero d _ f₃)
      (read_1 0 a [] (field_small 3 n [] a _ p f) ∙ line_ends wide byte 1 (a ∷ 0 ∷ 0 ∷ 0 ∷ []))
  fields_read (n ∷ m ∷ []) a b c d p f =
      let p₁ : plain_row 3 (m ∷ []) ≡ true = row_left 3 n _ a _ p f in
      let f₁ : fits (m ∷ []) (b ∷ c ∷ d ∷ []) ≡ true = fits_left 3 n _ a _ p f in
      let f₂ : fits [] (c ∷ d ∷ []) ≡ true = fits_left 2 m [] b _ p₁ f₁ in
      let f₃ : fits [] (d ∷ []) ≡ true = unused_left c _ f₂ in
      rw (unused_zero c _ f₂, unused_zero d _ f₃)
      (read_2 0 a b [] (field_small 3 n _ a _ p f) (field_small 2 m [] b _ p₁ f₁) ∙ line_ends wide byte 2 (a ∷ b ∷ 0 ∷ 0 ∷ []))
  fields_read (n ∷ m ∷ o ∷ []) a b c d p f =
      let p₁ : plain_row 3 (m ∷ o ∷ []) ≡ true = row_left 3 n _ a _ p f in
      let f₁ : fits (m ∷ o ∷ []) (b ∷ c ∷ d ∷ []) ≡ true = fits_left 3 n _ a _ p f in
      let p₂ : plain_row 2 (o ∷ []) ≡ true = row_left 2 m _ b _ p₁ f₁ in
      let f₂ : fits (o ∷ []) (c ∷ d ∷ []) ≡ true = fits_left 2 m _ b _ p₁ f₁ in
      let f₃ : fits [] (d ∷ []) ≡ true = fits_left 1 o [] c _ p₂ f₂ in
      rw (unused_zero d _ f₃)
      (read_3 0 a b c [] (field_small 3 n _ a _ p f) (field_small 2 m _ b _ p₁ f₁) (field_small 1 o [] c _ p₂ f₂) ∙ line_ends wide byte 3 (a ∷ b ∷ c ∷ 0 ∷ []))
  fields_read (n ∷ m ∷ o ∷ t ∷ []) a b c d p f =
      let p₁ : plain_row 3 (m ∷ o ∷ t ∷ []) ≡ true = row_left 3 n _ a _ p f in
      let f₁ : fits (m ∷ o ∷ t ∷ []) (b ∷ c ∷ d ∷ []) ≡ true = fits_left 3 n _ a _ p f in
      let p₂ : plain_row 2 (o ∷ t ∷ []) ≡ true = row_left 2 m _ b _ p₁ f₁ in
      let f₂ : fits (o ∷ t ∷ []) (c ∷ d ∷ []) ≡ true = fits_left 2 m _ b _ p₁ f₁ in
      let p₃ : plain_row 1 (t ∷ []) ≡ true = row_left 1 o _ c _ p₂ f₂ in
      let f₃ : fits (t ∷ []) (d ∷ []) ≡ true = fits_left 1 o _ c _ p₂ f₂ in
      read_4 a b c d (field_small 3 n _ a _ p f) (field_small 2 m _ b _ p₁ f₁) (field_small 1 o _ c _ p₂ f₂) (field_small 0 t [] d [] p₃ f₃)
  fields_read (n ∷ m ∷ o ∷ t ∷ u ∷ ns) a b c d p f = let z : false ≡ true = not_five n m o t u ns p in cc

-- Hex 10 with a pin of all ones: three numbers, and the pin is missing.
three_read : (wide : Bool) (a b c d : ℕ) → fits (row wide 0x10) (a ∷ b ∷ c ∷ d ∷ []) ≡ true → d ≡ all_ones_of wide
    → fields_from wide 0x10 0 (length (row wide 0x10)) (0 ∷ 0 ∷ 0 ∷ 0 ∷ []) (numbers (a ∷ b ∷ c ∷ [])) ≡ command 0x10 (a ∷ b ∷ c ∷ d ∷ [])
unfolding row rules_row widths_or widths
three_read wide a b c d f e =
    let p : plain_row 4 (row wide 0x10) ≡ true = row_plain wide 0x10 in
    let p₁ : plain_row 3 (1 ∷ 1 ∷ (limits_of wide).cpu_bytes ∷ []) ≡ true = row_left 3 2 _ a _ p f in
    let f₁ : fits (1 ∷ 1 ∷ (limits_of wide).cpu_bytes ∷ []) (b ∷ c ∷ d ∷ []) ≡ true = fits_left 3 2 _ a _ p f in
    let p₂ : plain_row 2 (1 ∷ (limits_of wide).cpu_bytes ∷ []) ≡ true = row_left 2 1 _ b _ p₁ f₁ in
    let f₂ : fits (1 ∷ (limits_of wide).cpu_bytes ∷ []) (c ∷ d ∷ []) ≡ true = fits_left 2 1 _ b _ p₁ f₁ in
    rw e (read_3 wide 0x10 1 a b c [] (field_small 3 2 _ a _ p f) (field_small 2 1 _ b _ p₁ f₁) (field_small 1 1 _ c _ p₂ f₂) ∙ pin_missing wide a b c)

module _ (wide : Bool) (byte a b c d : ℕ) (h : has_row (widths (limits_of wide) byte) ≡ true) (f : fits (row wide byte) (a ∷ b ∷ c ∷ d ∷ []) ≡ true) where
  without_pin : byte ≡ 0x10 → d ≡ all_ones_of wide
      → fields_from wide byte 0 (length (row wide byte)) (0 ∷ 0 ∷ 0 ∷ 0 ∷ []) (numbers (a ∷ b ∷ c ∷ [])) ≡ command byte (a ∷ b ∷ c ∷ d ∷ [])
  without_pin e q = rw e (three_read wide a b c d (rw e at f) q)

  shown_read : fields_from wide byte 0 (length (row wide byte)) (four []) (numbers (shown_fields wide byte (a ∷ b ∷ c ∷ d ∷ []))) ≡ command byte (a ∷ b ∷ c ∷ d ∷ [])
  unfolding shown_fields no_pin four nth
  shown_read = both (no_pin wide byte (a ∷ b ∷ c ∷ d ∷ []))
      (λ e. rw e (without_pin (eqb-true byte 0x10 (first_so (eqb byte 0x10) (eqb d (all_ones_of wide)) e)) (eqb-true d (all_ones_of wide) (second_so (eqb byte 0x10) (eqb d (all_ones_of wide)) e))))
      (λ e. rw e (fields_read wide byte (row wide byte) a b c d (row_plain wide byte) f))

-- ---- the line

named_line : (wide : Bool) (byte : ℕ) (vs : List ℕ) → has_row (widths (limits_of wide) byte) ≡ true
    → meaning wide (name_of byte ++ numbers vs) ≡ fields_from wide byte 0 (length (row wide byte)) (four []) (numbers vs)
unfolding meaning text_meaning named_meaning
named_line wide byte vs h =
    let p : plain (name_of byte) ≡ true = name_plain (limits_of wide) byte h in
    let s : 1 ≤ length (name_of byte) = name_some (limits_of wide) byte h in
    rw (
      no_comment (name_of byte) vs p,
      skip_none (name_of byte) (numbers vs) p s,
      not_empty (name_of byte) (numbers vs) s,
      word_front (name_of byte) vs p,
      behind_front (name_of byte) vs p,
      name_read (limits_of wide) byte h,
    )

-- The text of a command has a line feed behind it.
pub text_is_line : (wide : Bool) (byte : ℕ) (fields : List ℕ) → listed wide byte fields ≡ (name_of byte ++ numbers (shown_fields wide byte fields)) ++ line_feed
unfolding listed
text_is_line wide byte fields = sym (append_assoc (name_of byte) (numbers (shown_fields wide byte fields)) line_feed)

-- The text of a command means that command: what `explain` prints, `compose` reads as the command that was printed.
pub text_means_command : (wide : Bool) (byte : ℕ) (fields : Fields) → has_row (widths (limits_of wide) byte) ≡ true → fits (row wide byte) (list_of fields) ≡ true
    → meaning wide (name_of byte ++ numbers (shown_fields wide byte (list_of fields))) ≡ command byte (list_of fields)
unfolding list_of
text_means_command wide byte fields h f =
    named_line wide byte (shown_fields wide byte (list_of fields)) h ∙ shown_read wide byte fields.first fields.second fields.third fields.fourth h f
