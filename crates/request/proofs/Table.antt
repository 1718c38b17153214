-- Which bytes are in the table of commands.
use Rattle.std.specs.Prelude.{Option, Some, None}
use Prim.Native.Nat.{ℕ, ◌+◌, ◌<◌, ◌≤◌}
use mathlib.Core.Path.{◌≡◌, refl, ap, ◌∙◌}
use mathlib.Core.Bool.{Bool, true, false, cond, false≢true}
use mathlib.Core.List.{List, [], ◌∷◌, map}
use lib.Dec.{eqb}
use lib.ListN.{length, get_or, drop}
use native.Mathlib.Omega.{arith}
use Rattle.rules.proofs.Laws.Apart.{Apart, but_last, all_bytes, among, among_apart, same_unless}
use Rattle.rules.specs.Requests as rules
use Rattle.rules.specs.State.{Limits}
use Rattle.rules.specs.Requests.{at_least, set_critical, nth, request, widths, sum, widths_or}
use Rattle.rules.specs.Writer.{row as rules_row, has_row}
use Rattle.request.specs.Request.{width, limits_of, asked, operands_in, operands_of}
use Rattle.request.specs.Fields.{row}
use Rattle.request.proofs.Bytes.{enough, too_few}

pub width_small : (wide : Bool) → width wide ≤ 2
unfolding width
width_small true = omega arith
width_small false = omega arith

-- ---- a byte that is none of those that the code tries one by one

chosen : (t : Bool) (ns : List ℕ) → widths_or ns (cond t (Some ns) None) ≡ ns
unfolding widths_or
chosen true ns = refl
chosen false ns = refl

module _ (l : Limits) (A : Type 0) (byte : ℕ) where
  pub last_request : Apart A byte but_last → (vs : List ℕ) → request l byte vs ≡ set_critical (nth 0 vs) (nth 1 vs)
  unfolding among request
  last_request h vs = among_apart (λ b. request l b vs) (set_critical (nth 0 vs) (nth 1 vs)) A byte but_last h

  pub last_widths : Apart A byte but_last → widths_or (2 ∷ 1 ∷ []) (widths l byte) ≡ 2 ∷ 1 ∷ []
  unfolding among widths
  last_widths h =
      let last : Option (List ℕ) = cond (eqb byte 0x1a) (Some (2 ∷ 1 ∷ [])) None in
      let e : widths l byte ≡ last = among_apart (widths l) last A byte but_last h in
      ap (widths_or (2 ∷ 1 ∷ [])) e ∙ chosen (eqb byte 0x1a) (2 ∷ 1 ∷ [])

  pub no_widths : Apart A byte all_bytes → widths l byte ≡ None
  unfolding among widths
  no_widths h = among_apart (widths l) None A byte all_bytes h

-- Two functions that agree on each byte of the table, taken one by one, agree on every byte that has a row.
module _ {S : Type 0} (f g : ℕ → S) (byte : ℕ) where
  pub by_row : (l : Limits) → has_row (widths l byte) ≡ true → map f all_bytes ≡ map g all_bytes → f byte ≡ g byte
  unfolding has_row
  by_row l h e = same_unless f g byte Unit all_bytes e tt (λ p. absurd (false≢true (rw (no_widths l Unit byte p) at h)))

-- every byte but those tried is asked as hex 1A
pub last_asked : (wide : Bool) (A : Type 0) (byte : ℕ) (bytes : List ℕ) → Apart A byte but_last → asked wide 0x1a bytes ≡ asked wide byte bytes
unfolding asked
last_asked wide A byte bytes h =
    rw (last_widths (limits_of wide) A byte h, last_request (limits_of wide) A byte h (rules.operands (2 ∷ 1 ∷ []) bytes)) (unfold request widths widths_or in refl)

pub no_row : (wide : Bool) (A : Type 0) (byte : ℕ) → Apart A byte all_bytes → row wide byte ≡ []
unfolding row rules_row widths_or
no_row wide A byte h = rw (no_widths (limits_of wide) A byte h)

pub no_operands : (wide : Bool) (A : Type 0) (byte : ℕ) → Apart A byte all_bytes → operands_of wide byte ≡ None
unfolding operands_of operands_in
no_operands wide A byte h = rw (no_widths (limits_of wide) A byte h)

-- ---- reading by the table's row

module _ (wide : Bool) (byte : ℕ) (rest : List ℕ) where
  unknown_row : (o : Option (List ℕ)) → operands_in o ≡ None → rules.unknown ≡ rules.read_operands (limits_of wide) byte rest o
  unfolding operands_in rules.read_operands
  unknown_row None h = refl
  unknown_row (Some ns) h = cc

  pub reads_unknown : operands_of wide byte ≡ None → rules.unknown ≡ rules.read (limits_of wide) (byte ∷ rest)
  unfolding operands_of rules.read
  reads_unknown h = unknown_row (widths (limits_of wide) byte) h

  row_sum : (n : ℕ) (ns : List ℕ) → operands_in (Some ns) ≡ Some n → sum ns ≡ n
  unfolding operands_in
  row_sum n ns h = cc

  whole_row : (n : ℕ) (o : Option (List ℕ)) → widths (limits_of wide) byte ≡ o → operands_in o ≡ Some n → at_least n rest ≡ true
      → rules.asks (asked wide byte rest) (1 + n) ≡ rules.read_operands (limits_of wide) byte rest o
  unfolding asked rules.read_operands widths_or operands_in
  whole_row n None e h k = cc
  whole_row n (Some ns) e h k = rw (e, row_sum n ns h, k)

  cut_row : (n : ℕ) (o : Option (List ℕ)) → operands_in o ≡ Some n → at_least n rest ≡ false → rules.cut_short ≡ rules.read_operands (limits_of wide) byte rest o
  unfolding rules.read_operands operands_in
  cut_row n None h k = cc
  cut_row n (Some ns) h k = rw (row_sum n ns h, k)

-- of bytes of which the first is there
module _ (wide : Bool) (n : ℕ) where
  pub read_whole : (l : List ℕ) → 0 < length l → operands_of wide (get_or l 0 0) ≡ Some n → n ≤ length (drop 1 l)
      → rules.asks (asked wide (get_or l 0 0) (drop 1 l)) (1 + n) ≡ rules.read (limits_of wide) l
  unfolding operands_of rules.read
  read_whole [] there h k = absurd (omega arith)
  read_whole (byte ∷ rest) there h k = whole_row wide byte rest n (widths (limits_of wide) byte) refl h (enough n rest k)

  pub read_cut : (l : List ℕ) → 0 < length l → operands_of wide (get_or l 0 0) ≡ Some n → length (drop 1 l) < n → rules.cut_short ≡ rules.read (limits_of wide) l
  unfolding operands_of rules.read
  read_cut [] there h k = absurd (omega arith)
  read_cut (byte ∷ rest) there h k = cut_row wide byte rest n (widths (limits_of wide) byte) h (too_few n rest k)

  -- the same of bytes that are those behind the first
  pub read_whole_of : (l rest : List ℕ) → 0 < length l → operands_of wide (get_or l 0 0) ≡ Some n → n ≤ length rest → rest ≡ drop 1 l
      → rules.asks (asked wide (get_or l 0 0) rest) (1 + n) ≡ rules.read (limits_of wide) l
  read_whole_of l rest there h k e = rw e (read_whole l there h (rw e at k))

  pub read_cut_of : (l rest : List ℕ) → 0 < length l → operands_of wide (get_or l 0 0) ≡ Some n → length rest < n → rest ≡ drop 1 l → rules.cut_short ≡ rules.read (limits_of wide) l
  read_cut_of l rest there h k e = read_cut l there h (rw e at k)
