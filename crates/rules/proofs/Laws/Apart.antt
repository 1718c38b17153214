-- A byte that is none of those that a definition or a match tries one by one.
use Rattle.std.specs.Prelude.{ℕ, ◌≡◌, refl, cond, List, [], ◌∷◌, eqb}
use Rattle.std.proofs.Common.{eqb-true, ne_eqb}
use Rattle.std.proofs.lemmas.Bool.{eqb-false}
use mathlib.Core.Logic.{◌≢◌}
use mathlib.Core.List.{map}
use Rattle.rules.proofs.Laws.Line.{both}

-- Beside A: the byte is none of the list.
unfoldable pub Apart : Type 0 → ℕ → List ℕ → Type 0
Apart A byte [] = A
Apart A byte (k ∷ ks) = Apart (A × (byte ≢ k)) byte ks

-- document 01's command bytes without the last one, and with it
abbrev pub but_last : List ℕ
but_last = 0x01 ∷ 0x02 ∷ 0x03 ∷ 0x04 ∷ 0x05 ∷ 0x10 ∷ 0x11 ∷ 0x12 ∷ 0x13 ∷ 0x14 ∷ 0x15 ∷ 0x16 ∷ 0x17 ∷ 0x18 ∷ 0x19 ∷ []

abbrev pub all_bytes : List ℕ
all_bytes = 0x01 ∷ 0x02 ∷ 0x03 ∷ 0x04 ∷ 0x05 ∷ 0x10 ∷ 0x11 ∷ 0x12 ∷ 0x13 ∷ 0x14 ∷ 0x15 ∷ 0x16 ∷ 0x17 ∷ 0x18 ∷ 0x19 ∷ 0x1a ∷ []

-- f of the byte, tried one by one, and d where it is none of the list
unfoldable pub among : {S : Type 0} → (ℕ → S) → ℕ → List ℕ → S → S
among f byte [] d = d
among f byte (k ∷ ks) d = cond (eqb byte k) (f k) (among f byte ks d)

apart_and : {S : Type 0} (f : ℕ → S) (d : S) (A : Type 0) (byte : ℕ) (ks : List ℕ) → Apart A byte ks → A × (among f byte ks d ≡ d)
unfolding Apart among
apart_and f d A byte [] h = (h, refl)
apart_and f d A byte (k ∷ ks) h =
    let r = apart_and f d (A × (byte ≢ k)) byte ks h in
    (r.0.0, rw (ne_eqb byte k r.0.1) r.1)

pub among_apart : {S : Type 0} (f : ℕ → S) (d : S) (A : Type 0) (byte : ℕ) (ks : List ℕ) → Apart A byte ks → among f byte ks d ≡ d
among_apart f d A byte ks h = (apart_and f d A byte ks h).1

-- Two functions that agree on each of the list, taken one by one, agree on every byte, if they do on those that are none of it.
pub same_unless : {S : Type 0} (f g : ℕ → S) (byte : ℕ) (A : Type 0) (ks : List ℕ) → map f ks ≡ map g ks → A → (Apart A byte ks → f byte ≡ g byte) → f byte ≡ g byte
unfolding Apart
same_unless f g byte A [] e a k = k a
same_unless f g byte A (x ∷ ks) e a k =
    let first : f x ≡ g x = cc in
    let others : map f ks ≡ map g ks = cc in
    both (eqb byte x) (λ t. rw (eqb-true byte x t) first) (λ t. same_unless f g byte (A × (byte ≢ x)) ks others (a, eqb-false byte x t) k)
