-- A pin that is missing at the end of a line is all ones.
use Rattle.std.specs.Prelude.{ℕ, ◌≡◌, Bool}
use Rattle.std.proofs.Math.Path.{refl}
use mathlib.Core.List.{[], ◌∷◌}
use Rattle.request.specs.Request.{all_ones_of}
use Rattle.parse.specs.Words.{skip_blanks, blanks, word, letters, behind}
use Rattle.parse.specs.Meaning.{command, byte_among, byte_named, is_pin, pin, field, given, ended, fields_from, named_meaning, text_meaning, meaning}
use Rattle.parse.specs.Meaning as parse
use Rattle.listing.specs.Listing.{numbers}

-- the pin that is missing
pub pin_missing : (wide : Bool) (a b c : ℕ) → fields_from wide 0x10 3 1 (a ∷ b ∷ c ∷ 0 ∷ []) (numbers []) ≡ command 0x10 (a ∷ b ∷ c ∷ all_ones_of wide ∷ [])
unfolding fields_from given field is_pin pin parse.no_pin ended numbers skip_blanks blanks word letters behind
pin_missing wide a b c = refl
