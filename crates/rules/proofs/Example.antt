-- Document 01's worked example and empty input, computed by the definitions.
use Rattle.std.specs.Prelude.{◌≡◌, refl, [], ◌∷◌}
use Rattle.rules.specs.State.{base_limits}
use Rattle.rules.specs.Lines.{output}
use Rattle.rules.specs.Laws.Computed.{computed}

-- "Empty input gives `sched 1` and `end 0 0`."
pub empty_input : output base_limits [] ≡ (115 ∷ 99 ∷ 104 ∷ 101 ∷ 100 ∷ 32 ∷ 49 ∷ 10 ∷ 101 ∷ 110 ∷ 100 ∷ 32 ∷ 48 ∷ 32 ∷ 48 ∷ 10 ∷ [])
unfolding computed
empty_input = refl

-- "Input hex `01 00 03 00 00 04 10 07 00 02 40 FF 12 00 07 00 13 00 00` gives" these eight lines.
pub worked_example :
    output base_limits (0x01 ∷ 0x00 ∷ 0x03 ∷ 0x00 ∷ 0x00 ∷ 0x04 ∷ 0x10 ∷ 0x07 ∷ 0x00 ∷ 0x02 ∷ 0x40 ∷ 0xff ∷ 0x12 ∷ 0x00 ∷ 0x07 ∷ 0x00 ∷ 0x13 ∷ 0x00 ∷ 0x00 ∷ [])
    ≡ (115 ∷ 99 ∷ 104 ∷ 101 ∷ 100 ∷ 32 ∷ 49 ∷ 10
    ∷ 48 ∷ 32 ∷ 48 ∷ 32 ∷ 45 ∷ 32 ∷ 45 ∷ 32 ∷ 45 ∷ 32 ∷ 45 ∷ 10
    ∷ 49 ∷ 32 ∷ 48 ∷ 32 ∷ 45 ∷ 32 ∷ 45 ∷ 32 ∷ 45 ∷ 32 ∷ 45 ∷ 10
    ∷ 50 ∷ 32 ∷ 48 ∷ 32 ∷ 45 ∷ 32 ∷ 45 ∷ 32 ∷ 45 ∷ 32 ∷ 45 ∷ 10
    ∷ 51 ∷ 32 ∷ 48 ∷ 32 ∷ 45 ∷ 32 ∷ 45 ∷ 32 ∷ 45 ∷ 32 ∷ 45 ∷ 10
    ∷ 52 ∷ 32 ∷ 48 ∷ 32 ∷ 48 ∷ 32 ∷ 105 ∷ 100 ∷ 108 ∷ 101 ∷ 32 ∷ 49 ∷ 32 ∷ 48 ∷ 10
    ∷ 53 ∷ 32 ∷ 48 ∷ 32 ∷ 48 ∷ 32 ∷ 55 ∷ 32 ∷ 48 ∷ 32 ∷ 48 ∷ 10
    ∷ 101 ∷ 110 ∷ 100 ∷ 32 ∷ 54 ∷ 32 ∷ 48 ∷ 10 ∷ [])
unfolding computed
worked_example = refl
