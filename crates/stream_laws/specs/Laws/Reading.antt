-- A command that stands whole at the front of some bytes.
use Rattle.std.specs.Prelude.{Bool, true, false}
use Rattle.rules.specs.Requests.{Reading, unknown, cut_short, asks}

-- not cut short
unfoldable pub is_whole : Reading → Bool
is_whole unknown = true
is_whole cut_short = false
is_whole (asks r n) = true
