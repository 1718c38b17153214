-- Lists of calls that meet the hypotheses of demand 3, computed by the definitions.
use Rattle.std.specs.Prelude.{ℕ, ◌+◌, Bool, true, false, cond, ◌&&◌, List, [], ◌∷◌, ◌++◌, eqb, Option, None, Some}
use Rattle.std.specs.Bool.{beq}
use Rattle.rules.specs.Line.{count}
use Rattle.rules.specs.Puts.{Put, PutOrTake, a_put, a_take}
use Rattle.rules.specs.State.{Limits, is_number}
use Rattle.rules.specs.Ahead.{gone, waiting, threads, how_many, unpinned, rank, first_bucket, onward, earlier_part, same_part, how_far, ahead_of, put_after, a_of, puts_ahead, b_of, counts, served, calm_in, calm_while}
use Rattle.rules.specs.Laws.Computed.{computed}

-- Of the first put of thread x that is followed by a take that hands it out: a, b, the number of that take, whether it is a stealing one, the put's part,
-- and whether the arrivals were calm while it waited.
unfoldable pub handed : List PutOrTake → Put → List PutOrTake → List PutOrTake → List ℕ
handed pre p mid [] = []
handed pre p mid (a_put r ∷ es) = handed pre p (mid ++ (a_put r ∷ [])) es
handed pre p mid (a_take s o ∷ es) =
    cond (is_number p.thread o) (a_of pre p ∷ b_of pre p mid ∷ (served mid + 1) ∷ count s ∷ rank p.part ∷ count (calm_while p.thread mid) ∷ [])
    (handed pre p (mid ++ (a_take s o ∷ [])) es)

unfoldable pub turn_of : ℕ → List PutOrTake → List PutOrTake → List ℕ
turn_of x pre [] = []
turn_of x pre (a_put p ∷ es) = cond (eqb p.thread x) (handed pre p [] es) (turn_of x (pre ++ (a_put p ∷ [])) es)
turn_of x pre (a_take s o ∷ es) = turn_of x (pre ++ (a_take s o ∷ [])) es

-- how many of the own takes, or of the stealing ones, found nothing
unfoldable pub nothing_out : Option ℕ → Bool
nothing_out None = true
nothing_out (Some x) = false

unfoldable pub found_nothing : Bool → List PutOrTake → ℕ
found_nothing stealing [] = 0
found_nothing stealing (a_put p ∷ es) = found_nothing stealing es
found_nothing stealing (a_take s o ∷ es) = count (beq s stealing && nothing_out o) + found_nothing stealing es

unfoldable pub shown : ℕ
unfolding computed gone waiting threads how_many unpinned rank first_bucket onward earlier_part same_part how_far ahead_of put_after a_of puts_ahead b_of counts served calm_in calm_while handed turn_of nothing_out found_nothing
shown = 0

-- CPU 0 alone, or CPUs 0 and 1, on the root, sealed
unfoldable pub one_cpu : List (List ℕ)
one_cpu = (0x01 ∷ 0 ∷ []) ∷ (0x03 ∷ 0 ∷ 0 ∷ []) ∷ (0x04 ∷ []) ∷ []

unfoldable pub two_cpus : List (List ℕ)
two_cpus = (0x01 ∷ 0 ∷ []) ∷ (0x01 ∷ 1 ∷ []) ∷ (0x03 ∷ 0 ∷ 0 ∷ []) ∷ (0x03 ∷ 0 ∷ 1 ∷ []) ∷ (0x04 ∷ []) ∷ []

-- thread x is declared with class, value and pin (255: none), and put into a queue
unfoldable pub comes : ℕ → ℕ → ℕ → ℕ → List (List ℕ)
comes x class value pin = (0x10 ∷ x ∷ 0 ∷ class ∷ value ∷ pin ∷ []) ∷ (0x12 ∷ 0 ∷ x ∷ 0 ∷ []) ∷ []

-- CPU c takes the next thread; flags 0 blocks the one that runs, 5 puts it back into the queue
unfoldable pub next_on : ℕ → ℕ → List ℕ
next_on c flags = 0x13 ∷ c ∷ flags ∷ []

-- a stat tick of CPU 0 after so many times 16,777,216 nanoseconds
unfoldable pub stat_tick : ℕ → List ℕ
stat_tick n = 0x15 ∷ 0 ∷ 0 ∷ 0 ∷ 0 ∷ n ∷ []

-- Four threads on two CPUs. CPU 1 takes its two, then finds its queue empty and steals thread 1 from CPU 0.
unfoldable pub with_steal : List (List ℕ)
with_steal = two_cpus ++ comes 1 2 64 255 ++ comes 2 2 64 255 ++ comes 3 2 64 255 ++ comes 4 2 64 255 ++ (next_on 1 0 ∷ next_on 1 0 ∷ next_on 1 0 ∷ [])

-- At most three threads. Thread 0 is put into the timeshare bucket that comes last; threads 1 and 2 return ahead of it again and again, and the arrivals are
-- calm. It is handed out by take 8 of the 24 within which it must: one for each bucket.
unfoldable pub few : Limits
few = record { cpus = 64; nodes = 128; threads = 3; cpu_bytes = 1; node_bytes = 1; shortest = 2 }

-- the insert index moves on, and the thread that runs goes back into the queue
unfoldable pub round : List (List ℕ)
round = stat_tick 0 ∷ next_on 0 5 ∷ []
