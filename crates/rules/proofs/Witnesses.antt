-- Lists of calls that meet the hypotheses of demand 3, computed by the definitions.
use Rattle.std.specs.Prelude.{◌≡◌, refl, true, false, [], ◌∷◌, ◌++◌}
use Rattle.rules.specs.State.{base_limits, start}
use Rattle.rules.specs.Commands.{history}
use Rattle.rules.specs.Witnesses.{comes, few, found_nothing, next_on, one_cpu, round, shown, stat_tick, turn_of, two_cpus, with_steal}

-- Thread 1 waits in idle, and thread 2 comes in ahead of it in realtime: b is 1, and take 2 hands it out.
overtaken : turn_of 1 [] (history (start base_limits) (one_cpu ++ comes 1 0 9 255 ++ comes 2 3 3 255 ++ (next_on 0 0 ∷ next_on 0 0 ∷ [])) 0) ≡ (0 ∷ 1 ∷ 2 ∷ 0 ∷ 2 ∷ 0 ∷ [])
unfolding shown one_cpu comes next_on
overtaken = refl

stolen : (turn_of 1 [] (history (start base_limits) with_steal 0) ∷ (found_nothing false (history (start base_limits) with_steal 1) ∷ []) ∷ [])
    ≡ ((0 ∷ 0 ∷ 1 ∷ 1 ∷ 0 ∷ 1 ∷ []) ∷ (1 ∷ []) ∷ [])
unfolding shown two_cpus comes next_on with_steal
stolen = refl

-- Three threads wait on CPU 0, all pinned: `balance` asks for one, and gets none.
nobody_unpinned : found_nothing true (history (start base_limits) (two_cpus ++ comes 1 2 10 0 ++ comes 2 2 20 0 ++ comes 3 2 30 0 ++ (stat_tick 255 ∷ [])) 0) ≡ 1
unfolding shown two_cpus comes stat_tick
nobody_unpinned = refl

late : turn_of 0 [] (history (start few) (one_cpu ++ comes 1 2 127 255 ++ comes 0 2 1 255 ++ (stat_tick 0 ∷ []) ++ comes 2 2 127 255 ++ (next_on 0 0 ∷ [])
    ++ round ++ round ++ round ++ round ++ round ++ round ++ round) 0)
    ≡ (1 ∷ 6 ∷ 8 ∷ 0 ∷ 1 ∷ 1 ∷ [])
unfolding shown one_cpu comes next_on stat_tick round few
late = refl
