-- WHAT `start` LEAVES stands for the rules' start with the base's limits.
use Rattle.std.specs.Prelude.{ℕ, ◌≤◌, ◌<◌, ◌≡◌, refl, false, List, [], length, get_or, ltb}
use Rattle.std.proofs.Common.{true≢false, arith, ltb-false}
use Rattle.rules.proofs.Laws.Line.{both}
use Rattle.rules.specs.State.{base_limits, start}
use Rattle.rules.specs.Questions.{most_shortest}
use Rattle.thread.specs.declared.Thread.{Thread}
use Rattle.thread.specs.Thread.{NONE}
use Rattle.processor.specs.Words.{width}
use Rattle.topology.specs.CpuSet.{max_cpu_id}
use Rattle.represents.specs.World.{Small}
use Rattle.represents.specs.Topology.{Sized}
use Rattle.request.specs.Request as request
use Rattle.stream.specs.Start.{new_cpus, no_room_def, initial, start_def}
use Rattle.represents.specs.State.{limits_in, StateRep}
use Rattle.question_laws.proofs.Start.{new_all, as_many_cpus, stands_start}

-- records, CPUs and nodes enough
room_enough : (t c n : ℕ) → no_room_def t c n ≡ false → (1024 ≤ t) × ((64 ≤ c) × (128 ≤ n))
unfolding no_room_def
room_enough t c n e =
    both (ltb t 1024) (λ p. absurd (true≢false (rw p at e)))
    (λ p. both (ltb c 64) (λ q. absurd (true≢false (rw (p, q) at e)))
    (λ q. both (ltb n 128) (λ r. absurd (true≢false (rw (p, q, r) at e))) (λ r. (ltb-false _ _ p, (ltb-false _ _ q, ltb-false _ _ r)))))

small_base : Small base_limits
unfolding base_limits most_shortest
small_base = record { cpus = omega arith; threads = omega arith; shortest = omega arith }

pub start_stands : (ts : List Thread) (cs ns : List (List ℕ)) → no_room_def (length ts) (length cs) (length ns) ≡ false → length ts ≤ NONE
    → ((c : ℕ) → c < length cs → length (get_or cs c []) ≡ width) → Sized ns
    → StateRep (start_def (record { threads = ts; cpus = cs; nodes = ns })).memory.threads (start_def (record { threads = ts; cpus = cs; nodes = ns })).memory.cpus (start_def (record { threads = ts; cpus = cs; nodes = ns })).memory.nodes initial (start base_limits)
unfolding start_def base_limits limits_in initial request.width max_cpu_id
start_stands ts cs ns e most rows sized =
    let r : (1024 ≤ length ts) × ((64 ≤ length cs) × (128 ≤ length ns)) = room_enough (length ts) (length cs) (length ns) e in
    let long : (c : ℕ) → c < 64 → length (get_or cs c []) ≡ width = λ c h. rows c (omega (arith, r.1.0)) in
    rw e
    (stands_start (length ts) (new_cpus 64 cs) ns initial base_limits refl refl refl refl refl small_base (omega arith) (omega arith) (omega arith) r.0 most
    (as_many_cpus base_limits cs 64 r.1.0 long) (new_all base_limits cs 64 r.1.0 long) r.1.1 sized)
