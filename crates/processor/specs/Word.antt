-- The numbers of the words of a CPU, by their names in src/words.rt. The run queue has the first 72; of them are read by themselves:
use Rattle.std.specs.Prelude.{ℕ}

abbrev pub CURRENT_PRIORITY : ℕ
CURRENT_PRIORITY = 61

abbrev pub LOAD : ℕ
LOAD = 62

abbrev pub MOVABLE : ℕ
MOVABLE = 64

-- the CPU's own
abbrev pub DECLARED : ℕ
DECLARED = 72

abbrev pub PLACED : ℕ
PLACED = 73

abbrev pub RUNNING : ℕ
RUNNING = 74

abbrev pub OWN_PRIORITY : ℕ
OWN_PRIORITY = 75

abbrev pub IS_IDLE : ℕ
IS_IDLE = 76

abbrev pub MUST_REBALANCE : ℕ
MUST_REBALANCE = 77

abbrev pub PREEMPT : ℕ
PREEMPT = 78

abbrev pub RAND_STATE : ℕ
RAND_STATE = 79

abbrev pub CUR_REBALANCE_TIME : ℕ
CUR_REBALANCE_TIME = 80

abbrev pub IDLE_TIMESLICE : ℕ
IDLE_TIMESLICE = 81
