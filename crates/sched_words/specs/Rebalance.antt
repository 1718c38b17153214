-- When the boot CPU balances.
use Rattle.std.specs.Prelude.{ℕ, ◌+◌, ◌-◌, ◌%◌, Bool, true, false, cond, ◌==◌, nat_lt}
use Rattle.rules.specs.Draw.{next_state, draw}
use Rattle.processor.specs.Left.{Words, Left}
use Rattle.processor.specs.Words.{word, put_word}
use Rattle.processor.specs.Word.{RAND_STATE, CUR_REBALANCE_TIME}

-- the time passes, or, if it is more than what is left, is drawn anew
unfoldable pub time_passed : ℕ → ℕ → Words → Left Bool Words
time_passed us dt cs =
    cond (nat_lt (word cs us CUR_REBALANCE_TIME) dt)
    (record {
      answer = true;
      memory = put_word (put_word cs us RAND_STATE (next_state us (word cs us RAND_STATE))) us CUR_REBALANCE_TIME (500000000 + draw (next_state us (word cs us RAND_STATE)) % 1000000000);
    })
    (record { answer = false; memory = put_word cs us CUR_REBALANCE_TIME (word cs us CUR_REBALANCE_TIME - dt) })

-- only the boot CPU balances
unfoldable pub rebalance_due : ℕ → ℕ → Words → Left Bool Words
rebalance_due us dt cs = cond (us == 0) (time_passed us dt cs) (record { answer = false; memory = cs })
