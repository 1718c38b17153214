-- What a command of plain numbers asks, and the numbers of a request.
use Rattle.std.specs.Prelude.{ℕ, cond, ◌==◌, ltb, None, Some}
use Rattle.rules.specs.Requests as rules
use Rattle.thread.specs.Thread.{NONE}
use Rattle.thread.specs.Place.{pin_number}
use Rattle.outcome.specs.declared.numbers.Call.{Call}

-- before the seal
unfoldable pub prepared_by : Call → rules.Request
prepared_by k =
    cond (k.kind == 0x01) (rules.declare_cpu k.cpu)
    (cond (k.kind == 0x02) (rules.add_node k.node k.number)
    (cond (k.kind == 0x03) (rules.place_cpu k.node k.cpu) (cond (k.kind == 0x04) rules.seal (rules.set_shortest k.number))))

-- before the seal and behind it; a pin of NONE is none
unfoldable pub request_by : Call → rules.Request
request_by k =
    cond (ltb k.kind 0x10) (prepared_by k)
    (cond (k.kind == 0x10) (rules.declare_thread k.thread k.class k.value (cond (k.pin == NONE) None (Some k.pin)))
    (cond (k.kind == 0x11) (rules.set_tick k.number)
    (cond (k.kind == 0x12) (rules.schedule_thread k.cpu k.thread)
    (cond (k.kind == 0x13) (rules.schedule k.cpu k.number)
    (cond (k.kind == 0x14) (rules.hardtick k.cpu)
    (cond (k.kind == 0x15) (rules.stattick k.cpu k.number)
    (cond (k.kind == 0x16) (rules.resched k.cpu)
    (cond (k.kind == 0x17) (rules.maybe_preempt k.cpu)
    (cond (k.kind == 0x18) (rules.donate k.cpu k.thread k.class k.value)
    (cond (k.kind == 0x19) (rules.remove_donation k.thread) (rules.set_critical k.thread k.number)))))))))))

-- ---- the numbers of a request, and of what is read

abbrev pub call_in : ℕ → ℕ → ℕ → ℕ → ℕ → ℕ → ℕ → ℕ → ℕ → Call
call_in kind cpu thread node number class value pin used =
    record { kind = kind; cpu = cpu; thread = thread; node = node; number = number; class = class; value = value; pin = pin; used = used }

unfoldable pub call_of : rules.Request → ℕ → Call
call_of (rules.declare_cpu c) used = call_in 0x01 c NONE 0 0 0 0 0 used
call_of (rules.add_node p k) used = call_in 0x02 0 NONE p k 0 0 0 used
call_of (rules.place_cpu n c) used = call_in 0x03 c NONE n 0 0 0 0 used
call_of rules.seal used = call_in 0x04 0 NONE 0 0 0 0 0 used
call_of (rules.set_shortest n) used = call_in 0x05 0 NONE 0 n 0 0 0 used
call_of (rules.declare_thread x k v p) used = call_in 0x10 0 x 0 0 k v (pin_number p) used
call_of (rules.set_tick t) used = call_in 0x11 0 NONE 0 t 0 0 0 used
call_of (rules.schedule_thread c x) used = call_in 0x12 c x 0 0 0 0 0 used
call_of (rules.schedule c f) used = call_in 0x13 c NONE 0 f 0 0 0 used
call_of (rules.hardtick c) used = call_in 0x14 c NONE 0 0 0 0 0 used
call_of (rules.stattick c n) used = call_in 0x15 c NONE 0 n 0 0 0 used
call_of (rules.resched c) used = call_in 0x16 c NONE 0 0 0 0 0 used
call_of (rules.maybe_preempt c) used = call_in 0x17 c NONE 0 0 0 0 0 used
call_of (rules.donate c x k v) used = call_in 0x18 c x 0 0 k v 0 used
call_of (rules.remove_donation x) used = call_in 0x19 0 x 0 0 0 0 0 used
call_of (rules.set_critical x m) used = call_in 0x1a 0 x 0 m 0 0 0 used

unfoldable pub call_read : rules.Reading → Call
call_read rules.unknown = call_in 0 0 NONE 0 0 0 0 0 0
call_read rules.cut_short = call_in 0 0 NONE 0 0 0 0 0 0
call_read (rules.asks r used) = call_of r used
