-- What the declared requests stand for, and reading by parts.
use Rattle.std.specs.Prelude.{ℕ, Bool, cond, List, [], ◌∷◌, Option, None, Some, Result, Ok, Err}
use Rattle.rules.specs.State.{Limits, base_limits}
use Rattle.rules.specs.Requests as rules
use Rattle.request.specs.declared.Request.{Request}
use Rattle.request.specs.declared.Request.TheVariants as req
use Rattle.request.specs.declared.Asked.{Asked}
use Rattle.request.specs.declared.Unread.{Unread}
use Rattle.request.specs.declared.Unread.TheVariants as unread

-- ---- what the declared cases stand for

unfoldable pub request_of : Request → rules.Request
request_of (req.DeclareCpu c) = rules.declare_cpu c
request_of (req.AddNode p k) = rules.add_node p k
request_of (req.PlaceCpu n c) = rules.place_cpu n c
request_of req.Seal = rules.seal
request_of (req.SetShortest n) = rules.set_shortest n
request_of (req.DeclareThread x k v p) = rules.declare_thread x k v p
request_of (req.SetTick t) = rules.set_tick t
request_of (req.ScheduleThread c x) = rules.schedule_thread c x
request_of (req.Schedule c f) = rules.schedule c f
request_of (req.Hardtick c) = rules.hardtick c
request_of (req.Stattick c n) = rules.stattick c n
request_of (req.Resched c) = rules.resched c
request_of (req.MaybePreempt c) = rules.maybe_preempt c
request_of (req.Donate c x k v) = rules.donate c x k v
request_of (req.RemoveDonation x) = rules.remove_donation x
request_of (req.SetCritical x m) = rules.set_critical x m

unfoldable pub reading_of : Result Asked Unread → rules.Reading
reading_of (Err unread.Unknown) = rules.unknown
reading_of (Err unread.CutShort) = rules.cut_short
reading_of (Ok a) = rules.asks (request_of a.request) a.used

-- ---- the limits that reading asks: how many bytes an operand has that names a CPU or a node

unfoldable pub width : Bool → ℕ
width wide = cond wide 2 1

unfoldable pub limits_of : Bool → Limits
limits_of wide = record {
  cpus = base_limits.cpus;
  nodes = base_limits.nodes;
  threads = base_limits.threads;
  cpu_bytes = width wide;
  node_bytes = width wide;
  shortest = base_limits.shortest;
}

unfoldable pub all_ones_of : Bool → ℕ
all_ones_of wide = rules.all_ones (width wide)

-- ---- the table's row of a byte

unfoldable pub operands_in : Option (List ℕ) → Option ℕ
operands_in None = None
operands_in (Some ns) = Some (rules.sum ns)

unfoldable pub operands_of : Bool → ℕ → Option ℕ
operands_of wide byte = operands_in (rules.widths (limits_of wide) byte)

-- What the byte asks with the operands that the bytes behind it begin with; a byte that is not in the table is read as hex 1A.
unfoldable pub asked : Bool → ℕ → List ℕ → rules.Request
asked wide byte bytes =
    rules.request (limits_of wide) byte (rules.operands (rules.widths_or (2 ∷ 1 ∷ []) (rules.widths (limits_of wide) byte)) bytes)
