use Rattle.std.proofs.Common.{◌≡◌, ◌∙◌, ◌<◌, ◌-◌, Bool, true, false, not, T as Holds, ap, subst}
use Rattle.stream.specs.Progress.{must_wait}
use Rattle.stream.specs.Feed.{World, world_of_def}
use Rattle.stream.proofs.Feeding.{Inv, inv_start, inv_next, inv_near, inv_waits, inv_end, after_turn}
use Rattle.stream.proofs.feed.run.Goals as goal

holds_by : (t : Bool) → true ≡ t → Holds t
holds_by t e = subst (λ (b : Bool). Holds b) e tt

fails_by : (t : Bool) → false ≡ t → Holds (not t)
fails_by t e = subst (λ (b : Bool). Holds (not b)) e tt

pub loop-reading-init : goal.loop-reading-init
loop-reading-init c = inv_start _ _ _ _

pub returns-then-must_wait : goal.returns-then-must_wait
returns-then-must_wait c =
    inv_waits c.args.n c.args.input.now c.args.n c.args.last
    (world_of_def c.args.threads.now c.args.cpus.now c.args.nodes.now c.args.output.now c.args.fed)
    (world_of_def c.loop-reading.threads c.loop-reading.cpus c.loop-reading.nodes c.loop-reading.output c.loop-reading.f)
    c.loop-reading.invariant (holds_by _ (c.if-must_wait.ensures ∙ ap (must_wait c.args.last) c.asked-reading.ensures))

pub loop-reading-smaller : goal.loop-reading-smaller
loop-reading-smaller c =
    let w : World = world_of_def c.loop-reading.threads c.loop-reading.cpus c.loop-reading.nodes c.loop-reading.output c.loop-reading.f in
    after_turn c.args.input.now c.args.n w c.asked-reading.ensures c.command_read-a.ensures c.answered-f.ensures.1 c.answered-f.ensures.0
    (λ (v : World). c.args.n - v.fed.at < c.args.n - c.loop-reading.f.at)
    (inv_near c.args.input.now c.args.n c.args.last w (holds_by _ c.loop-reading-test.ensures)
    (fails_by _ (c.if-must_wait.ensures ∙ ap (must_wait c.args.last) c.asked-reading.ensures)))

pub loop-reading-preserved : goal.loop-reading-preserved
loop-reading-preserved c =
    let w₀ : World = world_of_def c.args.threads.now c.args.cpus.now c.args.nodes.now c.args.output.now c.args.fed in
    let w : World = world_of_def c.loop-reading.threads c.loop-reading.cpus c.loop-reading.nodes c.loop-reading.output c.loop-reading.f in
    after_turn c.args.input.now c.args.n w c.asked-reading.ensures c.command_read-a.ensures c.answered-f.ensures.1 c.answered-f.ensures.0
    (λ (v : World). Inv c.args.n c.args.input.now c.args.n c.args.last w₀ v)
    (inv_next c.args.n c.args.input.now c.args.n c.args.last w₀ w c.loop-reading.invariant (holds_by _ c.loop-reading-test.ensures)
    (fails_by _ (c.if-must_wait.ensures ∙ ap (must_wait c.args.last) c.asked-reading.ensures)))

pub returns : goal.returns
returns c =
    inv_end c.args.n c.args.input.now c.args.n c.args.last
    (world_of_def c.args.threads.now c.args.cpus.now c.args.nodes.now c.args.output.now c.args.fed)
    (world_of_def c.loop-reading.threads c.loop-reading.cpus c.loop-reading.nodes c.loop-reading.output c.loop-reading.f)
    c.loop-reading.invariant (fails_by _ c.loop-reading-test.ensures)
