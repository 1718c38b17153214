use Rattle.std.proofs.Common.{◌≡◌, [], ◌∷◌, refl, arith, append-nil}
use Rattle.std.specs.Slice.Iter.{iter_rest}
use Rattle.std.specs.Iterator.Adapters.{rev_source}
use Rattle.rules.specs.Requests.{operand}
use Rattle.request.proofs.Bytes.{parts_more, value_more, value_fits}
use Rattle.request.proofs.number.Goals as goal

pub loop-byte-init : goal.loop-byte-init
unfolding operand
loop-byte-init c =
    let e : iter_rest (rev_source c.into_iter-byte-iterator.result) ≡ c.args.bytes.now = cc c.iter.ensures.rest in
    (tt, tt, ([], rw append-nil e, refl))

pub overflow_mul-value : goal.overflow_mul-value
overflow_mul-value c =
    let s = c.loop-byte.invariant.2 in
    let fits = value_fits _ s.0 _ _ _ (rw c.in-Some.ensures.steps at s.1) s.2 (λ i. omega (arith, c.type_inv.bytes i)) c.requires in
    omega arith

pub overflow_add-value : goal.overflow_add-value
overflow_add-value c =
    let s = c.loop-byte.invariant.2 in
    let fits = value_fits _ s.0 _ _ _ (rw c.in-Some.ensures.steps at s.1) s.2 (λ i. omega (arith, c.type_inv.bytes i)) c.requires in
    omega (arith, c.from.ensures)

pub loop-byte-preserved : goal.loop-byte-preserved
loop-byte-preserved c =
    let s = c.loop-byte.invariant.2 in
    let parts = rw c.in-Some.ensures.steps at s.1 in
    (tt, tt, (c.in-Some.byte.now ∷ s.0, parts_more _ _ _ _ _ parts s.2, rw c.from.ensures (value_more _ _ _ _ _ parts s.2)))
