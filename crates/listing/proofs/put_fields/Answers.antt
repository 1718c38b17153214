use Rattle.std.proofs.lemmas.List.{take_min}
use Rattle.std.proofs.Common.{◌≡◌, ℕ, List, take, sym, ap, ◌∙◌, drop-cons, rules}
use Rattle.rules.specs.Lines.{space}
use Rattle.lines.specs.Text.{text_of, write}
use Rattle.request.specs.Fields.{list_of}
use Rattle.listing.specs.Listing.{numbers}
use Rattle.listing.proofs.Numbers.{next_put, all_put}
use Rattle.listing.proofs.put_fields.Goals as goal

pub loop-number-preserved : goal.loop-number-preserved
unfolding space
loop-number-preserved c =
    let l : List ℕ = take c.min.result c.from-all.result in
    record {
      written = next_put _ _ _ l c.loop-number.number-index _ c.put.ensures.0 c.put_number.ensures.0 (drop-cons l c.loop-number.number-index 0 c.loop-number-test.true) ∙ c.loop-number.invariant.written;
      same_buffer = c.put_number.ensures.1 ∙ (c.put.ensures.1 ∙ c.loop-number.invariant.same_buffer);
    }

pub returns : goal.returns
unfolding list_of
returns c =
    let l : List ℕ = take c.min.result c.from-all.result in
    let all : c.from-all.result ≡ list_of c.args.fields = search rules in
    let same : l ≡ take c.args.count (list_of c.args.fields) = rw (c.min.ensures, all) (take_min c.args.count (list_of c.args.fields)) in
    (sym (all_put _ l _ c.loop-number-test.false) ∙ (c.loop-number.invariant.written ∙ ap (λ (m : List ℕ). write (text_of c.args.text.now) (numbers m)) same), c.loop-number.invariant.same_buffer)
