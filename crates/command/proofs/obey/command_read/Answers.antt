use Rattle.std.proofs.Common.{ap, ◌∙◌}
use Rattle.outcome.specs.declared.answer.Answered.{Answered}
use Rattle.command.specs.Lent.{Lent, kept}
use Rattle.command.proofs.Judged.{refused, obeyed}
use Rattle.command.proofs.obey.command_read.Goals as goal

pub returns-in-Ok : goal.returns-in-Ok
returns-in-Ok c =
    let w : Lent = record { threads = c.args.threads.now; cpus = c.args.cpus.now; nodes = c.args.nodes.now } in
    c.obey.ensures
    ∙ obeyed c.args.state w c.args.reading _ c.named-t.ensures c.judged.result c.judged.ensures.refused c.in-Ok.asked c.in-Ok.is c.in-Ok.ensures.asks

pub returns-in-Err : goal.returns-in-Err
returns-in-Err c =
    let w : Lent = record { threads = c.args.threads.now; cpus = c.args.cpus.now; nodes = c.args.nodes.now } in
    ap (λ (a : Answered). kept w a) c.refuses.ensures
    ∙ refused c.args.state w c.args.reading _ c.named-t.ensures c.judged.result c.judged.ensures.refused c.in-Err.refusal _ c.in-Err.is c.taken.ensures
