use Rattle.flashplan_words.proofs.syntax.arrivals.arrivals_run.Goals as goal

pub returns : goal.returns
returns c =
    let planned = c.with_arg-planned.ensures _ _ c.command-command.ensures c.plan_file.ensures.rule in
    c.with_arg.ensures _ _ planned c.slots.ensures.rule
