use Rattle.flashplan_words.proofs.syntax.import.import_words.Goals as goal

pub returns : goal.returns
returns c =
    let timed = c.with_arg-timed.ensures _ _ c.import_trace.ensures c.due.ensures.rule in
    c.with_arg.ensures _ _ timed c.as_plan.ensures.rule
