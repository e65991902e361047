use Rattle.flashplan_words.proofs.syntax.report.report_timed.Goals as goal

pub returns : goal.returns
returns c =
    let worn = c.with_arg-worn.ensures _ _ c.report_run.ensures c.endurance.ensures.rule in
    let timed = c.with_arg-timed.ensures _ _ worn c.slot_us.ensures.rule in
    c.with_arg.ensures _ _ timed c.page_bytes.ensures.rule
