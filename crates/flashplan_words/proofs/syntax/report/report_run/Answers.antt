use Rattle.flashplan_words.proofs.syntax.report.report_run.Goals as goal

pub returns : goal.returns
returns c =
    let long = c.with_arg-long.ensures _ _ c.report_files.ensures c.slots.ensures.rule in
    c.with_arg.ensures _ _ long c.csv.ensures.rule
