use Rattle.flashplan_words.proofs.syntax.compare.compare_run.Goals as goal

pub returns : goal.returns
returns c =
    let long = c.with_arg-long.ensures _ _ c.compare_files.ensures c.slots.ensures.rule in
    let begun = c.with_arg-begun.ensures _ _ long c.counted.ensures.rule in
    c.with_arg.ensures _ _ begun c.pool.ensures.rule
