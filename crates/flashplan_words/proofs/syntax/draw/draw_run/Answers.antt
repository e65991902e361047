use Rattle.flashplan_words.proofs.syntax.draw.draw_run.Goals as goal

pub returns : goal.returns
returns c =
    let long = c.with_arg-long.ensures _ _ c.draw_files.ensures c.slots.ensures.rule in
    c.with_arg.ensures _ _ long c.die.ensures.rule
