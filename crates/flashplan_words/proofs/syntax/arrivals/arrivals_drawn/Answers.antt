use Rattle.flashplan_words.proofs.syntax.arrivals.arrivals_drawn.Goals as goal

pub returns : goal.returns
returns c =
    let seeded = c.with_arg-seeded.ensures _ _ c.arrivals_run.ensures c.seed.ensures.rule in
    c.with_arg.ensures _ _ seeded c.fill.ensures.rule
