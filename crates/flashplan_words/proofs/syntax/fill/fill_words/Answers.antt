use Rattle.flashplan_words.proofs.syntax.fill.fill_words.Goals as goal

pub returns : goal.returns
returns c =
    let seeded = c.with_arg-seeded.ensures _ _ c.fill_lives.ensures c.seed.ensures.rule in
    c.with_arg.ensures _ _ seeded c.saved_to.ensures.rule
