use Rattle.flashplan_words.proofs.syntax.arrivals.arrivals_words.Goals as goal

pub returns : goal.returns
returns c =
    let phased = c.with_arg-phased.ensures _ _ c.arrivals_drawn.ensures c.phases.ensures.rule in
    let late = c.with_arg-late.ensures _ _ phased c.jitter.ensures.rule in
    let loaded = c.with_arg-loaded.ensures _ _ late c.load.ensures.rule in
    c.with_arg.ensures _ _ loaded c.begun_from.ensures.rule
