use Rattle.flashplan_words.proofs.syntax.draw.draw_words.Goals as goal

pub returns : goal.returns
returns c =
    let begun = c.with_arg-begun.ensures _ _ c.draw_timed.ensures c.checkpoint.ensures.rule in
    let asked = c.with_arg-asked.ensures _ _ begun c.demand.ensures.rule in
    c.with_arg.ensures _ _ asked c.strict.ensures.rule
