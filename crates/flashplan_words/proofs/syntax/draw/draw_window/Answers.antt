use Rattle.flashplan_words.proofs.syntax.draw.draw_window.Goals as goal

pub returns : goal.returns
returns c =
    let begun = c.with_arg-begun.ensures _ _ c.draw_run.ensures c.first.ensures.rule in
    c.with_arg.ensures _ _ begun c.end.ensures.rule
