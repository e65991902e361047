use Rattle.flashplan_words.proofs.syntax.wear.wear_words.Goals as goal

pub returns : goal.returns
returns c =
    let long = c.with_arg-long.ensures _ _ c.wear_files.ensures c.slots.ensures.rule in
    let begun = c.with_arg-begun.ensures _ _ long c.begun_from.ensures.rule in
    c.with_arg.ensures _ _ begun c.strict.ensures.rule
