use Rattle.flashplan_words.proofs.syntax.cut.cut_at.Goals as goal

pub returns : goal.returns
returns c =
    let long = c.with_arg-long.ensures _ _ c.cut_files.ensures c.slots.ensures.rule in
    let one = c.with_arg-one.ensures _ _ long c.cut_call.ensures.rule in
    c.with_arg.ensures _ _ one c.every.ensures.rule
