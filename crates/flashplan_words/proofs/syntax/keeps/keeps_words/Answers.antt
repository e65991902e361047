use Rattle.flashplan_words.proofs.syntax.keeps.keeps_words.Goals as goal

pub returns : goal.returns
returns c =
    let long = c.with_arg-long.ensures _ _ c.keeps_files.ensures c.slots.ensures.rule in
    c.with_arg.ensures _ _ long c.slot_us.ensures.rule
