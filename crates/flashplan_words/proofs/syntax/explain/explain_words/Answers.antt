use Rattle.flashplan_words.proofs.syntax.explain.explain_words.Goals as goal

pub returns : goal.returns
returns c =
    let timed = c.with_arg-timed.ensures _ _ c.explain_files.ensures c.slot_us.ensures.rule in
    c.with_arg.ensures _ _ timed c.page_bytes.ensures.rule
