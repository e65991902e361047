use Rattle.flashplan_words.proofs.syntax.draw.draw_timed.Goals as goal

pub returns : goal.returns
returns c =
    let timed = c.with_arg-timed.ensures _ _ c.draw_failing.ensures c.slot_us.ensures.rule in
    c.with_arg.ensures _ _ timed c.page_bytes.ensures.rule
