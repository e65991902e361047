use Rattle.flashplan_words.proofs.syntax.draw.draw_failing.Goals as goal

pub returns : goal.returns
returns c =
    let told = c.with_arg-told.ensures _ _ c.draw_forms.ensures c.all.ensures.rule in
    c.with_arg.ensures _ _ told c.fail_at.ensures.rule
