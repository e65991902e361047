use Rattle.flashplan_words.proofs.syntax.draw.draw_forms.Goals as goal

pub returns : goal.returns
returns c =
    let chosen = c.with_arg-chosen.ensures _ _ c.draw_window.ensures c.worst.ensures.rule in
    c.with_arg.ensures _ _ chosen c.as_text.ensures.rule
