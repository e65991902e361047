use Rattle.flashplan_words.proofs.syntax.compare.compare_forms.Goals as goal

pub returns : goal.returns
returns c =
    let told = c.with_arg-told.ensures _ _ c.compare_run.ensures c.csv.ensures.rule in
    c.with_arg.ensures _ _ told c.drawn.ensures.rule
