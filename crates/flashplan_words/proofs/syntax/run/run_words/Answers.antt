use Rattle.flashplan_words.proofs.syntax.run.run_words.Goals as goal

pub returns : goal.returns
returns c =
    let failing = c.with_arg-failing.ensures _ _ c.run_saved.ensures c.fail_at.ensures.rule in
    let keeping = c.with_arg-keeping.ensures _ _ failing c.keep.ensures.rule in
    c.with_arg.ensures _ _ keeping c.strict.ensures.rule
