use Rattle.flashplan_words.proofs.syntax.with_output.Goals as goal

pub returns : goal.returns
returns c app made =
    let saved = c.with_arg-saved.ensures _ _ made c.output.ensures.rule in
    c.with_arg.ensures _ _ saved c.quiet.ensures.rule
