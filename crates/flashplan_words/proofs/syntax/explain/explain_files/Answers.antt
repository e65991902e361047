use Rattle.flashplan_words.proofs.syntax.explain.explain_files.Goals as goal

pub returns : goal.returns
returns c =
    let planned = c.with_arg-planned.ensures _ _ c.command-command.ensures c.plan_file.ensures.rule in
    c.with_arg.ensures _ _ planned c.begun_from.ensures.rule
