use Rattle.flashplan_words.proofs.syntax.parts.on_files.Goals as goal

pub returns : goal.returns
returns c app made =
    let planned = c.with_arg-planned.ensures _ _ made c.plan_file.ensures.rule in
    c.with_arg.ensures _ _ planned c.script_file.ensures.rule
