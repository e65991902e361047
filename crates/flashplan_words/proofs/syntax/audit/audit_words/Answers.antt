use Rattle.flashplan_words.proofs.syntax.audit.audit_words.Goals as goal

pub returns : goal.returns
returns c =
    let read = c.with_arg-read.ensures _ _ c.command.ensures c.files-reports.ensures.rule in
    c.with_arg.ensures _ _ read c.strict.ensures.rule
