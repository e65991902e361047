use Rattle.flashplan_words.proofs.syntax.import.import_trace.Goals as goal

pub returns : goal.returns
returns c =
    let traced = c.with_arg-traced.ensures _ _ c.command.ensures c.files-traces.ensures.rule in
    c.with_arg.ensures _ _ traced c.slot_length.ensures.rule
