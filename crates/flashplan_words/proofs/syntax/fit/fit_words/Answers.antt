use Rattle.flashplan_words.proofs.syntax.fit.fit_words.Goals as goal

pub returns : goal.returns
returns c = c.with_arg.ensures _ _ c.command.ensures c.required-sheet.ensures.rule
