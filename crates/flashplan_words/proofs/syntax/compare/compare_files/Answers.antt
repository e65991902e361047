use Rattle.flashplan_words.proofs.syntax.compare.compare_files.Goals as goal

pub returns : goal.returns
returns c = c.on_files.ensures _ c.command.ensures
