use Rattle.text_base.proofs.StartLaws.{first-none}
use Rattle.text_base.proofs.words.cut_word.Goals as goal

pub returns-in-Some-clause-word : goal.returns-in-Some-clause-word
returns-in-Some-clause-word g c = record { word = c.cut.result.0.now; parts = c.cut.ensures.parts; says = c.in-Some.ensures }

pub returns-in-None-clause-word : goal.returns-in-None-clause-word
returns-in-None-clause-word g c = first-none g.T.Word.word_of c.cut.result.0.now _ _ c.cut.ensures.parts c.in-None.ensures
