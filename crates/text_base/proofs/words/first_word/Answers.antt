use Rattle.std.specs.Prelude.{option_map}
use Rattle.text_base.proofs.StartLaws.{first-shorter, first-starts}
use Rattle.text_base.proofs.words.first_word.Goals as goal

pub returns-in-Some-clause-word : goal.returns-in-Some-clause-word
returns-in-Some-clause-word g c = first-starts g.T.Word.word_of c.args.text.now c.in-Some.found.0
    (option_map (λ text. text.now) c.in-Some.found.1) c.in-Some.ensures

pub returns-in-Some-clause-shorter : goal.returns-in-Some-clause-shorter
returns-in-Some-clause-shorter g c = first-shorter g.T.Word.word_of c.args.text.now c.in-Some.found.0 (λ text. text.now) c.in-Some.found.1
    c.in-Some.ensures
