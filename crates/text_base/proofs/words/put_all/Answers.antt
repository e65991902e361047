use Rattle.std.proofs.Common.{None, refl}
use Rattle.text_base.proofs.WordLaws.{word-more, words-end}
use Rattle.text_base.proofs.words.put_all.Goals as goal

pub returns-in-None-clause-ok : goal.returns-in-None-clause-ok
returns-in-None-clause-ok g c = rw c.in-None.ensures.word at (rw c.in-Some.is at c.loop-left.invariant)

pub loop-left-preserved : goal.loop-left-preserved
loop-left-preserved g c =
    let found = c.in-Some-first_word.ensures.word in
    word-more g.T.Word.word_of (g.L.WordSink.items c.loop-left.list) _ c.in-Some-first_word.item found.word _ _ _ found.parts found.says
    c.in_ok-push-in-Some-first_word.ensures.ok
    (rw c.in-Some.is at c.loop-left.invariant)

pub returns-clause-ok : goal.returns-clause-ok
returns-clause-ok g c = words-end g.T.Word.word_of (g.L.WordSink.items c.loop-left.list) None _ refl (rw c.in_default.is at c.loop-left.invariant)
