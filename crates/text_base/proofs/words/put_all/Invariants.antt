use Rattle.std.proofs.Common.{◌≡◌, ◌==◌}
use Rattle.std.specs.Prelude.{option_map}
use Rattle.std.specs.List.{slice_split}
use Rattle.text_base.specs.Words.{all_of, words_of}
use Rattle.text_base.proofs.WordLaws.{front_words, size_left}
use Rattle.text_base.proofs.words.put_all.Given as goal

abbrev pub decreases-loop-left : goal.decreases-loop-left
decreases-loop-left g l = size_left (option_map (λ text. text.now) l.left)

abbrev pub invariant-loop-left : goal.invariant-loop-left
invariant-loop-left g l = front_words (g.L.WordSink.items l.list) (all_of g.T.Word.word_of (words_of (option_map (λ text. text.now) l.left)))
    ≡ all_of g.T.Word.word_of (slice_split (λ b. b == 32) l.fn.text)
