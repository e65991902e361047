use Rattle.std.proofs.Common.{◌≡◌, ◌==◌, ◌+◌, ◌≤◌, length}
use Rattle.std.specs.Prelude.{option_map}
use Rattle.std.specs.List.{slice_split}
use Rattle.text_base.specs.Pages.{page_of}
use Rattle.text_base.specs.Words.{all_of, words_of}
use Rattle.text_base.proofs.WordLaws.{front_count, size_left}
use Rattle.text_base.proofs.words.count_all.Given as goal

abbrev pub decreases-loop-left : goal.decreases-loop-left
decreases-loop-left l = size_left (option_map (λ text. text.now) l.left)

abbrev pub invariant-loop-left : goal.invariant-loop-left
invariant-loop-left l = record {
  few : l.count + size_left (option_map (λ text. text.now) l.left) ≤ length l.fn.text + 1;
  counted : front_count l.count (all_of page_of (words_of (option_map (λ text. text.now) l.left)))
      ≡ option_map length (all_of page_of (slice_split (λ b. b == 32) l.fn.text));
}
