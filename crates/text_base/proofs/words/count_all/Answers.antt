use Rattle.std.proofs.Common.{None, arith, refl, ◌≤◌, length}
use Rattle.std.specs.Prelude.{option_map}
use Rattle.text_base.specs.Pages.{page_of}
use Rattle.text_base.proofs.WordLaws.{count-end, count-more, size-left, size_left}
use Rattle.text_base.proofs.words.count_all.Goals as goal

pub loop-left-preserved : goal.loop-left-preserved
loop-left-preserved c =
    let found = c.in-Some-skip_page.ensures.word in
    let before = rw c.in-Some.is at c.loop-left.invariant.few in
    let shorter : size_left (option_map (λ text. text.now) c.in-Some-skip_page.rest) ≤ length c.in-Some.text.now
    = size-left (λ text. text.now) c.in-Some-skip_page.rest (length c.in-Some.text.now) c.in-Some-skip_page.ensures.shorter in
    record {
      few = omega (arith, before, shorter);
      counted = count-more page_of c.loop-left.count found.0 found.1.word _ _ _ found.1.parts found.1.says
          (rw c.in-Some.is at c.loop-left.invariant.counted);
    }

pub returns : goal.returns
returns c = count-end page_of c.loop-left.count None _ refl (rw c.in_default.is at c.loop-left.invariant.counted)
