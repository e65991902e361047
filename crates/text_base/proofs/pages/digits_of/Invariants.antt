use Rattle.std.proofs.Common.{◌≡◌, ◌*◌, ◌++◌, length, take, drop}
use Rattle.hex.specs.Hex.{encode_lower}
use Rattle.text_base.specs.Pages.{page_word}
use Rattle.text_base.proofs.pages.digits_of.Given as goal

abbrev pub invariant-loop-i : goal.invariant-loop-i
invariant-loop-i l = record {
  len : length l.digits ≡ 32;
  made : take (2 * l.i) l.digits ++ encode_lower (drop l.i l.page.0) ≡ page_word l.page;
}
