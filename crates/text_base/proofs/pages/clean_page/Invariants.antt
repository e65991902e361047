use Rattle.std.proofs.Common.{◌≡◌, ◌≤◌, length}
use Rattle.text_base.proofs.PageLaws.{HasRead}
use Rattle.text_base.proofs.pages.clean_page.Given as goal

abbrev pub invariant-loop-i : goal.invariant-loop-i
invariant-loop-i l = record {
  len : length l.bytes ≡ 16;
  read : l.most ≤ 15 → HasRead l.digits l.bytes l.i;
}
