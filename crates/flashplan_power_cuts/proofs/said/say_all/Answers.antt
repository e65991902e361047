use Rattle.std.proofs.Common.{◌≡◌, ◌+◌, List, map, subst, sym}
use Rattle.std.specs.Prelude.{All}
use Rattle.std.specs.List.{range_with_len}
use Rattle.flashplan_power_cuts.specs.Said.{SaysOf}
use Rattle.flashplan_power_cuts.specs.declared.said.PageSaid.{PageSaid}
use Rattle.flashplan_power_cuts.proofs.Telling.{pages_more, says_more}
use Rattle.flashplan_power_cuts.proofs.said.say_all.Goals as goal

pub loop-page-preserved : goal.loop-page-preserved
loop-page-preserved c = record {
  each = subst (λ (l : List PageSaid). All (SaysOf c.args.lost.die.now c.args.lost.earlier.now c.args.lost.writes.now c.args.mounted.now) l)
      (sym c.in_ok-push.ensures.items)
      (says_more c.args.lost.die.now c.args.lost.earlier.now c.args.lost.writes.now c.args.mounted.now c.loop-page.said.items c.say.result
      c.loop-page.invariant.each c.say.ensures.said);
  pages = subst (λ (l : List PageSaid). map (λ (p : PageSaid). p.page) l ≡ range_with_len 0 (c.loop-page.page + 1))
      (sym c.in_ok-push.ensures.items)
      (pages_more c.loop-page.said.items c.say.result c.loop-page.page c.loop-page.invariant.pages c.say.ensures.page);
}
