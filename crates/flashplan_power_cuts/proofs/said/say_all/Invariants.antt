use Rattle.std.proofs.Common.{◌≡◌, map}
use Rattle.std.specs.Prelude.{All}
use Rattle.std.specs.List.{range_with_len}
use Rattle.flashplan_power_cuts.specs.Said.{SaysOf}
use Rattle.flashplan_power_cuts.specs.declared.said.PageSaid.{PageSaid}
use Rattle.flashplan_power_cuts.proofs.said.say_all.Given as goal

abbrev pub invariant-loop-page : goal.invariant-loop-page
invariant-loop-page l = record {
  each : All (SaysOf l.lost.die.now l.lost.earlier.now l.lost.writes.now l.mounted) l.said.items;
  pages : map (λ (page : PageSaid). page.page) l.said.items ≡ range_with_len 0 l.page;
}
