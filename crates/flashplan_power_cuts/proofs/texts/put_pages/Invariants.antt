use Rattle.std.proofs.Common.{◌≡◌, ◌++◌, drop}
use Rattle.std.specs.Prelude.{flat_map}
use Rattle.flashplan_power_cuts.specs.Texts.{page_line}
use Rattle.flashplan_power_cuts.proofs.texts.put_pages.Given as goal

abbrev pub invariant-loop-said : goal.invariant-loop-said
invariant-loop-said l = l.text.items ++ flat_map (page_line l.die l.before) (drop l.said-index l.pages)
    ≡ l.initial.text.items ++ flat_map (page_line l.die l.before) l.pages
