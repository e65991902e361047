use Rattle.std.proofs.Common.{◌≡◌, ◌++◌, drop}
use Rattle.flashplan_design_pages.specs.Pages.{escaped}
use Rattle.flashplan_design_pages.proofs.escapes.put_escaped.Given as goal

abbrev pub invariant-loop-place : goal.invariant-loop-place
invariant-loop-place l = l.text.items ++ escaped (drop l.place l.other) ≡ l.initial.text.items ++ escaped l.other
