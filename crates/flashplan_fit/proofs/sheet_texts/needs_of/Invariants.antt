use Rattle.std.proofs.Common.{take}
use Rattle.std.specs.List.{AllZip}
use Rattle.toml.specs.View.{view}
use Rattle.flashplan_fit.specs.Sheets.{IsNeedIn}
use Rattle.flashplan_fit.proofs.sheet_texts.needs_of.Given as goal

abbrev pub invariant-loop-i : goal.invariant-loop-i
invariant-loop-i l = AllZip (λ v need. IsNeedIn (view v) need) (take l.i l.tables) l.needs
