use Rattle.std.proofs.Common.{◌≡◌, ◌++◌, take}
use Rattle.flashplan_design.specs.Alphas.{rows_text}
use Rattle.flashplan_design.proofs.alpha_texts.put_rows.Given as goal

abbrev pub invariant-loop-row : goal.invariant-loop-row
invariant-loop-row l = l.text.items ≡ l.initial.text.items ++ rows_text l.slot_us (take l.row-index l.rows)
