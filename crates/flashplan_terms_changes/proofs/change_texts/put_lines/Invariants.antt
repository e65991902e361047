use Rattle.std.proofs.Common.{◌≡◌, ◌++◌, take}
use Rattle.flashplan_terms_changes.specs.Changes.{changes_text}
use Rattle.flashplan_terms_changes.proofs.change_texts.put_lines.Given as goal

abbrev pub invariant-loop-change : goal.invariant-loop-change
invariant-loop-change l = l.text.items ≡ l.initial.text.items ++ changes_text l.slot_us (take l.change-index l.changes)
