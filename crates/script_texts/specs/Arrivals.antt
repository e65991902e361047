-- What the rows of a script ask.
use Rattle.std.specs.Prelude.{ℕ, ◌<◌, ◌≤◌}
use Rattle.slot_types.specs.Arrivals.{IsArrival}
use Rattle.script_texts.specs.declared.script_rows.RowHead.{RowHead}
use Rattle.script_texts.specs.declared.script_rows.ScriptItem.{ScriptItem}

-- what a row asks: any event except a slot, by the end of `slots` slots
abbrev pub Arrives : ℕ → ScriptItem → Type 0
Arrives slots item = (item.at ≤ slots) × IsArrival item.event

-- a row for one of `dies` dies
abbrev pub IsRowFor : ℕ → ℕ → ScriptItem → Type 0
IsRowFor dies slots item = (item.die < dies) × Arrives slots item

-- a head of a row for one of `dies` dies
abbrev pub IsHeadFor : ℕ → ℕ → RowHead → Type 0
IsHeadFor dies slots head = (head.die < dies) × (head.at ≤ slots)
