-- The bytes that the rows of a script ask to write are pages.
use Rattle.std.specs.Prelude.{⊤, List, All}
use Rattle.slot_types.specs.declared.events.Op.{Op}
use Rattle.slot_types.specs.declared.events.Op.TheVariants as asks
use Rattle.slot_types.specs.declared.events.Event.{Event}
use Rattle.slot_types.specs.declared.events.Event.TheVariants as events
use Rattle.text_base.specs.Pages.{IsPage}
use Rattle.script_texts.specs.declared.script_rows.ScriptItem.{ScriptItem}

-- what an operation writes is a page
abbrev pub WritesPage : Op → Type 0
WritesPage (asks.Read page) = ⊤
WritesPage (asks.Write page bytes) = IsPage bytes
WritesPage (asks.Trim page) = ⊤

-- what a job is to write are pages
abbrev pub AsksPages : Event → Type 0
AsksPages (events.Submit task release due ops) = All WritesPage ops
AsksPages _ = ⊤

-- so do all rows of a script
abbrev pub RowHasPages : ScriptItem → Type 0
RowHasPages item = AsksPages item.event

abbrev pub RowsHavePages : List ScriptItem → Type 0
RowsHavePages items = All RowHasPages items
