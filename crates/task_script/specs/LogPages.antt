-- The bytes that the jobs of a log were asked to write are pages.
use Rattle.std.specs.Prelude.{All}
use Rattle.slot_types.specs.declared.replies.Entry.{Entry}
use Rattle.die_log.specs.Model.Log.{Log}
use Rattle.script_texts.specs.AskedPages.{AsksPages}

-- what an entry asks to write are pages
abbrev pub EntryHasPages : Entry → Type 0
EntryHasPages e = AsksPages e.event

-- so do all entries of a log
abbrev pub HasPages : Log → Type 0
HasPages log = All EntryHasPages log
