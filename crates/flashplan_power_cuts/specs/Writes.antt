-- The writes that a log finished.
use Rattle.std.specs.Prelude.{ℕ, List, [], ◌∷◌, ◌++◌, Option, Some, None}
use Rattle.std.specs.List.{Contains}
use Rattle.slot_types.specs.declared.acts.Act.TheVariants as does
use Rattle.slot_types.specs.declared.pages.PageData.{PageData}
use Rattle.die_log.specs.Model.Log.{Log, Carried}
use Rattle.die_log.specs.Model.Flash.{ran_by}
use Rattle.flashplan_power_cuts.specs.declared.page_writes.PageWrite.{PageWrite}

-- what a slot wrote
abbrev pub write_in : Carried → Option PageWrite
write_in (Some (n, does.Write page bytes)) = Some (record { page = page; bytes = bytes })
write_in _ = None

abbrev pub listed : Option PageWrite → List PageWrite
listed None = []
listed (Some write) = write ∷ []

-- the writes of a log, the oldest first
abbrev pub writes_of : Log → List PageWrite
writes_of [] = []
writes_of (e ∷ past) = writes_of past ++ listed (write_in (ran_by e.reply))

-- one of these is of these bytes on the page
abbrev pub HasWrite : List PageWrite → ℕ → PageData → Type 0
HasWrite writes page bytes = Contains writes (record { page = page; bytes = bytes })
