-- Which call of the device a slot needs.
use Rattle.std.specs.Prelude.{ℕ, Option, Some, None, option_map}
use Rattle.slot_types.specs.declared.plans.DiePlan.{DiePlan}
use Rattle.slot_types.specs.declared.pages.PageData.{PageData}
use Rattle.slot_types.specs.declared.pages.Place.{Place}
use Rattle.slot_types.specs.declared.acts.Act.{Act}
use Rattle.slot_types.specs.declared.acts.Act.TheVariants as does
use Rattle.slot_types.specs.declared.events.Event.TheVariants as events
use Rattle.slot_types.specs.Places.{place_of}
use Rattle.flash_die.specs.declared.nand.NandCall.{NandCall}
use Rattle.flash_die.specs.declared.nand.NandCall.TheVariants as calls
use Rattle.die_log.specs.Model.Log.{Log, Carried}
use Rattle.die_log.specs.Model.Flash.{Cells, cells, content, block_at, open_block, ran_by}
use Rattle.die_log.specs.Model.Answers.{answer}
use Rattle.die_log.specs.Model.Start.{Start}

-- the cell that the next program fills: the first free one of the open block
abbrev pub next_place : DiePlan → Cells → Option Place
next_place plan c = option_map (λ b. record { block = b; page = (block_at c b).filled }) (open_block plan c)

-- a read of the cell where the page lies; none where it lies nowhere
abbrev pub read_of : Cells → ℕ → Option NandCall
read_of c page = option_map (λ place. calls.Read place) (place_of c.places page)

-- a program of the next cell with these bytes of the page
abbrev pub program_of : DiePlan → Cells → ℕ → PageData → Option NandCall
program_of plan c page bytes = option_map (λ place. calls.Program place (Some page) bytes) (next_place plan c)

-- the call that an act needs which comes after this log
abbrev pub call_of : Start → Log → Act → Option NandCall
call_of start past (does.Read page bytes) = read_of (cells start past) page
call_of start past (does.Write page bytes) = program_of start.plan (cells start past) page bytes
call_of start past (does.Trim page) = None
call_of start past (does.CopyRead page) = read_of (cells start past) page
call_of start past (does.CopyProgram page) = program_of start.plan (cells start past) page (content start past page)
call_of start past (does.Erase block) = Some (calls.EraseSlot block)

-- none where nothing is carried
abbrev pub call_by : Start → Log → Carried → Option NandCall
call_by start past None = None
call_by start past (Some (n, act)) = call_of start past act

-- the call that the log's next slot needs, if it needs one
abbrev pub needed_call : Start → Log → Option NandCall
needed_call start log = call_by start log (ran_by (answer start log events.Slot))
