-- What the next slot of a log carries, as far as it is known before it.
use Rattle.std.specs.Prelude.{Option, Some, None}
use Rattle.slot_types.specs.declared.acts.Act.{Act}
use Rattle.slot_types.specs.declared.acts.Act.TheVariants as does
use Rattle.slot_types.specs.declared.events.Op.{Op}
use Rattle.slot_types.specs.declared.events.Op.TheVariants as asks
use Rattle.slot_types.specs.declared.events.Event.TheVariants as events
use Rattle.slot_core.specs.declared.next_slot.NextAct.{NextAct}
use Rattle.slot_core.specs.declared.next_slot.NextAct.TheVariants as next
use Rattle.slot_core.specs.declared.next_slot.NextSlot.{NextSlot}
use Rattle.flash_volume.specs.declared.collection.CollectStep.{CollectStep}
use Rattle.flash_volume.specs.declared.collection.CollectStep.TheVariants as steps
use Rattle.die_log.specs.Model.Log.{Log, Carried}
use Rattle.die_log.specs.Model.Flash.{ran_by}
use Rattle.die_log.specs.Model.Answers.{answer}
use Rattle.die_log.specs.Model.NeededCalls.{call_of}
use Rattle.die_log.specs.Model.Start.{Start}

-- an act without the bytes
abbrev pub kind_of : Act → NextAct
kind_of (does.Read page bytes) = next.Read page
kind_of (does.Write page bytes) = next.Write page
kind_of (does.Trim page) = next.Trim page
kind_of (does.CopyRead page) = next.CopyRead page
kind_of (does.CopyProgram page) = next.CopyProgram page
kind_of (does.Erase block) = next.Erase block

-- the same of an operation, and of a collection's step
abbrev pub kind_of_op : Op → NextAct
kind_of_op (asks.Read page) = next.Read page
kind_of_op (asks.Write page bytes) = next.Write page
kind_of_op (asks.Trim page) = next.Trim page

abbrev pub kind_of_step : CollectStep → NextAct
kind_of_step (steps.Read page source) = next.CopyRead page
kind_of_step (steps.Program page place bytes) = next.CopyProgram page
kind_of_step (steps.Erase block) = next.Erase block

abbrev pub nothing_next : NextSlot
nothing_next = record { ran = None; call = None }

-- the act of a slot that carries this after the log, and the call that it needs
abbrev pub next_by : Start → Log → Carried → NextSlot
next_by start log None = nothing_next
next_by start log (Some (n, act)) = record { ran = Some (n, kind_of act); call = call_of start log act }

-- of the log's next slot
abbrev pub next_slot : Start → Log → NextSlot
next_slot start log = next_by start log (ran_by (answer start log events.Slot))
