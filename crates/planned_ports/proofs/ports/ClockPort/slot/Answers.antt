use Rattle.planned_ports.proofs.Passing.{is_slot, refuses_slots}
use Rattle.planned_ports.proofs.ports.ClockPort.slot.Goals as goal

pub slot_of-requires : goal.slot_of-requires
slot_of-requires g c = is_slot _ c.in-Ok.granted _ c.in-Ok.ensures.added

pub slot_refusal-requires : goal.slot_refusal-requires
slot_refusal-requires g c = refuses_slots _ c.in-Err.refused _ c.in-Err.ensures.refused
