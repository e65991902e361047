use Rattle.planned_die.proofs.BegunSlots.{is_slot}
use Rattle.planned_die.proofs.laws.begun_slots_are_slots.Goals as goal

pub returns : goal.returns
returns g c caller result before between after h s =
    is_slot caller before between h g.N.Nand.ends g.N.Nand.failures g.N.Nand.never_fails after result s
