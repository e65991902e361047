use Rattle.slot_core.proofs.slots.carry_out.Given as goal

abbrev pub ghost-choose : goal.ghost-choose
ghost-choose g a = g.from
