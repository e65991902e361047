use Rattle.slot_core.specs.Resumptions.{resumed_start}
use Rattle.slot_core.proofs.memory.DieMemory.resume.Given as goal

abbrev pub ghost-start_by : goal.ghost-start_by
ghost-start_by g a = resumed_start a._plan.now a._checkpoint.now (g.N.Nand.blocks a._device.now)
