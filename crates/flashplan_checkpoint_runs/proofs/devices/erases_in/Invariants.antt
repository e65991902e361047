use Rattle.std.proofs.Common.{◌≡◌, ◌++◌, drop}
use Rattle.flashplan_checkpoint_runs.specs.Devices.{erases_of}
use Rattle.flashplan_checkpoint_runs.proofs.devices.erases_in.Given as goal

abbrev pub invariant-loop-block : goal.invariant-loop-block
invariant-loop-block l = l.erases.items ++ erases_of (drop l.block-index l.blocks) ≡ erases_of l.blocks
