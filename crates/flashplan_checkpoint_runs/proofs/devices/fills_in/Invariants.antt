use Rattle.std.proofs.Common.{◌≡◌, ◌++◌, drop}
use Rattle.flashplan_checkpoint_runs.specs.Devices.{fills_of}
use Rattle.flashplan_checkpoint_runs.proofs.devices.fills_in.Given as goal

abbrev pub invariant-loop-block : goal.invariant-loop-block
invariant-loop-block l = l.fills.items ++ fills_of (drop l.block-index l.blocks) ≡ fills_of l.blocks
