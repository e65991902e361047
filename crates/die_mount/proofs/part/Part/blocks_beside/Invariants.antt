use Rattle.std.proofs.Common.{◌≡◌, map, take}
use Rattle.std.specs.Prelude.{vec_capacity}
use Rattle.die_log.specs.Model.Flash.{free_block}
use Rattle.power_loss.specs.Aside.{without_aside}
use Rattle.die_mount.specs.Ending.{counts_of}
use Rattle.die_mount.specs.Erases.{counted}
use Rattle.die_mount.proofs.part.Part.blocks_beside.Given as goal

abbrev pub invariant-loop-block : goal.invariant-loop-block
invariant-loop-block l = record {
  so_far : l.blocks.items ≡ map counts_of (take l.block (without_aside l.last l.aside free_block (counted l.before l.self.cells).blocks));
  room : vec_capacity l.blocks ≡ vec_capacity l.fn.room;
}
