-- What contracts see of a part, and what is true of it.
use Rattle.std.specs.Prelude.{◌≡◌, ◌<◌, ◌≤◌, ◌==◌, Bool, length, map}
use Rattle.die_log.specs.Model.Flash.{Block}
use Rattle.die_mount.specs.declared.part.Part.TheInside.{Inside}
use Rattle.die_mount.specs.declared.part.PartBlock.{PartBlock}
use Rattle.die_mount.specs.PartState.{PartState}

abbrev pub block_of : PartBlock → Block
block_of b = record { filled = b.filled; erasing = b.erasing; erases = b.erases }

abbrev pub is_unfilled : PartBlock → Bool
is_unfilled b = b.filled == 0

abbrev pub part_state_of : Inside → PartState
part_state_of p = record {
  shape = p.shape;
  cells = record { blocks = map block_of p.blocks.items; places = p.map.places };
  last = p.last;
  free = p.free;
}

-- the map and the blocks are of this shape, and the block of the last program is one of them
pub record IsSoundPart (p : Inside) : Type 0 where
  pub map : p.map.shape ≡ p.shape
  pub blocks : length p.blocks.items ≡ p.shape.blocks
  pub few : p.shape.blocks ≤ 1024
  pub last : p.last < p.shape.blocks
