-- Shapes of dies.
use Rattle.std.specs.Prelude.{◌≤◌}
use Rattle.slot_types.specs.declared.plans.Shape.{Shape}

-- the shape's numbers are within their limits
pub record IsShape (shape : Shape) : Type 0 where
  pub some_blocks : 2 ≤ shape.blocks
  pub few_blocks : shape.blocks ≤ 1024
  pub some_pages : 2 ≤ shape.pages
  pub few_pages : shape.pages ≤ 256
  pub some_slots : 1 ≤ shape.erase_slots
  pub few_slots : shape.erase_slots ≤ 64
