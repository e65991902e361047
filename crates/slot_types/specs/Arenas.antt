-- Operations in memory that is reserved.
use Rattle.std.specs.Prelude.{ℕ, ◌+◌, ◌≤◌, List}
use Rattle.slot_types.specs.declared.events.Op.{Op}

-- operations, for how many more memory is reserved, and for how many there is memory where none stands
pub record Arena : Type 0 where
  pub ops : List Op
  pub room : ℕ
  pub lasting : ℕ

-- a list of this length and capacity takes `room` more items, and `lasting`, which are no fewer, once it is empty
pub record HasRoom (room lasting len capacity : ℕ) : Type 0 where
  pub for_more : len + room ≤ capacity
  pub for_all : lasting ≤ capacity
  pub most : room ≤ lasting
