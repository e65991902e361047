-- Room for where a mount ends.
use Rattle.std.specs.Prelude.{ℕ, List}
use Rattle.slot_types.specs.declared.plans.DiePlan.{DiePlan}

-- for so many pages and blocks, with these balances
pub record EndRoom : Type 0 where
  pub pages : ℕ
  pub blocks : ℕ
  pub balances : List ℕ

abbrev pub room_for : DiePlan → EndRoom
room_for plan = record { pages = plan.logical; blocks = plan.shape.blocks; balances = plan.caps }
