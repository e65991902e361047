-- The memory of a volume, on which nothing is written yet.
use Rattle.std.specs.Prelude.{◌≡◌, ℕ, List, length, Option, None, replicate}
use Rattle.slot_types.specs.declared.plans.Shape.{Shape}
use Rattle.plan_rules.specs.Accounts.{Accounts, opening_accounts}
use Rattle.plan_rules.specs.Bound.{MeetsBound}
use Rattle.page_map.specs.Placing.{blank_map}
use Rattle.flash_volume.specs.Array.{no_candidates}
use Rattle.flash_volume.specs.declared.collection.Collection.{Collection}
use Rattle.flash_volume.specs.declared.tables.Tables.{Tables}

-- no page lies anywhere, and each block is wholly free and was never erased
pub record AreBlank (shape : Shape) (logical : ℕ) (t : Tables) : Type 0 where
  pub placed_is : t.placed ≡ blank_map shape logical
  pub fills_are : t.fills ≡ replicate shape.blocks 0
  pub erases_are : t.erases.items ≡ replicate shape.blocks 0
  pub writing_is : t.writing ≡ None
  pub victims_are : t.victims ≡ no_candidates shape

-- the accounts are those of a fresh die of a plan that may be used, the tables are blank, and no collection runs
pub record IsUnused (accounts : Accounts) (t : Tables) (running : List (Option Collection)) : Type 0 where
  pub bound : MeetsBound accounts.plan
  pub opening : accounts ≡ opening_accounts accounts.plan
  pub blank : AreBlank accounts.plan.shape accounts.plan.logical t
  pub idle : running ≡ replicate (length accounts.plan.caps) None
