-- What contracts see of a mount, and what is true of it.
use Rattle.std.specs.Prelude.{◌≡◌, ℕ, ◌+◌, ◌<◌, ◌≤◌, ◌^◌, length, slice_index_or}
use Rattle.plan_rules.specs.Bound.{MeetsBound}
use Rattle.die_log.specs.Invariants.SoundCells.{AreSoundCells, IsOpen}
use Rattle.die_checkpoint.specs.Counts.{most_erases}
use Rattle.power_loss.specs.Aside.{most_rounds_beside, part_of}
use Rattle.die_mount.specs.declared.mount.Mount.TheInside.{Inside}
use Rattle.die_mount.specs.PartState.{PartState}
use Rattle.die_mount.specs.Mounting.{Mounting, IsAt, calls_left, free_of, goal_of, most_calls}

abbrev pub mounting_of : Inside → Mounting
mounting_of m = record { plan = m.plan; cells = m.part.cells; counts = m.counts.items; next = m.serial; rounds = m.rounds; stage = m.stage }

-- the plan leaves a block aside; cells fit the part, and it stands where its stage says; and no block is worn out, however
-- often its rounds erase it
pub record StandsWell (m : Mounting) : Type 0 where
  pub bound : MeetsBound m.plan
  pub beside : m.plan.shape.blocks < 1024
  pub sound : AreSoundCells (part_of m.plan) m.cells
  pub at : IsAt m m.stage
  pub counts : length m.counts ≡ m.plan.shape.blocks + 1
  pub unworn : (b : ℕ) → slice_index_or m.counts b 0 + most_rounds_beside m.plan ≤ most_erases
  pub few : calls_left m ≤ most_calls m.plan
  pub serials : m.next + calls_left m < 2 ^ 64

-- the part counts what its cells have
pub record CountsPart (m : Mounting) (p : PartState) : Type 0 where
  pub shape : p.shape ≡ (part_of m.plan).shape
  pub free : p.free ≡ free_of m
  pub last : (a : ℕ) → IsOpen (part_of m.plan) m.cells a → a ≡ p.last

pub record IsSoundMount (m : Inside) : Type 0 where
  pub stands : StandsWell (mounting_of m)
  pub counts : CountsPart (mounting_of m) m.part
  pub goal : m.goal ≡ goal_of m.plan
