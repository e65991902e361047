-- A volume begins on memory that nothing has used yet.
use Rattle.std.proofs.Common.{◌≡◌, ℕ, ◌+◌, ◌-◌, ◌*◌, ◌≤◌, List, length, Option, None, sym, ap, ◌∙◌, subst}
use Rattle.std.specs.Prelude.{replicate, sum}
use Rattle.slot_types.specs.declared.plans.DiePlan.{DiePlan}
use Rattle.slot_types.specs.declared.plans.Shape.{Shape}
use Rattle.slot_types.specs.Shapes.{IsShape}
use Rattle.plan_rules.specs.Bound.{MeetsBound}
use Rattle.plan_rules.specs.Accounts.{Accounts, opening_accounts}
use Rattle.page_map.specs.Placing.{blank_map}
use Rattle.page_ledger.specs.Quiet.{quiet_accounts}
use Rattle.die_checkpoint.specs.declared.checkpoint.Checkpoint.{Checkpoint}
use Rattle.die_checkpoint.specs.Fits.{Fits}
use Rattle.flash_die.specs.Flash.{Block, IsFresh}
use Rattle.flash_volume.specs.Array.{IsSoundState, no_candidates}
use Rattle.flash_volume.specs.Checkpoints.{IsAsLeft, AreTablesOf}
use Rattle.flash_volume.specs.Memory.{AreBlank, IsUnused}
use Rattle.flash_volume.specs.SoundVolume.{IsSoundVolume}
use Rattle.flash_volume.specs.declared.collection.Collection.{Collection}
use Rattle.flash_volume.specs.declared.tables.Tables.{Tables}
use Rattle.flash_volume.proofs.Fresh.{stands_fresh, sound_fresh}
use Rattle.flash_volume.proofs.Resuming.{stands_resumed, sound_resumed, room_resumed}

pub tables_of : (said plan : DiePlan) (c : Checkpoint) (own : Tables) → said ≡ plan → AreTablesOf said.shape c own → AreTablesOf plan.shape c own
tables_of said plan c own same = subst (λ (p : DiePlan). AreTablesOf p.shape c own) same

-- memory of a plan
module _ (accounts : Accounts) (t : Tables) (running : List (Option Collection)) (plan : DiePlan) (unused : IsUnused accounts t running)
    (plan_is : accounts.plan ≡ plan) where
  pub opens : accounts ≡ opening_accounts plan
  opens = unused.opening ∙ ap opening_accounts plan_is

  pub is_blank : AreBlank plan.shape plan.logical t
  is_blank = subst (λ (p : DiePlan). AreBlank p.shape p.logical t) plan_is unused.blank

  pub none_runs : running ≡ replicate (length plan.caps) None
  none_runs = unused.idle ∙ ap (λ (p : DiePlan). replicate (length p.caps) None) plan_is

  -- on a fresh device
  module _ (shape : Shape) (failures : ℕ) (blocks : List Block) (same : shape ≡ plan.shape) (fresh : IsFresh shape blocks failures) where
    bound : MeetsBound plan
    bound = subst MeetsBound plan_is unused.bound

    placed_is : t.placed ≡ blank_map shape plan.logical
    placed_is = is_blank.placed_is ∙ ap (λ (s : Shape). blank_map s plan.logical) (sym same)

    victims_are : t.victims ≡ no_candidates shape
    victims_are = is_blank.victims_are ∙ ap no_candidates (sym same)

    zeros_are : replicate {A = ℕ} plan.shape.blocks 0 ≡ replicate shape.blocks 0
    zeros_are = ap (λ (s : Shape). replicate {A = ℕ} s.blocks 0) (sym same)

    pub stands_begun : IsSoundState shape failures blocks t.placed t.fills t.erases.items t.writing t.victims
    stands_begun =
        rw (placed_is, victims_are, is_blank.fills_are ∙ zeros_are, is_blank.erases_are ∙ zeros_are, is_blank.writing_is)
        (stands_fresh shape failures blocks plan.logical (subst IsShape (sym same) bound.shape) fresh)

    pub sound_begun : IsSoundVolume accounts shape failures blocks t.placed t.victims running
    sound_begun = rw (opens, placed_is, victims_are, none_runs) (sound_fresh plan shape failures blocks bound same fresh)

  -- where a checkpoint goes on
  module _ (c : Checkpoint) (fits : Fits plan c) where
    -- what its accounts become
    pub room_in : (balances : List ℕ) → balances ≡ c.balances
        → c.spare + sum balances + length accounts.plan.caps * (accounts.plan.shape.pages - accounts.plan.alpha)
        ≤ accounts.plan.shape.blocks * accounts.plan.shape.pages
    room_in balances are = rw (plan_is, are) (room_resumed plan c fits)

    pub accounts_on : (after : Accounts) (balances : List ℕ) → balances ≡ c.balances
        → after ≡ quiet_accounts accounts.plan c.spare balances → after ≡ quiet_accounts plan c.spare c.balances
    accounts_on after balances are is = is ∙ ap (λ (b : List ℕ). quiet_accounts accounts.plan c.spare b) are
        ∙ ap (λ (p : DiePlan). quiet_accounts p c.spare c.balances) plan_is

    -- over a device as it was left, with the checkpoint's tables
    module _ (own : Tables) (of : AreTablesOf plan.shape c own) (shape : Shape) (failures : ℕ) (blocks : List Block)
        (same : shape ≡ plan.shape) (left : IsAsLeft c blocks failures) where
      pub stands_on : IsSoundState shape failures blocks own.placed own.fills own.erases.items own.writing own.victims
      stands_on = rw of.placed_is (stands_resumed plan c shape blocks failures own.fills own.erases.items own.writing own.victims fits same
          left of.fills_are of.erases_are of.writing_is of.victims_are)

      pub sound_on : (after : Accounts) → after ≡ quiet_accounts plan c.spare c.balances
          → IsSoundVolume after shape failures blocks own.placed own.victims running
      sound_on after is = rw (is, none_runs) (sound_resumed plan c shape blocks failures own.placed own.fills own.erases.items own.writing
          own.victims fits same left of.placed_is stands_on of.victims_are)
