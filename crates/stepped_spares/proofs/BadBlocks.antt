-- A block that is bad stays so.
use Rattle.std.proofs.Common.{◌≡◌, ℕ, Bool, refl, ap, sym, ◌∙◌, inl, inr}
use Rattle.std.proofs.lemmas.Bool.{cases_lt}
use Rattle.spare_blocks.specs.declared.cells.BlockUse.{BlockUse}
use Rattle.spare_blocks.specs.declared.cells.BlockUse.TheVariants as use_as
use Rattle.spare_blocks.specs.Tables.{Table, IsTable, IsSpare, use_of, without_spare}
use Rattle.spare_blocks.proofs.Numbers.{bad-spare, replaced_bad}
use Rattle.stepped_spares.specs.declared.moves.Outcome.{Outcome}
use Rattle.stepped_spares.specs.declared.moves.Outcome.TheVariants as outcome
use Rattle.stepped_spares.specs.declared.moves.Stage.{Stage}
use Rattle.stepped_spares.specs.declared.moves.Stage.TheVariants as stage
use Rattle.stepped_spares.specs.Stepping.{Stepping, IsLost, IsMoved, IsMovedBy, IsSoundAt, IsSoundStepping}
use Rattle.stepped_spares.proofs.Filling.{other_of}

module _ (t u : Table) (sound : IsTable t) (x : ℕ) (bad : use_of t x ≡ use_as.Bad) where
  same : u ≡ t → use_of u x ≡ use_as.Bad
  same e = ap (λ (v : Table). use_of v x) e ∙ bad

  less : (spare : ℕ) → IsSpare t spare → u ≡ without_spare spare t → use_of u x ≡ use_as.Bad
  less spare is e =
      ap (λ (v : Table). use_of v x) e
      ∙ (other_of t spare x (λ at. bad-spare (sym bad ∙ (ap (use_of t) at ∙ is))) ∙ bad)

  lost : (all : Bool) (y q r : ℕ) (s : Stage) (b : BlockUse) → use_of t y ≡ b
      → IsLost all y b (record { table = t; pages = q; stage = stage.Erasing y all }) (record { table = u; pages = r; stage = s }) → use_of u x ≡ use_as.Bad
  lost all y q r s use_as.Spare e (taken, next) = less y e taken
  lost all y q r s (use_as.InPlan number) e (inl (spare, is, taken, next)) =
      ap (λ (v : Table). use_of v x) taken ∙ replaced_bad t sound number spare (sound.listed y number e).0 is x bad
  lost all y q r s (use_as.InPlan number) e (inr (none, stays, worn)) = same stays
  lost all y q r s use_as.Bad e is_lost = absurd is_lost

  by_stage : (s v : Stage) (q r : ℕ) (how : Outcome) → IsSoundAt t q s
      → IsMovedBy how (record { table = t; pages = q; stage = s }) (record { table = u; pages = r; stage = v }) → use_of u x ≡ use_as.Bad
  by_stage s v q r outcome.Fault at (stays, end) = same stays
  by_stage (stage.Erasing y all) v q r outcome.Done at (stays, next) = same stays
  by_stage (stage.Erasing y all) v q r outcome.Failed at is_lost = lost all y q r v (use_of t y) refl is_lost
  by_stage (stage.Filling number spare cells cell) v q r outcome.Done (within, is, le, fits) (more, over) = elim (cases_lt cell cells) [
    | inl below ↦ same (more below).0
    | inr past ↦ ap (λ (w : Table). use_of w x) (over past).0 ∙ replaced_bad t sound number spare within is x bad
  ]
  by_stage (stage.Filling number spare cells cell) v q r outcome.Failed (within, is, le, fits) (taken, next) = less spare is taken
  by_stage stage.Working v q r outcome.Done at is = absurd is
  by_stage stage.Working v q r outcome.Failed at is = absurd is
  by_stage stage.WornOut v q r outcome.Done at is = absurd is
  by_stage stage.WornOut v q r outcome.Failed at is = absurd is
  by_stage stage.Faulted v q r outcome.Done at is = absurd is
  by_stage stage.Faulted v q r outcome.Failed at is = absurd is

pub stays_bad : (how : Outcome) (before after : Stepping) → IsTable before.table → IsSoundStepping before → IsMoved how before after → (x : ℕ)
    → use_of before.table x ≡ use_as.Bad → use_of after.table x ≡ use_as.Bad
stays_bad how before after sound at is x bad =
    by_stage before.table after.table sound x bad before.stage after.stage before.pages after.pages how at is.moved
