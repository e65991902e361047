-- The calls of a mount, one after the other, and what they cost.
use Rattle.std.proofs.Common.{◌≡◌, ℕ, [], ◌∷◌, Some, None, ap, ◌∙◌, refl}
use Rattle.die_mount.specs.declared.stage.MountCall.{MountCall}
use Rattle.die_mount.specs.declared.stage.Stage.{Stage}
use Rattle.die_mount.specs.declared.stage.Stage.TheVariants as stages
use Rattle.die_mount.specs.Mounting.{Mounting, IsStep, call_at}
use Rattle.flashplan_labelled_parts.specs.declared.costs.MountCosts.{MountCosts}
use Rattle.flashplan_labelled_parts.specs.Mounts.{WentCounting, costs_with}

-- where no call comes, the mount is done
pub done_without : (next : ℕ) (stage : Stage) → call_at next stage ≡ None → stage ≡ stages.Done
done_without next (stages.First block slots) h = absurd cc
done_without next (stages.Read page from) h = absurd cc
done_without next (stages.Program page from to) h = absurd cc
done_without next (stages.Erase block slots) h = absurd cc
done_without next stages.Done h = refl

-- where one comes, it isn't
pub not_done : (next : ℕ) (stage : Stage) (call : MountCall) → call_at next stage ≡ Some call → stage ≡ stages.Done → ⊥
not_done next stage call h is = let done : call_at next stage ≡ None = ap (call_at next) is in absurd cc

pub starts_counting : (m : Mounting) (costs : MountCosts) → WentCounting m costs m costs
starts_counting m costs = record { calls = []; went = refl; costs_are = refl }

pub goes_counting : (before : Mounting) (counted : MountCosts) (m after : Mounting) (costs more : MountCosts)
    → WentCounting before counted m costs → IsStep m after → more ≡ costs_with m costs → WentCounting before counted after more
goes_counting before counted m after costs more went step is = record {
  calls = m ∷ went.calls;
  went = (went.went, step);
  costs_are = is ∙ ap (costs_with m) went.costs_are;
}
