use Rattle.std.proofs.Common.{ℕ, ◌-◌, ◌+◌, ◌*◌, ◌∙◌, ap, arith}
use Rattle.slot_types.specs.declared.plans.DiePlan.{DiePlan}
use Rattle.power_loss.specs.Aside.{most_rounds_beside}
use Rattle.die_mount.specs.Mounting.{calls_left_at, round_calls}
use Rattle.die_mount.proofs.laws.a_mount_is_short.Goals as goal

pub returns : goal.returns
returns c = record {
  calls = λ plan before m b.
      ap (calls_left_at m.plan m.cells m.rounds) b.stage_is
      ∙ (ap (λ (n : ℕ). m.plan.shape.erase_slots - 0 + n * round_calls m.plan) b.rounds_is
      ∙ (ap (λ (p : DiePlan). p.shape.erase_slots - 0 + most_rounds_beside plan * round_calls p) b.plan_is ∙ omega arith));
  acts = λ before erased next acts m is. record { copies = omega (arith, is.rounds.copies); slots = omega (arith, is.rounds.slots) };
}
