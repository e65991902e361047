-- Why no die is made of a plan that it is to keep.
use Rattle.std.specs.Prelude.{◌≡◌, ℕ, ◌<◌, ◌≤◌, ⊤}
use Rattle.slot_types.specs.declared.plans.DiePlan.{DiePlan}
use Rattle.slot_types.specs.declared.plans.Shape.{Shape}
use Rattle.slot_types.specs.declared.refusals.Refusal.{Refusal}
use Rattle.slot_types.specs.declared.refusals.Refusal.TheVariants as because
use Rattle.slot_types.specs.Shapes.{IsShape}
use Rattle.plan_rules.specs.Bound.{MeetsBound}
use Rattle.demand_rules.specs.declared.terms.Terms.{Terms}
use Rattle.demand_rules.specs.Demand.{PassesDemand}
use Rattle.demand_rules.specs.Supply.{PassesSupply}
use Rattle.demand_rules.specs.Faults.{IsTermsFault}
use Rattle.planned_log.specs.Lives.{IsLife}
use Rattle.planned_die.specs.declared.refusals.PlanRefusal.{PlanRefusal}
use Rattle.planned_die.specs.declared.refusals.PlanRefusal.TheVariants as refuses

-- the shape is out of its limits or another one than the device's; else the plan doesn't meet its bound; or there was no
-- memory
abbrev pub RefusesDie : DiePlan → Shape → Refusal → Type 0
RefusesDie plan shape because.BadShape = ¬ (IsShape plan.shape × (shape ≡ plan.shape))
RefusesDie plan shape because.BadPlan = IsShape plan.shape × (shape ≡ plan.shape) × ¬ MeetsBound plan
RefusesDie plan shape because.NoMemory = ⊤
RefusesDie plan shape _ = ⊥

-- a life of some slots, at most `longest`
pub record IsSomeLife (plan : DiePlan) (terms : Terms) (longest life : ℕ) : Type 0 where
  pub some : 0 < life
  pub within : life ≤ longest
  pub is_life : IsLife plan terms life

-- else the terms don't pass their tests; else there is no life of at most `longest` slots
abbrev pub RefusesPlan : DiePlan → Terms → ℕ → Shape → PlanRefusal → Type 0
RefusesPlan plan terms longest shape (refuses.Die refusal) = RefusesDie plan shape refusal
RefusesPlan plan terms longest shape (refuses.Terms fault) = MeetsBound plan × IsTermsFault plan terms fault
RefusesPlan plan terms longest shape refuses.NoLife =
    MeetsBound plan × PassesDemand plan terms × PassesSupply plan terms × ((life : ℕ) → ¬ IsSomeLife plan terms longest life)
