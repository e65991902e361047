-- A die goes on from a checkpoint, over a mirror with the names of its pages.
use Rattle.std.proofs.Common.{◌≡◌, ℕ, List, [], None, refl, ap, subst, ◌∙◌}
use Rattle.std.specs.Prelude.{◌≢◌, false, length, replicate}
use Rattle.slot_types.specs.declared.pages.PageData.{PageData}
use Rattle.slot_types.specs.declared.plans.DiePlan.{DiePlan}
use Rattle.slot_types.specs.declared.plans.Shape.{Shape}
use Rattle.demand_rules.specs.declared.terms.Terms.{Terms}
use Rattle.demand_rules.specs.Demand.{PassesDemand}
use Rattle.demand_rules.specs.Supply.{PassesSupply}
use Rattle.die_checkpoint.specs.declared.checkpoint.Checkpoint.{Checkpoint}
use Rattle.die_checkpoint.specs.Fits.{Fits}
use Rattle.flash_die.specs.Memory.{Memory}
use Rattle.die_log.specs.Model.Start.{Start}
use Rattle.die_log.specs.Results.DemandedLives.{AreFull}
use Rattle.slot_core.specs.Core.{Core, nothing_reserved}
use Rattle.slot_core.specs.Resumptions.{start_with, resumed_start}
use Rattle.ongoing_log.specs.PastLives.{PastLife, counted}
use Rattle.ongoing_log.specs.Ongoing.{begun_after, new_ongoing, shut_down}
use Rattle.planned_die.specs.declared.lacks.Shortage.{Shortage}
use Rattle.planned_die.specs.declared.resumptions.PlanResumeRefusal.TheVariants as plans
use Rattle.planned_die.specs.Planned.{with_life}
use Rattle.planned_die.specs.Resuming.{HaveEnough, IsFirstShort, lacked, lacks_of}
use Rattle.ongoing_die.specs.declared.refusals.OngoingResumeRefusal.{OngoingResumeRefusal}
use Rattle.ongoing_die.specs.declared.refusals.OngoingResumeRefusal.TheVariants as refuses
use Rattle.ongoing_die.specs.OngoingPlans.{IsLongestLife}
use Rattle.ongoing_die.specs.Resuming.{GoesOnAfter, RefusesOngoingResume}
use Rattle.ongoing_die.specs.Standing.{OngoingParts, StandsAs}
use Rattle.stepped_die.specs.declared.mirror.MirrorNand.{MirrorNand}
use Rattle.stepped_die.specs.Names.{memory_left}
use Rattle.stepped_die.proofs.Naming.{left_named}
use Rattle.stepped_plan.specs.Resuming.{HasGoneOn}

module _ (plan : DiePlan) (terms : Terms) (longest : ℕ) (c : Checkpoint) (names : List PageData) (mirror : MirrorNand) (die : OngoingParts MirrorNand)
    (left : mirror.memory ≡ memory_left plan.shape c names) where
  -- what a die begins with on this device, at this start
  abbrev begun : Start → MirrorNand → Core MirrorNand
  begun start device = record {
    start = start;
    device = device;
    stopped = false;
    reserved = nothing_reserved;
    lasting = nothing_reserved;
    log = [];
  }

  pub has_gone_on : die.die.core ≡ with_life terms die.die.life (begun (resumed_start plan c mirror.memory.blocks) mirror)
      → (die.die.terms ≡ terms) × (die.die.entered ≡ 0) × (die.die.first ≡ 0) × (die.die.asked ≡ lacks_of plan c.balances (length plan.caps))
      → die.waiting ≡ replicate (length plan.caps) None → IsLongestLife plan terms longest die.die.life → Fits plan c
      → PassesDemand plan terms × PassesSupply plan terms → HaveEnough plan terms c.balances
      → ((first : Start) (past : List PastLife) → GoesOnAfter first past die.die.core.start → counted past ≡ lacked plan c.balances
      → StandsAs first (begun_after past (length plan.caps)) die)
      → (AreFull die.die.core.start → (first : Start) (past : List PastLife) → GoesOnAfter first past die.die.core.start → counted past ≡ []
      → StandsAs first (begun_after past (length plan.caps)) die)
      → StandsAs die.die.core.start (begun_after (shut_down 0 (lacked plan c.balances) (new_ongoing plan)) (length plan.caps)) die
      → HasGoneOn plan terms longest c names die
  has_gone_on ok begins none life fits passes stocked goes_on mounted stands =
      let named = left_named plan c names mirror mirror fits refl left in record {
        core = ok ∙ (λ i. with_life terms die.die.life (begun (start_with plan c (named i)) (record { memory = left i })));
        terms_are = begins.0;
        entered = begins.1;
        clock = begins.2;
        asked = begins.3;
        none_waits = none;
        life = life;
        fits = fits;
        demand = passes.0;
        supply = passes.1;
        stocked = stocked;
        goes_on = goes_on;
        mounted = mounted;
        stands = stands;
      }

-- a mirror is of the plan's shape
pub refused_so : (plan : DiePlan) (terms : Terms) (longest : ℕ) (c : Checkpoint) (names : List PageData) (memory : Memory) (refusal : OngoingResumeRefusal)
    → memory ≡ memory_left plan.shape c names → RefusesOngoingResume plan terms longest c memory.shape refusal
    → RefusesOngoingResume plan terms longest c plan.shape refusal
refused_so plan terms longest c names memory refusal left h =
    subst (λ (shape : Shape). RefusesOngoingResume plan terms longest c shape refusal) (ap (λ (m : Memory). m.shape) left) h

-- where each balance is at its cap, no task has too few pages
pub never_short : (plan : DiePlan) (terms : Terms) (longest : ℕ) (c : Checkpoint) (shape : Shape) (refusal : OngoingResumeRefusal)
    → RefusesOngoingResume plan terms longest c shape refusal → c.balances ≡ plan.caps
    → ((shortage : Shortage) → ¬ IsFirstShort plan terms plan.caps shortage)
    → (shortage : Shortage) → refusal ≢ refuses.Plan (plans.NotStocked shortage)
never_short plan terms longest c shape refusal h full law shortage is =
    let k = subst (λ (r : OngoingResumeRefusal). RefusesOngoingResume plan terms longest c shape r) is h in
    law shortage (subst (λ (balances : List ℕ). IsFirstShort plan terms balances shortage) full k.1.3)
