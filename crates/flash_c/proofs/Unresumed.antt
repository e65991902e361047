-- Why no die that keeps its plan goes on: out of memory names nothing, and each task of a mounted die has enough.
use Rattle.std.proofs.Common.{◌≡◌, ℕ, refl, ap, ◌∙◌, arith}
use Rattle.std.specs.Prelude.{◌≢◌}
use Rattle.demand_rules.specs.declared.demands.DemandFault.TheVariants as demands
use Rattle.demand_rules.specs.declared.plans.TermsFault.TheVariants as faults
use Rattle.die_checkpoint.specs.declared.fault.CheckpointFault.{CheckpointFault}
use Rattle.die_checkpoint.specs.declared.fault.CheckpointFault.TheVariants as flaws
use Rattle.slot_core.specs.declared.renewals.RenewalRefusal.TheVariants as renewals
use Rattle.slot_core.specs.declared.resumptions.CheckpointRefusal.TheVariants as checkpoints
use Rattle.slot_core.specs.declared.resumptions.ResumeRefusal.TheVariants as dies
use Rattle.planned_die.specs.declared.lacks.Shortage.{Shortage}
use Rattle.planned_die.specs.declared.resumptions.PlanResumeRefusal.TheVariants as plans
use Rattle.ongoing_die.specs.declared.refusals.OngoingCheckpointRefusal.TheVariants as untaken
use Rattle.ongoing_die.specs.declared.refusals.OngoingResumeRefusal.{OngoingResumeRefusal}
use Rattle.ongoing_die.specs.declared.refusals.OngoingResumeRefusal.TheVariants as refuses
use Rattle.ongoing_die.specs.Resuming.{out_of_memory}
use Rattle.stepped_plan.specs.declared.refusals.PlanCheckpointRefusal.{PlanCheckpointRefusal}
use Rattle.stepped_plan.specs.declared.refusals.PlanCheckpointRefusal.TheVariants as stops
use Rattle.flash_c.specs.declared.shapes.FlashWhy.{FlashWhy}
use Rattle.flash_c.specs.Checkpoints.{fault_code}
use Rattle.flash_c.specs.PlannedResuming.{three, unresumed_code, unresumed_why, unwritten_code}
use Rattle.flash_c.proofs.Faults.{no_memory_names_nothing}

pub memory_is_alone : (refusal : OngoingResumeRefusal) → unresumed_code refusal ≡ 1 → unresumed_why refusal ≡ three 0 0 0
memory_is_alone (refuses.Plan (plans.Die dies.OtherDevice)) e = refl
memory_is_alone (refuses.Plan (plans.Die (dies.Unfit fault))) e =
    ap (λ (why : FlashWhy). three why.first why.second 0) (no_memory_names_nothing fault e)
memory_is_alone (refuses.Plan (plans.Terms fault)) e = refl
memory_is_alone (refuses.Plan plans.NoLife) e = refl
memory_is_alone (refuses.Plan (plans.NotStocked shortage)) e = absurd (omega (arith, e))
memory_is_alone (refuses.ShortLife task) e = absurd (omega (arith, e))

-- a refusal of another number than 1 isn't for memory
pub not_memory : (refusal : OngoingResumeRefusal) (code : ℕ) → code ≡ unresumed_code refusal → code ≢ 1 → refusal ≢ out_of_memory
not_memory refusal code is other same = other (is ∙ ap unresumed_code same)

fault_above : (fault : CheckpointFault) → fault_code fault ≢ 0
fault_above flaws.OtherShape e = absurd (omega (arith, e))
fault_above flaws.BadPlan e = absurd (omega (arith, e))
fault_above (flaws.Overfull block) e = absurd (omega (arith, e))
fault_above (flaws.SecondOpen block) e = absurd (omega (arith, e))
fault_above (flaws.WornOut block) e = absurd (omega (arith, e))
fault_above (flaws.Unprogrammed page) e = absurd (omega (arith, e))
fault_above (flaws.AboveCap task) e = absurd (omega (arith, e))
fault_above (flaws.OtherSum accounts free) e = absurd (omega (arith, e))
fault_above flaws.NoMemory e = absurd (omega (arith, e))
fault_above (flaws.SharedCell page) e = absurd (omega (arith, e))

-- the number of a refusal isn't 0
pub unresumed_above : (refusal : OngoingResumeRefusal) → unresumed_code refusal ≢ 0
unresumed_above (refuses.Plan (plans.Die dies.OtherDevice)) e = absurd (omega (arith, e))
unresumed_above (refuses.Plan (plans.Die (dies.Unfit fault))) e = fault_above fault e
unresumed_above (refuses.Plan (plans.Terms (faults.Demand (demands.Limits fault)))) e = absurd (omega (arith, e))
unresumed_above (refuses.Plan (plans.Terms (faults.Demand (demands.Load load)))) e = absurd (omega (arith, e))
unresumed_above (refuses.Plan (plans.Terms (faults.Demand (demands.Overfull slots excess)))) e = absurd (omega (arith, e))
unresumed_above (refuses.Plan (plans.Terms (faults.Supply fault))) e = absurd (omega (arith, e))
unresumed_above (refuses.Plan plans.NoLife) e = absurd (omega (arith, e))
unresumed_above (refuses.Plan (plans.NotStocked shortage)) e = absurd (omega (arith, e))
unresumed_above (refuses.ShortLife task) e = absurd (omega (arith, e))

pub unwritten_above : (refusal : PlanCheckpointRefusal) → unwritten_code refusal ≢ 0
unwritten_above (stops.Die (untaken.Die (checkpoints.NotRenewable renewals.DieStopped))) e = absurd (omega (arith, e))
unwritten_above (stops.Die (untaken.Die (checkpoints.NotRenewable (renewals.NotQuiet job)))) e = absurd (omega (arith, e))
unwritten_above (stops.Die (untaken.Die (checkpoints.NotRenewable (renewals.WornOut block)))) e = absurd (omega (arith, e))
unwritten_above (stops.Die (untaken.Die checkpoints.NoMemory)) e = absurd (omega (arith, e))
unwritten_above (stops.Die (untaken.AskWaits task)) e = absurd (omega (arith, e))
unwritten_above stops.Begun e = absurd (omega (arith, e))

fault_below : (fault : CheckpointFault) → fault_code fault ≢ 411
fault_below flaws.OtherShape e = absurd (omega (arith, e))
fault_below flaws.BadPlan e = absurd (omega (arith, e))
fault_below (flaws.Overfull block) e = absurd (omega (arith, e))
fault_below (flaws.SecondOpen block) e = absurd (omega (arith, e))
fault_below (flaws.WornOut block) e = absurd (omega (arith, e))
fault_below (flaws.Unprogrammed page) e = absurd (omega (arith, e))
fault_below (flaws.AboveCap task) e = absurd (omega (arith, e))
fault_below (flaws.OtherSum accounts free) e = absurd (omega (arith, e))
fault_below flaws.NoMemory e = absurd (omega (arith, e))
fault_below (flaws.SharedCell page) e = absurd (omega (arith, e))

pub never_411 : (refusal : OngoingResumeRefusal) → ((shortage : Shortage) → refusal ≢ refuses.Plan (plans.NotStocked shortage))
    → unresumed_code refusal ≢ 411
never_411 (refuses.Plan (plans.Die dies.OtherDevice)) stocked e = absurd (omega (arith, e))
never_411 (refuses.Plan (plans.Die (dies.Unfit fault))) stocked e = fault_below fault e
never_411 (refuses.Plan (plans.Terms (faults.Demand (demands.Limits fault)))) stocked e = absurd (omega (arith, e))
never_411 (refuses.Plan (plans.Terms (faults.Demand (demands.Load load)))) stocked e = absurd (omega (arith, e))
never_411 (refuses.Plan (plans.Terms (faults.Demand (demands.Overfull slots excess)))) stocked e = absurd (omega (arith, e))
never_411 (refuses.Plan (plans.Terms (faults.Supply fault))) stocked e = absurd (omega (arith, e))
never_411 (refuses.Plan plans.NoLife) stocked e = absurd (omega (arith, e))
never_411 (refuses.Plan (plans.NotStocked shortage)) stocked e = stocked shortage refl
never_411 (refuses.ShortLife task) stocked e = absurd (omega (arith, e))
