use Rattle.std.proofs.Common.{◌≡◌, ℕ, ◌≤◌, List, [], length, map, refl, ap, sym, subst, ◌∙◌, arith}
use Rattle.slot_types.specs.declared.plans.Shape.{Shape}
use Rattle.demand_rules.specs.declared.terms.Terms.{Terms}
use Rattle.die_checkpoint.specs.Fits.{Fits}
use Rattle.die_checkpoint.specs.declared.checkpoint.Checkpoint.{Checkpoint}
use Rattle.planned_die.specs.declared.resumptions.PlanResumeRefusal.{PlanResumeRefusal}
use Rattle.planned_die.specs.declared.resumptions.PlanResumeRefusal.TheVariants as refuses
use Rattle.planned_die.specs.NewPlans.{IsSomeLife}
use Rattle.std.specs.Prelude.{All}
use Rattle.slot_types.specs.declared.plans.DiePlan.{DiePlan}
use Rattle.demand_rules.specs.Demand.{PassesDemand}
use Rattle.demand_rules.specs.Supply.{PassesSupply}
use Rattle.die_log.specs.Model.Start.{Start}
use Rattle.die_log.specs.Model.Opening.{IsOpening}
use Rattle.die_log.specs.Results.DemandedLives.{AreFull}
use Rattle.slot_core.specs.Core.{Core}
use Rattle.slot_core.specs.Resumptions.{resumed_start, RefusesResume}
use Rattle.planned_log.specs.Lives.{IsLife}
use Rattle.planned_die.specs.declared.memory.AskedJob.{AskedJob}
use Rattle.planned_die.specs.Remembered.{jobs_of}
use Rattle.planned_die.specs.Planned.{HasLived, with_life}
use Rattle.planned_die.specs.Resuming.{HaveEnough, lacked, lacks_of, RefusesPlanned, RefusesPlanResume}
use Rattle.planned_die.proofs.Resuming.{resumed_lived, full_lived, early_lacks, one_each}
use Rattle.planned_die.proofs.Reserved.{life_reserved}
use Rattle.planned_die.proofs.Quiet.{quiet_at_once}
use Rattle.planned_die.proofs.planned_die.PlannedDie.resume.Goals as goal

-- what preparing refuses, resuming refuses
not_prepared : (plan : DiePlan) (terms : Terms) (longest : ℕ) (taken : Checkpoint) (shape : Shape) (r : PlanResumeRefusal) → shape ≡ plan.shape
    → Fits plan taken → RefusesPlanned plan terms longest taken.balances r → RefusesPlanResume plan terms longest taken shape r
not_prepared plan terms longest taken shape (refuses.Die why) same fits h = subst (λ w. RefusesResume plan taken shape w) (sym h) (same, fits.all_else)
not_prepared plan terms longest taken shape (refuses.Terms fault) same fits h = (fits, h)
not_prepared plan terms longest taken shape refuses.NoLife same fits h = (fits, h)
not_prepared plan terms longest taken shape (refuses.NotStocked shortage) same fits h = (fits, h)

-- the die below with memory for its life
pub returns-clause-ok : goal.returns-clause-ok
returns-clause-ok g c = c.in-Ok-prepare.ensures.core ∙ ap (with_life c.args.terms c.in-Ok-prepare.made.life) c.in-Ok.ensures.ok

-- what it is taken to have lived
pub returns-clause-lived : goal.returns-clause-lived
returns-clause-lived g c =
    let start : Start = resumed_start c.args.plan c.args.checkpoint.now (g.N.Nand.blocks c.args.device) in
    let was : c.in-Ok.core.start ≡ start = ap (λ (core : Core g.row.N.Denot). core.start) c.in-Ok.ensures.ok in
    let plan_is : c.in-Ok.core.start.plan ≡ c.args.plan = ap (λ (s : Start). s.plan) was in
    let has : c.as_slice.result.now ≡ c.args.checkpoint.now.balances = c.as_slice.ensures in
    let made : c.prepare.new.core.start ≡ start = ap (λ (core : Core g.row.N.Denot). core.start) c.in-Ok-prepare.ensures.core ∙ was in
    let empty : c.prepare.new.core.log ≡ [] =
    ap (λ (core : Core g.row.N.Denot). core.log) c.in-Ok-prepare.ensures.core ∙ ap (λ (core : Core g.row.N.Denot). core.log) c.in-Ok.ensures.ok in
    let opens : IsOpening start = subst IsOpening was c.promises.ensures.opens in
    let passes : PassesDemand c.args.plan c.args.terms × PassesSupply c.args.plan c.args.terms =
    subst (λ (p : DiePlan). PassesDemand p c.args.terms × PassesSupply p c.args.terms) plan_is c.in-Ok-prepare.ensures.passes in
    let is_life : IsLife c.args.plan c.args.terms c.in-Ok-prepare.made.life =
    subst (λ (p : DiePlan). IsLife p c.args.terms c.in-Ok-prepare.made.life) plan_is c.in-Ok-prepare.ensures.life.is_life in
    let enough : HaveEnough c.args.plan c.args.terms c.args.checkpoint.now.balances =
    subst (λ (b : List ℕ). HaveEnough c.args.plan c.args.terms b) has
    (subst (λ (p : DiePlan). HaveEnough p c.args.terms c.as_slice.result.now) plan_is c.in-Ok-prepare.ensures.stocked) in
    let asked_is : map jobs_of c.in-Ok-prepare.made.asked.items ≡ lacks_of c.args.plan c.args.checkpoint.now.balances (length c.args.plan.caps) =
    c.in-Ok-prepare.ensures.asked
    ∙ (ap (λ (p : DiePlan). lacks_of p c.as_slice.result.now (length p.caps)) plan_is
    ∙ ap (λ (b : List ℕ). lacks_of c.args.plan b (length c.args.plan.caps)) has) in
    subst (λ (l : List (List AskedJob)). HasLived {N = g.row.N.Denot} (record {
      core = c.prepare.new.core;
      terms = c.args.terms;
      life = c.in-Ok-prepare.made.life;
      entered = 0;
      first = 0;
      asked = l;
    }) (lacked c.args.plan c.args.checkpoint.now.balances)) (sym asked_is)
    (resumed_lived start c.args.terms c.in-Ok-prepare.made.life opens passes.0 passes.1 is_life enough c.prepare.new.core made empty)

pub returns-clause-full : goal.returns-clause-full
returns-clause-full g c full =
    let start : Start = resumed_start c.args.plan c.args.checkpoint.now (g.N.Nand.blocks c.args.device) in
    let was : c.in-Ok.core.start ≡ start = ap (λ (core : Core g.row.N.Denot). core.start) c.in-Ok.ensures.ok in
    let plan_is : c.in-Ok.core.start.plan ≡ c.args.plan = ap (λ (s : Start). s.plan) was in
    let has : c.as_slice.result.now ≡ c.args.checkpoint.now.balances = c.as_slice.ensures in
    let made : c.prepare.new.core.start ≡ start = ap (λ (core : Core g.row.N.Denot). core.start) c.in-Ok-prepare.ensures.core ∙ was in
    let empty : c.prepare.new.core.log ≡ [] =
    ap (λ (core : Core g.row.N.Denot). core.log) c.in-Ok-prepare.ensures.core ∙ ap (λ (core : Core g.row.N.Denot). core.log) c.in-Ok.ensures.ok in
    let opens : IsOpening start = subst IsOpening was c.promises.ensures.opens in
    let passes : PassesDemand c.args.plan c.args.terms × PassesSupply c.args.plan c.args.terms =
    subst (λ (p : DiePlan). PassesDemand p c.args.terms × PassesSupply p c.args.terms) plan_is c.in-Ok-prepare.ensures.passes in
    let is_life : IsLife c.args.plan c.args.terms c.in-Ok-prepare.made.life =
    subst (λ (p : DiePlan). IsLife p c.args.terms c.in-Ok-prepare.made.life) plan_is c.in-Ok-prepare.ensures.life.is_life in
    let enough : HaveEnough c.args.plan c.args.terms c.args.checkpoint.now.balances =
    subst (λ (b : List ℕ). HaveEnough c.args.plan c.args.terms b) has
    (subst (λ (p : DiePlan). HaveEnough p c.args.terms c.as_slice.result.now) plan_is c.in-Ok-prepare.ensures.stocked) in
    let asked_is : map jobs_of c.in-Ok-prepare.made.asked.items ≡ lacks_of c.args.plan c.args.checkpoint.now.balances (length c.args.plan.caps) =
    c.in-Ok-prepare.ensures.asked
    ∙ (ap (λ (p : DiePlan). lacks_of p c.as_slice.result.now (length p.caps)) plan_is
    ∙ ap (λ (b : List ℕ). lacks_of c.args.plan b (length c.args.plan.caps)) has) in
    subst (λ (l : List (List AskedJob)). HasLived {N = g.row.N.Denot} (record {
      core = c.prepare.new.core;
      terms = c.args.terms;
      life = c.in-Ok-prepare.made.life;
      entered = 0;
      first = 0;
      asked = l;
    }) []) (sym asked_is)
    (full_lived start c.args.terms c.in-Ok-prepare.made.life opens passes.0 passes.1 is_life enough c.prepare.new.core made empty
    (subst AreFull made full))

pub invariant_of-result : goal.invariant_of-result
invariant_of-result g c =
    let start : Start = resumed_start c.args.plan c.args.checkpoint.now (g.N.Nand.blocks c.args.device) in
    let was : c.in-Ok.core.start ≡ start = ap (λ (core : Core g.row.N.Denot). core.start) c.in-Ok.ensures.ok in
    let plan_is : c.in-Ok.core.start.plan ≡ c.args.plan = ap (λ (s : Start). s.plan) was in
    let has : c.as_slice.result.now ≡ c.args.checkpoint.now.balances = c.as_slice.ensures in
    let made : c.prepare.new.core.start ≡ start = ap (λ (core : Core g.row.N.Denot). core.start) c.in-Ok-prepare.ensures.core ∙ was in
    let empty : c.prepare.new.core.log ≡ [] =
    ap (λ (core : Core g.row.N.Denot). core.log) c.in-Ok-prepare.ensures.core ∙ ap (λ (core : Core g.row.N.Denot). core.log) c.in-Ok.ensures.ok in
    let opens : IsOpening start = subst IsOpening was c.promises.ensures.opens in
    let passes : PassesDemand c.args.plan c.args.terms × PassesSupply c.args.plan c.args.terms =
    subst (λ (p : DiePlan). PassesDemand p c.args.terms × PassesSupply p c.args.terms) plan_is c.in-Ok-prepare.ensures.passes in
    let is_life : IsLife c.args.plan c.args.terms c.in-Ok-prepare.made.life =
    subst (λ (p : DiePlan). IsLife p c.args.terms c.in-Ok-prepare.made.life) plan_is c.in-Ok-prepare.ensures.life.is_life in
    let enough : HaveEnough c.args.plan c.args.terms c.args.checkpoint.now.balances =
    subst (λ (b : List ℕ). HaveEnough c.args.plan c.args.terms b) has
    (subst (λ (p : DiePlan). HaveEnough p c.args.terms c.as_slice.result.now) plan_is c.in-Ok-prepare.ensures.stocked) in
    let asked_is : map jobs_of c.in-Ok-prepare.made.asked.items ≡ lacks_of c.args.plan c.args.checkpoint.now.balances (length c.args.plan.caps) =
    c.in-Ok-prepare.ensures.asked
    ∙ (ap (λ (p : DiePlan). lacks_of p c.as_slice.result.now (length p.caps)) plan_is
    ∙ ap (λ (b : List ℕ). lacks_of c.args.plan b (length c.args.plan.caps)) has) in (
      record {
        reserved = life_reserved c.args.terms c.in-Ok-prepare.made.life c.in-Ok.core c.prepare.new.core c.in-Ok-prepare.ensures.core;
        earlier = lacked c.args.plan c.args.checkpoint.now.balances;
        lived = returns-clause-lived g c;
        early = omega arith;
        asked_early = subst (λ (l : List (List AskedJob)). All (All (λ (j : AskedJob). j.at ≤ 4611686018427387904)) l) (sym asked_is)
            (early_lacks c.args.plan c.args.checkpoint.now.balances (length c.args.plan.caps));
        one_each = ap length asked_is ∙ (one_each c.args.plan c.args.checkpoint.now.balances (length c.args.plan.caps)
            ∙ sym (ap (λ (s : Start). length s.plan.caps) made));
      },
      c.in-Ok-prepare.ensures.kept _,
      c.in-Ok-prepare.ensures.memory,
      quiet_at_once c.args.terms.tasks _,
    )

pub returns-clause-begins : goal.returns-clause-begins
returns-clause-begins g c =
    let start : Start = resumed_start c.args.plan c.args.checkpoint.now (g.N.Nand.blocks c.args.device) in
    let was : c.in-Ok.core.start ≡ start = ap (λ (core : Core g.row.N.Denot). core.start) c.in-Ok.ensures.ok in
    let plan_is : c.in-Ok.core.start.plan ≡ c.args.plan = ap (λ (s : Start). s.plan) was in
    let has : c.as_slice.result.now ≡ c.args.checkpoint.now.balances = c.as_slice.ensures in
    let made : c.prepare.new.core.start ≡ start = ap (λ (core : Core g.row.N.Denot). core.start) c.in-Ok-prepare.ensures.core ∙ was in
    let empty : c.prepare.new.core.log ≡ [] =
    ap (λ (core : Core g.row.N.Denot). core.log) c.in-Ok-prepare.ensures.core ∙ ap (λ (core : Core g.row.N.Denot). core.log) c.in-Ok.ensures.ok in
    let opens : IsOpening start = subst IsOpening was c.promises.ensures.opens in
    let passes : PassesDemand c.args.plan c.args.terms × PassesSupply c.args.plan c.args.terms =
    subst (λ (p : DiePlan). PassesDemand p c.args.terms × PassesSupply p c.args.terms) plan_is c.in-Ok-prepare.ensures.passes in
    let is_life : IsLife c.args.plan c.args.terms c.in-Ok-prepare.made.life =
    subst (λ (p : DiePlan). IsLife p c.args.terms c.in-Ok-prepare.made.life) plan_is c.in-Ok-prepare.ensures.life.is_life in
    let enough : HaveEnough c.args.plan c.args.terms c.args.checkpoint.now.balances =
    subst (λ (b : List ℕ). HaveEnough c.args.plan c.args.terms b) has
    (subst (λ (p : DiePlan). HaveEnough p c.args.terms c.as_slice.result.now) plan_is c.in-Ok-prepare.ensures.stocked) in
    let asked_is : map jobs_of c.in-Ok-prepare.made.asked.items ≡ lacks_of c.args.plan c.args.checkpoint.now.balances (length c.args.plan.caps) =
    c.in-Ok-prepare.ensures.asked
    ∙ (ap (λ (p : DiePlan). lacks_of p c.as_slice.result.now (length p.caps)) plan_is
    ∙ ap (λ (b : List ℕ). lacks_of c.args.plan b (length c.args.plan.caps)) has) in
    (refl, refl, refl, asked_is)

pub prepare-requires-clause-tasks : goal.prepare-requires-clause-tasks
prepare-requires-clause-tasks g c =
    let plan_is : c.in-Ok.core.start.plan ≡ c.args.plan = ap (λ (core : Core g.row.N.Denot). core.start.plan) c.in-Ok.ensures.ok in
    ap length c.as_slice.ensures ∙ (c.in-Ok.ensures.fits.all_else.blocks.plan_is.shape.tasks ∙ sym (ap (λ (p : DiePlan). length p.caps) plan_is))

pub prepare-requires-clause-bound : goal.prepare-requires-clause-bound
prepare-requires-clause-bound g c = c.promises.ensures.opens.bound

pub returns-clause-life : goal.returns-clause-life
returns-clause-life g c =
    let plan_is : c.in-Ok.core.start.plan ≡ c.args.plan = ap (λ (core : Core g.row.N.Denot). core.start.plan) c.in-Ok.ensures.ok in
    subst (λ (p : DiePlan). IsSomeLife p c.args.terms c.args.longest c.in-Ok-prepare.made.life) plan_is c.in-Ok-prepare.ensures.life

pub returns-clause-longer : goal.returns-clause-longer
returns-clause-longer g c other h =
    let plan_is : c.in-Ok.core.start.plan ≡ c.args.plan = ap (λ (core : Core g.row.N.Denot). core.start.plan) c.in-Ok.ensures.ok in
    c.in-Ok-prepare.ensures.longer other (subst (λ (p : DiePlan). IsSomeLife p c.args.terms c.args.longest other) (sym plan_is) h)

pub returns-clause-passes : goal.returns-clause-passes
returns-clause-passes g c =
    let plan_is : c.in-Ok.core.start.plan ≡ c.args.plan = ap (λ (core : Core g.row.N.Denot). core.start.plan) c.in-Ok.ensures.ok in
    subst (λ (p : DiePlan). PassesDemand p c.args.terms × PassesSupply p c.args.terms) plan_is c.in-Ok-prepare.ensures.passes

pub returns-clause-stocked : goal.returns-clause-stocked
returns-clause-stocked g c =
    let plan_is : c.in-Ok.core.start.plan ≡ c.args.plan = ap (λ (core : Core g.row.N.Denot). core.start.plan) c.in-Ok.ensures.ok in
    subst (λ (b : List ℕ). HaveEnough c.args.plan c.args.terms b) c.as_slice.ensures
    (subst (λ (p : DiePlan). HaveEnough p c.args.terms c.as_slice.result.now) plan_is c.in-Ok-prepare.ensures.stocked)

pub returns-in-Err-prepare-clause-refused : goal.returns-in-Err-prepare-clause-refused
returns-in-Err-prepare-clause-refused g c =
    let plan_is : c.in-Ok.core.start.plan ≡ c.args.plan = ap (λ (core : Core g.row.N.Denot). core.start.plan) c.in-Ok.ensures.ok in
    not_prepared c.args.plan c.args.terms c.args.longest c.args.checkpoint.now _ c.in-Err-prepare.refusal c.in-Ok.ensures.shape c.in-Ok.ensures.fits
    (subst (λ (b : List ℕ). RefusesPlanned c.args.plan c.args.terms c.args.longest b c.in-Err-prepare.refusal) c.as_slice.ensures
    (subst (λ (p : DiePlan). RefusesPlanned p c.args.terms c.args.longest c.as_slice.result.now c.in-Err-prepare.refusal) plan_is c.in-Err-prepare.ensures.refused))

pub returns-in-Err-prepare-clause-device : goal.returns-in-Err-prepare-clause-device
returns-in-Err-prepare-clause-device g c =
    c.into_device.ensures ∙ (c.in-Err-prepare.ensures.device ∙ ap (λ (core : Core g.row.N.Denot). core.device) c.in-Ok.ensures.ok)
