use Rattle.std.proofs.Common.{◌≡◌, Result, Ok, Err, IfOk, sym, subst}
use Rattle.die_checkpoint.specs.declared.checkpoint.Checkpoint.{Checkpoint}
use Rattle.die_log.specs.Model.Opening.{renewed_start}
use Rattle.slot_core.specs.declared.resumptions.CheckpointRefusal.{CheckpointRefusal}
use Rattle.slot_core.specs.Resumptions.{checkpoint_of}
use Rattle.planned_die.specs.Resuming.{HaveEnough}
use Rattle.planned_die.proofs.EndingStocked.{ends_stocked}
use Rattle.planned_die.proofs.planned_die.PlannedDie.checkpoint.Goals as goal

if_ok : (r : Result Checkpoint CheckpointRefusal) (P Q : Checkpoint → Type 0) → IfOk r P → ((c : Checkpoint) → P c → Q c) → IfOk r Q
if_ok (Ok c) P Q h f = f c h
if_ok (Err e) P Q h f = tt

pub returns-clause-goes_on : goal.returns-clause-goes_on
returns-clause-goes_on g c = rw (← c.self.view_is) c.checkpoint.ensures.goes_on

pub returns-clause-stocked : goal.returns-clause-stocked
returns-clause-stocked g c =
    let lived = c.keeps_plan.ensures.lived in
    let ok : IfOk c.checkpoint.result (λ taken. taken ≡ checkpoint_of (renewed_start c.args.self.now.core.start c.args.self.now.core.log)) =
    rw (← c.self.view_is) c.checkpoint.ensures.ok in
    if_ok c.checkpoint.result _ _ ok (λ taken is over held.
    subst (λ (t : Checkpoint). HaveEnough c.args.self.now.core.start.plan c.args.self.now.terms t.balances) (sym is)
    (ends_stocked c.args.self.now.core.start c.args.self.now.terms lived.0 c.args.self.now.life c.args.self.now.entered c.args.self.now.core.log
    lived.1.kept over held))

pub returns-clause-ok : goal.returns-clause-ok
returns-clause-ok g c = rw (← c.self.view_is) c.checkpoint.ensures.ok

pub returns-clause-fits : goal.returns-clause-fits
returns-clause-fits g c = rw (← c.self.view_is) c.checkpoint.ensures.fits

pub returns-clause-left : goal.returns-clause-left
returns-clause-left g c = rw (← c.self.view_is) c.checkpoint.ensures.left

pub returns-clause-may : goal.returns-clause-may
returns-clause-may g c = rw (← c.self.view_is) c.checkpoint.ensures.may

pub returns-clause-refused : goal.returns-clause-refused
returns-clause-refused g c = rw (← c.self.view_is) c.checkpoint.ensures.refused

pub invariant_of-self : goal.invariant_of-self
invariant_of-self g c = rw c.checkpoint.ensures.unchanged c.self.invariant

pub returns-clause-unchanged : goal.returns-clause-unchanged
returns-clause-unchanged g c = rw c.checkpoint.ensures.unchanged c.self.view_is
