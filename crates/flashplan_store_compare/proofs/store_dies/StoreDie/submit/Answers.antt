use Rattle.std.proofs.Common.{List, ap}
use Rattle.std.specs.Box.{box_value}
use Rattle.std.specs.Global.{Box}
use Rattle.slot_types.specs.declared.events.Event.TheVariants as events
use Rattle.slot_types.specs.declared.events.Op.{Op}
use Rattle.flash_die.specs.Memory.{Memory}
use Rattle.slot_core.specs.Core.{Core}
use Rattle.flashplan_store_compare.proofs.Asked.{job_asked, job_well}
use Rattle.flashplan_store_compare.proofs.store_dies.StoreDie.submit.Goals as goal

pub returns-clause-asked : goal.returns-clause-asked
returns-clause-asked c =
    let row = c.args.row.now in
    job_asked (events.Submit row.task row.release row.due c.as_slice-ops.result.now) (events.Submit row.task row.release row.due row.ops.now)
    c.submit_lent-taken.result c.end_job.result c.deref_mut.result.now (box_value c.args.self.now.core) c.submit_lent-taken.new.self
    (box_value c.end_job.new.self.core) tt
    (ap (λ (ops : List Op). events.Submit row.task row.release row.due ops) c.as_slice-ops.ensures) c.deref_mut.ensures.value
    (ap (λ (core : Box (Core Memory)). box_value core) c.end_job.ensures.core) c.submit_lent-taken.ensures c.end_job.ensures.is

pub returns-clause-well : goal.returns-clause-well
returns-clause-well c =
    let row = c.args.row.now in
    job_well (events.Submit row.task row.release row.due c.as_slice-ops.result.now) c.submit_lent-taken.result c.deref_mut.result.now
    (box_value c.args.self.now.core) c.submit_lent-taken.new.self (box_value c.end_job.new.self.core) c.deref_mut.ensures.value
    (ap (λ (core : Box (Core Memory)). box_value core) c.end_job.ensures.core) c.submit_lent-taken.ensures
