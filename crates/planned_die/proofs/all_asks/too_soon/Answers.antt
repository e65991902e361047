use Rattle.std.proofs.Common.{◌≤◌, ap, sym, subst, ◌∙◌}
use Rattle.std.specs.Prelude.{All}
use Rattle.std.proofs.Math.Seq.{map-set_same}
use Rattle.planned_die.specs.declared.memory.AskedJob.{AskedJob}
use Rattle.planned_die.specs.declared.task_asks.TaskAsks.{TaskAsks}
use Rattle.demand_rules.specs.Demand.{terms_of}
use Rattle.planned_die.specs.Remembered.{jobs_of, HasMemory}
use Rattle.planned_die.proofs.AllAsks.{early_at}
use Rattle.planned_die.proofs.Lists.{fewer_count, memory_set}
use Rattle.planned_die.proofs.all_asks.too_soon.Goals as goal

pub next_room-requires-clause-early : goal.next_room-requires-clause-early
next_room-requires-clause-early c =
    subst (λ (t : TaskAsks). All (λ (j : AskedJob). j.at ≤ 4611686018427387904) t.jobs.items) (sym c.index.ensures)
    (early_at c.args.asked.now.items c.args.task c.pass.new.self c.index.result.now c.index_mut.result.now c.requires.task c.requires.early
    (c.pass.ensures.jobs ∙ ap jobs_of c.index_mut.ensures.value))

pub returns-clause-jobs : goal.returns-clause-jobs
returns-clause-jobs c =
    map-set_same jobs_of c.args.asked.now.items c.args.task c.pass.new.self c.index_mut.result.now
    (c.pass.ensures.jobs ∙ ap jobs_of c.index_mut.ensures.value)

pub returns-clause-memory : goal.returns-clause-memory
returns-clause-memory c terms have =
    let own : HasMemory (terms_of terms c.args.task).work c.index_mut.result.now =
    subst (HasMemory (terms_of terms c.args.task).work) (sym c.index_mut.ensures.value) (have c.args.task c.index_mut.result.now c.requires.task) in
    memory_set terms c.args.asked.now.items c.args.task c.pass.new.self have
    (fewer_count (terms_of terms c.args.task).work c.index_mut.result.now c.pass.new.self own c.pass.ensures.list c.pass.ensures.fewer)
