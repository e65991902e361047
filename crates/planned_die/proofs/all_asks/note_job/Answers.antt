use Rattle.std.proofs.Common.{◌≡◌, ◌+◌, ◌≤◌, ◌∷◌, ◌++◌, [], get_or, drop, ap, sym, subst, ◌∙◌}
use Rattle.std.proofs.lemmas.List.{get_or_default}
use Rattle.demand_rules.specs.Demand.{terms_of}
use Rattle.planned_die.specs.declared.task_asks.TaskAsks.{TaskAsks}
use Rattle.planned_die.specs.Remembered.{IsKeptFor, HasMemory}
use Rattle.planned_die.proofs.AllAsks.{jobs_set, set_kept}
use Rattle.planned_die.proofs.Lists.{one_noted, memory_set}
use Rattle.planned_die.proofs.all_asks.note_job.Goals as goal

pub returns-clause-jobs : goal.returns-clause-jobs
returns-clause-jobs c d =
    let is : c.index_mut.result.now ≡ get_or c.args.asked.now.items c.args.task d =
    c.index_mut.ensures.value ∙ get_or_default c.args.asked.now.items c.args.task c.index_mut.result.now d c.requires.task in
    jobs_set c.args.asked.now.items c.args.task c.note.new.self d _
    (c.note.ensures.jobs ∙ ap (λ (t : TaskAsks). drop t.passed t.jobs.items ++ c.args.job ∷ []) is)

pub returns-clause-kept : goal.returns-clause-kept
returns-clause-kept c terms kept =
    set_kept terms c.args.job.at c.args.asked.now.items c.args.task c.note.new.self kept
    (c.note.ensures.kept (terms_of terms c.args.task).period
    (subst (λ (t : TaskAsks). IsKeptFor (terms_of terms c.args.task).period c.args.job.at t) (sym c.index_mut.ensures.value)
    (kept c.args.task c.index_mut.result.now c.requires.task)))

pub returns-clause-memory_stays : goal.returns-clause-memory_stays
returns-clause-memory_stays c terms some fits have =
    let own : HasMemory (terms_of terms c.args.task).work c.index_mut.result.now =
    subst (HasMemory (terms_of terms c.args.task).work) (sym c.index_mut.ensures.value) (have c.args.task c.index_mut.result.now c.requires.task) in
    let within : c.index_mut.result.now.operations + c.args.job.operations ≤ (terms_of terms c.args.task).work =
    subst (λ (t : TaskAsks). t.operations + c.args.job.operations ≤ (terms_of terms c.args.task).work) (sym c.index_mut.ensures.value)
    (fits c.index_mut.result.now) in
    memory_set terms c.args.asked.now.items c.args.task c.note.new.self have
    (one_noted (terms_of terms c.args.task).work c.index_mut.result.now c.note.new.self c.args.job own some within c.note.ensures.jobs
    c.note.ensures.operations c.note.ensures.memory)
