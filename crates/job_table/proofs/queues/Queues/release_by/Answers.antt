use Rattle.std.proofs.Common.{sym, ◌∙◌, arith}
use Rattle.std.proofs.lemmas.Option.{get_or_from_slice_get}
use Rattle.due_queue.specs.Keys.{is_due_before}
use Rattle.due_queue.proofs.Inserted.{length-inserted}
use Rattle.job_table.proofs.Releasing.{release_step, none_popped}
use Rattle.job_table.proofs.queues.Queues.release_by.Goals as goal

pub loop-key-preserved : goal.loop-key-preserved
loop-key-preserved c =
    let step = release_step c.args.jobs.now.jobs c.args.now c.loop-key.self-inside.waiting.keys c.pop_released.new.self.keys
    c.loop-key.self-inside.ready.keys c.loop-key.self-inside.ready.spare c.insert.new.self.spare
    c.in-Some.key c.at.result c.due-due.result
    c.in-Some.ensures.first c.in-Some.ensures.rest (sym (get_or_from_slice_get c.args.jobs.now.jobs c.in-Some.key.number c.at.result c.at.result
    c.at.ensures)) c.due-due.ensures c.insert.ensures.spare c.loop-key.invariant.roomy c.loop-key.invariant.queued in
    rw c.insert.ensures.keys (record {
      roomy = step.roomy;
      queued = step.queued;
      fewer = omega (arith, step.one_fewer, c.loop-key.invariant.fewer);
      room = omega (arith, step.one_fewer, c.loop-key.invariant.room, c.in-Some.ensures.spare, c.insert.ensures.spare);
      memory = omega (
        arith,
        step.one_fewer,
        c.loop-key.invariant.memory,
        c.in-Some.ensures.spare,
        c.insert.ensures.spare,
        length-inserted is_due_before (record { due = c.due-due.result; number = c.in-Some.key.number }) c.loop-key.self-inside.ready.keys,
      );
    })

pub returns-clause-later : goal.returns-clause-later
returns-clause-later c =
    let none = sym c.in_default.is ∙ c.pop_released.ensures.first in
    let later = none_popped c.args.now c.loop-key.self-inside.waiting.keys none c.loop-key.invariant.roomy.waiting_rises in
    rw c.in_default.ensures.none later
