use Rattle.std.proofs.Common.{◌<◌, Contains, length, arith, sym, subst, ap}
use Rattle.job_table.specs.QueuedKeys.{Lines}
use Rattle.due_queue.specs.Keys.{is_due_before}
use Rattle.due_queue.proofs.Inserted.{length-inserted}
use Rattle.job_table.proofs.Roomy.{stand_roomy}
use Rattle.job_table.proofs.queues.Queues.stand.Goals as goal

pub invariant_of-self : goal.invariant_of-self
invariant_of-self c =
    rw c.insert.ensures.keys
    (stand_roomy c.args.key c.self.inside.waiting.keys c.self.inside.ready.keys c.self.inside.waiting.spare c.self.inside.ready.spare
    c.insert.new.self.spare
    (subst (λ (l : Lines). 0 < l.room) (sym c.self.view_is) c.requires.room)
    (subst (λ (l : Lines). Contains l.ready c.args.key → ⊥) (sym c.self.view_is) c.requires.absent)
    c.insert.ensures.spare c.self.invariant)

pub returns-clause-memory : goal.returns-clause-memory
returns-clause-memory c =
    let before = ap (λ (l : Lines). l.memory) c.self.view_is in
    let longer = ap length c.insert.ensures.keys in
    omega (arith, before, longer, length-inserted is_due_before c.args.key c.self.inside.ready.keys, c.insert.ensures.spare)
