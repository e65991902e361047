use Rattle.std.proofs.Common.{◌∙◌, ◌<◌, ap, arith, length, subst}
use Rattle.std.proofs.lemmas.List.{length-map}
use Rattle.rtrb.specs.Ring.{sent}
use Rattle.die_service.specs.Posts.{IsSameSender, sent_by}
use Rattle.die_service.proofs.LongRuns.{linked_set, same_sender, same_set}
use Rattle.die_service.proofs.long_runs.Run.emptied.Goals as goal

pub invariant_of-self : goal.invariant_of-self
invariant_of-self g c =
    let senders = c.self.inside.senders.items in
    let below : c.args.place < length senders = omega (arith, c.requires, ap length c.self.view_is, length-map senders sent_by) in
    let was = c.self.invariant in (
      was.0,
      linked_set g.M.Runner.runs senders was.0 c.args.place c.index_mut.result.now c.emptied.new.self below
          (subst (λ s. IsSameSender s c.emptied.new.self) c.index_mut.ensures.value
          (same_sender g.M.Runner.runs c.index_mut.result.now c.emptied.new.self c.emptied.ensures.same c.emptied.ensures.first)) was.1,
      was.2,
    )

pub returns-clause-same : goal.returns-clause-same
returns-clause-same g c =
    let senders = c.self.inside.senders.items in
    let below : c.args.place < length senders = omega (arith, c.requires, ap length c.self.view_is, length-map senders sent_by) in
    same_set g.M.Runner.runs senders c.args.place c.index_mut.result.now c.emptied.new.self below
    (c.emptied.ensures.first ∙ ap (λ s. s.first.value) c.index_mut.ensures.value)
    (ap sent c.emptied.ensures.same ∙ ap (λ s. sent s.batches) c.index_mut.ensures.value) ∙ c.self.view_is
