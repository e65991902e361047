use Rattle.std.proofs.Common.{◌∙◌, ◌<◌, ◌++◌, ◌∷◌, [], ap, arith, length, subst}
use Rattle.std.proofs.lemmas.List.{length-map}
use Rattle.rtrb.specs.Ring.{sent}
use Rattle.die_service.specs.Posts.{IsSameSender, sent_by}
use Rattle.die_service.specs.Runners.{with_batch}
use Rattle.die_service.proofs.LongRuns.{below_some, linked_set, sent_set}
use Rattle.die_service.proofs.long_runs.Run.send.Goals as goal

pub invariant_of-self : goal.invariant_of-self
invariant_of-self g c =
    let senders = c.self.inside.senders.items in
    let place : c.args.place < length c.args.self.now = below_some c.args.self.now c.args.place _ c.requires in
    let below : c.args.place < length senders = omega (arith, place, ap length c.self.view_is, length-map senders sent_by) in
    let was = c.self.invariant in (
      was.0,
      linked_set g.M.Runner.runs senders was.0 c.args.place c.index_mut.result.now c.send.new.self below
          (subst (λ s. IsSameSender s c.send.new.self) c.index_mut.ensures.value c.send.ensures.same) was.1,
      was.2,
    )

pub returns : goal.returns
returns g c =
    let senders = c.self.inside.senders.items in
    let place : c.args.place < length c.args.self.now = below_some c.args.self.now c.args.place _ c.requires in
    let below : c.args.place < length senders = omega (arith, place, ap length c.self.view_is, length-map senders sent_by) in
    sent_set g.M.Runner.runs senders c.args.place c.index_mut.result.now c.send.new.self c.args.batch below
    (c.send.ensures.same.1 ∙ ap (λ s. s.first.value) c.index_mut.ensures.value)
    (c.send.ensures.sent ∙ ap (λ s. sent s.batches ++ c.args.batch ∷ []) c.index_mut.ensures.value)
    ∙ ap (with_batch c.args.place c.args.batch) c.self.view_is
