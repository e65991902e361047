use Rattle.std.proofs.Common.{List, subst, sym}
use Rattle.std.specs.List.{FoldsTo}
use Rattle.die_service.proofs.Calls.{folds_one}
use Rattle.die_service.proofs.posts.Post.run_known.Goals as goal

pub invariant_of-self : goal.invariant_of-self
invariant_of-self g c =
    let was = c.self.invariant in (
      was.0,
      was.1,
      subst (λ (batches : List g.row.B.Denot). FoldsTo g.M.Runner.runs was.0 batches c.run.new.self) (sym c.pop_known-batch.ensures.received.0)
          (folds_one g.M.Runner.runs _ c.pop_known-batch.result _ _ _ was.2 c.run.ensures.runs),
    )

pub returns-clause-same : goal.returns-clause-same
returns-clause-same g c =
    rw (← c.self.view_is) (
      c.pop_known-batch.ensures.ring,
      λ first ran. subst (λ (batches : List g.row.B.Denot). FoldsTo g.M.Runner.runs first batches c.run.new.self)
          (sym c.pop_known-batch.ensures.received.0)
          (folds_one g.M.Runner.runs _ c.pop_known-batch.result _ _ _ ran c.run.ensures.runs),
    )
