use Rattle.std.proofs.Common.{◌≡◌, ◌∙◌, Option, None, Some, IfSome, ap, refl, subst, sym}
use Rattle.die_service.specs.Drives.{IsFirstState, WorkerState}
use Rattle.die_service.proofs.Asking.{ends_as}
use Rattle.die_service.proofs.worked.Worked.run.Goals as goal
use Rattle.die_service.proofs.worked.Worked.run.Goals.{in-Some-1, in-None-1}

pub run-requires : goal.run-requires
run-requires g c = subst (λ (o : Option (WorkerState g.row.W.Denot)). IfSome o IsFirstState) (sym c.take.ensures.value ∙ c.in-Some.is)
    c.self.invariant

pub returns-in-Some : goal.returns-in-Some
returns-in-Some g c =
    let is : c.match-self.self ≡ (None, Some c.into_end.result) = elim c.match-self.branch [
      | in-Some-1 w ↦ w.self-is ∙ ap (λ d. (d, Some c.into_end.result)) c.take.ensures.after
      | in-None-1 w ↦ w.self-is ∙ ap (λ d. (d, Some c.into_end.result)) c.take.ensures.after
    ] in
    rw (is, ← c.self.view_is) (ends_as g.W.Work.does c.args.number c.args.slots c.self.inside.driver c.self.inside.ended (Some c.into_end.result)
    c.in-Some.driver c.run.new.self c.into_end.result.0 c.into_end.result.1 (sym c.take.ensures.value ∙ c.in-Some.is) c.run.ensures
    c.into_end.ensures.end c.into_end.ensures.work refl)
