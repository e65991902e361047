use Rattle.std.proofs.Common.{sym, ◌∙◌, subst, eq-eqb, eqb-true}
use Rattle.std.proofs.lemmas.Option.{MatchOption-at_some}
use Rattle.job_table.specs.Worst.{IsWorst, NothingDone}
use Rattle.job_table.proofs.Worsts.{one_worst}
use Rattle.job_table.proofs.job_table.JobTable.is_worst.Goals as goal

pub returns-in-Some : goal.returns-in-Some
returns-in-Some c =
    let worst = MatchOption-at_some (NothingDone c.self.inside.jobs.jobs) (IsWorst c.self.inside.jobs.jobs) c.in-Some.worst c.in-Some.is
    c.self.invariant.0.worst_is in
    rw (← c.self.view_is) (
      λ same. subst (IsWorst c.self.inside.jobs.jobs) (eqb-true _ _ same ∙ c.number.view_is) worst,
      λ is. eq-eqb _ _ (one_worst c.self.inside.jobs.jobs c.in-Some.worst c.args.number worst is ∙ sym c.number.view_is),
    )
