use Rattle.std.proofs.Common.{sym, ap, ◌∙◌, subst}
use Rattle.job_table.specs.Table.{Table}
use Rattle.job_table.specs.Waivers.{AreWaived, without_waivers}
use Rattle.job_table.proofs.Waivers.{without_worst, undone-waived, length-without_waivers, without_waivers-waived_in}
use Rattle.job_table.proofs.Kept.{jobs_of}
use Rattle.job_table.proofs.job_table.JobTable.stop.Goals as goal

pub invariant_of-self : goal.invariant_of-self
invariant_of-self c =
    let waived = subst (λ (t : Table). AreWaived t.jobs c.args.waived.now) (sym c.self.view_is) c.requires in
    rw c.take_back.ensures (
      record {
        few = rw length-without_waivers c.self.invariant.0.few;
        running = λ e. absurd cc;
        worst_is = without_worst c.self.inside.jobs.jobs c.args.waived.now c.self.inside.worst
            (undone-waived c.self.inside.jobs.jobs c.args.waived.now waived) c.self.invariant.0.worst_is;
      },
      c.self.invariant.1,
    )

pub returns-clause-as_before : goal.returns-clause-as_before
returns-clause-as_before c = λ jobs were old_is.
    jobs_of c.take_back.ensures ∙ ap (λ l. without_waivers l c.args.waived.now) (ap (λ (t : Table). t.jobs) c.self.view_is ∙ old_is)
    ∙ without_waivers-waived_in jobs c.args.waived.now were
