use Rattle.std.proofs.Common.{refl, sym, subst}
use Rattle.std.proofs.lemmas.Option.{slice_get_within}
use Rattle.job_table.specs.Jobs.{with_one_more_slot}
use Rattle.job_table.specs.Table.{Table}
use Rattle.job_table.specs.Order.{IsHead}
use Rattle.job_table.proofs.Changed.{viewed}
use Rattle.job_table.proofs.Heads.{ready_pending, head_goes_on}
use Rattle.job_table.proofs.Tables.{carried_quiet, quiet_sound}
use Rattle.job_table.proofs.job_table.JobTable.carry.Goals as goal

pub carry-requires-clause-there : goal.carry-requires-clause-there
carry-requires-clause-there c =
    let seen = subst (λ (t : Table). IsHead t c.args.number) (sym c.self.view_is) c.requires.head in
    slice_get_within c.self.inside.jobs.jobs c.args.number seen.head seen.is_at

pub invariant_of-self : goal.invariant_of-self
invariant_of-self c =
    let seen = subst (λ (t : Table). IsHead t c.args.number) (sym c.self.view_is) c.requires.head in
    rw c.carry.ensures (
      quiet_sound c.self.inside.jobs.jobs c.args.number with_one_more_slot seen.head c.self.inside.clock c.self.inside.ended c.self.inside.collecting.items
          c.self.inside.queues c.self.inside.worst
          carried_quiet seen.is_at (ready_pending c.self.inside.clock seen.head seen.ready) c.self.invariant.0,
      c.self.invariant.1,
    )

pub returns-clause-carried : goal.returns-clause-carried
returns-clause-carried c =
    rw c.carry.ensures (viewed _ _ _ c.args.number c.args.number with_one_more_slot c.self.view_is refl refl)

pub returns-clause-head : goal.returns-clause-head
returns-clause-head c =
    subst (λ (t : Table). IsHead t c.args.number) (sym (returns-clause-carried c))
    (head_goes_on c.args.self.now c.args.number with_one_more_slot carried_quiet c.requires.head)
