use Rattle.std.proofs.Common.{subst, ◌∙◌}
use Rattle.demand_rules.specs.declared.terms.TaskTerms.{TaskTerms}
use Rattle.slot_types.specs.declared.limits.TheConstants.{MAX_SLOT}
use Rattle.flashplan_terms_margins.specs.Changes.{AreMargins, Does, FindsMost, IsAlike}
use Rattle.flashplan_terms_margins.specs.declared.margins.TaskMargins.{TaskMargins}
use Rattle.flashplan_terms_margins.specs.declared.numbers.Number.TheVariants as number
use Rattle.flashplan_terms_margins.proofs.Alike.{least-alike, most-alike, own-again, still-alike}
use Rattle.flashplan_terms_margins.proofs.margins.task_margins.Goals as goal

pub returns-clause-same : goal.returns-clause-same
returns-clause-same c =
    let made = c.args.made in
    let task = c.args.task in
    let written : IsAlike task c.most-writes.result.made made =
    still-alike task _ _ _ c.most-writes.ensures.alike c.most-work.ensures.alike in
    let timed : IsAlike task c.least-period.result.made made = still-alike task _ _ _ c.least-period.ensures.alike written in
    let due : IsAlike task c.least-deadline.result.made made = still-alike task _ _ _ c.least-deadline.ensures.alike timed in
    let all : IsAlike task c.least-collect.result.made made = still-alike task _ _ _ c.least-collect.ensures.alike due in
    c.with_own.ensures ∙ own-again task c.least-collect.result.made made c.own_terms-own.result all c.own_terms-own.ensures

pub returns-clause-margins : goal.returns-clause-margins
returns-clause-margins c =
    let made = c.args.made in
    let task = c.args.task in
    let own = c.own_terms-own.result in
    let worked = c.most-work.ensures.alike in
    let written : IsAlike task c.most-writes.result.made made = still-alike task _ _ _ c.most-writes.ensures.alike worked in
    let timed : IsAlike task c.least-period.result.made made = still-alike task _ _ _ c.least-period.ensures.alike written in
    let due : IsAlike task c.least-deadline.result.made made = still-alike task _ _ _ c.least-deadline.ensures.alike timed in
    let m : TaskMargins = record {
      work = c.most-work.result.found;
      writes = c.most-writes.result.found;
      period = c.least-period.result.found;
      deadline = c.least-deadline.result.found;
      collect_deadline = c.least-collect.result.found;
    } in
    subst (λ (o : TaskTerms). AreMargins made task o m) c.own_terms-own.ensures (record {
      work = subst (λ n. FindsMost (Does made task own number.Work) n MAX_SLOT c.most-work.result.found) c.max.ensures
          c.most-work.ensures.found;
      writes = subst (λ n. FindsMost (Does made task own number.Writes) 0 n c.most-writes.result.found) c.min-most_writes.ensures
          (most-alike task c.most-work.result.made made own number.Writes 0 c.min-most_writes.result c.most-writes.result.found worked
          c.most-writes.ensures.found);
      period = least-alike task c.most-writes.result.made made own number.Period 1 4294967295 c.least-period.result.found written
          c.least-period.ensures.found;
      deadline = least-alike task c.least-period.result.made made own number.Deadline 1 own.held c.least-deadline.result.found timed
          c.least-deadline.ensures.found;
      collect_deadline = least-alike task c.least-deadline.result.made made own number.CollectDeadline 1 own.collect_period
          c.least-collect.result.found due c.least-collect.ensures.found;
    })
