use Rattle.std.proofs.Common.{sym, ap, ◌∙◌}
use Rattle.std.proofs.lemmas.Option.{same_Some, MatchOption-at_some}
use Rattle.job_table.specs.Worst.{is_worse, IsWorstBeside, NothingDoneBeside}
use Rattle.job_table.proofs.Worsts.{worst_now, worst_stays}
use Rattle.job_table.proofs.worst.worse_of.Goals as goal

pub returns-then-is_worse : goal.returns-then-is_worse
returns-then-is_worse c =
    let beside = MatchOption-at_some (NothingDoneBeside c.args.jobs.now.jobs c.args.number) (IsWorstBeside c.args.jobs.now.jobs c.args.number)
    c.in-Some.other c.in-Some.is c.requires.others in
    let here = same_Some c.at.result c.requires.done.job (sym c.at.ensures ∙ c.requires.done.is_at) in
    let there = same_Some c.at-in-Some.result beside.worst (sym c.at-in-Some.ensures ∙ beside.is_at) in
    worst_now c.args.jobs.now.jobs c.args.number c.in-Some.other c.requires.done beside
    (ap (λ j. is_worse c.args.number j c.in-Some.other beside.worst) (sym here)
    ∙ ap (λ j. is_worse c.args.number c.at.result c.in-Some.other j) (sym there) ∙ sym c.is_worse.ensures ∙ c.if-is_worse.true)

pub returns-else-is_worse : goal.returns-else-is_worse
returns-else-is_worse c =
    let beside = MatchOption-at_some (NothingDoneBeside c.args.jobs.now.jobs c.args.number) (IsWorstBeside c.args.jobs.now.jobs c.args.number)
    c.in-Some.other c.in-Some.is c.requires.others in
    let here = same_Some c.at.result c.requires.done.job (sym c.at.ensures ∙ c.requires.done.is_at) in
    let there = same_Some c.at-in-Some.result beside.worst (sym c.at-in-Some.ensures ∙ beside.is_at) in
    worst_stays c.args.jobs.now.jobs c.args.number c.in-Some.other c.requires.done beside
    (ap (λ j. is_worse c.args.number j c.in-Some.other beside.worst) (sym here)
    ∙ ap (λ j. is_worse c.args.number c.at.result c.in-Some.other j) (sym there) ∙ sym c.is_worse.ensures ∙ c.if-is_worse.false)
