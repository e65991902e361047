use Rattle.std.proofs.Common.{sym}
use Rattle.slot_core.specs.TableRows.{rows_in}
use Rattle.slot_core.proofs.BusyIntervals.{due_by_row, walked_is}
use Rattle.slot_core.proofs.certificates.busy_interval.Goals as goal

pub walk_back-requires-clause-due : goal.walk_back-requires-clause-due
walk_back-requires-clause-due c = due_by_row (rows_in 0 c.args.table.now.jobs) c.args.job c.in-Some.row (sym c.in-Some.ensures)

pub returns-clause-ok : goal.returns-clause-ok
returns-clause-ok c =
    walked_is (rows_in 0 c.args.table.now.jobs) c.requires.rise c.args.slots c.args.job c.in-Some.row c.in-Some-completion.completion
    c.in_ok-start.field-0.start c.in_ok-start.field-0.numbers.items c.rising.result (sym c.in-Some.ensures) c.in-Some-completion.is
    c.in_ok-start.ensures.start c.in_ok-start.ensures.carried c.rising.ensures.rising c.rising.ensures.same
