use Rattle.std.proofs.Common.{sym, ◌∙◌, ap}
use Rattle.slot_core.specs.TableRows.{row_in}
use Rattle.slot_core.proofs.BusyIntervals.{row_is, no_row}
use Rattle.slot_core.proofs.certificates.row_of.Goals as goal

pub returns-in-Some : goal.returns-in-Some
returns-in-Some c =
    c.row_in.ensures ∙ ap (λ n. row_in n c.in-Some.job) c.number.view_is
    ∙ sym (row_is c.args.table.now.jobs c.args.number c.in-Some.job c.in-Some.ensures)

pub returns-in-None : goal.returns-in-None
returns-in-None c = sym (no_row c.args.table.now.jobs c.args.number c.in-None.ensures)
