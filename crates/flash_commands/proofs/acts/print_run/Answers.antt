use Rattle.flash_commands.proofs.Endings.{if-error, refuses-run}
use Rattle.flash_commands.proofs.acts.print_run.Goals as goal

pub returns-in_err-count-clause-refused : goal.returns-in_err-count-clause-refused
returns-in_err-count-clause-refused g c =
    if-error c.from_residual-in_err-count.result _ _ c.from_residual-in_err-count.ensures.1
    (refuses-run g.W.Write.contents g.W.Output.has_failed _ _ _ _ _ _ c.in_err-count.field-0.0.refusal
    (rw c.new.ensures.remaining at c.in_ok-store.ensures.store) c.in_err-count.ensures.refused)
