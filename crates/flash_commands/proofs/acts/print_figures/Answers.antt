use Rattle.flash_commands.specs.Acts.{PrintsFigures}
use Rattle.flash_commands.proofs.Endings.{cuts}
use Rattle.flash_commands.proofs.acts.print_figures.Goals as goal

pub returns-clause-refused : goal.returns-clause-refused
returns-clause-refused g c =
    cuts g.W.Write.contents g.W.Output.has_failed _ (PrintsFigures (g.R.Read.remaining c.args.first)) _ _ c.in_ok-text.text.items
    c.write_whole.result (_, (rw c.new.ensures.remaining at c.in_ok-store.ensures.store), c.in_ok-text.ensures.text)
    c.write_whole.ensures.refused c.write_whole.ensures.failed (rw c.deref.ensures.value at c.write_whole.ensures.part)
