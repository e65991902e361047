use Rattle.std.proofs.Common.{◌≡◌, ◌∙◌, ap, sym, length}
use Rattle.slot_core.specs.Core.{Core}
use Rattle.die_service.proofs.Lists.{log_of_calls}
use Rattle.die_service.proofs.Replying.{few_entries}
use Rattle.die_service.proofs.book.DieBookBook.len.Goals as goal

pub returns-clause-most : goal.returns-clause-most
returns-clause-most g c =
    let die = c.deref.result.now in
    let entries : c.len.result ≡ length die.log = c.len.ensures
    ∙ ap (λ (k : Core g.row.N.Denot). length k.log) (c.deref-2.ensures ∙ sym c.deref.ensures) in
    rw entries (few_entries die.start die.log c.promises.ensures.exact)

pub returns-clause-fits : goal.returns-clause-fits
returns-clause-fits g c = record {
  opens = rw (← c.self.view_is, ← c.deref.ensures) c.promises.ensures.opens;
  exact = rw (log_of_calls c.args.self.now.log, ← c.self.view_is, ← c.deref.ensures) c.promises.ensures.exact;
}
