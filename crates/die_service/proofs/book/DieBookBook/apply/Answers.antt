use Rattle.std.proofs.Common.{◌≡◌, true, false, sym, ◌∙◌, ap, length}
use Rattle.slot_core.specs.Core.{Core}
use Rattle.die_service.proofs.Lists.{log_of_calls, length_of_calls}
use Rattle.slot_core.proofs.Calling.{may_refuse}
use Rattle.die_service.proofs.book.DieBookBook.apply.Goals.{in-Ok, in-Err}
use Rattle.die_service.proofs.book.DieBookBook.apply.Goals as goal

pub returns-clause-gives : goal.returns-clause-gives
returns-clause-gives g c =
    let never = g.N.Nand.never_fails in
    let die = c.deref_mut.result.now in
    let same : die ≡ c.args.self.now = c.deref_mut.ensures.value ∙ c.self.view_is in
    let runs : never ≡ true → die.stopped ≡ false = λ is. ap (λ (k : Core g.row.N.Denot). k.stopped) c.deref_mut.ensures.value
    ∙ c.self.invariant is in
    let entries : c.len-entries.result ≡ length die.log = c.len-entries.ensures
    ∙ ap (λ (k : Core g.row.N.Denot). length k.log) (c.deref.ensures ∙ (c.self.view_is ∙ sym same)) in
    elim c.match-perform.branch [
      | in-Ok w ↦ rw (w.result-is, log_of_calls c.args.self.now.log, ← same)
          (w.in-Ok.ensures.ended.answered, w.in-Ok.ensures.ended.accepted)
      | in-Err w ↦ rw (w.result-is, log_of_calls c.args.self.now.log, ← same) (
        entries ∙ sym (length_of_calls die.log),
        may_refuse g.N.Nand.ends g.N.Nand.failures never c.args.caller c.args.event die c.perform.new.self w.in-Err.refusal runs w.in-Err.ensures,
      )
    ]
