use Rattle.std.proofs.Common.{◌≡◌, true, false, sym, ◌∙◌, ap, length}
use Rattle.slot_core.specs.Core.{Core}
use Rattle.slot_core.specs.Events.{with_ops}
use Rattle.die_service.proofs.Lists.{log_of_calls, length_of_calls}
use Rattle.slot_core.proofs.Calling.{may_refuse}
use Rattle.die_service.proofs.book.DieBookNotingBookLentOps.note.Goals.{in-Ok, in-Err}
use Rattle.die_service.proofs.book.DieBookNotingBookLentOps.note.Goals as goal

pub returns-clause-gives : goal.returns-clause-gives
returns-clause-gives g c =
    let never = g.N.Nand.never_fails in
    let die = c.deref_mut.result.now in
    let same : die ≡ c.args.self.now = c.deref_mut.ensures.value ∙ c.self.view_is in
    let runs : never ≡ true → die.stopped ≡ false = λ is. ap (λ (k : Core g.row.N.Denot). k.stopped) c.deref_mut.ensures.value
    ∙ c.self.invariant is in
    let entries : c.len-before.result ≡ length die.log = c.len-before.ensures
    ∙ ap (λ (k : Core g.row.N.Denot). length k.log) (c.deref.ensures ∙ (c.self.view_is ∙ sym same)) in
    elim c.match-note.branch [
      | in-Ok w ↦ rw (w.result-is, log_of_calls c.args.self.now.log, ← same)
          (w.in-Ok.ensures.ended.answered, w.in-Ok.ensures.ended.accepted)
      | in-Err w ↦ rw (w.result-is, log_of_calls c.args.self.now.log, ← same) (
        entries ∙ sym (length_of_calls die.log),
        may_refuse g.N.Nand.ends g.N.Nand.failures never c.args.caller (with_ops c.args.head c.args.ops.now) die c.note.new.self w.in-Err.refusal runs w.in-Err.ensures,
      )
    ]
