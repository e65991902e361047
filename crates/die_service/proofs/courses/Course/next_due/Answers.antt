use Rattle.std.proofs.Common.{◌+◌, List, Some, arith, subst, sym, ap, ◌∙◌}
use Rattle.slot_core.specs.Events.{with_ops}
use Rattle.die_service.specs.Drives.{Course, Comes, NoneDue}
use Rattle.slot_types.specs.declared.events.Op.{Op}
use Rattle.die_service.specs.Feeds.{last_ops}
use Rattle.die_service.proofs.Feeding.{on, none_left, none_yet, comes_now, last_next}
use Rattle.die_service.proofs.courses.Course.next_due.Goals.{then-place-len-via-then-place-len}
use Rattle.die_service.proofs.courses.Course.next_due.Goals.{then-place-len-via-else-place-len+then-at-clock}
use Rattle.die_service.proofs.courses.Course.next_due.Goals as goal

pub returns-then-place-len-clause-none : goal.returns-then-place-len-clause-none
returns-then-place-len-clause-none c =
    let f = c.self.inside in
    let len = c.len.ensures in
    subst (λ (k : Course). NoneDue c.args.clock k.rest) c.self.view_is (elim c.then-place-len.branch [
      | then-place-len-via-then-place-len w ↦ none_left c.args.clock f.place f.feed
          (let past = w.if-place-len.true in omega (arith, len, past))
      | then-place-len-via-else-place-len+then-at-clock w ↦ none_yet c.args.clock f.place w.at.result f.feed w.at.ensures
          (let later = w.if-at-clock.true in omega (arith, later))
    ])

pub returns-clause-due : goal.returns-clause-due
returns-clause-due c =
    let f = c.self.inside in
    let ops : List Op = last_ops (f.place + 1) f.feed in
    subst (λ (k : Course). Comes c.args.clock k (with_ops c.head.result ops) (on (f.place + 1) f.feed ops f.refused.items))
    c.self.view_is
    (comes_now c.args.clock f.place c.at.result f.feed (with_ops c.head.result ops) (last_ops f.place f.feed)
    ops f.refused.items c.at.ensures (let by = c.if-at-clock.false in omega (arith, by))
    (c.head.ensures ∙ ap (λ (l : List Op). Some (with_ops c.head.result l)) (sym (last_next f.place f.feed))) c.self.invariant.0)
