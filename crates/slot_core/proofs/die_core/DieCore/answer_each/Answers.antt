use Rattle.std.proofs.Common.{◌∙◌, ◌+◌, ◌∷◌, [], ap, sym, length-append}
use Rattle.slot_core.proofs.Running.{goes_on}
use Rattle.slot_core.proofs.die_core.DieCore.answer_each.Goals as goal

pub loop-event-preserved : goal.loop-event-preserved
loop-event-preserved g c = record {
  can_next = tt;
  is_finite = tt;
  room = c.push_reserved.ensures.capacity ∙ c.loop-event.invariant.room;
  replied = c.push_reserved.ensures.len ∙ ap (λ n. n + 1) c.loop-event.invariant.replied
      ∙ sym (length-append c.loop-event.yielded (c.in-Some.event ∷ []));
  ran = goes_on g.N.Nand.ends g.N.Nand.failures g.N.Nand.never_fails c.args.self.now c.loop-event.self c.apply-reply.new.self
      c.loop-event.yielded c.loop-event.replies.items _ c.in-Some.event c.apply-reply.result
      c.loop-event.invariant.ran c.apply-reply.ensures c.push_reserved.ensures.items;
}
