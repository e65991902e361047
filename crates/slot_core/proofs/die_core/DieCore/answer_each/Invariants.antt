use Rattle.std.proofs.Common.{◌≡◌, length}
use Rattle.std.specs.Prelude.{vec_len, vec_capacity}
use Rattle.slot_core.specs.Runs.{IsRun}
use Rattle.slot_core.proofs.die_core.DieCore.answer_each.Given as goal

abbrev pub invariant-loop-event : goal.invariant-loop-event
invariant-loop-event g l = record {
  can_next : (goal.iterator-loop-event g).can_next l.event-iterator;
  is_finite : (goal.iterator-loop-event g).is_finite l.event-iterator;
  room : vec_capacity l.replies ≡ length l.fn.events;
  replied : vec_len l.replies ≡ length l.yielded;
  ran : IsRun g.N.Nand.ends g.N.Nand.failures g.N.Nand.never_fails l.fn.self l.yielded l.replies.items l.self;
}
