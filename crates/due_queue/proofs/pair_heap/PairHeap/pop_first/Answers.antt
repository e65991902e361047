use Rattle.std.proofs.Common.{ap, sym, ◌∙◌, arith}
use Rattle.due_queue.specs.Queue.{Queue, first_of, rest_of}
use Rattle.due_queue.proofs.Heaped.{pairs_in-popped}
use Rattle.due_queue.proofs.pair_heap.PairHeap.pop_first.Goals as goal

pub invariant_of-self : goal.invariant_of-self
invariant_of-self c =
    let held = pairs_in-popped _ _ _ c.in-Some.ensures.permutation (c.in-Some.ensures.below_top c.self.invariant.in_order) in
    let risen = rw held at c.self.invariant.rising in
    record {
      in_order = (c.in-Some.ensures.heap_order c.self.invariant.in_order).0;
      rising = risen.1;
      room = omega (arith, c.in-Some.ensures.len, c.pop.ensures.capacity);
    }

pub returns-in-Some-clause-first : goal.returns-in-Some-clause-first
returns-in-Some-clause-first c =
    sym (ap first_of (pairs_in-popped _ _ _ c.in-Some.ensures.permutation (c.in-Some.ensures.below_top c.self.invariant.in_order)))
    ∙ ap (λ (queue : Queue _). first_of queue.keys) c.self.view_is

pub returns-in-Some-clause-rest : goal.returns-in-Some-clause-rest
returns-in-Some-clause-rest c =
    sym (ap rest_of (pairs_in-popped _ _ _ c.in-Some.ensures.permutation (c.in-Some.ensures.below_top c.self.invariant.in_order)))
    ∙ ap (λ (queue : Queue _). rest_of queue.keys) c.self.view_is
