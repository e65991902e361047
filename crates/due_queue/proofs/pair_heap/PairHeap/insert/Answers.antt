use Rattle.std.proofs.Common.{ap, ◌∙◌, arith}
use Rattle.std.specs.BinaryHeap.{heap_items}
use Rattle.due_queue.specs.Pairs.{is_pair_before}
use Rattle.due_queue.specs.Heaps.{pairs_in}
use Rattle.due_queue.specs.Queue.{Queue, with_key}
use Rattle.due_queue.proofs.Orders.{pairs_strict}
use Rattle.due_queue.proofs.Inserted.{rising-inserted}
use Rattle.due_queue.proofs.Heaped.{pairs_in-IsPermutation}
use Rattle.due_queue.proofs.pair_heap.PairHeap.insert.Goals as goal

pub invariant_of-self : goal.invariant_of-self
invariant_of-self c =
    let held = pairs_in-IsPermutation _ _ c.in-Ok.ensures.permutation in
    let absent = rw (← c.self.view_is) at c.requires.absent in
    let spare = ap (λ (queue : Queue _). queue.spare) c.self.view_is in
    record {
      in_order = c.in-Ok.ensures.heap_order c.self.invariant.in_order;
      rising = rw held (rising-inserted is_pair_before pairs_strict c.args.pair (pairs_in (heap_items c.self.inside.heap)) absent
          c.self.invariant.rising);
      room = omega (arith, c.in-Ok.ensures.len, c.in-Ok.ensures.capacity);
    }

pub returns-clause-keys : goal.returns-clause-keys
returns-clause-keys c =
    pairs_in-IsPermutation _ _ c.in-Ok.ensures.permutation
    ∙ ap (λ (queue : Queue _). with_key is_pair_before c.args.pair queue.keys) c.self.view_is
