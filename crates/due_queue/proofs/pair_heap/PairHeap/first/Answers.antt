use Rattle.std.proofs.Common.{◌<◌, refl, ap, sym, ◌∙◌, arith}
use Rattle.std.specs.BinaryHeap.{heap_items, heap_len}
use Rattle.due_queue.specs.Queue.{Queue, first_of}
use Rattle.due_queue.proofs.Heaped.{first_of-pairs_in}
use Rattle.due_queue.proofs.pair_heap.PairHeap.first.Goals as goal

pub returns-in-Some-clause-first : goal.returns-in-Some-clause-first
returns-in-Some-clause-first c =
    let counted = c.self.inside.heap.data.ok.0 in
    let some : 0 < heap_len c.self.inside.heap = c.in-Some.ensures.variant.0 refl in
    sym (first_of-pairs_in (heap_items c.self.inside.heap) c.in-Some.least.now (omega (arith, counted, some)) c.in-Some.ensures.lookup
    (c.in-Some.ensures.greatest c.self.invariant.in_order))
    ∙ ap (λ (queue : Queue _). first_of queue.keys) c.self.view_is
