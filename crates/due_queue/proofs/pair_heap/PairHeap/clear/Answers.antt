use Rattle.std.proofs.Common.{◌≡◌, ap, ◌∙◌, length, sym, map, arith}
use Rattle.std.proofs.lemmas.List.{length-map}
use Rattle.std.specs.BinaryHeap.{heap_items}
use Rattle.due_queue.specs.Pairs.{is_pair_before}
use Rattle.due_queue.specs.Queue.{Queue}
use Rattle.due_queue.proofs.Inserted.{length-in_order}
use Rattle.due_queue.proofs.Heaped.{Item}
use Rattle.due_queue.proofs.pair_heap.PairHeap.clear.Goals as goal

pub returns-clause-spare : goal.returns-clause-spare
returns-clause-spare c =
    omega (
      arith,
      c.len.ensures,
      c.self.inside.heap.data.ok.0,
      length-in_order is_pair_before (map (λ (item : Item). item.0) (heap_items c.self.inside.heap)),
      length-map (heap_items c.self.inside.heap) (λ (item : Item). item.0),
      ap (λ (queue : Queue _). length queue.keys) c.self.view_is,
      ap (λ (queue : Queue _). queue.spare) c.self.view_is,
    )
