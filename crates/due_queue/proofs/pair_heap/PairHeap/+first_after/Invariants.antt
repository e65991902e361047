use Rattle.due_queue.proofs.pair_heap.PairHeap.+first_after.Given as goal

abbrev pub decreases-first_after : goal.decreases-first_after
decreases-first_after l = l.count
