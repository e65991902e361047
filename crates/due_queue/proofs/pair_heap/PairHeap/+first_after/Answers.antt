use Rattle.std.proofs.Common.{sym, ◌∙◌}
use Rattle.due_queue.proofs.Beyond.{none_there}
use Rattle.due_queue.proofs.pair_heap.PairHeap.+first_after.Goals as goal

pub returns-in-None-clause-first : goal.returns-in-None-clause-first
returns-in-None-clause-first t c = sym (none_there c.args.count c.args.self.now.keys (sym c.in-None.is ∙ c.pop_first.ensures.first))
