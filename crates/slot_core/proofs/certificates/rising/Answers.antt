use Rattle.slot_core.proofs.BusyIntervals.{deduped}
use Rattle.slot_core.proofs.certificates.rising.Goals as goal

pub returns-clause-rising : goal.returns-clause-rising
returns-clause-rising c =
    rw c.from_vec.ensures (deduped c.args.numbers.items c.sort_unstable.new.self.items c.dedup.new.self.items c.sort_unstable.ensures.permutation
    c.sort_unstable.ensures.sorted c.dedup.ensures.filtered).0

pub returns-clause-same : goal.returns-clause-same
returns-clause-same c =
    rw c.from_vec.ensures (deduped c.args.numbers.items c.sort_unstable.new.self.items c.dedup.new.self.items c.sort_unstable.ensures.permutation
    c.sort_unstable.ensures.sorted c.dedup.ensures.filtered).1
