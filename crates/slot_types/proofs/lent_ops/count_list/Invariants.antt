use Rattle.std.proofs.Common.{◌≡◌, ◌+◌, drop, nat_le, count_by}
use Rattle.std.specs.List.{find}
use Rattle.slot_types.specs.Operations.{page_of, is_read, writes}
use Rattle.slot_types.proofs.lent_ops.count_list.Given as goal

abbrev pub invariant-loop-op : goal.invariant-loop-op
invariant-loop-op l = record {
  there : find (λ op. nat_le l.pages (page_of op)) (drop l.op-index l.ops) ≡ find (λ op. nat_le l.pages (page_of op)) l.ops;
  reads : l.reads + count_by is_read (drop l.op-index l.ops) ≡ count_by is_read l.ops;
  writes : l.writes + writes (drop l.op-index l.ops) ≡ writes l.ops;
}
