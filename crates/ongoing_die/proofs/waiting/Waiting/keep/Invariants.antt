use Rattle.std.proofs.Common.{◌≡◌, take, vec_len, vec_capacity}
use Rattle.ongoing_die.proofs.waiting.Waiting.keep.Given as goal

abbrev pub invariant-loop-op : goal.invariant-loop-op
invariant-loop-op l = record {
  kept : l.self.ops.items ≡ take l.op-index l.ops;
  len : vec_len l.self.ops ≡ l.op-index;
  room : vec_capacity l.self.ops ≡ vec_capacity l.fn.self.ops;
}
