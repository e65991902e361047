use Rattle.std.proofs.Common.{◌≡◌, ◌+◌, ◌≤◌, ◌++◌, map, take, drop, vec_len, vec_capacity}
use Rattle.slot_types.specs.Operations.{page_of, writes}
use Rattle.slot_types.specs.Packing.{kind_of, bytes_of}
use Rattle.slot_types.proofs.packed_ops.push_list.Given as goal

abbrev pub invariant-loop-op : goal.invariant-loop-op
invariant-loop-op l = record {
  kinds : l.kinds.items ≡ l.fn.kinds.items ++ map kind_of (take l.op-index l.ops);
  pages : l.pages.items ≡ l.fn.pages.items ++ map page_of (take l.op-index l.ops);
  bytes : l.bytes.items ≡ l.fn.bytes.items ++ bytes_of (take l.op-index l.ops);
  len : vec_len l.kinds ≡ vec_len l.fn.kinds + l.op-index;
  page_len : vec_len l.pages ≡ vec_len l.fn.pages + l.op-index;
  room : vec_capacity l.kinds ≡ vec_capacity l.fn.kinds;
  page_room : vec_capacity l.pages ≡ vec_capacity l.fn.pages;
  byte_room : vec_capacity l.bytes ≡ vec_capacity l.fn.bytes;
  left : vec_len l.bytes + writes (drop l.op-index l.ops) ≤ vec_capacity l.bytes;
}
