use Rattle.std.proofs.Common.{◌≡◌, map, take, vec_capacity}
use Rattle.flash_c.specs.Names.{op_in}
use Rattle.flash_c.proofs.kept.put_all.Given as goal

abbrev pub invariant-loop-op : goal.invariant-loop-op
invariant-loop-op l = (l.places.items ≡ map op_in (take l.op-index l.ops)) × (vec_capacity l.places ≡ vec_capacity l.fn.places)
