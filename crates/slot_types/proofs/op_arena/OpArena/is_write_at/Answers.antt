use Rattle.std.proofs.Common.{◌<◌, List, length, slice_get, arith, sym, ap, ◌∙◌}
use Rattle.slot_types.specs.declared.events.Op.{Op}
use Rattle.slot_types.specs.Operations.{is_some_write}
use Rattle.slot_types.specs.Packing.{kind_of, ops_of}
use Rattle.slot_types.specs.Arenas.{Arena}
use Rattle.slot_types.proofs.Packed.{known, write_known}
use Rattle.slot_types.proofs.op_arena.OpArena.is_write_at.Goals as goal

pub returns : goal.returns
returns c =
    let f = c.self.inside in
    let ops = ops_of f.kinds.items f.pages.items f.bytes.items in
    let len = ap length (ap (λ (a : Arena). a.ops) c.self.view_is) in
    let within : c.args.place < length ops = omega (arith, c.requires, len) in
    let kind = known kind_of ops f.kinds.items c.args.place c.index.result.now within c.self.invariant.0.kinds_are c.index.ensures in
    c.writes.ensures ∙ sym (write_known ops c.args.place c.index.result.now kind)
    ∙ ap (λ (l : List Op). is_some_write (slice_get l c.args.place)) (ap (λ (a : Arena). a.ops) c.self.view_is)
