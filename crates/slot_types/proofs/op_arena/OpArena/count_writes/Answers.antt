use Rattle.std.proofs.Common.{◌≡◌, ℕ, ◌+◌, ◌-◌, List, take, drop, count_by, ap, ◌∙◌, subst}
use Rattle.slot_types.specs.declared.events.Op.{Op}
use Rattle.slot_types.specs.declared.op_kinds.OpKind.{OpKind}
use Rattle.slot_types.specs.Operations.{writes}
use Rattle.slot_types.specs.Packing as packing
use Rattle.slot_types.specs.Packing.{kind_of, ops_of}
use Rattle.slot_types.specs.Arenas.{Arena}
use Rattle.slot_types.proofs.Packed.{part_of, count_writes, writes_between}
use Rattle.slot_types.proofs.op_arena.OpArena.count_writes.Goals as goal

pub returns : goal.returns
returns c =
    let f = c.self.inside in
    let ops = ops_of f.kinds.items f.pages.items f.bytes.items in
    let part : List Op = take (c.args.to - c.args.from) (drop c.args.from ops) in
    let count : c.count_writes_in.result ≡ writes part =
    c.count_writes_in.ensures
    ∙ ap (λ (l : List OpKind). count_by packing.writes (take (c.args.to - c.args.from) (drop c.args.from l))) c.deref.ensures.value
    ∙ ap (count_by packing.writes) (part_of kind_of ops f.kinds.items c.args.from c.args.to c.self.invariant.0.kinds_are)
    ∙ count_writes part in
    subst (λ (l : List Op). writes (take c.args.from l) + c.count_writes_in.result ≡ writes (take c.args.to l)) (ap (λ (a : Arena). a.ops) c.self.view_is)
    (ap (λ (n : ℕ). writes (take c.args.from ops) + n) count ∙ writes_between ops c.args.from c.args.to c.requires.rise)
