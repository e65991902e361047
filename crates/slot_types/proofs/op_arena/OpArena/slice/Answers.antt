use Rattle.std.proofs.Common.{List, length, take, arith, sym, ap, ◌∙◌}
use Rattle.std.specs.Prelude.{slice_range}
use Rattle.slot_types.specs.declared.events.Op.{Op}
use Rattle.slot_types.specs.Operations.{writes}
use Rattle.slot_types.specs.Packing.{ops_of}
use Rattle.slot_types.specs.Arenas.{Arena}
use Rattle.slot_types.proofs.Packed.{part, packed_in, packed_are, length-bytes, writes-take, writes_between}
use Rattle.slot_types.proofs.op_arena.OpArena.slice.Goals as goal

pub bytes_between-requires : goal.bytes_between-requires
bytes_between-requires c =
    let f = c.self.inside in
    let ops = ops_of f.kinds.items f.pages.items f.bytes.items in
    let before = c.requires.writes_from ∙ sym (ap (λ (l : List Op). writes (take c.args.from l)) (ap (λ (a : Arena). a.ops) c.self.view_is)) in
    let after = c.requires.writes_to ∙ sym (ap (λ (l : List Op). writes (take c.args.to l)) (ap (λ (a : Arena). a.ops) c.self.view_is)) in
    let between = writes_between ops c.args.from c.args.to c.requires.rise in
    let most = writes-take ops c.args.to in
    let all = ap length c.self.invariant.0.bytes_are ∙ length-bytes ops in
    let seen = ap length c.as_slice.ensures.value in
    record { rise = omega (arith, before, after, between); there = omega (arith, after, most, all, seen) }

pub invariant_of-result : goal.invariant_of-result
invariant_of-result c =
    let f = c.self.inside in
    let ops = ops_of f.kinds.items f.pages.items f.bytes.items in
    let before = c.requires.writes_from ∙ sym (ap (λ (l : List Op). writes (take c.args.from l)) (ap (λ (a : Arena). a.ops) c.self.view_is)) in
    let after = c.requires.writes_to ∙ sym (ap (λ (l : List Op). writes (take c.args.to l)) (ap (λ (a : Arena). a.ops) c.self.view_is)) in
    rw (c.bytes_between.ensures, c.as_slice.ensures.value, c.deref.ensures.value, c.deref-2.ensures.value) (packed_in _ _ _ _
    (part f.kinds.items f.pages.items f.bytes.items ops c.args.from c.args.to c.args.writes_from c.args.writes_to c.requires.rise before after
    c.self.invariant.0))

pub returns : goal.returns
returns c =
    let f = c.self.inside in
    let ops = ops_of f.kinds.items f.pages.items f.bytes.items in
    let before = c.requires.writes_from ∙ sym (ap (λ (l : List Op). writes (take c.args.from l)) (ap (λ (a : Arena). a.ops) c.self.view_is)) in
    let after = c.requires.writes_to ∙ sym (ap (λ (l : List Op). writes (take c.args.to l)) (ap (λ (a : Arena). a.ops) c.self.view_is)) in
    rw (c.bytes_between.ensures, c.as_slice.ensures.value, c.deref.ensures.value, c.deref-2.ensures.value) (packed_are _ _ _ _
    (part f.kinds.items f.pages.items f.bytes.items ops c.args.from c.args.to c.args.writes_from c.args.writes_to c.requires.rise before after
    c.self.invariant.0)
    ∙ ap (λ (l : List Op). slice_range l c.args.from c.args.to) (ap (λ (a : Arena). a.ops) c.self.view_is))
