use Rattle.std.proofs.Common.{◌≡◌, length, vec_len, rules, ap, ◌∙◌}
use Rattle.slot_types.specs.Operations.{writes}
use Rattle.slot_types.specs.Packing.{ops_of}
use Rattle.slot_types.specs.Arenas.{Arena}
use Rattle.slot_types.proofs.Packed.{length-bytes}
use Rattle.slot_types.proofs.op_arena.OpArena.writes.Goals as goal

pub returns : goal.returns
returns c =
    let f = c.self.inside in
    let whole : vec_len f.bytes ≡ length f.bytes.items = search rules in
    c.len.ensures ∙ whole ∙ ap length c.self.invariant.0.bytes_are
    ∙ length-bytes (ops_of f.kinds.items f.pages.items f.bytes.items) ∙ ap writes (ap (λ (a : Arena). a.ops) c.self.view_is)
