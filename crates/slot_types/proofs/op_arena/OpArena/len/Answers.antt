use Rattle.std.proofs.Common.{◌≡◌, length, vec_len, rules, ap, ◌∙◌}
use Rattle.std.proofs.lemmas.List.{length-map}
use Rattle.slot_types.specs.Packing.{kind_of, ops_of}
use Rattle.slot_types.specs.Arenas.{Arena}
use Rattle.slot_types.proofs.op_arena.OpArena.len.Goals as goal

pub returns : goal.returns
returns c =
    let f = c.self.inside in
    let whole : vec_len f.kinds ≡ length f.kinds.items = search rules in
    c.len.ensures ∙ whole ∙ ap length c.self.invariant.0.kinds_are
    ∙ length-map (ops_of f.kinds.items f.pages.items f.bytes.items) kind_of ∙ ap length (ap (λ (a : Arena). a.ops) c.self.view_is)
