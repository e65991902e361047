use Rattle.std.proofs.Common.{◌∷◌, ◌++◌, [], List, ap, ◌∙◌}
use Rattle.slot_types.specs.declared.events.Op.{Op}
use Rattle.slot_types.proofs.Packed.{joined, of_list, packed_in, packed_are}
use Rattle.slot_types.proofs.packed_ops.PackedOps.push.Goals as goal

pub invariant_of-self-2 : goal.invariant_of-self-2
invariant_of-self-2 c =
    rw (
      c.push_reserved.ensures.items,
      c.in_ok-reserve.ensures.items,
      c.kind.ensures,
      c.push_reserved-2.ensures.items,
      c.in_ok-reserve-2.ensures.items,
      c.page.ensures,
      c.in_ok-push_bytes.ensures.ok,
    ) (packed_in _ _ _ _ (joined _ _ _ _ _ _ _ _ c.self.invariant (of_list (c.args.op ∷ []))))

pub returns-clause-ok : goal.returns-clause-ok
returns-clause-ok c =
    rw (
      c.push_reserved.ensures.items,
      c.in_ok-reserve.ensures.items,
      c.kind.ensures,
      c.push_reserved-2.ensures.items,
      c.in_ok-reserve-2.ensures.items,
      c.page.ensures,
      c.in_ok-push_bytes.ensures.ok,
    ) (packed_are _ _ _ _ (joined _ _ _ _ _ _ _ _ c.self.invariant (of_list (c.args.op ∷ [])))
    ∙ ap (λ (l : List Op). l ++ c.args.op ∷ []) c.self.view_is)
