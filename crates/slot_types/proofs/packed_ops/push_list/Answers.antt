use Rattle.std.proofs.Common.{◌∷◌, ◌++◌, [], ℕ, Some, List, get_or, map, take, vec_items, vec_len, vec_capacity, append_assoc}
use Rattle.std.proofs.Common.{append-nil, arith, sym, ap, ◌∙◌}
use Rattle.std.proofs.lemmas.Option.{slice_get-get_or}
use Rattle.slot_types.specs.declared.events.Op.{Op}
use Rattle.slot_types.specs.declared.events.Op.TheVariants.{Read, Write, Trim}
use Rattle.slot_types.specs.declared.op_kinds.OpKind.{OpKind}
use Rattle.slot_types.specs.declared.pages.PageData.{PageData}
use Rattle.slot_types.specs.Operations.{is_write, page_of}
use Rattle.slot_types.specs.Packing.{kind_of, bytes_of}
use Rattle.slot_types.proofs.Packed.{map_more, bytes_more, left}
use Rattle.slot_types.proofs.packed_ops.push_list.Goals as goal
use Rattle.slot_types.proofs.packed_ops.push_list.Goals.{in-Read, in-Write, in-Trim}

pub loop-op-preserved : goal.loop-op-preserved
loop-op-preserved c =
    let ops : List Op = c.args.ops.now in
    let n : ℕ = c.loop-op.op-index in
    let at = slice_get-get_or ops n (Read 0) c.loop-op-test.true in
    let old = c.loop-op.invariant in
    record {
      kinds =
          c.push_reserved.ensures.items
          ∙ ap (λ (l : List OpKind). l ++ c.kind.result ∷ []) old.kinds
          ∙ append_assoc c.args.kinds.now.items (map kind_of (take n ops)) (c.kind.result ∷ [])
          ∙ ap (λ (k : OpKind). c.args.kinds.now.items ++ (map kind_of (take n ops) ++ k ∷ [])) c.kind.ensures
          ∙ ap (λ (l : List OpKind). c.args.kinds.now.items ++ l) (sym (map_more kind_of ops n (get_or ops n (Read 0)) at));
      pages =
          c.push_reserved-in-loop-op.ensures.items
          ∙ ap (λ (l : List ℕ). l ++ c.page.result ∷ []) old.pages
          ∙ append_assoc c.args.pages.now.items (map page_of (take n ops)) (c.page.result ∷ [])
          ∙ ap (λ (p : ℕ). c.args.pages.now.items ++ (map page_of (take n ops) ++ p ∷ [])) c.page.ensures
          ∙ ap (λ (l : List ℕ). c.args.pages.now.items ++ l) (sym (map_more page_of ops n (get_or ops n (Read 0)) at));
      bytes = elim c.match-op.branch [
        | in-Read w ↦
            ap vec_items w.bytes-is ∙ old.bytes
            ∙ ap (λ (l : List PageData). c.args.bytes.now.items ++ l)
            (sym (bytes_more ops n (Read w.in-Read.field-0) (at ∙ ap Some w.in-Read.is) ∙ append-nil (bytes_of (take n ops))))
        | in-Write w ↦
            ap vec_items w.bytes-is ∙ w.push_reserved-in-Write.ensures.items
            ∙ ap (λ (l : List PageData). l ++ w.in-Write.page ∷ []) old.bytes
            ∙ append_assoc c.args.bytes.now.items (bytes_of (take n ops)) (w.in-Write.page ∷ [])
            ∙ ap (λ (l : List PageData). c.args.bytes.now.items ++ l)
            (sym (bytes_more ops n (Write w.in-Write.field-0 w.in-Write.page) (at ∙ ap Some w.in-Write.is)))
        | in-Trim w ↦
            ap vec_items w.bytes-is ∙ old.bytes
            ∙ ap (λ (l : List PageData). c.args.bytes.now.items ++ l)
            (sym (bytes_more ops n (Trim w.in-Trim.field-0) (at ∙ ap Some w.in-Trim.is) ∙ append-nil (bytes_of (take n ops))))
      ];
      len = omega (arith, old.len, c.push_reserved.ensures.len);
      page_len = omega (arith, old.page_len, c.push_reserved-in-loop-op.ensures.len);
      room = c.push_reserved.ensures.capacity ∙ old.room;
      page_room = c.push_reserved-in-loop-op.ensures.capacity ∙ old.page_room;
      byte_room = elim c.match-op.branch [
        | in-Read w ↦ ap vec_capacity w.bytes-is ∙ old.byte_room
        | in-Write w ↦ ap vec_capacity w.bytes-is ∙ w.push_reserved-in-Write.ensures.capacity ∙ old.byte_room
        | in-Trim w ↦ ap vec_capacity w.bytes-is ∙ old.byte_room
      ];
      left = elim c.match-op.branch [
        | in-Read w ↦
            omega (
              arith,
              ap vec_len w.bytes-is,
              ap vec_capacity w.bytes-is,
              left is_write ops n (Read w.in-Read.field-0) (at ∙ ap Some w.in-Read.is),
              old.left,
            )
        | in-Write w ↦
            omega (
              arith,
              ap vec_len w.bytes-is,
              ap vec_capacity w.bytes-is,
              left is_write ops n (Write w.in-Write.field-0 w.in-Write.page) (at ∙ ap Some w.in-Write.is),
              old.left,
              w.push_reserved-in-Write.ensures.len,
              w.push_reserved-in-Write.ensures.capacity,
            )
        | in-Trim w ↦
            omega (
              arith,
              ap vec_len w.bytes-is,
              ap vec_capacity w.bytes-is,
              left is_write ops n (Trim w.in-Trim.field-0) (at ∙ ap Some w.in-Trim.is),
              old.left,
            )
      ];
    }
