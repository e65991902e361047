use Rattle.std.proofs.Common.{◌≡◌, ◌-◌, ◌++◌, List, length, map, vec_len, length-append, append_assoc, rules, arith, ap, ◌∙◌}
use Rattle.std.proofs.lemmas.List.{length-map}
use Rattle.std.proofs.lemmas.List.Sums.{count_by-le-length}
use Rattle.slot_types.specs.declared.events.Op.{Op}
use Rattle.slot_types.specs.Operations.{page_of, is_write, writes}
use Rattle.slot_types.specs.Packing.{kind_of, bytes_of, ops_of}
use Rattle.slot_types.specs.Arenas.{Arena}
use Rattle.slot_types.proofs.Packed.{joined, of_list, packed_in, packed_are, length-bytes, writes-append}
use Rattle.slot_types.proofs.op_arena.OpArena.push_all.Goals as goal

pub push_list-requires : goal.push_list-requires
push_list-requires c =
    let more = c.ops.inside in
    let ops2 = ops_of more.kinds.now more.pages.now more.bytes.now in
    let all = ap length c.ops.view_is in
    let written = ap writes c.ops.view_is in
    record {
      room = omega (arith, c.in_ok-reserve.ensures.ok, c.len-count.ensures, all, length-append more.list.now ops2);
      page_room = omega (arith, c.in_ok-reserve-2.ensures.ok, c.len-count.ensures, all, length-append more.list.now ops2);
      byte_room = omega (arith, c.in_ok-reserve-3.ensures.ok, c.requires, written, writes-append more.list.now ops2);
    }

pub append-requires : goal.append-requires
append-requires c =
    let more = c.ops.inside in
    let ops2 = ops_of more.kinds.now more.pages.now more.bytes.now in
    let whole : vec_len c.push_list.new.kinds ≡ length c.push_list.new.kinds.items = search rules in
    let before : vec_len c.reserve.new.self ≡ length c.reserve.new.self.items = search rules in
    omega (
      arith,
      c.in_ok-reserve.ensures.ok,
      c.len-count.ensures,
      ap length c.ops.view_is,
      length-append more.list.now ops2,
      ap length c.ops.invariant.kinds_are,
      length-map ops2 kind_of,
      whole,
      before,
      ap length c.push_list.ensures.kinds,
      length-append c.reserve.new.self.items (map kind_of more.list.now),
      length-map more.list.now kind_of,
      c.push_list.ensures.kind_room,
    )

pub append-requires-2 : goal.append-requires-2
append-requires-2 c =
    let more = c.ops.inside in
    let ops2 = ops_of more.kinds.now more.pages.now more.bytes.now in
    let whole : vec_len c.push_list.new.pages ≡ length c.push_list.new.pages.items = search rules in
    let before : vec_len c.reserve-2.new.self ≡ length c.reserve-2.new.self.items = search rules in
    omega (
      arith,
      c.in_ok-reserve-2.ensures.ok,
      c.len-count.ensures,
      ap length c.ops.view_is,
      length-append more.list.now ops2,
      ap length c.ops.invariant.pages_are,
      length-map ops2 page_of,
      whole,
      before,
      ap length c.push_list.ensures.pages,
      length-append c.reserve-2.new.self.items (map page_of more.list.now),
      length-map more.list.now page_of,
      c.push_list.ensures.page_room,
    )

pub append-requires-3 : goal.append-requires-3
append-requires-3 c =
    let more = c.ops.inside in
    let ops2 = ops_of more.kinds.now more.pages.now more.bytes.now in
    let whole : vec_len c.push_list.new.bytes ≡ length c.push_list.new.bytes.items = search rules in
    let before : vec_len c.reserve-3.new.self ≡ length c.reserve-3.new.self.items = search rules in
    omega (
      arith,
      c.in_ok-reserve-3.ensures.ok,
      c.requires,
      ap writes c.ops.view_is,
      writes-append more.list.now ops2,
      ap length c.ops.invariant.bytes_are,
      length-bytes ops2,
      whole,
      before,
      ap length c.push_list.ensures.bytes,
      length-append c.reserve-3.new.self.items (bytes_of more.list.now),
      length-bytes more.list.now,
      c.push_list.ensures.byte_room,
    )

pub invariant_of-self-2 : goal.invariant_of-self-2
invariant_of-self-2 c =
    let more = c.ops.inside in
    let ops2 = ops_of more.kinds.now more.pages.now more.bytes.now in (
      rw (
        c.append.ensures.items,
        c.push_list.ensures.kinds,
        c.in_ok-reserve.ensures.items,
        c.append-2.ensures.items,
        c.push_list.ensures.pages,
        c.in_ok-reserve-2.ensures.items,
        c.append-3.ensures.items,
        c.push_list.ensures.bytes,
        c.in_ok-reserve-3.ensures.items,
      ) (packed_in _ _ _ _ (joined _ _ _ _ _ _ _ _ (joined _ _ _ _ _ _ _ _ c.self.invariant.0 (of_list more.list.now)) c.ops.invariant)),
      (let whole : vec_len c.append.new.list ≡ length c.append.new.list.items = search rules in
          let before : vec_len c.reserve.new.self ≡ length c.reserve.new.self.items = search rules in
          record {
            for_more = omega (
              arith,
              whole,
              before,
              ap length c.append.ensures.items,
              length-append c.push_list.new.kinds.items more.kinds.now,
              ap length c.push_list.ensures.kinds,
              length-append c.reserve.new.self.items (map kind_of more.list.now),
              length-map more.list.now kind_of,
              length-map ops2 kind_of,
              ap length c.ops.invariant.kinds_are,
              c.append.ensures.capacity,
              c.push_list.ensures.kind_room,
              c.in_ok-reserve.ensures.len,
              c.in_ok-reserve.ensures.capacity,
              c.in_ok-reserve.ensures.ok,
              c.len-count.ensures,
              ap length c.ops.view_is,
              length-append more.list.now ops2,
              c.self.invariant.1.for_more,
            );
            for_all = omega (arith, c.append.ensures.capacity, c.push_list.ensures.kind_room, c.in_ok-reserve.ensures.capacity, c.self.invariant.1.for_all);
            most = omega (arith, c.self.invariant.1.most);
          }),
      (let whole : vec_len c.append-2.new.list ≡ length c.append-2.new.list.items = search rules in
          let before : vec_len c.reserve-2.new.self ≡ length c.reserve-2.new.self.items = search rules in
          record {
            for_more = omega (
              arith,
              whole,
              before,
              ap length c.append-2.ensures.items,
              length-append c.push_list.new.pages.items more.pages.now,
              ap length c.push_list.ensures.pages,
              length-append c.reserve-2.new.self.items (map page_of more.list.now),
              length-map more.list.now page_of,
              length-map ops2 page_of,
              ap length c.ops.invariant.pages_are,
              c.append-2.ensures.capacity,
              c.push_list.ensures.page_room,
              c.in_ok-reserve-2.ensures.len,
              c.in_ok-reserve-2.ensures.capacity,
              c.in_ok-reserve-2.ensures.ok,
              c.len-count.ensures,
              ap length c.ops.view_is,
              length-append more.list.now ops2,
              c.self.invariant.2.for_more,
            );
            for_all = omega (arith, c.append-2.ensures.capacity, c.push_list.ensures.page_room, c.in_ok-reserve-2.ensures.capacity, c.self.invariant.2.for_all);
            most = omega (arith, c.self.invariant.2.most);
          }),
      (let whole : vec_len c.append-3.new.list ≡ length c.append-3.new.list.items = search rules in
          let before : vec_len c.reserve-3.new.self ≡ length c.reserve-3.new.self.items = search rules in
          record {
            for_more = omega (
              arith,
              whole,
              before,
              ap length c.append-3.ensures.items,
              length-append c.push_list.new.bytes.items more.bytes.now,
              ap length c.push_list.ensures.bytes,
              length-append c.reserve-3.new.self.items (bytes_of more.list.now),
              length-bytes more.list.now,
              length-bytes ops2,
              ap length c.ops.invariant.bytes_are,
              c.append-3.ensures.capacity,
              c.push_list.ensures.byte_room,
              c.in_ok-reserve-3.ensures.len,
              c.in_ok-reserve-3.ensures.capacity,
              c.in_ok-reserve-3.ensures.ok,
              c.len-count.ensures,
              ap length c.ops.view_is,
              length-append more.list.now ops2,
              c.self.invariant.3.for_more,
              c.requires,
              ap writes c.ops.view_is,
              writes-append more.list.now ops2,
              count_by-le-length is_write c.args.ops.now,
            );
            for_all = omega (arith, c.append-3.ensures.capacity, c.push_list.ensures.byte_room, c.in_ok-reserve-3.ensures.capacity, c.self.invariant.3.for_all);
            most = omega (arith, c.self.invariant.3.most);
          }),
    )

pub returns-clause-ok : goal.returns-clause-ok
returns-clause-ok c =
    let f = c.self.inside in
    let more = c.ops.inside in
    let made : List Op → Arena = λ l. record { ops = l; room = f.room - length c.args.ops.now; lasting = f.lasting } in
    let grown : Arena → Arena = λ a. record a { ops = a.ops ++ c.args.ops.now; room = a.room - length c.args.ops.now } in
    rw (
      c.append.ensures.items,
      c.push_list.ensures.kinds,
      c.in_ok-reserve.ensures.items,
      c.append-2.ensures.items,
      c.push_list.ensures.pages,
      c.in_ok-reserve-2.ensures.items,
      c.append-3.ensures.items,
      c.push_list.ensures.bytes,
      c.in_ok-reserve-3.ensures.items,
      c.saturating_sub-self-inside.ensures,
      c.len-count.ensures,
    ) (ap made ((packed_are _ _ _ _ (joined _ _ _ _ _ _ _ _ (joined _ _ _ _ _ _ _ _ c.self.invariant.0 (of_list more.list.now)) c.ops.invariant)
    ∙ append_assoc (ops_of f.kinds.items f.pages.items f.bytes.items) more.list.now (ops_of more.kinds.now more.pages.now more.bytes.now)
    ∙ ap (λ (l : List Op). ops_of f.kinds.items f.pages.items f.bytes.items ++ l) c.ops.view_is))
    ∙ ap grown c.self.view_is)
