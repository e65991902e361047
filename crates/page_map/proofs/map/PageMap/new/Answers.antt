use Rattle.std.proofs.Common.{◌≡◌, ◌*◌, ℕ, None, map, ap, length, refl, arith, ◌∙◌}
use Rattle.std.specs.Prelude.{replicate}
use Rattle.page_map.specs.Packing.{place_in}
use Rattle.page_map.specs.Tables.{entries_up_to}
use Rattle.page_map.proofs.Blank.{tables_blank}
use Rattle.page_map.proofs.Cells.{none_placed}
use Rattle.page_map.proofs.Laid.{laid-none}
use Rattle.page_map.proofs.map.PageMap.new.Goals as goal

pub invariant_of-result : goal.invariant_of-result
invariant_of-result c =
    let places = c.in_ok-with_capacity.field-0.items in
    let owners = c.in_ok-with_capacity-2.field-0.items in
    let blank : map (place_in c.args.shape) (entries_up_to c.args.logical places) ≡ replicate c.args.logical None = ap
    (map (place_in c.args.shape)) (laid-none ℕ c.args.logical places c.in_ok-with_capacity.ensures.items)
    ∙ none_placed c.args.shape c.args.logical in
    record {
      tables = rw (
        blank,
        laid-none ℕ
            (c.args.shape.blocks * c.args.shape.pages) owners c.in_ok-with_capacity-2.ensures.items,
        c.in_ok-vec.ensures.items_if_clones_equal
            (λ _ same. same),
      ) (
          tables_blank c.args.shape c.args.logical (omega arith)
          );
      few_cells = c.requires;
      some_places = omega (arith, ap length c.in_ok-with_capacity.ensures.items);
      room_places = c.in_ok-with_capacity.ensures.capacity;
      some_owners = omega (arith, ap length c.in_ok-with_capacity-2.ensures.items);
      room_owners = c.in_ok-with_capacity-2.ensures.capacity;
    }

pub returns-clause-ok : goal.returns-clause-ok
returns-clause-ok c =
    let places = c.in_ok-with_capacity.field-0.items in
    let blank : map (place_in c.args.shape) (entries_up_to c.args.logical places) ≡ replicate c.args.logical None = ap
    (map (place_in c.args.shape)) (laid-none ℕ c.args.logical places c.in_ok-with_capacity.ensures.items)
    ∙ none_placed c.args.shape c.args.logical in
    rw blank refl
