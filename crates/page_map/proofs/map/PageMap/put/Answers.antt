use Rattle.std.proofs.Common.{◌≡◌, ◌<◌, ◌≤◌, ◌+◌, ◌*◌, ◌∙◌, ap, sym, subst, arith, length, map, get_or, refl, Some, set, ℕ, List, Option}
use Rattle.std.proofs.lemmas.List.{get_or_read, length-set}
use Rattle.std.proofs.lemmas.List.Sums.{count_by-le-length}
use Rattle.slot_types.specs.declared.pages.Place.{Place}
use Rattle.slot_types.specs.Places.{is_in}
use Rattle.page_map.specs.Packing.{place_in}
use Rattle.page_map.specs.Placing.{Placing, IsCell, cell_index}
use Rattle.page_map.specs.Tables.{AreTables, entries_up_to, places_of, owners_of, cells_of}
use Rattle.page_map.proofs.Cells.{length-placed, set-placed}
use Rattle.page_map.proofs.Laid.{some-laid, write-laid}
use Rattle.page_map.proofs.Moving.{tables_with, one_more_here, in_table}
use Rattle.page_map.proofs.map.PageMap.put.Goals as goal
use Rattle.page_map.proofs.map.PageMap.put.Goals.{After-self}

-- the entries after the write
written : (count at some : ℕ) (entries longer : List (Option ℕ)) (entry : Option ℕ) → longer ≡ entries_up_to some entries → some ≤ count
    → at < some → length entries ≤ count → entries_up_to count (set longer at entry) ≡ set (entries_up_to count entries) at entry
written count at some entries longer entry is few below entries_few =
    ap (λ (l : List (Option ℕ)). entries_up_to count (set l at entry)) is ∙ write-laid count some entries at entry few below entries_few

is_cell : (c : After-self) → IsCell c.self.inside.shape c.args.place
is_cell c = rw (← c.self.view_is) at c.requires.place

of_map : (c : After-self) → cell_index c.self.inside.shape c.args.place + 1 ≤ c.self.inside.shape.blocks * c.self.inside.shape.pages
of_map c = omega (arith, in_table c.self.inside.shape c.args.place (is_cell c))

is_page : (c : After-self) → c.args.page < length (places_of c.self.inside)
is_page c = rw (← c.self.view_is) at c.requires.page

of_logical : (c : After-self) → c.args.page + 1 ≤ c.self.inside.logical
of_logical c =
    let m = c.self.inside in
    omega (arith, is_page c, length-placed m.shape m.logical m.places.items c.self.invariant.some_places)

-- the page's entry with its cell
came : (c : After-self) (longer : List (Option ℕ)) (word : Option ℕ) → longer ≡ entries_up_to (c.args.page + 1) c.self.inside.places.items
    → place_in c.self.inside.shape word ≡ Some c.args.place
    → map (place_in c.self.inside.shape) (entries_up_to c.self.inside.logical (set longer c.args.page word))
    ≡ set (places_of c.self.inside) c.args.page (Some c.args.place)
came c longer word is says =
    let m = c.self.inside in
    ap (map (place_in m.shape)) (written m.logical c.args.page (c.args.page + 1) m.places.items longer word is (of_logical c) (omega arith)
    c.self.invariant.some_places) ∙ set-placed m.shape (cells_of m) c.args.page word (Some c.args.place) says

pub lay_down-requires : goal.lay_down-requires
lay_down-requires c = record { room = omega (arith, of_logical (goal.at.lay_down-requires c).After-self, c.self.invariant.room_places) }

pub lay_down-requires-2 : goal.lay_down-requires-2
lay_down-requires-2 c = record {
  room = omega (
    arith,
    of_map (goal.at.lay_down-requires-2 c).After-self,
    c.cell-index.ensures,
    c.self.invariant.room_owners,
  );
}

pub overflow_add-index_mut : goal.overflow_add-index_mut
overflow_add-index_mut c =
    let m = c.self.inside in
    let here = (goal.at.overflow_add-index_mut c).After-self in
    let in_valid : c.args.place.block < length m.valid.items = omega (arith, (is_cell here).block, c.self.invariant.tables.valid_len) in
    let read : c.index_mut-3.result.now ≡ get_or m.valid.items c.args.place.block 0 = get_or_read m.valid.items c.args.place.block
    c.index_mut-3.result.now in_valid c.index_mut-3.ensures.value 0 in
    omega (
      arith,
      read,
      c.self.invariant.tables.valid_are c.args.place.block (is_cell here).block,
      one_more_here (places_of m) c.args.page c.args.place.block c.args.place (is_page here) (rw (← c.self.view_is) at c.requires.nowhere)
          refl,
      count_by-le-length (is_in c.args.place.block) (set (places_of m) c.args.page (Some c.args.place)),
      length-set (places_of m) c.args.page (Some c.args.place),
      c.self.invariant.tables.few,
    )

pub invariant_of-self : goal.invariant_of-self
invariant_of-self c =
    let m = c.self.inside in
    let here = (goal.at.invariant_of-self c).After-self in
    let index = cell_index m.shape c.args.place in
    let n = m.shape.blocks * m.shape.pages in
    let in_valid : c.args.place.block < length m.valid.items = omega (arith, (is_cell here).block, c.self.invariant.tables.valid_len) in
    let read : c.index_mut-3.result.now ≡ get_or m.valid.items c.args.place.block 0 = get_or_read m.valid.items c.args.place.block
    c.index_mut-3.result.now in_valid c.index_mut-3.ensures.value 0 in
    let valid = set m.valid.items c.args.place.block (c.index_mut-3.result.now + 1) in
    let longer : c.lay_down-2.new.entries.items ≡ entries_up_to (index + 1) m.owners.items = c.lay_down-2.ensures.entries
    ∙ ap (λ (k : ℕ). entries_up_to (k + 1) m.owners.items) c.cell-index.ensures in
    let places : List (Option Place) = map (place_in m.shape)
    (entries_up_to m.logical (set c.lay_down.new.entries.items c.args.page c.pack.result)) in
    let owners : entries_up_to n (set c.lay_down-2.new.entries.items c.cell-index.result c.some.result)
    ≡ set (owners_of m) index (Some c.args.page) =
    ap (λ (k : ℕ). entries_up_to n (set c.lay_down-2.new.entries.items k c.some.result)) c.cell-index.ensures
    ∙ written n index (index + 1) m.owners.items c.lay_down-2.new.entries.items c.some.result longer (of_map here) (omega arith)
    c.self.invariant.some_owners ∙ ap (λ (o : Option ℕ). set (owners_of m) index o) c.some.ensures in
    let tables : AreTables m.shape (set (places_of m) c.args.page (Some c.args.place)) (set (owners_of m) index (Some c.args.page)) valid =
    tables_with m.shape (places_of m) (owners_of m) m.valid.items c.args.page c.index_mut-3.result.now c.args.place
    c.self.invariant.tables (is_page here) (is_cell here) (rw (← c.self.view_is) at c.requires.free)
    (rw (← c.self.view_is) at c.requires.nowhere) read in
    let with_places : AreTables m.shape places (set (owners_of m) index (Some c.args.page)) valid = subst
    (λ (l : List (Option Place)). AreTables m.shape l (set (owners_of m) index (Some c.args.page)) valid)
    (sym (came here c.lay_down.new.entries.items c.pack.result c.lay_down.ensures.entries c.pack.ensures.back)) tables in
    record {
      tables = subst (λ (l : List (Option ℕ)). AreTables m.shape places l valid) (sym owners) with_places;
      few_cells = c.self.invariant.few_cells;
      some_places = omega (
        arith,
        length-set c.lay_down.new.entries.items c.args.page c.pack.result,
        ap length
            c.lay_down.ensures.entries,
        some-laid m.logical (c.args.page + 1) m.places.items (of_logical here) c.self.invariant.some_places,
      );
      room_places = omega (arith, c.self.invariant.room_places, c.lay_down.ensures.room);
      some_owners = omega (
        arith,
        length-set c.lay_down-2.new.entries.items c.cell-index.result c.some.result,
        ap length longer,
        some-laid n (index + 1) m.owners.items (of_map here) c.self.invariant.some_owners,
      );
      room_owners = omega (arith, c.self.invariant.room_owners, c.lay_down-2.ensures.room);
    }

pub returns : goal.returns
returns c =
    let m = c.self.inside in
    let here = (goal.at.returns c).After-self in
    let P : List (Option Place) → Placing = λ l. record { shape = m.shape; places = l } in
    rw (← c.self.view_is) (ap P (came here c.lay_down.new.entries.items c.pack.result c.lay_down.ensures.entries c.pack.ensures.back))
