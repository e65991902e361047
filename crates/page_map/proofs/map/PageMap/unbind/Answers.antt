use Rattle.std.proofs.Common.{◌≡◌, ◌<◌, ◌∙◌, ◌-◌, ◌*◌, ap, sym, subst, rules, arith, length, map, get_or, None, Some, set, ℕ, List, Option}
use Rattle.std.proofs.lemmas.List.{get_or_read, length-set, set-get_or}
use Rattle.slot_types.specs.declared.pages.Place.{Place}
use Rattle.page_map.specs.Packing.{place_in}
use Rattle.page_map.specs.Placing.{Placing, IsCell, cell_index}
use Rattle.page_map.specs.Tables.{AreTables, entries_up_to, places_of, owners_of, cells_of}
use Rattle.page_map.proofs.Cells.{found_below, set-placed}
use Rattle.page_map.proofs.Owners.{owner_is}
use Rattle.page_map.proofs.Laid.{laid_below, set-laid}
use Rattle.page_map.proofs.Moving.{tables_without, one_less}
use Rattle.page_map.proofs.map.PageMap.unbind.Goals as goal
use Rattle.page_map.proofs.map.PageMap.unbind.Goals.{In-Some}

-- the page lies in the cell that was found
lies : (c : In-Some) → get_or (places_of c.self.inside) c.args.page None ≡ Some c.in-Some.place
lies c = sym (rw (← c.self.view_is) at c.find.ensures.place) ∙ c.in-Some.is

-- which is a cell of the map
is_cell : (c : In-Some) → IsCell c.self.inside.shape c.in-Some.place
is_cell c = c.self.invariant.tables.within c.args.page c.in-Some.place (lies c)

-- and of a block that is counted
in_valid : (c : In-Some) → c.in-Some.place.block < length c.self.inside.valid.items
in_valid c = omega (arith, (is_cell c).block, c.self.invariant.tables.valid_len)

-- both entries are laid down
in_places : (c : In-Some) → c.args.page < length c.self.inside.places.items
in_places c = found_below c.self.inside.shape c.self.inside.logical c.self.inside.places.items c.args.page c.in-Some.place (lies c)

in_owners : (c : In-Some) → cell_index c.self.inside.shape c.in-Some.place < length c.self.inside.owners.items
in_owners c =
    let m = c.self.inside in
    laid_below (m.shape.blocks * m.shape.pages) m.owners.items (cell_index m.shape c.in-Some.place) c.args.page
    (c.self.invariant.tables.owners_are c.in-Some.place (is_cell c)
    ∙ owner_is (places_of m) c.args.page c.in-Some.place c.self.invariant.tables.apart (lies c))

-- the page's entry without its cell
left : (c : In-Some) (word : Option ℕ) → word ≡ None
    → map (place_in c.self.inside.shape) (entries_up_to c.self.inside.logical (set c.self.inside.places.items c.args.page word))
    ≡ set (places_of c.self.inside) c.args.page None
left c word none =
    let m = c.self.inside in
    ap (map (place_in m.shape)) (set-laid m.logical m.places.items c.args.page word (in_places c))
    ∙ set-placed m.shape (cells_of m) c.args.page word None (ap (place_in m.shape) none)

pub cell-requires-clause-cell : goal.cell-requires-clause-cell
cell-requires-clause-cell c = is_cell (goal.at.cell-requires-clause-cell c).In-Some

pub index_mut-requires : goal.index_mut-requires
index_mut-requires c = search (rules, in_places (goal.at.index_mut-requires c).In-Some)

pub index_mut-requires-in-Some : goal.index_mut-requires-in-Some
index_mut-requires-in-Some c =
    let below : c.cell.result < length c.self.inside.owners.items = omega
    (arith, in_owners (goal.at.index_mut-requires-in-Some c).In-Some, c.cell.ensures) in
    search (rules, below)

pub index_mut-requires-in-Some-2 : goal.index_mut-requires-in-Some-2
index_mut-requires-in-Some-2 c = search (rules, in_valid (goal.at.index_mut-requires-in-Some-2 c).In-Some)

pub overflow_sub-index_mut : goal.overflow_sub-index_mut
overflow_sub-index_mut c =
    let m = c.self.inside in
    let here = (goal.at.overflow_sub-index_mut c).In-Some in
    let read : c.index_mut-in-Some-2.result.now ≡ get_or m.valid.items c.in-Some.place.block 0 = get_or_read m.valid.items
    c.in-Some.place.block c.index_mut-in-Some-2.result.now (in_valid here) c.index_mut-in-Some-2.ensures.value 0 in
    omega (
      arith,
      read,
      c.self.invariant.tables.valid_are c.in-Some.place.block (is_cell here).block,
      one_less (places_of m) c.args.page
          c.in-Some.place (rw (← c.self.view_is) at c.requires) (lies here),
    )

pub invariant_of-self : goal.invariant_of-self
invariant_of-self c =
    let m = c.self.inside in
    let here = (goal.at.invariant_of-self c).In-Some in
    let index = cell_index m.shape c.in-Some.place in
    let n = m.shape.blocks * m.shape.pages in
    let read : c.index_mut-in-Some-2.result.now ≡ get_or m.valid.items c.in-Some.place.block 0 = get_or_read m.valid.items
    c.in-Some.place.block c.index_mut-in-Some-2.result.now (in_valid here) c.index_mut-in-Some-2.ensures.value 0 in
    let valid = set m.valid.items c.in-Some.place.block (c.index_mut-in-Some-2.result.now - 1) in
    let places : List (Option Place) = map (place_in m.shape) (entries_up_to m.logical (set m.places.items c.args.page c.none.result)) in
    let tables : AreTables m.shape (set (places_of m) c.args.page None) (set (owners_of m) index None) valid = tables_without m.shape
    (places_of m) (owners_of m) m.valid.items c.args.page c.index_mut-in-Some-2.result.now c.in-Some.place c.self.invariant.tables
    (rw (← c.self.view_is) at c.requires) (lies here) read in
    let with_places : AreTables m.shape places (set (owners_of m) index None) valid = subst
    (λ (l : List (Option Place)). AreTables m.shape l (set (owners_of m) index None) valid)
    (sym (left here c.none.result c.none.ensures)) tables in
    let below : c.cell.result < length m.owners.items = omega (arith, in_owners here, c.cell.ensures) in
    let owners : entries_up_to n (set m.owners.items c.cell.result c.none-in-Some.result) ≡ set (owners_of m) index None = set-laid n m.owners.items
    c.cell.result c.none-in-Some.result below ∙ ap (λ (k : ℕ). set (owners_of m) k c.none-in-Some.result) c.cell.ensures
    ∙ ap (λ (o : Option ℕ). set (owners_of m) index o) c.none-in-Some.ensures in
    record {
      tables = subst (λ (l : List (Option ℕ)). AreTables m.shape places l valid) (sym owners) with_places;
      few_cells = c.self.invariant.few_cells;
      some_places = omega (arith, length-set m.places.items c.args.page c.none.result, c.self.invariant.some_places);
      room_places = c.self.invariant.room_places;
      some_owners = omega (arith, length-set m.owners.items c.cell.result c.none-in-Some.result, c.self.invariant.some_owners);
      room_owners = c.self.invariant.room_owners;
    }

pub returns-in-None-clause-gone : goal.returns-in-None-clause-gone
returns-in-None-clause-gone c =
    let old = c.args.self.now in
    let P : List (Option Place) → Placing = λ l. record { shape = old.shape; places = l } in
    let nothing : get_or old.places c.args.page None ≡ None = sym c.find.ensures.place ∙ c.in-None.is in
    ap P (sym (set-get_or old.places c.args.page None) ∙ ap (λ (o : Option Place). set old.places c.args.page o) nothing)

pub returns-in-Some-clause-gone : goal.returns-in-Some-clause-gone
returns-in-Some-clause-gone c =
    let m = c.self.inside in
    let P : List (Option Place) → Placing = λ l. record { shape = m.shape; places = l } in
    rw (← c.self.view_is) (ap P (left (goal.at.returns-in-Some-clause-gone c).In-Some c.none.result c.none.ensures))

pub returns-in-Some-clause-nowhere : goal.returns-in-Some-clause-nowhere
returns-in-Some-clause-nowhere c =
    let m = c.self.inside in
    let placed = lies (goal.at.returns-in-Some-clause-nowhere c).In-Some in
    rw (← c.self.view_is) (λ (nowhere : get_or (places_of m) c.args.page None ≡ None). absurd (cc (placed, nowhere)))
