-- What a program and a slot of an erase do to a device in memory: to its blocks as a device has them, and to its labels.
use Rattle.std.proofs.Common.{◌≡◌, ℕ, ◌+◌, ◌<◌, ◌==◌, Bool, true, false, cond, List, [], ◌∷◌, ◌++◌, length, map, get_or, set, refl, ap, sym, ◌∙◌}
use Rattle.std.specs.Prelude.{slice_set, Option, None}
use Rattle.std.proofs.Common.{◌≤◌, arith, subst}
use Rattle.std.specs.Prelude.{Some, All, vec_capacity}
use Rattle.std.proofs.lemmas.List.{map-set, map-append, get_or-map, set-get_or, length-append, length-map, get_or_past}
use Rattle.std.proofs.lemmas.List.Elements.{All-get_or}
use Rattle.slot_types.specs.declared.pages.PageData.{PageData}
use Rattle.slot_types.specs.declared.pages.Place.{Place}
use Rattle.flash_die.specs.Flash.{blank, cell_at}
use Rattle.flash_die.specs.Flash.{Block, block_at, free_block, blocks_after_program, block_after_erase_slot, blocks_after_erase_slot}
use Rattle.power_loss.specs.Labels.{Label, Labels, Shown, labels_in, label_at}
use Rattle.die_mount.specs.declared.label.Label.{Label as Told}
use Rattle.labelled_nand.specs.Looks.{Shows}
use Rattle.labelled_nand.specs.declared.look.Look.TheVariants as looks
use Rattle.labelled_nand.specs.Memory.{MarkedCells, device_block, block_labels, cell_label, label_of, marked_at, no_cells}
use Rattle.labelled_nand.specs.MemoryView.{cells_of, IsSoundBlock}
use Rattle.labelled_nand.specs.declared.memory.MarkedBlock.{MarkedBlock}
use Rattle.labelled_nand.specs.declared.memory.MarkedCell.{MarkedCell}

pub device_at : (blocks : List MarkedCells) (b : ℕ) → b < length blocks → block_at (map device_block blocks) b ≡ device_block (marked_at blocks b)
device_at blocks b lt = get_or-map device_block blocks b no_cells free_block lt

pub labels_at : (blocks : List MarkedCells) (b : ℕ) → b < length blocks → labels_in (map block_labels blocks) b ≡ block_labels (marked_at blocks b)
labels_at blocks b lt = get_or-map block_labels blocks b no_cells [] lt

-- A program

abbrev pub with_cell : MarkedCells → MarkedCell → MarkedCells
with_cell b cell = record b { cells = b.cells ++ cell ∷ [] }

pub programs : (blocks : List MarkedCells) (b : ℕ) (cell : MarkedCell) → b < length blocks
    → map device_block (set blocks b (with_cell (marked_at blocks b) cell)) ≡ blocks_after_program (map device_block blocks) b cell.bytes
programs blocks b cell lt =
    map-set device_block blocks b (with_cell (marked_at blocks b) cell)
    ∙ ap (set (map device_block blocks) b)
    (ap (λ (pages : List PageData). record (device_block (marked_at blocks b)) { pages = pages })
    (map-append (λ (c : MarkedCell). c.bytes) (marked_at blocks b).cells (cell ∷ []))
    ∙ ap (λ (s : Block). record s { pages = s.pages ++ cell.bytes ∷ [] }) (sym (device_at blocks b lt)))

pub programs_label : (blocks : List MarkedCells) (b : ℕ) (cell : MarkedCell) → b < length blocks
    → map block_labels (set blocks b (with_cell (marked_at blocks b) cell))
    ≡ slice_set (map block_labels blocks) b (labels_in (map block_labels blocks) b ++ cell_label cell ∷ [])
programs_label blocks b cell lt =
    map-set block_labels blocks b (with_cell (marked_at blocks b) cell)
    ∙ ap (set (map block_labels blocks) b)
    (map-append cell_label (marked_at blocks b).cells (cell ∷ [])
    ∙ ap (λ (xs : List (Option Label)). xs ++ cell_label cell ∷ []) (sym (labels_at blocks b lt)))

-- A slot of an erase

abbrev pub after_slot : ℕ → MarkedCells → MarkedCells
after_slot slots b = cond (b.erasing + 1 == slots) (record { cells = []; erasing = 0; erases = b.erases + 1 }) (record b { erasing = b.erasing + 1 })

block_after : (slots : ℕ) (b : MarkedCells) → device_block (after_slot slots b) ≡ block_after_erase_slot slots (device_block b)
block_after slots b = by_last (b.erasing + 1 == slots)
  where
    by_last : (last : Bool)
        → device_block (cond last (record { cells = []; erasing = 0; erases = b.erases + 1 }) (record b { erasing = b.erasing + 1 }))
        ≡ cond last (record { pages = []; erasing = 0; erases = b.erases + 1 }) (record (device_block b) { erasing = b.erasing + 1 })
    by_last true = refl
    by_last false = refl

pub erases : (slots : ℕ) (blocks : List MarkedCells) (b : ℕ) → b < length blocks
    → map device_block (set blocks b (after_slot slots (marked_at blocks b))) ≡ blocks_after_erase_slot (map device_block blocks) slots b
erases slots blocks b lt =
    map-set device_block blocks b (after_slot slots (marked_at blocks b))
    ∙ ap (set (map device_block blocks) b)
    (block_after slots (marked_at blocks b) ∙ ap (block_after_erase_slot slots) (sym (device_at blocks b lt)))

pub erases_labels : (slots : ℕ) (blocks : List MarkedCells) (b : ℕ) → b < length blocks
    → map block_labels (set blocks b (after_slot slots (marked_at blocks b)))
    ≡ cond ((block_at (map device_block blocks) b).erasing + 1 == slots) (slice_set (map block_labels blocks) b []) (map block_labels blocks)
erases_labels slots blocks b lt =
    map-set block_labels blocks b (after_slot slots (marked_at blocks b))
    ∙ (by_last ((marked_at blocks b).erasing + 1 == slots)
    ∙ ap (λ (s : Block). cond (s.erasing + 1 == slots) (slice_set (map block_labels blocks) b []) (map block_labels blocks)) (sym (device_at blocks b lt)))
  where
    by_last : (last : Bool)
        → set (map block_labels blocks) b (block_labels (cond last (record { cells = []; erasing = 0; erases = (marked_at blocks b).erases + 1 })
        (record (marked_at blocks b) { erasing = (marked_at blocks b).erasing + 1 })))
        ≡ cond last (slice_set (map block_labels blocks) b []) (map block_labels blocks)
    by_last true = refl
    by_last false =
        ap (set (map block_labels blocks) b) (sym (labels_at blocks b lt)) ∙ set-get_or (map block_labels blocks) b []

-- The block that a call reads, of a device whose blocks are these

module _ (items : List MarkedBlock) (b : ℕ) (r : MarkedBlock) (is : r ≡ get_or items b r) where
  abbrev pub seen_blocks : List MarkedCells
  seen_blocks = map cells_of items

  pub within : b < length (map device_block seen_blocks) → b < length items
  within lt = omega (arith, lt, length-map seen_blocks device_block, length-map items cells_of)

  pub within_seen : b < length (map device_block seen_blocks) → b < length seen_blocks
  within_seen lt = omega (arith, lt, length-map seen_blocks device_block)

  pub marked_is : b < length items → marked_at seen_blocks b ≡ cells_of r
  marked_is lt = get_or-map cells_of items b r no_cells lt ∙ ap cells_of (sym is)

  pub block_is : b < length items → block_at (map device_block seen_blocks) b ≡ device_block (cells_of r)
  block_is lt = device_at seen_blocks b (omega (arith, lt, length-map items cells_of)) ∙ ap device_block (marked_is lt)

  pub sound : (pages slots : ℕ) → b < length items → All (IsSoundBlock pages slots) items → IsSoundBlock pages slots r
  sound pages slots lt all = subst (IsSoundBlock pages slots) (sym is) (All-get_or (IsSoundBlock pages slots) items b r lt all)

  pub cells_long : b < length items → length (block_at (map device_block seen_blocks) b).pages ≡ length r.cells.items
  cells_long lt = ap (λ (s : Block). length s.pages) (block_is lt) ∙ length-map r.cells.items (λ (cell : MarkedCell). cell.bytes)

  -- what is there after a call, of the block and of all
  pub with_block : (new : MarkedBlock) → map cells_of (set items b new) ≡ set seen_blocks b (cells_of new)
  with_block new = map-set cells_of items b new

  pub programmed : (new : MarkedBlock) (cell : MarkedCell) → b < length items → new.cells.items ≡ r.cells.items ++ cell ∷ [] → new.erasing ≡ r.erasing
      → new.erases ≡ r.erases → map cells_of (set items b new) ≡ set seen_blocks b (with_cell (marked_at seen_blocks b) cell)
  programmed new cell lt cells erasing erases =
      let own : cells_of new ≡ with_cell (cells_of r) cell = λ i. record { cells = cells i; erasing = erasing i; erases = erases i } in
      with_block new ∙ ap (set seen_blocks b) (own ∙ ap (λ (m : MarkedCells). with_cell m cell) (sym (marked_is lt)))

  -- the block after a slot of its erase, by whether that was the last
  abbrev parts : Bool → MarkedCells
  parts t = record { cells = cond t [] r.cells.items; erasing = cond t 0 (r.erasing + 1); erases = cond t (r.erases + 1) r.erases }

  abbrev after : Bool → MarkedCells
  after t = cond t (record { cells = []; erasing = 0; erases = r.erases + 1 }) (record (cells_of r) { erasing = r.erasing + 1 })

  whole : (t : Bool) → parts t ≡ after t
  whole true = refl
  whole false = refl

  pub erased : (new : MarkedBlock) (slots : ℕ) (last : Bool) → b < length items → last ≡ (r.erasing + 1 == slots)
      → new.cells.items ≡ cond last [] r.cells.items → new.erasing ≡ cond last 0 (r.erasing + 1)
      → new.erases ≡ cond last (r.erases + 1) r.erases → map cells_of (set items b new) ≡ set seen_blocks b (after_slot slots (marked_at seen_blocks b))
  erased new slots last lt tested cells erasing erases =
      let own : cells_of new ≡ parts last = λ i. record { cells = cells i; erasing = erasing i; erases = erases i } in
      with_block new ∙ ap (set seen_blocks b)
      (own ∙ (whole last ∙ (ap (λ (t : Bool). after t) tested ∙ ap (after_slot slots) (sym (marked_is lt)))))

  pub cells_sound : (new : MarkedBlock) (cell : MarkedCell) (pages slots : ℕ) → IsSoundBlock pages slots r → length r.cells.items < pages
      → new.cells.items ≡ r.cells.items ++ cell ∷ [] → vec_capacity new.cells ≡ vec_capacity r.cells → new.erasing ≡ r.erasing
      → IsSoundBlock pages slots new
  cells_sound new cell pages slots s room cells capacity erasing = record {
    within = omega (arith, ap length cells, length-append r.cells.items (cell ∷ []), room);
    room = omega (arith, capacity, s.room);
    few_slots = omega (arith, erasing, s.few_slots);
  }

-- The cell that a call reads

module _ (items : List MarkedBlock) (place : Place) (r : MarkedBlock) (is : r ≡ get_or items place.block r) (lt : place.block < length items) where
  pub cell_is : (cell : MarkedCell) → place.page < length r.cells.items → cell ≡ get_or r.cells.items place.page cell
      → cell_at (map device_block (map cells_of items)) place ≡ cell.bytes
  cell_is cell below look =
      ap (λ (s : Block). get_or s.pages place.page blank) (block_is items place.block r is lt)
      ∙ (get_or-map (λ (x : MarkedCell). x.bytes) r.cells.items place.page cell blank below ∙ ap (λ (x : MarkedCell). x.bytes) (sym look))

  labels_of_block : labels_in (map block_labels (map cells_of items)) place.block ≡ map cell_label r.cells.items
  labels_of_block =
      labels_at (map cells_of items) place.block (omega (arith, lt, length-map items cells_of)) ∙ ap block_labels (marked_is items place.block r is lt)

  pub label_is : (cell : MarkedCell) → place.page < length r.cells.items → cell ≡ get_or r.cells.items place.page cell
      → label_at (map block_labels (map cells_of items)) place ≡ cell_label cell
  label_is cell below look =
      ap (λ (xs : List (Option Label)). get_or xs place.page None) labels_of_block
      ∙ (get_or-map cell_label r.cells.items place.page cell None below ∙ ap cell_label (sym look))

  pub no_label : length r.cells.items ≤ place.page → label_at (map block_labels (map cells_of items)) place ≡ None
  no_label past =
      ap (λ (xs : List (Option Label)). get_or xs place.page None) labels_of_block
      ∙ get_or_past (map cell_label r.cells.items) place.page None (omega (arith, past, length-map r.cells.items cell_label))

abbrev pub numbered : Shown → ℕ → Labels
numbered blocks next = record { blocks = blocks; next = next }

pub chosen_labels : (t : Bool) (x y : Shown) (next : ℕ) → numbered (cond t x y) next ≡ cond t (numbered x next) (numbered y next)
chosen_labels true x y next = refl
chosen_labels false x y next = refl

-- What a look tells

pub shows_blank : (o : Option Label) (held : PageData) → o ≡ None → Shows o held looks.Blank
shows_blank o held e = subst (λ (x : Option Label). Shows x held looks.Blank) (sym e) tt

pub shows_torn : (o : Option Label) (held : PageData) → o ≡ None → Shows o held looks.Torn
shows_torn o held e = subst (λ (x : Option Label). Shows x held looks.Torn) (sym e) tt

pub shows_good : (o : Option Label) (held bytes : PageData) (label : Told) → o ≡ Some (label_of bytes label) → held ≡ bytes
    → Shows o held (looks.Good label bytes)
shows_good o held bytes label e same = subst (λ (x : Option Label). Shows x held (looks.Good label bytes)) (sym e) (refl, refl, same)
