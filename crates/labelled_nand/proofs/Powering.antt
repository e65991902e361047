-- What a device in memory has once its power has come.
use Rattle.std.proofs.Common.{◌≡◌, ◌⊎◌, ℕ, suc, ◌+◌, ◌-◌, ◌<◌, ◌≤◌, List, [], ◌∷◌, ◌++◌, drop, length, get_or, map, set, replicate, take}
use Rattle.std.proofs.Common.{Option, Some, None, refl, ap, sym, ◌∙◌, inl, inr, arith}
use Rattle.std.specs.Prelude.{All, option_map, vec_capacity}
use Rattle.std.proofs.lemmas.Bool.{cases_lt}
use Rattle.std.proofs.lemmas.List.{get_or-drop, get_or-map, get_or_past, length-append, length-drop, length-map, length-replicate, map-append, map-set, take_all, take_more, take_more_set}
use Rattle.std.proofs.lemmas.List.Elements.{All-get_or}
use Rattle.std.proofs.lemmas.Option.{none-some, same_Some}
use Rattle.slot_types.specs.declared.pages.PageData.{PageData}
use Rattle.slot_types.specs.declared.pages.Place.{Place}
use Rattle.flash_die.specs.Flash as device
use Rattle.die_log.specs.Model.Flash.{Block}
use Rattle.die_mount.specs.PartState.{closed_block}
use Rattle.die_mount.specs.declared.label.Label.{Label as Told}
use Rattle.power_loss.specs.Labels.{Label, Shown, label_at, labels_in}
use Rattle.labelled_nand.specs.Memory.{MarkedCells, block_labels, cell_label, closed_cells, device_block, label_of, marked_at, no_cells, torn_at, torn_cell}
use Rattle.labelled_nand.specs.MemoryView.{IsSoundBlock, cells_of}
use Rattle.labelled_nand.specs.declared.memory.MarkedBlock.{MarkedBlock}
use Rattle.labelled_nand.specs.PoweredUp.{AreBorne, counts_of}
use Rattle.labelled_nand.specs.declared.memory.MarkedCell.{MarkedCell}
use Rattle.labelled_nand.proofs.Marking.{device_at, labels_at}

-- Each block is closed

closed_is : (pages : ℕ) (b : MarkedCells) → length b.cells ≤ pages → counts_of (device_block (closed_cells pages b)) ≡ closed_block pages
closed_is pages b within = λ i. record { filled = filled i; erasing = 0; erases = 0 }
  where
    all : List MarkedCell
    all = b.cells ++ replicate (pages - length b.cells) torn_cell

    filled : length (map (λ (cell : MarkedCell). cell.bytes) all) ≡ pages
    filled = omega (
      arith,
      within,
      length-map all (λ (cell : MarkedCell). cell.bytes),
      length-append b.cells (replicate (pages - length b.cells) torn_cell),
      length-replicate (pages - length b.cells) torn_cell,
    )

pub all_closed : (pages : ℕ) (bs : List MarkedCells) → ((b : ℕ) → b < length bs → length (marked_at bs b).cells ≤ pages)
    → map counts_of (map device_block (map (closed_cells pages) bs)) ≡ replicate (length bs) (closed_block pages)
all_closed pages [] within = refl
all_closed pages (b ∷ bs) within =
    ap (λ (s : Block). s ∷ map counts_of (map device_block (map (closed_cells pages) bs))) (closed_is pages b (within 0 (omega arith)))
    ∙ ap (λ (l : List Block). closed_block pages ∷ l) (all_closed pages bs (λ k lt. within (suc k) (omega (arith, lt))))

-- Each label is that of its cell

label_bytes : (bytes : PageData) (o : Option Told) (x : Label) → option_map (label_of bytes) o ≡ Some x → bytes ≡ x.bytes
label_bytes bytes None x e = absurd (none-some x e)
label_bytes bytes (Some t) x e = ap (λ (y : Label). y.bytes) (same_Some (label_of bytes t) x e)

pub all_borne : (bs : List MarkedCells) → AreBorne (map device_block bs) (map block_labels bs)
all_borne bs = record {
  count = length-map bs block_labels ∙ sym (length-map bs device_block);
  long = λ b. long_at b (cases_lt b (length bs));
  bytes = λ place x e. bytes_at place x e (cases_lt place.block (length bs));
}
  where
    labels : Shown
    labels = map block_labels bs

    blocks : List device.Block
    blocks = map device_block bs

    none_there : (b : ℕ) → length bs ≤ b → labels_in labels b ≡ []
    none_there b past = get_or_past labels b [] (omega (arith, past, length-map bs block_labels))

    long_at : (b : ℕ) → (b < length bs) ⊎ (length bs ≤ b) → length (labels_in labels b) ≡ length (device.block_at blocks b).pages
    long_at b (inl lt) =
        ap (λ (l : List (Option Label)). length l) (labels_at bs b lt)
        ∙ (length-map (marked_at bs b).cells cell_label
        ∙ sym (ap (λ (s : device.Block). length s.pages) (device_at bs b lt)
        ∙ length-map (marked_at bs b).cells (λ (cell : MarkedCell). cell.bytes)))
    long_at b (inr past) =
        ap (λ (l : List (Option Label)). length l) (none_there b past)
        ∙ sym (ap (λ (s : device.Block). length s.pages) (get_or_past blocks b device.free_block (omega (arith, past, length-map bs device_block))))

    in_block : (q : Place) (x : Label) → get_or (block_labels (marked_at bs q.block)) q.page None ≡ Some x
        → (q.page < length (marked_at bs q.block).cells) ⊎ (length (marked_at bs q.block).cells ≤ q.page)
        → get_or (device_block (marked_at bs q.block)).pages q.page device.blank ≡ x.bytes
    in_block q x e (inl lt) =
        let cells = (marked_at bs q.block).cells in
        let cell = get_or cells q.page torn_cell in
        get_or-map (λ (c : MarkedCell). c.bytes) cells q.page torn_cell device.blank lt
        ∙ label_bytes cell.bytes cell.label x (sym (get_or-map cell_label cells q.page torn_cell None lt) ∙ e)
    in_block q x e (inr past) =
        let cells = (marked_at bs q.block).cells in
        absurd (none-some x (sym (get_or_past (map cell_label cells) q.page None (omega (arith, past, length-map cells cell_label))) ∙ e))

    bytes_at : (q : Place) (x : Label) → label_at labels q ≡ Some x → (q.block < length bs) ⊎ (length bs ≤ q.block) → device.cell_at blocks q ≡ x.bytes
    bytes_at q x e (inl lt) =
        ap (λ (s : device.Block). get_or s.pages q.page device.blank) (device_at bs q.block lt)
        ∙ in_block q x (sym (ap (λ (l : List (Option Label)). get_or l q.page None) (labels_at bs q.block lt)) ∙ e)
        (cases_lt q.page (length (marked_at bs q.block).cells))
    bytes_at q x e (inr past) =
        absurd (none-some x (sym (ap (λ (l : List (Option Label)). get_or l q.page None) (none_there q.block past)) ∙ e))

-- A block of the table

-- a cell of one block is torn
pub torn_block : (items : List MarkedBlock) (b page : ℕ) (r new : MarkedBlock) → b < length items → r ≡ get_or items b r
    → new.cells.items ≡ set r.cells.items page torn_cell → new.erasing ≡ r.erasing → new.erases ≡ r.erases
    → map cells_of (set items b new) ≡ set (map cells_of items) b (torn_at page (marked_at (map cells_of items) b))
torn_block items b page r new lt is cells erasing erases =
    let own : cells_of new ≡ torn_at page (cells_of r) = λ i. record { cells = cells i; erasing = erasing i; erases = erases i } in
    map-set cells_of items b new
    ∙ ap (set (map cells_of items) b) (own ∙ ap (torn_at page) (sym (get_or-map cells_of items b r no_cells lt ∙ ap cells_of (sym is))))

-- the first `i + 1` blocks are closed, where the first `i` are and one more is; the others are as they were
pub closed_more : (pages i : ℕ) (items start : List MarkedBlock) (old new : MarkedBlock) → i < length items → drop i items ≡ drop i start
    → old ≡ get_or items i old → cells_of new ≡ closed_cells pages (cells_of old)
    → map cells_of (take i items) ≡ map (closed_cells pages) (map cells_of (take i start))
    → map cells_of (take (i + 1) (set items i new)) ≡ map (closed_cells pages) (map cells_of (take (i + 1) start))
closed_more pages i items start old new lt left is closed done =
    let plus_none : i ≡ i + 0 = omega arith in
    let there : get_or start i old ≡ old =
    ap (λ (k : ℕ). get_or start k old) plus_none ∙ (sym (get_or-drop i start 0 old)
    ∙ (ap (λ (l : List MarkedBlock). get_or l 0 old) (sym left) ∙ (get_or-drop i items 0 old ∙ (ap (λ (k : ℕ). get_or items k old) (sym plus_none) ∙ sym is)))) in
    let below : i < length start = omega (arith, lt, length-drop i items, length-drop i start, ap (λ (l : List MarkedBlock). length l) left) in
    ap (map cells_of) (take_more_set items i new lt)
    ∙ (map-append cells_of (take i items) (new ∷ [])
    ∙ (ap (λ (l : List MarkedCells). l ++ cells_of new ∷ []) done
    ∙ (ap (λ (x : MarkedCells). map (closed_cells pages) (map cells_of (take i start)) ++ x ∷ []) (closed ∙ ap (λ (x : MarkedBlock). closed_cells pages (cells_of x)) (sym there))
    ∙ sym (ap (λ (l : List MarkedBlock). map (closed_cells pages) (map cells_of l)) (take_more start i old below)
    ∙ (ap (map (closed_cells pages)) (map-append cells_of (take i start) (get_or start i old ∷ []))
    ∙ map-append (closed_cells pages) (map cells_of (take i start)) (cells_of (get_or start i old) ∷ []))))))

-- a closed block is sound, and has room
pub closed_sound : (pages slots : ℕ) (old new : MarkedBlock) → 0 < slots → IsSoundBlock pages slots old
    → cells_of new ≡ closed_cells pages (cells_of old) → vec_capacity new.cells ≡ vec_capacity old.cells → IsSoundBlock pages slots new
closed_sound pages slots old new some s is capacity = record {
  within = omega (
    arith,
    s.within,
    ap (λ (b : MarkedCells). length b.cells) is,
    length-append old.cells.items (replicate (pages - length old.cells.items) torn_cell),
    length-replicate (pages - length old.cells.items) torn_cell,
  );
  room = omega (arith, capacity, s.room);
  few_slots = omega (arith, ap (λ (b : MarkedCells). b.erasing) is, some);
}

-- blocks that are sound have no more cells than pages
pub cells_within : (pages slots : ℕ) (items : List MarkedBlock) → All (IsSoundBlock pages slots) items → (b : ℕ) → b < length (map cells_of items)
    → length (marked_at (map cells_of items) b).cells ≤ pages
cells_within pages slots items all b lt = by_first items all b lt
  where
    by_first : (bs : List MarkedBlock) → All (IsSoundBlock pages slots) bs → (k : ℕ) → k < length (map cells_of bs)
        → length (marked_at (map cells_of bs) k).cells ≤ pages
    by_first [] h k less = absurd (omega (arith, less))
    by_first (x ∷ bs) h k less =
        let s = All-get_or (IsSoundBlock pages slots) (x ∷ bs) k x (omega (arith, less, length-map (x ∷ bs) cells_of)) h in
        omega (
          arith,
          s.within,
          ap (λ (b : MarkedCells). length b.cells)
              (get_or-map cells_of (x ∷ bs) k x no_cells (omega (arith, less, length-map (x ∷ bs) cells_of))),
        )

-- once all are
pub powered_is : (pages count n : ℕ) (items start : List MarkedBlock) → length start ≡ count → length items ≡ length start → length items ≤ n
    → map cells_of (take n items) ≡ map (closed_cells pages) (map cells_of (take n start))
    → ((b : ℕ) → b < length (map cells_of start) → length (marked_at (map cells_of start) b).cells ≤ pages)
    → map counts_of (map device_block (map cells_of items)) ≡ replicate count (closed_block pages)
powered_is pages count n items start whole same past done within =
    let own : map cells_of items ≡ map (closed_cells pages) (map cells_of start) =
    ap (map cells_of) (sym (take_all n items past))
    ∙ (done ∙ ap (λ (l : List MarkedBlock). map (closed_cells pages) (map cells_of l)) (take_all n start (omega (arith, past, same)))) in
    ap (λ (bs : List MarkedCells). map counts_of (map device_block bs)) own
    ∙ (all_closed pages (map cells_of start) within
    ∙ ap (λ (k : ℕ). replicate k (closed_block pages)) (length-map start cells_of ∙ whole))
