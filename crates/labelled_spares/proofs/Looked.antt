-- What is looked at in a cell is what the store may read there.
use Rattle.std.proofs.Common.{◌≡◌, ℕ, ◌<◌, ◌≤◌, ◌⊎◌, List, [], length, map, get_or, ap, sym, ◌∙◌, subst, refl, inl, inr, arith}
use Rattle.std.specs.Prelude.{Option, Some, None, slice_get}
use Rattle.std.proofs.lemmas.List.{get_or-map, get_or_past, length-map}
use Rattle.std.proofs.lemmas.List.FromFn.{get_or-map-range_with_len}
use Rattle.std.proofs.lemmas.Option.{slice_get_cases}
use Rattle.slot_types.specs.declared.pages.PageData.{PageData}
use Rattle.slot_types.specs.declared.pages.Place.{Place}
use Rattle.flash_die.specs.Flash.{Block, blank, block_at, cell_at}
use Rattle.labelled_nand.specs.Looks.{Shows}
use Rattle.power_loss.specs.Labels.{Label, labels_in, label_at}
use Rattle.spare_blocks.specs.declared.cells.Cell.{Cell}
use Rattle.spare_blocks.specs.declared.cells.Mark.{Mark}
use Rattle.spare_blocks.specs.Parts.{PartBlock}
use Rattle.spare_blocks.specs.Spares.{Spared, numbered, spared_block, spared_blocks}
use Rattle.spare_blocks.proofs.PlanCells.{block_is}
use Rattle.labelled_spares.specs.Labels.{label_of, cell_label, block_labels, spared_labels, look_at, look_of}

marked : (bytes : PageData) (mark : Option Mark) → Shows (cell_label (record { bytes = bytes; mark = mark })) bytes (look_at bytes mark)
marked bytes None = tt
marked bytes (Some mark) = (refl, refl, refl)

module _ (cells : List Cell) (page : ℕ) where
  abbrev label : Option Label
  label = get_or (map cell_label cells) page None

  abbrev held : PageData
  held = get_or (map (λ (c : Cell). c.bytes) cells) page blank

  shown : ((x : Cell) × (page < length cells) × (slice_get cells page ≡ Some x) × (get_or cells page x ≡ x))
      ⊎ ((length cells ≤ page) × (slice_get cells page ≡ None)) → Shows label held (look_of (slice_get cells page))
  shown (inl (x, lt, is, at)) =
      let l : label ≡ cell_label x = get_or-map cell_label cells page x None lt ∙ ap cell_label at in
      let h : held ≡ x.bytes = get_or-map (λ (c : Cell). c.bytes) cells page x blank lt ∙ ap (λ (c : Cell). c.bytes) at in
      subst (λ (c : Option Cell). Shows label held (look_of c)) (sym is)
      (subst (λ (o : Option Label). Shows o held (look_at x.bytes x.mark)) (sym l)
      (subst (λ (y : PageData). Shows (cell_label x) y (look_at x.bytes x.mark)) (sym h) (marked x.bytes x.mark)))
  shown (inr (past, is)) =
      let l : label ≡ None = get_or_past (map cell_label cells) page None (omega (arith, past, length-map cells cell_label)) in
      subst (λ (c : Option Cell). Shows label held (look_of c)) (sym is)
      (subst (λ (o : Option Label). Shows o held (look_of None)) (sym l) tt)

module _ {N : Type 0} (blocks : N → List PartBlock) (next : N → ℕ) (d : Spared N) (place : Place) (lt : place.block < d.shape.blocks) where
  pub shows_cell : Shows (label_at (spared_labels blocks next d).blocks place) (cell_at (spared_blocks blocks d) place)
      (look_of (slice_get (numbered blocks d place.block).cells place.page))
  shows_cell =
      let cells = (numbered blocks d place.block).cells in
      let here : labels_in (spared_labels blocks next d).blocks place.block ≡ map cell_label cells =
      get_or-map-range_with_len (λ b. block_labels (numbered blocks d b)) 0 d.shape.blocks place.block place.block [] lt (omega arith) in
      let l : label_at (spared_labels blocks next d).blocks place ≡ label cells place.page =
      ap (λ (xs : List (Option Label)). get_or xs place.page None) here in
      let h : cell_at (spared_blocks blocks d) place ≡ held cells place.page =
      ap (λ (b : Block). get_or b.pages place.page blank) (block_is blocks d place.block lt) in
      subst (λ (o : Option Label). Shows o (cell_at (spared_blocks blocks d) place) (look_of (slice_get cells place.page))) (sym l)
      (subst (λ (y : PageData). Shows (label cells place.page) y (look_of (slice_get cells place.page))) (sym h)
      (shown cells place.page (slice_get_cases cells place.page).1))
