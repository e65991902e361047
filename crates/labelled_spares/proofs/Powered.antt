-- A device on a part whose power has come may be mounted.
use Rattle.std.proofs.Common.{◌≡◌, ◌⊎◌, ℕ, ◌<◌, ◌≤◌, List, [], length, map, get_or, replicate, refl, ap, sym, ◌∙◌, subst, inl, inr, arith}
use Rattle.std.specs.Prelude.{Option, Some, None, slice_get}
use Rattle.std.specs.List.{range_with_len}
use Rattle.std.proofs.lemmas.Bool.{cases_lt}
use Rattle.std.proofs.lemmas.List.{get_or-map, get_or_past, get_or-replicate, length-map, length-replicate}
use Rattle.std.proofs.lemmas.Simd.{map-map}
use Rattle.std.proofs.lemmas.List.FromFn.{length-map-range_with_len, get_or-map-range_with_len, fill_by_all}
use Rattle.std.proofs.lemmas.Option.{none-some}
use Rattle.slot_types.specs.declared.pages.PageData.{PageData}
use Rattle.slot_types.specs.declared.pages.Place.{Place}
use Rattle.slot_types.specs.declared.plans.Shape.{Shape}
use Rattle.flash_die.specs.Flash as device
use Rattle.die_log.specs.Model.Flash.{Block}
use Rattle.die_mount.specs.PartState.{closed_block}
use Rattle.labelled_nand.specs.Looks.{Shows}
use Rattle.labelled_nand.specs.PoweredUp.{AreBorne, IsPoweredUp, counts_of}
use Rattle.labelled_nand.specs.declared.look.Look.{Look}
use Rattle.labelled_nand.specs.declared.look.Look.TheVariants as looks
use Rattle.power_loss.specs.Labels.{Label, Shown, label_at, labels_in}
use Rattle.spare_blocks.specs.declared.cells.Cell.{Cell}
use Rattle.spare_blocks.specs.Parts.{PartBlock, part_block}
use Rattle.spare_blocks.specs.Powering.{IsPoweredPart, IsPoweredSpared}
use Rattle.spare_blocks.specs.Spares.{Spared, numbered, spared_block, spared_blocks, plan_shape}
use Rattle.spare_blocks.specs.Tables.{on_part}
use Rattle.spare_blocks.proofs.PlanCells.{block_is, count_is}
use Rattle.labelled_spares.specs.Labels.{block_labels, cell_label, look_of, spared_labels}
use Rattle.labelled_spares.proofs.Looked.{shows_cell}

-- a cell with a label holds its bytes
shown_bytes : (x : Label) (held : PageData) (look : Look) → Shows (Some x) held look → held ≡ x.bytes
shown_bytes x held (looks.Good label bytes) s = s.2
shown_bytes x held looks.Torn s = absurd s
shown_bytes x held looks.Blank s = absurd s

module _ {N : Type 0} (blocks : N → List PartBlock) (next : N → ℕ) (d : Spared N) where
  abbrev n : ℕ
  n = d.shape.blocks

  pub labels_of : (b : ℕ) → b < n → labels_in (spared_labels blocks next d).blocks b ≡ block_labels (numbered blocks d b)
  labels_of b lt = get_or-map-range_with_len (λ k. block_labels (numbered blocks d k)) 0 n b b [] lt (omega arith)

  pub labels_count : length (spared_labels blocks next d).blocks ≡ n
  labels_count = length-map-range_with_len (λ k. block_labels (numbered blocks d k)) 0 n

  none_past : (b : ℕ) → n ≤ b → labels_in (spared_labels blocks next d).blocks b ≡ []
  none_past b past = get_or_past (spared_labels blocks next d).blocks b [] (omega (arith, past, labels_count))

  pub all_borne : AreBorne (spared_blocks blocks d) (spared_labels blocks next d).blocks
  all_borne = record {
    count = labels_count ∙ sym (count_is blocks d);
    long = λ b. long_at b (cases_lt b n);
    bytes = λ place x e. bytes_at place x e (cases_lt place.block n);
  }
    where
      long_at : (b : ℕ) → (b < n) ⊎ (n ≤ b)
          → length (labels_in (spared_labels blocks next d).blocks b) ≡ length (device.block_at (spared_blocks blocks d) b).pages
      long_at b (inl lt) =
          ap (λ (l : List (Option Label)). length l) (labels_of b lt)
          ∙ (length-map (numbered blocks d b).cells cell_label
          ∙ sym (ap (λ (s : device.Block). length s.pages) (block_is blocks d b lt) ∙ length-map (numbered blocks d b).cells (λ (c : Cell). c.bytes)))
      long_at b (inr past) =
          ap (λ (l : List (Option Label)). length l) (none_past b past)
          ∙ sym (ap (λ (s : device.Block). length s.pages)
          (get_or_past (spared_blocks blocks d) b device.free_block (omega (arith, past, count_is blocks d))))

      bytes_at : (q : Place) (x : Label) → label_at (spared_labels blocks next d).blocks q ≡ Some x → (q.block < n) ⊎ (n ≤ q.block)
          → device.cell_at (spared_blocks blocks d) q ≡ x.bytes
      bytes_at q x e (inl lt) =
          let held = device.cell_at (spared_blocks blocks d) q in
          let look = look_of (slice_get (numbered blocks d q.block).cells q.page) in
          shown_bytes x held look (subst (λ (o : Option Label). Shows o held look) e (shows_cell blocks next d q lt))
      bytes_at q x e (inr past) =
          absurd (none-some x (sym (ap (λ (l : List (Option Label)). get_or l q.page None) (none_past q.block past)) ∙ e))

  module _ (count : ℕ) (part : Shape) (before : List PartBlock) (bad : List ℕ) (up : IsPoweredPart part before)
      (s : IsPoweredSpared blocks (plan_shape count part) part before bad d) where
    numbers : n ≡ count
    numbers = ap (λ (q : Shape). q.blocks) s.shape_is

    -- a block with a number is as it was: closed
    kept : (b : ℕ) → b < n → numbered blocks d b ≡ part_block before (on_part d.table b)
    kept b lt = s.table.number b (omega (arith, lt, numbers))

    closed_at : (b : ℕ) → b < n → counts_of (spared_block blocks d b) ≡ closed_block d.shape.pages
    closed_at b lt = λ i. record { filled = filled i; erasing = erasing i; erases = erases i }
      where
        within : on_part d.table b < part.blocks
        within = s.table.within b (omega (arith, lt, numbers))

        filled : length (map (λ (c : Cell). c.bytes) (numbered blocks d b).cells) ≡ d.shape.pages
        filled =
            length-map (numbered blocks d b).cells (λ (c : Cell). c.bytes)
            ∙ (ap (λ (x : PartBlock). length x.cells) (kept b lt) ∙ (up.closed (on_part d.table b) within ∙ sym (ap (λ (q : Shape). q.pages) s.shape_is)))

        erasing : (numbered blocks d b).erasing ≡ 0
        erasing = ap (λ (x : PartBlock). x.erasing) (kept b lt) ∙ up.quiet (on_part d.table b)

        erases : get_or d.erases b 0 ≡ 0
        erases = ap (λ (l : List ℕ). get_or l b 0) s.erases ∙ get_or-replicate count b 0 0 (omega (arith, lt, numbers))

    pub mountable : IsPoweredUp d.shape (spared_blocks blocks d) (spared_labels blocks next d) d.failures
    mountable = record {
      closed = map-map counts_of (spared_block blocks d) (range_with_len 0 n)
          ∙ sym (fill_by_all (λ b. counts_of (spared_block blocks d b)) (replicate n (closed_block d.shape.pages)) n (closed_block d.shape.pages)
          (length-replicate n (closed_block d.shape.pages))
          (λ k lt. get_or-replicate n k (closed_block d.shape.pages) (closed_block d.shape.pages) lt ∙ sym (closed_at k lt)));
      borne = all_borne;
      well = s.well;
    }
