-- A call that ends well leaves the labels that it should, whichever block has the number then.
use Rattle.std.proofs.Common.{◌≡◌, ◌≢◌, ◌⊎◌, ℕ, ◌+◌, ◌-◌, ◌^◌, ◌<◌, ◌≤◌, ◌==◌, Bool, true, false, cond, List, [], ◌∷◌, ◌++◌, length, map, get_or, set}
use Rattle.std.proofs.Common.{refl, ap, sym, ◌∙◌, subst, inl, inr, arith, min}
use Rattle.std.specs.Prelude.{Option, Some, None}
use Rattle.std.specs.List.{range_with_len}
use Rattle.std.proofs.lemmas.Bool.{cases_eq, cases_lt}
use Rattle.std.proofs.lemmas.List.{map-append, set_past}
use Rattle.std.proofs.lemmas.List.FromFn.{length-map-range_with_len, get_or-map-range_with_len}
use Rattle.slot_types.specs.declared.pages.PageData.{PageData}
use Rattle.slot_types.specs.declared.pages.Place.{Place}
use Rattle.slot_types.specs.declared.plans.Shape.{Shape}
use Rattle.flash_die.specs.Flash.{Block, block_at, free_block}
use Rattle.flash_die.specs.declared.nand.NandCall.{NandCall}
use Rattle.flash_die.specs.declared.nand.NandCall.TheVariants as calls
use Rattle.labelled_nand.specs.Calls.{labels_after_call, serial_after}
use Rattle.power_loss.specs.Labels.{Label, Labels, Shown, labels_in}
use Rattle.spare_blocks.specs.declared.blocks.Health.{Health}
use Rattle.spare_blocks.specs.declared.blocks.Health.TheVariants as health
use Rattle.spare_blocks.specs.declared.cells.Cell.{Cell}
use Rattle.spare_blocks.specs.Parts.{PartBlock, programmed_cell}
use Rattle.spare_blocks.specs.Spares.{Spared, numbered, spared_block, spared_blocks, EndsSpared, IsFitFor, MayChange, serial_after_call}
use Rattle.spare_blocks.proofs.PlanCells.{block_is}
use Rattle.labelled_spares.specs.Labels.{cell_label, block_labels, spared_labels, EndsLabelled}
use Rattle.labelled_spares.proofs.Lists.{same_numbered, one_numbered}

working : {h : Health} → h ≡ health.Working → h ≡ health.Faulted → ⊥
working e f = cc

fit_well : (call : NandCall) (h : Health) → IsFitFor call h → h ≡ health.Faulted → ⊥
fit_well (calls.Read place) h fit = fit
fit_well (calls.Program place page bytes) h fit = working fit
fit_well (calls.EraseSlot b) h fit = working fit

abbrev with_next : Shown → ℕ → Labels
with_next blocks next = record { blocks = blocks; next = next }

chosen : (t : Bool) (x y : Shown) (next : ℕ) → with_next (cond t x y) next ≡ cond t (with_next x next) (with_next y next)
chosen true x y next = refl
chosen false x y next = refl

module _ {N : Type 0} (blocks : N → List PartBlock) (next spent : N → ℕ) (before after : Spared N) where
  abbrev n : ℕ
  n = before.shape.blocks

  abbrev had : ℕ → List (Option Label)
  had b = block_labels (numbered blocks before b)

  abbrev has : ℕ → List (Option Label)
  has b = block_labels (numbered blocks after b)

  abbrev l : Labels
  l = spared_labels blocks next before

  had_at : (b : ℕ) → b < n → labels_in l.blocks b ≡ had b
  had_at b lt = get_or-map-range_with_len had 0 n b b [] lt (omega arith)

  abbrev all_has : Shown
  all_has = map has (range_with_len 0 n)

  -- one block's labels change, and where the device has no block of the number none do
  one : (b : ℕ) (new : List (Option Label)) → (b < n → has b ≡ new) → ((k : ℕ) → k < n → k ≢ b → has k ≡ had k)
      → all_has ≡ set l.blocks b new
  one b new here others = elim (cases_lt b n) [
    | inl lt ↦ one_numbered [] n had has b new lt (here lt) others
    | inr past ↦ same_numbered [] n had has (λ k lt. others k lt (λ same. apart k b lt past same))
        ∙ sym (set_past l.blocks b new (omega (arith, past, length-map-range_with_len had 0 n)))
  ]
    where
      apart : (k b : ℕ) → k < n → n ≤ b → k ≡ b → ⊥
      apart k b lt past same = omega (arith, lt, past, same)

  module _ (call : NandCall) (e : EndsSpared blocks next spent true before call true after) where
    well : after.health ≡ health.Faulted → ⊥
    well = fit_well call after.health (e.fit.0 refl)

    kept : (k : ℕ) → k < n → (MayChange call true k → ⊥) → has k ≡ had k
    kept k lt far = ap (λ (cells : List Cell). map cell_label cells) (e.kept well k lt far)

    labels_are : spared_labels blocks next after ≡ with_next all_has (serial_after_call call (next before.part))
    labels_are =
        ap (λ (s : Shape). with_next (map has (range_with_len 0 s.blocks)) (next after.part)) e.shape
        ∙ ap (with_next all_has) (e.serial refl)

  -- By the call

  programs : (place : Place) (page : Option ℕ) (bytes : PageData) → EndsSpared blocks next spent true before (calls.Program place page bytes) true after
      → all_has ≡ set l.blocks place.block (labels_in l.blocks place.block ++ cell_label (programmed_cell true (next before.part) page bytes) ∷ [])
  programs place page bytes e =
      let new = cell_label (programmed_cell true (next before.part) page bytes) in
      one place.block (labels_in l.blocks place.block ++ new ∷ [])
      (λ lt. ap (λ (cells : List Cell). map cell_label cells) (e.labelled refl)
      ∙ (map-append cell_label (numbered blocks before place.block).cells (programmed_cell true (next before.part) page bytes ∷ [])
      ∙ ap (λ (xs : List (Option Label)). xs ++ new ∷ []) (sym (had_at place.block lt))))
      (λ k lt other. kept (calls.Program place page bytes) e k lt (λ may. other may.1))

  erases : (b : ℕ) (e : EndsSpared blocks next spent true before (calls.EraseSlot b) true after) (t : Bool)
      → (b < n → (numbered blocks after b).cells ≡ cond t [] (numbered blocks before b).cells)
      → all_has ≡ cond t (set l.blocks b []) l.blocks
  erases b e true here =
      one b [] (λ lt. ap (λ (cells : List Cell). map cell_label cells) (here lt)) (λ k lt other. kept (calls.EraseSlot b) e k lt other)
  erases b e false here =
      same_numbered [] n had has (λ k lt. at k lt)
    where
      at : (k : ℕ) → k < n → has k ≡ had k
      at k lt = elim (cases_eq k b) [
        | inl same ↦ ap has same ∙ (ap (λ (cells : List Cell). map cell_label cells) (here (omega (arith, lt, same))) ∙ ap had (sym same))
        | inr other ↦ kept (calls.EraseSlot b) e k lt other
      ]

  pub labels_follow : (call : NandCall) → EndsSpared blocks next spent true before call true after
      → spared_labels blocks next after ≡ labels_after_call before.shape.erase_slots (spared_blocks blocks before) call l
  labels_follow (calls.Read place) e =
      labels_are (calls.Read place) e
      ∙ ap (λ (s : Shown). with_next s l.next) (same_numbered [] n had has (λ k lt. kept (calls.Read place) e k lt (λ no. no)))
  labels_follow (calls.Program place None bytes) e =
      labels_are (calls.Program place None bytes) e ∙ ap (λ (s : Shown). with_next s l.next) (programs place None bytes e)
  labels_follow (calls.Program place (Some page) bytes) e =
      labels_are (calls.Program place (Some page) bytes) e ∙ ap (λ (s : Shown). with_next s (serial_after l.next)) (programs place (Some page) bytes e)
  labels_follow (calls.EraseSlot b) e =
      let slots = before.shape.erase_slots in
      let t : Bool = (block_at (spared_blocks blocks before) b).erasing + 1 == slots in
      labels_are (calls.EraseSlot b) e
      ∙ (ap (λ (s : Shown). with_next s l.next) (erases b e t (λ lt. e.labelled refl
      ∙ ap (λ (x : Block). cond (x.erasing + 1 == slots) [] (numbered blocks before b).cells) (sym (block_is blocks before b lt))))
      ∙ chosen t (set l.blocks b []) l.blocks l.next)

-- of a part that keeps labels
pub ends_labelled : {N : Type 0} (blocks : N → List PartBlock) (next spent : N → ℕ) (keeps : Bool) → keeps ≡ true → (before after : Spared N) (call : NandCall)
    (well : Bool) → EndsSpared blocks next spent keeps before call well after → EndsLabelled blocks next spent keeps before call well after
ends_labelled blocks next spent keeps is before after call well e = record {
  spares = e;
  labels = λ so. labels_follow blocks next spent before after call
      (subst (λ (k : Bool). EndsSpared blocks next spent k before call true after) is
      (subst (λ (w : Bool). EndsSpared blocks next spent keeps before call w after) so e));
}
