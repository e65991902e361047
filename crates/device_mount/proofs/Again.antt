-- What the cells of a part show once more, where one block is left out.
use Rattle.std.proofs.Common.{◌≡◌, ◌≢◌, ◌⊎◌, ℕ, ◌+◌, ◌++◌, ◌<◌, ◌≤◌, List, [], ◌∷◌, length, get_or, take, Option, Some, None, ap, sym, ◌∙◌, subst, inl, inr, arith}
use Rattle.std.specs.Prelude.{option_map}
use Rattle.std.proofs.lemmas.Bool.{cases_eq, cases_lt}
use Rattle.std.proofs.lemmas.List.{get_or-set_other, get_or-set_same, length-map, length-set, length-take-le, set_past, take_all, take_more}
use Rattle.std.proofs.lemmas.List.FromFn.{get_or-map-range_with_len, length-map-range_with_len}
use Rattle.std.proofs.lemmas.Option.{none-some}
use Rattle.slot_types.specs.declared.pages.Place.{Place}
use Rattle.slot_types.specs.declared.plans.DiePlan.{DiePlan}
use Rattle.slot_types.specs.declared.plans.Shape.{Shape}
use Rattle.flash_die.specs.Flash as device
use Rattle.die_mount.specs.declared.label.Label.{Label as Told}
use Rattle.die_mount.specs.declared.scan.ScanFault.{ScanFault}
use Rattle.die_mount.specs.declared.scan.ScanFault.TheVariants as faults
use Rattle.die_mount.specs.Faults.{HasScanFault}
use Rattle.die_mount.specs.Scanned.{IsScanOf, Scanned}
use Rattle.die_mount.specs.Told.{HaveFitLabels, IsFitLabel, told_cells, told_label}
use Rattle.labelled_die.specs.Scanning.{IsSamePart, cells_shown}
use Rattle.labelled_nand.specs.PoweredUp.{IsPoweredUp}
use Rattle.part_mount.proofs.Powered.{has_all, is_quiet, labels_shown}
use Rattle.power_loss.specs.Aside.{part_of}
use Rattle.power_loss.specs.Labels.{Label, Labels, Shown, label_at, labels_in}
use Rattle.power_loss.specs.Recovery.{without_block}
use Rattle.device_mount.specs.Parts.{AreOfPart, IsPartOf}

-- Blocks of what was seen

pub undone : (seen : Shown) (block n : ℕ) → n ≡ block → n < length seen → labels_in (without_block block seen) n ≡ []
undone seen block n is below = ap (labels_in (without_block block seen)) is ∙ get_or-set_same seen block [] [] (omega (arith, is, below))

pub kept : (seen : Shown) (block n : ℕ) → n ≢ block → labels_in (without_block block seen) n ≡ labels_in seen n
kept seen block n other = get_or-set_other seen block n [] [] other

-- a label that is left was there
pub less : (seen : Shown) (block : ℕ) (q : Place) (x : Label) → label_at (without_block block seen) q ≡ Some x → label_at seen q ≡ Some x
less seen block q x e = by_case (cases_eq q.block block) (cases_lt q.block (length seen))
  where
    by_case : (q.block ≡ block) ⊎ (q.block ≡ block → ⊥) → (q.block < length seen) ⊎ (length seen ≤ q.block) → label_at seen q ≡ Some x
    by_case (inl is) (inl lt) =
        absurd (none-some x (sym (ap (λ (cells : List (Option Label)). get_or cells q.page None) (undone seen block q.block is lt)) ∙ e))
    by_case (inl is) (inr past) =
        ap (λ (s : Shown). label_at s q) (sym (set_past seen block [] (omega (arith, is, past)))) ∙ e
    by_case (inr other) any = ap (λ (cells : List (Option Label)). get_or cells q.page None) (sym (kept seen block q.block other)) ∙ e

-- one of another block is left
pub stays : (seen : Shown) (block : ℕ) (q : Place) (x : Label) → q.block ≢ block → label_at seen q ≡ Some x → label_at (without_block block seen) q ≡ Some x
stays seen block q x other e = ap (λ (cells : List (Option Label)). get_or cells q.page None) (kept seen block q.block other) ∙ e

-- none is of the block itself
pub none_there : (seen : Shown) (block : ℕ) (q : Place) (x : Label) → block < length seen → label_at (without_block block seen) q ≡ Some x → q.block ≢ block
none_there seen block q x lt e is =
    none-some x (sym (ap (λ (cells : List (Option Label)). get_or cells q.page None) (undone seen block q.block is (omega (arith, is, lt)))) ∙ e)

-- A part

module _ {N : Type 0} (shape_of : N → Shape) (blocks : N → List device.Block) (labels : N → Labels) (failures : N → ℕ) where
  -- looks leave it as it is
  pub powered_still : (a b : N) → IsPoweredUp (shape_of a) (blocks a) (labels a) (failures a) → IsSamePart shape_of failures blocks labels a b
      → IsPoweredUp (shape_of b) (blocks b) (labels b) (failures b)
  powered_still a b up s =
      subst (λ (x : Shape). IsPoweredUp x (blocks b) (labels b) (failures b)) (sym s.shape)
      (subst (λ (x : List device.Block). IsPoweredUp (shape_of a) x (labels b) (failures b)) (sym s.blocks_are)
      (subst (λ (x : Labels). IsPoweredUp (shape_of a) (blocks a) x (failures b)) (sym s.labels_are)
      (subst (λ (x : ℕ). IsPoweredUp (shape_of a) (blocks a) (labels a) x) (sym s.well) up)))

  pub same_part : (plan : DiePlan) (a b : N) → IsPartOf shape_of blocks labels failures plan a → IsSamePart shape_of failures blocks labels a b
      → IsPartOf shape_of blocks labels failures plan b
  same_part plan a b h s = record {
    powered = powered_still a b h.powered s;
    of_plan = (h.of_plan.0, s.shape ∙ h.of_plan.1);
    fit = subst (λ (l : Labels). AreOfPart plan l.blocks) (sym s.labels_are) h.fit;
  }

  module _ (plan : DiePlan) (part : N) (h : IsPartOf shape_of blocks labels failures plan part) where
    abbrev seen : Shown
    seen = (labels part).blocks

    pub few_blocks : (shape_of part).blocks ≡ plan.shape.blocks + 1
    few_blocks = ap (λ (s : Shape). s.blocks) h.of_plan.1

    pub few_pages : (shape_of part).pages ≡ plan.shape.pages
    few_pages = ap (λ (s : Shape). s.pages) h.of_plan.1

    pub seen_long : length (labels part).blocks ≡ plan.shape.blocks + 1
    seen_long = h.powered.borne.count ∙ (has_all (shape_of part) (blocks part) (labels part) (failures part) h.powered ∙ few_blocks)

    -- what a block shows
    pub shown_in : (block : ℕ) → block < plan.shape.blocks + 1 → cells_shown (labels part).blocks block plan.shape.pages ≡ labels_in (labels part).blocks block
    shown_in block lt =
        ap (λ (n : ℕ). cells_shown seen block n) (sym few_pages)
        ∙ sym (ap (λ (bs : Shown). labels_in bs block) (labels_shown (shape_of part) (blocks part) (labels part) (failures part) h.powered)
        ∙ get_or-map-range_with_len (λ (b : ℕ). cells_shown seen b (shape_of part).pages) 0 (shape_of part).blocks block block []
        (omega (arith, lt, few_blocks)) (omega arith))

    -- a block may be looked at
    pub within : (block : ℕ) → block < plan.shape.blocks + 1 → block < length (blocks part)
    within block lt = omega (arith, lt, few_blocks, has_all (shape_of part) (blocks part) (labels part) (failures part) h.powered)

    pub quiet : (block : ℕ) → (device.block_at (blocks part) block).erasing ≡ 0
    quiet block = is_quiet (shape_of part) (blocks part) (labels part) (failures part) h.powered block

    -- and is reported so
    pub told_none : (block without : ℕ) → block < plan.shape.blocks + 1 → block ≡ without
        → [] ≡ told_cells (labels_in (without_block without (labels part).blocks) block)
    told_none block without lt is = sym (ap told_cells (undone seen without block is (omega (arith, lt, seen_long))))

    pub told_same : (block without : ℕ) → block < plan.shape.blocks + 1 → block ≢ without
        → told_cells (cells_shown (labels part).blocks block plan.shape.pages) ≡ told_cells (labels_in (without_block without (labels part).blocks) block)
    told_same block without lt other = ap told_cells (shown_in block lt ∙ sym (kept seen without block other))

    -- so many blocks were reported again, and then all
    pub told_more : (block without : ℕ) (s : Scanned) → block < plan.shape.blocks + 1
        → IsScanOf (part_of plan) s (take block (without_block without (labels part).blocks) ++ labels_in (without_block without (labels part).blocks) block ∷ [])
        → IsScanOf (part_of plan) s (take (block + 1) (without_block without (labels part).blocks))
    told_more block without s lt scan =
        subst (IsScanOf (part_of plan) s) (sym (take_more (without_block without seen) block [] (omega (arith, length-set seen without [], seen_long, lt)))) scan

    pub told_all : (block without : ℕ) (s : Scanned) → plan.shape.blocks + 1 ≤ block
        → IsScanOf (part_of plan) s (take block (without_block without (labels part).blocks)) → IsScanOf (part_of plan) s (without_block without (labels part).blocks)
    told_all block without s le scan =
        subst (IsScanOf (part_of plan) s) (take_all block (without_block without seen) (omega (arith, length-set seen without [], seen_long, le))) scan

    pub whole_again : (without : ℕ) (s : Scanned) → IsScanOf (part_of plan) s (without_block without (labels part).blocks) → s.told ≡ s.shape.blocks
    whole_again without s scan = omega (arith, scan.told, length-set seen without [], seen_long, ap (λ (x : Shape). x.blocks) scan.shape)

    labels_long : (block : ℕ) → block < plan.shape.blocks + 1 → length (labels_in seen block) ≡ plan.shape.pages
    labels_long block lt =
        sym (ap (λ (xs : List (Option Label)). length xs) (shown_in block lt))
        ∙ length-map-range_with_len (λ (page : ℕ). label_at seen (record { block = block; page = page })) 0 plan.shape.pages

    -- so many cells, with labels of the plan, are reported
    abbrev AreTold : List (Option Told) → Type 0
    AreTold cells = (length cells ≤ plan.shape.pages) × HaveFitLabels plan.logical cells

    no_cells : AreTold []
    no_cells = (omega arith, λ k x e. absurd (none-some x e))

    own_cells : (block : ℕ) → block < plan.shape.blocks + 1 → AreTold (told_cells (labels_in seen block))
    own_cells block lt = (
      omega (arith, length-map (labels_in seen block) (option_map told_label), labels_long block lt),
      subst (λ (xs : List (Option Label)). HaveFitLabels plan.logical (told_cells xs)) (shown_in block lt) (h.fit block lt),
    )

    told_again : (block without : ℕ) → block < plan.shape.blocks + 1 → AreTold (told_cells (labels_in (without_block without seen) block))
    told_again block without lt = by_case (cases_eq block without)
      where
        by_case : (block ≡ without) ⊎ (block ≡ without → ⊥) → AreTold (told_cells (labels_in (without_block without seen) block))
        by_case (inl is) = subst (λ (xs : List (Option Label)). AreTold (told_cells xs)) (sym (undone seen without block is (omega (arith, lt, seen_long)))) no_cells
        by_case (inr other) = subst (λ (xs : List (Option Label)). AreTold (told_cells xs)) (sym (kept seen without block other)) (own_cells block lt)

    -- none of it is refused
    pub no_fault : (block without : ℕ) (s : Scanned) (cells : List (Option Told)) (fault : ScanFault) → block < plan.shape.blocks + 1
        → IsScanOf (part_of plan) s (take block (without_block without (labels part).blocks))
        → cells ≡ told_cells (labels_in (without_block without (labels part).blocks) block) → HasScanFault s cells fault → ⊥
    no_fault block without s cells fault lt scan is = by_fault fault
      where
        told : s.told ≡ block
        told = sym scan.told ∙ length-take-le block (without_block without seen) (omega (arith, length-set seen without [], seen_long, lt))

        good : AreTold cells
        good = subst AreTold (sym is) (told_again block without lt)

        by_fault : (f : ScanFault) → HasScanFault s cells f → ⊥
        by_fault faults.NoMoreBlocks over = omega (arith, over, told, lt, ap (λ (x : Shape). x.blocks) scan.shape)
        by_fault faults.TooManyCells many = omega (arith, many.1, good.0, ap (λ (x : Shape). x.pages) scan.shape)
        by_fault (faults.BadLabel cell) bad =
            let one = bad.2 in
            one.bad (subst (λ (n : ℕ). IsFitLabel n one.label) (sym scan.logical) (good.1 cell one.label one.stands))
