-- What a look at one cell more, and at one block more, adds to what is shown.
use Rattle.std.proofs.Common.{◌≡◌, ◌⊎◌, ℕ, ◌+◌, ◌<◌, ◌≤◌, List, [], ◌∷◌, ◌++◌, length, Option, None, get_or, set, refl, ap, sym, ◌∙◌, subst, inl, inr, arith}
use Rattle.std.proofs.lemmas.Bool.{cases_eq, cases_lt}
use Rattle.std.specs.Prelude.{option_map}
use Rattle.std.proofs.lemmas.List.{get_or_past, get_or-set_other, get_or-set_same, length-map, length-set, map-append}
use Rattle.std.proofs.lemmas.List.FromFn.{length-map-range_with_len, map-range_with_len_more}
use Rattle.slot_types.specs.declared.pages.Place.{Place}
use Rattle.slot_types.specs.declared.plans.DiePlan.{DiePlan}
use Rattle.flash_die.specs.Flash.{Block}
use Rattle.slot_types.specs.declared.plans.Shape.{Shape}
use Rattle.die_mount.specs.Faults.{IsFirstBad, IsMountPlan}
use Rattle.die_mount.specs.Told.{HaveFitLabels, told_cells, told_label}
use Rattle.labelled_die.specs.declared.scanning.PartFault.{PartFault}
use Rattle.labelled_die.specs.declared.scanning.PartFault.TheVariants as faults
use Rattle.labelled_die.specs.Scanning.{blocks_shown, cells_shown, IsOtherLabel, IsSamePart, IsUntold, RefusesBlock, RefusesScan}
use Rattle.power_loss.specs.Aside.{part_of}
use Rattle.power_loss.specs.Labels.{Labels, Shown, label_at}

abbrev cell : ℕ → ℕ → Place
cell block page = record { block = block; page = page }

pub cells_more : (blocks : Shown) (block k : ℕ) → told_cells (cells_shown blocks block (k + 1))
    ≡ told_cells (cells_shown blocks block k) ++ option_map told_label (label_at blocks (cell block k)) ∷ []
cells_more blocks block k =
    ap told_cells (map-range_with_len_more (λ page. label_at blocks (cell block page)) 0 k k (omega arith))
    ∙ map-append (option_map told_label) (cells_shown blocks block k) (label_at blocks (cell block k) ∷ [])

pub cells_len : (blocks : Shown) (block k : ℕ) → length (told_cells (cells_shown blocks block k)) ≡ k
cells_len blocks block k =
    length-map (cells_shown blocks block k) (option_map told_label)
    ∙ length-map-range_with_len (λ page. label_at blocks (cell block page)) 0 k

pub blocks_more : (blocks : Shown) (pages n : ℕ) → blocks_shown blocks pages (n + 1)
    ≡ blocks_shown blocks pages n ++ cells_shown blocks n pages ∷ []
blocks_more blocks pages n = map-range_with_len_more (λ block. cells_shown blocks block pages) 0 n n (omega arith)

pub blocks_len : (blocks : Shown) (pages n : ℕ) → length (blocks_shown blocks pages n) ≡ n
blocks_len blocks pages n = length-map-range_with_len (λ block. cells_shown blocks block pages) 0 n

-- looks follow looks
pub looked : {N : Type 0} (shape_of : N → Shape) (failures : N → ℕ) (blocks : N → List Block) (labels : N → Labels) (a b c : N)
    → IsSamePart shape_of failures blocks labels a b → IsSamePart shape_of failures blocks labels b c
    → IsSamePart shape_of failures blocks labels a c
looked shape_of failures blocks labels a b c s t = record {
  shape = t.shape ∙ s.shape;
  well = t.well ∙ s.well;
  blocks_are = t.blocks_are ∙ s.blocks_are;
  labels_are = t.labels_are ∙ s.labels_are;
}

pub unlooked : {N : Type 0} (shape_of : N → Shape) (failures : N → ℕ) (blocks : N → List Block) (labels : N → Labels) (a : N)
    → IsSamePart shape_of failures blocks labels a a
unlooked shape_of failures blocks labels a = record { shape = refl; well = refl; blocks_are = refl; labels_are = refl }

-- a fault of a block is the first one of the part, where each block before it is fit
pub refuses : (plan : DiePlan) (shape : Shape) (blocks : Shown) (block failures : ℕ) (fault : PartFault) → IsMountPlan plan
    → shape ≡ (part_of plan).shape
    → ((b : ℕ) → b < block → HaveFitLabels plan.logical (told_cells (cells_shown blocks b plan.shape.pages)))
    → RefusesBlock plan blocks block failures fault → RefusesScan plan shape blocks failures fault
refuses plan shape blocks block failures faults.BadPlan may is fit h = absurd h
refuses plan shape blocks block failures faults.OtherShape may is fit h = absurd h
refuses plan shape blocks block failures faults.NoMemory may is fit h = absurd h
refuses plan shape blocks block failures (faults.OtherLabel b cell) may is fit h = (
  may,
  is,
  subst (λ (pages : ℕ). IsOtherLabel plan.logical pages blocks b cell) (sym (ap (λ (s : Shape). s.pages) is)) (record {
    bad = subst (λ (k : ℕ). IsFirstBad plan.logical (told_cells (cells_shown blocks k plan.shape.pages)) cell) (sym h.0) h.1;
    first = λ k lt. fit k (omega (arith, lt, h.0));
  }),
)
refuses plan shape blocks block failures faults.DeviceFault may is fit h = (may, is, h)

-- a block more of whose erases nothing is reported
pub untold_on : (old new : List (Option ℕ)) (at : ℕ) → new ≡ set old at None → IsUntold old → IsUntold new
untold_on old new at is none block = ap (λ (told : List (Option ℕ)). get_or told block None) is ∙ by_case (cases_eq block at) (cases_lt at (length old))
  where
    by_case : (block ≡ at) ⊎ (block ≡ at → ⊥) → (at < length old) ⊎ (length old ≤ at) → get_or (set old at None) block None ≡ None
    by_case (inl own) (inl below) = ap (λ (k : ℕ). get_or (set old at None) k None) own ∙ get_or-set_same old at None None below
    by_case (inl own) (inr past) = get_or_past (set old at None) block None (omega (arith, own, past, length-set old at None))
    by_case (inr other) any = get_or-set_other old at block None None other ∙ none block
