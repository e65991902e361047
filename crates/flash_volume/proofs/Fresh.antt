-- A fresh device: the array of pages on it, and the volume.
use Rattle.std.proofs.Common.{◌≡◌, ℕ, zero, suc, ◌+◌, ◌-◌, ◌*◌, ◌<◌, List, ◌∷◌, length, get_or, Option, Some, None, refl, sym, ap, ◌∙◌}
use Rattle.std.proofs.Common.{subst, arith, inl, inr, count_by}
use Rattle.std.specs.Prelude.{replicate}
use Rattle.std.proofs.lemmas.Bool.{cases_lt}
use Rattle.std.proofs.lemmas.List.Sums.{sum_by-cons}
use Rattle.std.proofs.lemmas.List.{get_or-replicate, length-replicate, get_or_past}
use Rattle.slot_types.specs.declared.pages.Place.{Place}
use Rattle.slot_types.specs.declared.plans.Shape.{Shape}
use Rattle.slot_types.specs.declared.plans.DiePlan.{DiePlan}
use Rattle.plan_rules.specs.Bound.{MeetsBound}
use Rattle.plan_rules.specs.Accounts.{total_of, opening_accounts}
use Rattle.plan_rules.proofs.Totals.{room}
use Rattle.std.proofs.lemmas.List.Folds.{sum_by-replicate}
use Rattle.slot_types.specs.Places.{place_of, is_in}
use Rattle.slot_types.specs.Shapes.{IsShape}
use Rattle.victim_pick.specs.Candidates.{count_of}
use Rattle.page_map.specs.Placing.{blank_map}
use Rattle.flash_die.specs.Flash.{Block, blank, free_block, block_at, IsFresh}
use Rattle.flash_volume.specs.Cells.{filled_of, fills_of, erases_in, free_in, free_cells, contents}
use Rattle.flash_volume.specs.Array.{IsSoundState, no_candidates}
use Rattle.flash_volume.specs.Running.{running_of}
use Rattle.flash_volume.specs.SoundVolume.{IsSoundVolume}
use Rattle.flash_volume.specs.declared.collection.Collection.{Collection}
use Rattle.flash_volume.proofs.Opening.{seen, opened_none}

abbrev zeros : ℕ → List ℕ
zeros n = replicate n 0

fills_fresh : (n : ℕ) → zeros n ≡ fills_of (replicate n free_block)
fills_fresh zero = refl
fills_fresh (suc n) = ap (λ (l : List ℕ). 0 ∷ l) (fills_fresh n)

erases_fresh : (n : ℕ) → zeros n ≡ erases_in (replicate n free_block)
erases_fresh zero = refl
erases_fresh (suc n) = ap (λ (l : List ℕ). 0 ∷ l) (erases_fresh n)

fill_fresh : (n k : ℕ) → get_or (zeros n) k 0 ≡ 0
fill_fresh n k =
    elim (cases_lt k n) [
      | inl below ↦ get_or-replicate n k 0 0 below
      | inr past ↦ get_or_past (zeros n) k 0 (omega (arith, past, length-replicate {A = ℕ} n 0))
    ]

block_fresh : (n k : ℕ) → block_at (replicate n free_block) k ≡ free_block
block_fresh n k =
    elim (cases_lt k n) [
      | inl below ↦ get_or-replicate n k free_block free_block below
      | inr past ↦ get_or_past (replicate n free_block) k free_block (omega (arith, past, length-replicate n free_block))
    ]

pub lies_nowhere : (logical page : ℕ) → place_of (replicate logical None) page ≡ None
lies_nowhere logical page =
    elim (cases_lt page logical) [
      | inl below ↦ get_or-replicate logical page None None below
      | inr past ↦ get_or_past (replicate logical None) page None (omega (arith, past, length-replicate {A = Option Place} logical None))
    ]

abbrev nowhere : ℕ → List (Option Place)
nowhere logical = replicate logical None

none_valid : (logical block : ℕ) → count_by (is_in block) (nowhere logical) ≡ 0
none_valid zero block = refl
none_valid (suc logical) block = none_valid logical block

none_counted : (n k : ℕ) → count_of (replicate n None) k ≡ None
none_counted n k =
    elim (cases_lt k n) [
      | inl below ↦ get_or-replicate n k None None below
      | inr past ↦ get_or_past (replicate n None) k None (omega (arith, past, length-replicate {A = Option ℕ} n None))
    ]

pub stands_fresh : (shape : Shape) (failures : ℕ) (blocks : List Block) (logical : ℕ) → IsShape shape → IsFresh shape blocks failures
    → IsSoundState shape failures blocks (blank_map shape logical) (replicate shape.blocks 0) (replicate shape.blocks 0) None
    (no_candidates shape)
stands_fresh shape failures blocks logical limits fresh =
    let none : (k : ℕ) → 0 < get_or (zeros shape.blocks) k 0 → ⊥ = λ k some. omega (arith, some, fill_fresh shape.blocks k) in
    record {
      limits = limits;
      map_shape = refl;
      well = fresh.well;
      count = ap length fresh.unused ∙ length-replicate shape.blocks free_block;
      fills_are = fills_fresh shape.blocks ∙ ap fills_of (sym fresh.unused);
      erases_are = erases_fresh shape.blocks ∙ ap erases_in (sym fresh.unused);
      within = λ k. omega (arith, fill_fresh shape.blocks k);
      one_open = λ i j some_i few_i some_j few_j. absurd (none i some_i);
      writing_is = opened_none shape.pages (replicate shape.blocks 0) (λ k some few. none k some);
      quiet = λ k few. ap (λ (l : List Block). (block_at l k).erasing) fresh.unused
          ∙ ap (λ (b : Block). b.erasing) (block_fresh shape.blocks k);
      placed = λ page place lies. let none_lies : place_of (replicate logical None) page ≡ None = lies_nowhere logical page in absurd (cc);
      few_valid = λ block. omega (arith, none_valid logical block);
      candidates_len = length-replicate shape.blocks None;
      worn_len = length-replicate shape.blocks None;
      candidates_pages = refl;
      counted = λ block n is. let none_is : count_of (replicate shape.blocks None) block
          ≡ None = none_counted shape.blocks block in absurd (cc);
      worn = λ block n is. let none_is : count_of (replicate shape.blocks None) block
          ≡ None = none_counted shape.blocks block in absurd (cc);
    }

one_more : (n k : ℕ) → (n + 1) * k ≡ n * k + k
one_more n k = grind arith

-- the accounts hold all cells at the start
total_opening : (plan : DiePlan) → MeetsBound plan → total_of (opening_accounts plan) ≡ plan.shape.blocks * plan.shape.pages
total_opening plan bound = omega (
  arith,
  room plan bound,
  sum_by-replicate (λ (n : ℕ). n) (length plan.caps) 0,
  sum_by-replicate
      (λ (n : ℕ). n) (length plan.caps) (plan.shape.pages - plan.alpha),
)

pub none_running : (n task : ℕ) → running_of (replicate n None) task ≡ None
none_running n task =
    elim (cases_lt task n) [
      | inl below ↦ get_or-replicate n task None None below
      | inr past ↦ get_or_past (replicate n None) task None (omega (arith, past, length-replicate {A = Option Collection} n None))
    ]

suc_is : (n k : ℕ) → suc n * k ≡ (n + 1) * k
suc_is n k = let e : suc n ≡ n + 1 = omega arith in ap (λ (m : ℕ). m * k) e

free_fresh_by : (pages n : ℕ) → free_cells pages (replicate n free_block) ≡ n * pages
free_fresh_by pages zero = omega arith
free_fresh_by pages (suc n) = omega (
  arith,
  sum_by-cons (free_in pages) free_block (replicate n free_block),
  free_fresh_by pages n,
  one_more
      n pages,
  suc_is n pages,
)

-- all cells of a fresh device are free
pub free_fresh : (shape : Shape) (failures : ℕ) (blocks : List Block) → IsFresh shape blocks failures → free_cells shape.pages blocks
    ≡ shape.blocks * shape.pages
free_fresh shape failures blocks fresh = ap (λ (l : List Block). free_cells shape.pages l) fresh.unused
    ∙ free_fresh_by shape.pages shape.blocks

-- and every page is blank
pub contents_fresh : (blocks : List Block) (logical : ℕ) → contents blocks (replicate logical None) ≡ replicate logical blank
contents_fresh blocks zero = refl
contents_fresh blocks (suc logical) = ap (λ l. blank ∷ l) (contents_fresh blocks logical)

-- a volume on which nothing was done yet
pub sound_fresh : (plan : DiePlan) (shape : Shape) (failures : ℕ) (blocks : List Block) → MeetsBound plan → shape ≡ plan.shape
    → IsFresh shape blocks failures → IsSoundVolume (opening_accounts plan) shape failures blocks (blank_map shape plan.logical) (no_candidates shape)
    (replicate (length plan.caps) None)
sound_fresh plan shape failures blocks bound same fresh =
    let limits : IsShape shape = subst IsShape (sym same) bound.shape in
    let none : (task : ℕ) → running_of (replicate (length plan.caps) None) task ≡ None = none_running (length plan.caps) in
    let nobody : (task : ℕ) (c : Collection) → running_of (replicate (length plan.caps) None) task ≡ Some c
    → ⊥ = λ task c is. let nothing : running_of (replicate (length plan.caps) None) task ≡ None = none task in cc in
    record {
      stands = seen (stands_fresh shape failures blocks plan.logical limits fresh);
      bound = bound;
      shape_is = same;
      map_len = length-replicate plan.logical None;
      total = free_fresh shape failures blocks fresh ∙ ap (λ (s : Shape). s.blocks * s.pages) same ∙ sym (total_opening plan bound);
      runs = record {
        len = length-replicate (length plan.caps) None;
        each = λ task c is. absurd (nobody task c is);
        apart = λ task other c d is also victim. absurd (nobody task c is);
        idle = λ task below is. get_or-replicate (length plan.caps) task (plan.shape.pages - plan.alpha) 0 below
            ∙ ap (λ (s : Shape). s.pages - plan.alpha) (sym same);
      };
      picks = record {
        taken = λ task c is. absurd (nobody task c is);
        closed = λ block below closed none. absurd (omega (
          arith,
          closed,
          limits.some_pages,
          ap (λ (l : List Block). filled_of (block_at l block)) fresh.unused,
          ap filled_of
              (block_fresh shape.blocks block),
        ));
      };
    }
