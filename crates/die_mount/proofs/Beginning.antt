-- A mount that begins: one block is idle, and each other one counts as closed.
use Rattle.std.proofs.Common.{◌≡◌, ◌≢◌, ◌⊎◌, ℕ, ◌+◌, ◌-◌, ◌*◌, ◌/◌, ◌^◌, ◌<◌, ◌≤◌, ◌==◌, Bool, true, false, cond, List, length, Option, Some}
use Rattle.std.proofs.Common.{refl, ap, sym, ◌∙◌, subst, inl, inr, arith, get_or, map, replicate}
use Rattle.std.specs.List.{range_with_len}
use Rattle.std.specs.Prelude.{sum_by, count_by}
use Rattle.std.proofs.Math.Nat.{div-le_self, div-lt_iff_lt-mul, mul-le-mul}
use Rattle.std.proofs.lemmas.Bool.{cases_eq, cases_lt, eq-eqb, ne_eqb}
use Rattle.std.proofs.lemmas.List.{ext_get_or, get_or_past, get_or-set_same, get_or-set_other, get_or-replicate, length-replicate, length-set}
use Rattle.std.proofs.lemmas.List.Folds.{sum_by-replicate}
use Rattle.std.proofs.lemmas.List.FromFn.{length-map-range_with_len, get_or-map-range_with_len}
use Rattle.std.proofs.lemmas.List.Sums.{sum_by-set}
use Rattle.slot_types.specs.Places.{is_in, place_of}
use Rattle.slot_types.specs.declared.plans.DiePlan.{DiePlan}
use Rattle.slot_types.specs.declared.pages.Place.{Place}
use Rattle.plan_rules.specs.Bound.{MeetsBound, fmax_of}
use Rattle.page_map.specs.Placing.{HaveOwnCells}
use Rattle.page_map.specs.PlacesFaults.{AreCells}
use Rattle.page_map.proofs.Owners.{same_place}
use Rattle.die_checkpoint.specs.Counts.{most_erases}
use Rattle.die_log.specs.Model.Flash.{Block, Cells, block_at, free_block, free_in}
use Rattle.die_log.specs.Invariants.SoundCells.{AreSoundCells, IsOpen}
use Rattle.die_log.proofs.Cells.Acts.{in_block}
use Rattle.die_log.proofs.Cells.Valid.{unplaced_is}
use Rattle.power_loss.specs.Aside.{most_rounds_beside, part_of}
use Rattle.power_loss.specs.Labels.{Shown}
use Rattle.power_loss.specs.Mounted.{all_count, mounted_places}
use Rattle.power_loss.specs.Recovery.{AreIdle, HasUnplaced, IsAbove, IsFreeBlock, MayErase, enough_of, remounted_block, without_block}
use Rattle.power_loss.proofs.Compacting.{rounded}
use Rattle.die_mount.specs.declared.stage.Stage.TheVariants as stage
use Rattle.die_mount.specs.Erases.{AreCounts, AreUnworn, counts_with, erases_of}
use Rattle.die_mount.specs.Mounting.{Mounting, BeginsWith, first_cells, most_calls, never_erased, round_calls}
use Rattle.die_mount.specs.PartState.{closed_block, closed_but}
use Rattle.die_mount.specs.SoundMount.{CountsPart, StandsWell}

abbrev pub begun_cells : DiePlan → List (Option Place) → ℕ → Cells
begun_cells plan places first = (closed_but (part_of plan).shape places first).cells

abbrev pub begun : DiePlan → List (Option Place) → (first next : ℕ) → List ℕ → Mounting
begun plan places first next counts = record {
  plan = plan;
  cells = begun_cells plan places first;
  counts = counts;
  next = next;
  rounds = most_rounds_beside plan;
  stage = stage.First first 0;
}

-- Numbers

-- with the rest below alpha that is all that may be free
pub enough_fits : (plan : DiePlan) → MeetsBound plan → enough_of plan + plan.alpha - 1 ≡ fmax_of plan
enough_fits plan bound = omega (arith, bound.limits.some_alpha)

pub fmax_few : (plan : DiePlan) → MeetsBound plan → plan.shape.blocks < 1024 → fmax_of plan < 262144
fmax_few plan bound beside =
    let some : 0 < plan.shape.pages = omega (arith, bound.shape.some_pages) in
    let below : fmax_of plan / plan.shape.pages < 1024 = omega (arith, bound.closed) in
    let fits : fmax_of plan < 1024 * plan.shape.pages = (div-lt_iff_lt-mul some).0 below in
    omega (arith, fits, bound.shape.few_pages)

pub rounds_few : (plan : DiePlan) → MeetsBound plan → plan.shape.blocks < 1024 → most_rounds_beside plan < 262144
rounds_few plan bound beside =
    omega (arith, div-le_self (enough_of plan + plan.alpha - 1) plan.alpha, enough_fits plan bound, fmax_few plan bound beside)

pub calls_few : (plan : DiePlan) → MeetsBound plan → plan.shape.blocks < 1024 → most_calls plan < 268435456
calls_few plan bound beside =
    let each : round_calls plan ≤ 576 = omega (arith, bound.shape.few_pages, bound.shape.few_slots) in
    let few : most_rounds_beside plan ≤ 262144 = omega (arith, rounds_few plan bound beside) in
    let all : most_rounds_beside plan * round_calls plan ≤ 262144 * 576 = mul-le-mul few each in
    omega (arith, all, bound.shape.few_slots)

-- The counts with which it begins

module _ (plan : DiePlan) (bound : MeetsBound plan) (beside : plan.shape.blocks < 1024) (told : List (Option ℕ)) (erased : ℕ) (unworn : AreUnworn plan told) where
  abbrev begun_erases : List ℕ
  begun_erases = map (counts_with told erased) (range_with_len 0 (plan.shape.blocks + 1))

  erases_long : length begun_erases ≡ plan.shape.blocks + 1
  erases_long = length-map-range_with_len (counts_with told erased) 0 (plan.shape.blocks + 1)

  one : (n : ℕ) (t : Bool) → cond t (n + 1) n ≤ n + 1
  one n true = omega arith
  one n false = omega arith

  erases_few : (b : ℕ) → get_or begun_erases b 0 + most_rounds_beside plan ≤ most_erases
  erases_few b = by_case (cases_lt b (plan.shape.blocks + 1))
    where
      by_case : (b < plan.shape.blocks + 1) ⊎ (plan.shape.blocks + 1 ≤ b) → get_or begun_erases b 0 + most_rounds_beside plan ≤ most_erases
      by_case (inl below) = omega (
        arith,
        get_or-map-range_with_len (counts_with told erased) 0 (plan.shape.blocks + 1) b b 0 below (omega arith),
        one (erases_of told b) (b == erased),
        unworn b below,
      )
      by_case (inr past) = omega (arith, get_or_past begun_erases b 0 (omega (arith, erases_long, past)), rounds_few plan bound beside)

  pub are_counts : (counts : List ℕ) → counts ≡ begun_erases → AreCounts plan counts
  are_counts counts e = subst (AreCounts plan) (sym e) (record { long = erases_long; unworn = erases_few })

-- Cells

module _ (plan : DiePlan) (places : List (Option Place)) (first : ℕ) (lt : first < plan.shape.blocks + 1) where
  long : length (replicate (plan.shape.blocks + 1) (closed_block plan.shape.pages)) ≡ plan.shape.blocks + 1
  long = length-replicate (plan.shape.blocks + 1) (closed_block plan.shape.pages)

  pub blocks_long : length (begun_cells plan places first).blocks ≡ plan.shape.blocks + 1
  blocks_long = length-set (replicate (plan.shape.blocks + 1) (closed_block plan.shape.pages)) first free_block ∙ long

  at_first : block_at (begun_cells plan places first) first ≡ free_block
  at_first = get_or-set_same (replicate (plan.shape.blocks + 1) (closed_block plan.shape.pages)) first free_block free_block (omega (arith, long, lt))

  at_other : (b : ℕ) → b < plan.shape.blocks + 1 → b ≢ first → block_at (begun_cells plan places first) b ≡ closed_block plan.shape.pages
  at_other b below other =
      get_or-set_other (replicate (plan.shape.blocks + 1) (closed_block plan.shape.pages)) first b free_block free_block other
      ∙ get_or-replicate (plan.shape.blocks + 1) b (closed_block plan.shape.pages) free_block below

  each_is : (b : ℕ) → (block_at (begun_cells plan places first) b ≡ free_block)
      ⊎ (block_at (begun_cells plan places first) b ≡ closed_block plan.shape.pages)
  each_is b = by_case (cases_eq b first) (cases_lt b (plan.shape.blocks + 1))
    where
      by_case : (b ≡ first) ⊎ (b ≡ first → ⊥) → (b < plan.shape.blocks + 1) ⊎ (plan.shape.blocks + 1 ≤ b)
          → (block_at (begun_cells plan places first) b ≡ free_block)
          ⊎ (block_at (begun_cells plan places first) b ≡ closed_block plan.shape.pages)
      by_case (inl is) any = inl (ap (block_at (begun_cells plan places first)) is ∙ at_first)
      by_case (inr other) (inl below) = inr (at_other b below other)
      by_case (inr other) (inr past) = inl (get_or_past (begun_cells plan places first).blocks b free_block (omega (arith, blocks_long)))

  pub begun_idle : AreIdle (begun_cells plan places first)
  begun_idle b = by_case (each_is b)
    where
      by_case : (block_at (begun_cells plan places first) b ≡ free_block)
          ⊎ (block_at (begun_cells plan places first) b ≡ closed_block plan.shape.pages)
          → (block_at (begun_cells plan places first) b).erasing ≡ 0
      by_case (inl e) = ap (λ (t : Block). t.erasing) e
      by_case (inr e) = ap (λ (t : Block). t.erasing) e

  never : (b : ℕ) → (block_at (begun_cells plan places first) b).erases ≡ 0
  never b = by_case (each_is b)
    where
      by_case : (block_at (begun_cells plan places first) b ≡ free_block)
          ⊎ (block_at (begun_cells plan places first) b ≡ closed_block plan.shape.pages)
          → (block_at (begun_cells plan places first) b).erases ≡ 0
      by_case (inl e) = ap (λ (t : Block). t.erases) e
      by_case (inr e) = ap (λ (t : Block). t.erases) e

  filled : (b : ℕ) → ((block_at (begun_cells plan places first) b).filled ≡ 0)
      ⊎ ((block_at (begun_cells plan places first) b).filled ≡ plan.shape.pages)
  filled b = by_case (each_is b)
    where
      by_case : (block_at (begun_cells plan places first) b ≡ free_block)
          ⊎ (block_at (begun_cells plan places first) b ≡ closed_block plan.shape.pages)
          → ((block_at (begun_cells plan places first) b).filled ≡ 0) ⊎ ((block_at (begun_cells plan places first) b).filled ≡ plan.shape.pages)
      by_case (inl e) = inl (ap (λ (t : Block). t.filled) e)
      by_case (inr e) = inr (ap (λ (t : Block). t.filled) e)

  pub none_open : (b : ℕ) → IsOpen (part_of plan) (begun_cells plan places first) b → ⊥
  none_open b h = by_case (filled b)
    where
      by_case : ((block_at (begun_cells plan places first) b).filled ≡ 0)
          ⊎ ((block_at (begun_cells plan places first) b).filled ≡ plan.shape.pages) → ⊥
      by_case (inl e) = omega (arith, h.0, e)
      by_case (inr e) = omega (arith, h.1, e)

  pub begun_free : sum_by (free_in plan) (begun_cells plan places first).blocks ≡ plan.shape.pages
  begun_free =
      let all = replicate (plan.shape.blocks + 1) (closed_block plan.shape.pages) in
      let closed : free_in plan (closed_block plan.shape.pages) ≡ 0 = omega arith in
      let none : sum_by (free_in plan) all ≡ 0 =
      sum_by-replicate (free_in plan) (plan.shape.blocks + 1) (closed_block plan.shape.pages)
      ∙ (ap (λ (n : ℕ). (plan.shape.blocks + 1) * n) closed ∙ omega arith) in
      let was : free_in plan (get_or all first (closed_block plan.shape.pages)) ≡ 0 =
      ap (free_in plan) (get_or-replicate (plan.shape.blocks + 1) first (closed_block plan.shape.pages) (closed_block plan.shape.pages) lt) ∙ closed in
      let whole : free_in plan free_block ≡ plan.shape.pages = omega arith in
      omega (arith, sum_by-set (free_in plan) all first free_block (closed_block plan.shape.pages) (omega (arith, long, lt)), none, was, whole)

  free_there : IsFreeBlock (begun_cells plan places first) first
  free_there = record {
    stands = omega (arith, blocks_long, lt);
    unfilled = ap (λ (t : Block). t.filled) at_first;
    idle = begun_idle first;
  }

  module _ (bound : MeetsBound plan) (beside : plan.shape.blocks < 1024) (logical : length places ≡ plan.logical)
      (within : AreCells (part_of plan).shape places) (apart : HaveOwnCells places) (none : count_by (is_in first) places ≡ 0) where
    elsewhere : (page : ℕ) (q : Place) → place_of places page ≡ Some q → q.block ≢ first
    elsewhere page q lies is =
        unplaced_is (part_of plan) (begun_cells plan places first) first none page (in_block (begun_cells plan places first) page first q lies is)

    pub begun_sound : AreSoundCells (part_of plan) (begun_cells plan places first)
    begun_sound = record {
      blocks = blocks_long;
      places = logical;
      within = λ b. within_by b (filled b);
      placed = λ page q e.
          let cell = within page q e in
          omega (arith, cell.page, ap (λ (t : Block). t.filled) (at_other q.block cell.block (elsewhere page q e)));
      apart = λ page o q r e f same cells. apart.apart page o q e (f ∙ ap (λ (p : Place). Some p) (sym (same_place q r same cells)));
      one_open = λ a b h k. absurd (none_open a h);
      erasing = λ b h. absurd (omega (arith, begun_idle b));
    }
      where
        within_by : (b : ℕ) → ((block_at (begun_cells plan places first) b).filled ≡ 0)
            ⊎ ((block_at (begun_cells plan places first) b).filled ≡ plan.shape.pages)
            → (block_at (begun_cells plan places first) b).filled ≤ plan.shape.pages
        within_by b (inl e) = omega (arith, e)
        within_by b (inr e) = omega (arith, e)

    pub begun_stands : (next : ℕ) (counts : List ℕ) → next ≤ 2 ^ 63 → AreCounts plan counts → StandsWell (begun plan places first next counts)
    begun_stands next counts low are = record {
      bound = bound;
      beside = beside;
      sound = begun_sound;
      at = record {
        idle = begun_idle;
        free = free_there;
        more = omega (arith, bound.shape.some_slots);
        reaches = omega (arith, begun_free, rounded (enough_of plan) plan.alpha bound.limits.some_alpha);
        erased = λ b. omega (arith, never b);
      };
      counts = are.long;
      unworn = are.unworn;
      few = omega arith;
      serials = omega (arith, calls_few plan bound beside, low);
    }

    pub begun_counts : (next : ℕ) (counts : List ℕ) → CountsPart (begun plan places first next counts) (closed_but (part_of plan).shape places first)
    begun_counts next counts = record {
      shape = refl;
      free = sym begun_free;
      last = λ a opened. absurd (none_open a opened);
    }

  -- What was seen

  cell_by : (b : ℕ) → (t : Bool) → (b == first) ≡ t
      → cond t (record { filled = 0; erasing = 0; erases = 0 }) (closed_block plan.shape.pages) ≡ remounted_block (part_of plan) first never_erased b
  cell_by b t e = ap (λ (x : Bool). cond x (record { filled = 0; erasing = 0; erases = 0 }) (closed_block plan.shape.pages)) (sym e)

  same_block : (seen : Shown) (b : ℕ) → b < plan.shape.blocks + 1
      → block_at (first_cells plan first seen) b ≡ block_at (begun_cells plan places first) b
  same_block seen b below =
      get_or-map-range_with_len (remounted_block (part_of plan) first never_erased) 0 (plan.shape.blocks + 1) b b free_block below (omega arith)
      ∙ by_case (cases_eq b first)
    where
      by_case : (b ≡ first) ⊎ (b ≡ first → ⊥) → remounted_block (part_of plan) first never_erased b ≡ block_at (begun_cells plan places first) b
      by_case (inl is) = sym (cell_by b true (eq-eqb b first is)) ∙ sym (ap (block_at (begun_cells plan places first)) is ∙ at_first)
      by_case (inr other) = sym (cell_by b false (ne_eqb b first other)) ∙ sym (at_other b below other)

  same_cells : (seen : Shown) → mounted_places all_count plan.logical (without_block first seen) ≡ places
      → first_cells plan first seen ≡ begun_cells plan places first
  same_cells seen found =
      ap (λ (bs : List Block). made bs (mounted_places all_count plan.logical (without_block first seen)))
      (ext_get_or free_block (first_cells plan first seen).blocks (begun_cells plan places first).blocks (all_long ∙ sym blocks_long)
      (λ b below. same_block seen b (omega (arith, below, all_long)))) ∙ ap (made (begun_cells plan places first).blocks) found
    where
      made : List Block → List (Option Place) → Cells
      made bs ps = record { blocks = bs; places = ps }

      all_long : length (first_cells plan first seen).blocks ≡ plan.shape.blocks + 1
      all_long = length-map-range_with_len (remounted_block (part_of plan) first never_erased) 0 (plan.shape.blocks + 1)

  pub begins : (next : ℕ) (counts : List ℕ) (seen : Shown) → count_by (is_in first) places ≡ 0
      → mounted_places all_count plan.logical (without_block first seen) ≡ places → MayErase (part_of plan) all_count seen first
      → IsAbove seen all_count next → BeginsWith plan seen (begun plan places first next counts)
  begins next counts seen none found may above = record {
    erased = first;
    may = may;
    next = next;
    above = above;
    plan_is = refl;
    stage_is = refl;
    rounds_is = refl;
    is = record {
      cells = same_cells seen found;
      may = tt;
      safe = inl (subst HasUnplaced (sym (same_cells seen found)) (record { b = first; stands = omega (arith, blocks_long, lt); none = none }));
      goes_on = (refl, refl);
      serial = λ pages. refl;
      rounds = record { copies = omega arith; slots = omega arith };
    };
  }
