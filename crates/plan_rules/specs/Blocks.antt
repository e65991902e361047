-- What the blocks of a die hold when a collection begins, for the law that it finds a victim.
use Rattle.std.specs.Prelude.{◌≡◌, ◌==◌, ℕ, ◌-◌, ◌<◌, ◌≤◌, ◌⊎◌, Bool, false, ◌&&◌, nat_lt, List, length, map, sum_by, count_by, Option}
use Rattle.std.specs.Prelude.{Some, None, Contains}
use Rattle.std.specs.List.{list_any, range_with_len}
use Rattle.slot_types.specs.declared.pages.Place.{Place}
use Rattle.slot_types.specs.Places.{is_in}
use Rattle.slot_types.specs.declared.plans.DiePlan.{DiePlan}
use Rattle.plan_rules.specs.Bound.{fmax_of}

-- what a block holds: valid pages, in which a logical page is placed, and free ones; and whether a collection works
-- on it, from its begin to its last erase slot
pub record BlockUse : Type 0 where
  pub valid : ℕ
  pub free : ℕ
  pub collected : Bool

-- a block with some free pages and some that are not
abbrev pub is_open : DiePlan → BlockUse → Bool
is_open plan block = nat_lt 0 block.free && nat_lt block.free plan.shape.pages

-- the blocks of a die at which a task begins a collection with too few spare pages; it collects none of them yet, so
-- fewer collections run than there are tasks (were it as many, there might be no victim)
pub record MayBegin (plan : DiePlan) (blocks : List BlockUse) : Type 0 where
  pub count : length blocks ≡ plan.shape.blocks
  pub one_open : count_by (is_open plan) blocks ≤ 1
  pub others_collect : count_by (λ block. block.collected) blocks < length plan.caps
  pub few_free : sum_by (λ block. block.free) blocks ≤ fmax_of plan
  pub few_valid : sum_by (λ block. block.valid) blocks ≤ plan.logical

-- a closed block, collected by nobody, with few valid pages
pub record IsVictim (plan : DiePlan) (block : BlockUse) : Type 0 where
  pub closed : block.free ≡ 0
  pub alone : block.collected ≡ false
  pub few_valid : block.valid ≤ plan.shape.pages - plan.alpha

-- whether a collection works on this block
abbrev pub is_of : ℕ → Option ℕ → Bool
is_of block None = false
is_of block (Some victim) = victim == block

-- what a block holds: free pages as given, valid ones by the places of the logical pages, and whether it is the
-- victim of a running collection
abbrev pub use_of : (ℕ → ℕ) → List (Option Place) → List (Option ℕ) → ℕ → BlockUse
use_of free places victims block = record {
  valid = count_by (is_in block) places;
  free = free block;
  collected = list_any (is_of block) victims;
}

-- the use of each block
abbrev pub uses_of : DiePlan → (ℕ → ℕ) → List (Option Place) → List (Option ℕ) → List BlockUse
uses_of plan free places victims = map (use_of free places victims) (range_with_len 0 plan.shape.blocks)

-- a die at which a task begins a collection with too few spare pages, by what its layers keep: the free pages of each
-- block, the places of the logical pages, each task's victim (the beginning task has none yet), and the open block
pub record BeginsShort (plan : DiePlan) (free : ℕ → ℕ) (places : List (Option Place)) (victims : List (Option ℕ)) (writing : Option ℕ) :
    Type 0 where
  pub places_len : length places ≡ plan.logical
  pub victims_len : length victims ≡ length plan.caps
  pub none_yet : Contains victims None
  pub one_open : (block : ℕ) → block < plan.shape.blocks → (writing ≡ Some block) ⊎ ((free block ≡ 0) ⊎ (plan.shape.pages ≤ free block))
  pub few_free : sum_by free (range_with_len 0 plan.shape.blocks) ≤ fmax_of plan

-- a closed block that no collection works on, with few pages placed in it
pub record IsChoice (plan : DiePlan) (free : ℕ → ℕ) (places : List (Option Place)) (victims : List (Option ℕ)) (block : ℕ) : Type 0 where
  pub in_range : block < plan.shape.blocks
  pub closed : free block ≡ 0
  pub alone : list_any (is_of block) victims ≡ false
  pub few_valid : count_by (is_in block) places ≤ plan.shape.pages - plan.alpha
