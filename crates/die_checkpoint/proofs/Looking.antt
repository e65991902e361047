-- What is known where a search of the blocks or of the places finds nothing.
use Rattle.std.proofs.Common.{◌≡◌, ℕ, ◌+◌, ◌-◌, ◌*◌, ◌^◌, ◌<◌, ◌≤◌, Bool, true, false, List, length, drop, take, nat_lt}
use Rattle.std.proofs.Common.{Option, Some, None, refl, sym, ap, ◌∙◌, arith, inl, inr}
use Rattle.std.specs.Prelude.{position}
use Rattle.std.proofs.lemmas.Bool.{cases_lt}
use Rattle.std.proofs.lemmas.Bool.Decides.{nat_tests}
use Rattle.std.proofs.lemmas.List.{get_or_past, get_or-drop, length-drop, take_all}
use Rattle.std.proofs.lemmas.List.Quantifiers.{position-Some}
use Rattle.slot_types.specs.declared.pages.Place.{Place}
use Rattle.std.proofs.Math.Nat.{mul-le-mul_right}
use Rattle.slot_types.specs.declared.plans.Shape.{Shape}
use Rattle.slot_types.specs.Shapes.{IsShape}
use Rattle.slot_types.specs.Places.{place_of}
use Rattle.page_map.proofs.Owners.{fails_where_none, within}
use Rattle.die_checkpoint.specs.declared.checkpoint.BlockCounts.{BlockCounts}
use Rattle.die_checkpoint.specs.Counts.{no_counts, counts_at, is_overfull, is_open, is_worn, is_astray, most_erases}
use Rattle.slot_types.specs.declared.plans.DiePlan.{DiePlan}
use Rattle.page_map.specs.PlacesFaults.{AreCells}
use Rattle.die_checkpoint.specs.declared.checkpoint.Checkpoint.{Checkpoint}
use Rattle.die_checkpoint.specs.Fits.{AreWithin, HasOneOpen, AreUnworn, IsOpen, FitsButShared}

-- a test that fails at a block that isn't there fails at all, where none is found
fails_at : (p : BlockCounts → Bool) (blocks : List BlockCounts) (b : ℕ) → position p blocks ≡ None → p no_counts ≡ false
    → p (counts_at blocks b) ≡ false
fails_at p blocks b none past_fails =
    elim (cases_lt b (length blocks)) [
      | inl below ↦ fails_where_none p blocks b no_counts none below
      | inr past ↦ ap p (get_or_past blocks b no_counts past) ∙ past_fails
    ]

few : (n m : ℕ) → nat_lt n m ≡ false → m ≤ n
few n m h = grind (arith, nat_tests)

past_overfull : (pages : ℕ) → is_overfull pages no_counts ≡ false
past_overfull pages = grind (arith, nat_tests)

pub none_overfull : (pages : ℕ) (blocks : List BlockCounts) → None ≡ position (is_overfull pages) blocks → AreWithin pages blocks
none_overfull pages blocks none b =
    few pages (counts_at blocks b).filled (fails_at (is_overfull pages) blocks b (sym none) (past_overfull pages))

pub none_worn : (blocks : List BlockCounts) → None ≡ position is_worn blocks → AreUnworn blocks
none_worn blocks none b = few most_erases (counts_at blocks b).erases (fails_at is_worn blocks b (sym none) refl)

open_passes : (pages : ℕ) (block : BlockCounts) → 0 < block.filled → block.filled < pages → is_open pages block ≡ true
open_passes pages block some room = grind (arith, nat_tests)

-- an open block is the first that is found, or after it
not_before : (pages : ℕ) (blocks : List BlockCounts) (first b : ℕ) → Some first ≡ position (is_open pages) blocks → IsOpen pages blocks b
    → first ≤ b
not_before pages blocks first b is opened =
    elim (cases_lt b first) [
      | inl below ↦ (let fails = (position-Some (is_open pages) blocks first no_counts (sym is)).2 b below in
          let passes = open_passes pages (counts_at blocks b) opened.0 opened.1 in
          absurd (cc))
      | inr past ↦ past
    ]

not_after : (pages : ℕ) (blocks : List BlockCounts) (from b : ℕ) → None ≡ position (is_open pages) (drop from blocks)
    → IsOpen pages blocks b → b < from
not_after pages blocks from b none opened =
    elim (cases_lt b from) [
      | inl below ↦ below
      | inr past ↦ (let fails = fails_at (is_open pages) (drop from blocks) (b - from) (sym none) refl in
          let place : from + (b - from) ≡ b = omega arith in
          let there : counts_at (drop from blocks) (b - from) ≡ counts_at blocks b = get_or-drop from blocks (b - from) no_counts
          ∙ ap (λ (k : ℕ). counts_at blocks k) place in
          let passes = open_passes pages (counts_at blocks b) opened.0 opened.1 in
          let also : is_open pages (counts_at (drop from blocks) (b - from)) ≡ true = ap (is_open pages) there ∙ passes in
          absurd (cc))
    ]

pub none_open : (pages : ℕ) (blocks : List BlockCounts) → None ≡ position (is_open pages) blocks → HasOneOpen pages blocks
none_open pages blocks none one other open_one open_other =
    let fails = fails_at (is_open pages) blocks one (sym none) refl in
    let passes = open_passes pages (counts_at blocks one) open_one.0 open_one.1 in
    absurd (cc)

pub one_open : (pages : ℕ) (blocks : List BlockCounts) (first : ℕ) → Some first ≡ position (is_open pages) blocks
    → None ≡ position (is_open pages) (drop (first + 1) blocks) → HasOneOpen pages blocks
one_open pages blocks first is none one other open_one open_other = omega (
  arith,
  not_before pages blocks first one is open_one,
  not_before pages blocks first other is open_other,
  not_after pages blocks (first + 1) one none open_one,
  not_after pages blocks (first + 1) other none open_other,
)

-- as a slice of the rest is read
pub one_open_rest : (pages : ℕ) (blocks : List BlockCounts) (first : ℕ) → Some first ≡ position (is_open pages) blocks
    → None ≡ position (is_open pages) (take (length blocks - (first + 1)) (drop (first + 1) blocks)) → HasOneOpen pages blocks
one_open_rest pages blocks first is none =
    one_open pages blocks first is (none ∙ ap (λ (l : List BlockCounts). position (is_open pages) l)
    (take_all (length blocks - (first + 1)) (drop (first + 1) blocks) (omega (arith, length-drop (first + 1) blocks))))

placed_where : (blocks : List BlockCounts) (place : Place) → is_astray blocks (Some place) ≡ false
    → place.page < (counts_at blocks place.block).filled
placed_where blocks place h = grind (arith, nat_tests)

pub none_astray : (blocks : List BlockCounts) (places : List (Option Place)) → None ≡ position (is_astray blocks) places
    → (page : ℕ) (place : Place) → place_of places page ≡ Some place → place.page < (counts_at blocks place.block).filled
none_astray blocks places none page place lies =
    placed_where blocks place (ap (is_astray blocks) (sym lies)
    ∙ fails_where_none (is_astray blocks) places page None (sym none) (within places page place lies))

-- a page that lies in a programmed cell lies in a cell of the die
pub in_blocks : (blocks : List BlockCounts) (pages b page : ℕ) → AreWithin pages blocks → page < (counts_at blocks b).filled
    → (b < length blocks) × (page < pages)
in_blocks blocks pages b page fits below =
    elim (cases_lt b (length blocks)) [
      | inl inside ↦ (inside, omega (arith, fits b))
      | inr past ↦ absurd (omega (arith, ap (λ (c : BlockCounts). c.filled) (get_or_past blocks b no_counts past)))
    ]

-- each page lies in a cell of the die, or nowhere
pub in_cells : (plan : DiePlan) (c : Checkpoint) → FitsButShared plan c → AreCells plan.shape c.places
in_cells plan c fits page place lies =
    let inside = in_blocks c.blocks plan.shape.pages place.block place.page fits.blocks.within (fits.placed page place lies) in
    record { block = omega (arith, inside.0, fits.blocks.plan_is.shape.blocks); page = inside.1 }

-- a die within its limits has few cells
pub few_cells : (shape : Shape) → IsShape shape → shape.blocks * shape.pages < 2 ^ 32
few_cells shape limits =
    let most : shape.blocks * shape.pages ≤ 1024 * shape.pages = mul-le-mul_right shape.pages limits.few_blocks in
    omega (arith, most, limits.few_pages)
