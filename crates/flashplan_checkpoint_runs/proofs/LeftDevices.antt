-- A device that is made from what was saved of it is as it was left, and holds what was saved.
use Rattle.std.proofs.Common.{◌≡◌, ◌≢◌, ℕ, zero, suc, ◌*◌, ◌<◌, ◌≤◌, List, [], ◌∷◌, length, get_or, map, Option, Some, None, Result, Ok, Err, refl, sym, ap, ◌∙◌}
use Rattle.std.proofs.Common.{subst, arith, inl, inr, true, false, ◌&&◌}
use Rattle.std.specs.Prelude.{All, IfOk, IfSome, is_none, is_some, position, replicate}
use Rattle.std.proofs.lemmas.List.{ext_get_or, get_or-map, get_or-set_other, get_or-set_same, get_or_past, length-map, length-replicate, length-set}
use Rattle.std.proofs.lemmas.Bool.{cases_lt}
use Rattle.std.proofs.lemmas.List.Elements.{All-from_get_or}
use Rattle.std.proofs.Math.ListN.{get_or-map as read-map}
use Rattle.slot_types.specs.declared.pages.PageData.{PageData}
use Rattle.slot_types.specs.declared.pages.Place.{Place}
use Rattle.slot_types.specs.declared.plans.DiePlan.{DiePlan}
use Rattle.slot_types.specs.declared.plans.Shape.{Shape}
use Rattle.slot_types.specs.declared.refusals.Refusal.{Refusal}
use Rattle.checkpoint_texts.specs.SavedDies.{checkpoint_of, places_of}
use Rattle.checkpoint_texts.specs.declared.saved.SavedDie.{SavedDie}
use Rattle.checkpoint_texts.specs.declared.saved.SavedPage.{SavedPage}
use Rattle.die_checkpoint.specs.Counts.{counts_at, no_counts}
use Rattle.die_checkpoint.specs.Fits.{Fits}
use Rattle.die_checkpoint.specs.declared.checkpoint.BlockCounts.{BlockCounts}
use Rattle.die_checkpoint.proofs.Looking.{in_cells}
use Rattle.flash_die.specs.Flash.{Block, blank, block_at, cell_at, free_block}
use Rattle.flash_die.specs.Memory.{AreLeftSo, Memory}
use Rattle.flash_die.proofs.Left.{left_so}
use Rattle.flash_volume.specs.Cells.{content_at, contents}
use Rattle.flash_volume.specs.Checkpoints.{IsAsLeft, counts_of}
use Rattle.page_map.specs.Placing.{cell_index}
use Rattle.page_map.proofs.Moving.{in_table, same_cell}
use Rattle.page_map.proofs.Owners.{fails_where_none}
use Rattle.flashplan_checkpoint_runs.specs.Devices.{LiesBelow, cells_with, cells_with_all, erases_of, fills_of, saved_cells, saved_device}
use Rattle.flashplan_checkpoint_runs.specs.SavedDies.{HaveBytes, held_by, held_in, is_bare, no_page}

-- One page

abbrev bytes_of : List SavedPage → List (Option PageData)
bytes_of pages = map (λ (page : SavedPage). page.bytes) pages

pub with_length : (shape : Shape) (cells : List PageData) (place : Option Place) (bytes : Option PageData)
    → length (cells_with shape cells place bytes) ≡ length cells
with_length shape cells (Some p) (Some b) = length-set cells (cell_index shape p) b
with_length shape cells (Some p) None = refl
with_length shape cells None (Some b) = refl
with_length shape cells None None = refl

with_other : (shape : Shape) (cells : List PageData) (place : Option Place) (bytes : Option PageData) (k : ℕ)
    → ((p : Place) → place ≡ Some p → k ≢ cell_index shape p) → get_or (cells_with shape cells place bytes) k blank ≡ get_or cells k blank
with_other shape cells (Some p) (Some b) k free = get_or-set_other cells (cell_index shape p) k b blank (free p refl)
with_other shape cells (Some p) None k free = refl
with_other shape cells None (Some b) k free = refl
with_other shape cells None None k free = refl

with_own : (shape : Shape) (cells : List PageData) (place : Option Place) (bytes : Option PageData) (p : Place) (b : PageData)
    → place ≡ Some p → bytes ≡ Some b → cell_index shape p < length cells
    → get_or (cells_with shape cells place bytes) (cell_index shape p) blank ≡ b
with_own shape cells place bytes p b is_p is_b below =
    ap (λ (o : Option Place). get_or (cells_with shape cells o bytes) (cell_index shape p) blank) is_p
    ∙ ap (λ (o : Option PageData). get_or (cells_with shape cells (Some p) o) (cell_index shape p) blank) is_b
    ∙ get_or-set_same cells (cell_index shape p) b blank below

-- a page that isn't bare has its bytes, if it lies in a cell
not_bare : (place : Option Place) (bytes : Option PageData) → (is_some place && is_none bytes) ≡ false → bytes ≡ None → place ≡ None
not_bare None bytes h none = refl
not_bare (Some p) None h none = absurd (true_is_false h)
  where
    true_is_false : true ≡ false → ⊥
    true_is_false same = grind arith
not_bare (Some p) (Some b) h none = absurd (some_is_none none)
  where
    some_is_none : Some b ≡ None → ⊥
    some_is_none same = grind arith

pub none_bare : (pages : List SavedPage) → position is_bare pages ≡ None → HaveBytes pages
none_bare pages none i = elim (cases_lt i (length pages)) [
  | inl below ↦ not_bare (get_or pages i no_page).place (get_or pages i no_page).bytes (fails_where_none is_bare pages i no_page none below)
  | inr past ↦ λ _. ap (λ (page : SavedPage). page.place) (get_or_past pages i no_page past)
]

-- All pages

all_other : (shape : Shape) (cells : List PageData) (pages : List SavedPage) (k : ℕ)
    → ((i : ℕ) (p : Place) → get_or (places_of pages) i None ≡ Some p → k ≢ cell_index shape p)
    → get_or (cells_with_all shape cells pages) k blank ≡ get_or cells k blank
all_other shape cells [] k free = refl
all_other shape cells (page ∷ pages) k free =
    all_other shape (cells_with shape cells page.place page.bytes) pages k (λ i p at. free (suc i) p at)
    ∙ with_other shape cells page.place page.bytes k (λ p at. free 0 p at)

no_place : (i : ℕ) (p : Place) → get_or (places_of []) i None ≡ Some p → ⊥
no_place i p at = grind arith

all_own : (shape : Shape) (cells : List PageData) (pages : List SavedPage) (i : ℕ) (p : Place) (b : PageData)
    → ((j : ℕ) (q : Place) → get_or (places_of pages) j None ≡ Some q → cell_index shape q < length cells)
    → ((j : ℕ) (q : Place) → get_or (places_of pages) j None ≡ Some q → cell_index shape p ≡ cell_index shape q → j ≡ i)
    → get_or (places_of pages) i None ≡ Some p → get_or (bytes_of pages) i None ≡ Some b
    → get_or (cells_with_all shape cells pages) (cell_index shape p) blank ≡ b
all_own shape cells [] i p b below own at has = absurd (no_place i p at)
all_own shape cells (page ∷ pages) zero p b below own at has =
    all_other shape (cells_with shape cells page.place page.bytes) pages (cell_index shape p)
    (λ j q there same. absurd (omega (arith, own (suc j) q there same)))
    ∙ with_own shape cells page.place page.bytes p b at has (below 0 p at)
all_own shape cells (page ∷ pages) (suc i) p b below own at has =
    all_own shape (cells_with shape cells page.place page.bytes) pages i p b
    (λ j q there. subst (λ (n : ℕ). cell_index shape q < n) (sym (with_length shape cells page.place page.bytes)) (below (suc j) q there))
    (λ j q there same. omega (arith, own (suc j) q there same)) at has

-- The device

pub fill_at : (blocks : List BlockCounts) (b : ℕ) → get_or (fills_of blocks) b 0 ≡ (counts_at blocks b).filled
fill_at blocks b = read-map (λ (c : BlockCounts). c.filled) blocks b no_counts

erase_at : (blocks : List BlockCounts) (b : ℕ) → get_or (erases_of blocks) b 0 ≡ (counts_at blocks b).erases
erase_at blocks b = read-map (λ (c : BlockCounts). c.erases) blocks b no_counts

pub fills_within : (plan : DiePlan) (die : SavedDie) → Fits plan (checkpoint_of die) → (b : ℕ) → get_or (fills_of die.blocks) b 0 ≤ plan.shape.pages
fills_within plan die fits b = omega (arith, fill_at die.blocks b, fits.all_else.blocks.within b)

pub fills_len : (plan : DiePlan) (die : SavedDie) → Fits plan (checkpoint_of die) → length (fills_of die.blocks) ≡ plan.shape.blocks
fills_len plan die fits = length-map die.blocks (λ (c : BlockCounts). c.filled) ∙ fits.all_else.blocks.plan_is.shape.blocks

pub erases_len : (plan : DiePlan) (die : SavedDie) → Fits plan (checkpoint_of die) → length (erases_of die.blocks) ≡ plan.shape.blocks
erases_len plan die fits = length-map die.blocks (λ (c : BlockCounts). c.erases) ∙ fits.all_else.blocks.plan_is.shape.blocks

lies_at : (plan : DiePlan) (die : SavedDie) → Fits plan (checkpoint_of die) → (i : ℕ) (p : Place) → get_or (places_of die.pages) i None ≡ Some p
    → cell_index plan.shape p < plan.shape.blocks * plan.shape.pages
lies_at plan die fits i p at = in_table plan.shape p (in_cells plan (checkpoint_of die) fits.all_else i p at)

if_lies : (place : Option Place) (P : Place → Type 0) → ((p : Place) → place ≡ Some p → P p) → IfSome place P
if_lies None P has = tt
if_lies (Some p) P has = has p refl

pub all_lie : (plan : DiePlan) (die : SavedDie) → Fits plan (checkpoint_of die)
    → All (LiesBelow plan.shape (plan.shape.blocks * plan.shape.pages)) die.pages
all_lie plan die fits =
    All-from_get_or (LiesBelow plan.shape (plan.shape.blocks * plan.shape.pages)) die.pages no_page (λ i below.
    if_lies (get_or die.pages i no_page).place (λ p. cell_index plan.shape p < plan.shape.blocks * plan.shape.pages) (λ p at.
    lies_at plan die fits i p (read-map (λ (page : SavedPage). page.place) die.pages i no_page ∙ at)))

all_length : (shape : Shape) (cells : List PageData) (pages : List SavedPage) → length (cells_with_all shape cells pages) ≡ length cells
all_length shape cells [] = refl
all_length shape cells (page ∷ pages) =
    all_length shape (cells_with shape cells page.place page.bytes) pages ∙ with_length shape cells page.place page.bytes

pub cells_length : (shape : Shape) (die : SavedDie) → length (saved_cells shape die) ≡ shape.blocks * shape.pages
cells_length shape die =
    all_length shape (replicate (shape.blocks * shape.pages) blank) die.pages ∙ length-replicate (shape.blocks * shape.pages) blank

pub device_so : (plan : DiePlan) (die : SavedDie) → Fits plan (checkpoint_of die)
    → AreLeftSo plan.shape (saved_cells plan.shape die) (fills_of die.blocks) (erases_of die.blocks) (saved_device plan.shape die).blocks
device_so plan die fits =
    left_so plan.shape (saved_cells plan.shape die) (fills_of die.blocks) (erases_of die.blocks) (omega (arith, cells_length plan.shape die))
    (fills_len plan die fits) (fills_within plan die fits)

same_counts : (one other : BlockCounts) → one.filled ≡ other.filled → one.erases ≡ other.erases → one ≡ other
same_counts one other f e =
    ap (λ (n : ℕ). record { filled = n; erases = one.erases }) f ∙ ap (λ (n : ℕ). record { filled = other.filled; erases = n }) e

pub device_left : (plan : DiePlan) (die : SavedDie) → Fits plan (checkpoint_of die)
    → IsAsLeft (checkpoint_of die) (saved_device plan.shape die).blocks 0
device_left plan die fits =
    let so = device_so plan die fits in
    let blocks : List Block = (saved_device plan.shape die).blocks in
    let count : length blocks ≡ length die.blocks = so.count ∙ length-map die.blocks (λ (c : BlockCounts). c.filled) in
    record {
      counts = ext_get_or no_counts (map counts_of blocks) die.blocks (length-map blocks counts_of ∙ count) (λ i below.
          let here : i < length blocks = omega (arith, below, length-map blocks counts_of) in
          let in_fills : i < length (fills_of die.blocks) = omega (arith, here, so.count) in
          get_or-map counts_of blocks i free_block no_counts here
          ∙ same_counts (counts_of (block_at blocks i)) (counts_at die.blocks i) (so.counts i in_fills ∙ fill_at die.blocks i)
          (so.worn i in_fills ∙ erase_at die.blocks i));
      idle = so.idle;
      well = refl;
    }

content_held : (blocks : List Block) (o : Option Place) (bytes : Option PageData) → (bytes ≡ None → o ≡ None)
    → ((p : Place) (b : PageData) → o ≡ Some p → bytes ≡ Some b → cell_at blocks p ≡ b) → content_at blocks o ≡ held_in o bytes
content_held blocks None bytes has own = refl
content_held blocks (Some p) (Some b) has own = own p b refl refl
content_held blocks (Some p) None has own = absurd (some_is_none p (has refl))
  where
    some_is_none : (p : Place) → Some p ≡ None → ⊥
    some_is_none p same = grind arith

pub device_holds : (plan : DiePlan) (die : SavedDie) → Fits plan (checkpoint_of die) → HaveBytes die.pages
    → contents (saved_device plan.shape die).blocks (checkpoint_of die).places ≡ map held_by die.pages
device_holds plan die fits has =
    let so = device_so plan die fits in
    let blocks : List Block = (saved_device plan.shape die).blocks in
    let places : List (Option Place) = places_of die.pages in
    let place_at : (i : ℕ) → get_or places i None ≡ (get_or die.pages i no_page).place =
    λ i. read-map (λ (page : SavedPage). page.place) die.pages i no_page in
    let bytes_at : (i : ℕ) → get_or (bytes_of die.pages) i None ≡ (get_or die.pages i no_page).bytes =
    λ i. read-map (λ (page : SavedPage). page.bytes) die.pages i no_page in
    let len : length places ≡ length die.pages = length-map die.pages (λ (page : SavedPage). page.place) in
    let own : (i : ℕ) (p : Place) (b : PageData) → get_or places i None ≡ Some p → get_or (bytes_of die.pages) i None ≡ Some b
    → cell_at blocks p ≡ b = λ i p b at kept.
    let lies = in_cells plan (checkpoint_of die) fits.all_else i p at in
    let filled = fits.all_else.placed i p at in
    so.cells_are p (omega (arith, lies.block, fills_len plan die fits)) (omega (arith, filled, fill_at die.blocks p.block))
    ∙ all_own plan.shape (replicate (plan.shape.blocks * plan.shape.pages) blank) die.pages i p b
    (λ j q there. omega (arith, lies_at plan die fits j q there, length-replicate (plan.shape.blocks * plan.shape.pages) blank))
    (λ j q there same.
    let one : p ≡ q = same_cell plan.shape p q lies (in_cells plan (checkpoint_of die) fits.all_else j q there) same in
    fits.apart.apart j i p (there ∙ ap (λ (r : Place). Some r) (sym one)) at) at kept in
    ext_get_or blank (map (content_at blocks) places) (map held_by die.pages)
    (length-map places (content_at blocks) ∙ len ∙ sym (length-map die.pages held_by)) (λ i below.
    let in_places : i < length places = omega (arith, below, length-map places (content_at blocks)) in
    let here : i < length die.pages = omega (arith, in_places, len) in
    let page : SavedPage = get_or die.pages i no_page in
    get_or-map (content_at blocks) places i None blank in_places
    ∙ ap (content_at blocks) (place_at i)
    ∙ content_held blocks page.place page.bytes (has i)
    (λ p b is_p is_b. own i p b (place_at i ∙ is_p) (bytes_at i ∙ is_b))
    ∙ sym (get_or-map held_by die.pages i no_page blank here))

-- what holds of a device that was made holds of the answer
pub if_made : (result : Result Memory Refusal) (made : Memory) (P : Memory → Type 0) → IfOk result (λ device. device ≡ made) → P made
    → IfOk result P
if_made (Ok device) made P is has = subst P (sym is) has
if_made (Err refusal) made P is has = tt
