-- What a mount leaves that erases a block, and closes the others, can be recovered; and so can what is seen where the
-- power goes in that erase.
use Rattle.std.proofs.Common.{◌≡◌, ◌≢◌, ◌⊎◌, ℕ, zero, suc, ◌<◌, ◌≤◌, ◌==◌, not, Bool, true, false, cond, List, []}
use Rattle.std.proofs.Common.{length, Option, Some, None}
use Rattle.std.proofs.Common.{refl, ap, sym, ◌∙◌, subst, inl, inr, arith, get_or}
use Rattle.std.proofs.lemmas.Bool.{cases_eq, cases_lt, eqb-true, eq-eqb, ne_eqb}
use Rattle.std.proofs.lemmas.List.{get_or_past, get_or-set_same, length-set}
use Rattle.std.proofs.lemmas.List.FromFn.{length-map-range_with_len, get_or-map-range_with_len}
use Rattle.std.proofs.lemmas.Option.{same_Some, none-some, get_or_from_slice_get}
use Rattle.slot_types.specs.Places.{is_in, place_of}
use Rattle.slot_types.specs.declared.plans.DiePlan.{DiePlan}
use Rattle.slot_types.specs.declared.pages.PageData.{PageData}
use Rattle.slot_types.specs.declared.pages.Place.{Place}
use Rattle.die_log.specs.Model.Flash.{Cells, Block, free_block, block_at, valid}
use Rattle.die_log.specs.Model.Start.{blank_page}
use Rattle.die_log.specs.Invariants.SoundCells.{AreSoundCells, IsOpen}
use Rattle.die_log.proofs.Cells.Steps.{within_blocks}
use Rattle.die_log.proofs.Supply.Closing.{found}
use Rattle.power_loss.specs.Labels.{Label, Shown, FitPlan, labels_in, label_at, IsNewest}
use Rattle.power_loss.specs.Mounted.{mounted_place, mounted_content, mounted_contents, bytes_at}
use Rattle.power_loss.specs.Recovery.{HasUnplaced, IsFreeBlock, IsRecoverable, remounted_block, remounted_cells}
use Rattle.power_loss.specs.Recovery.{remounted_labels, IsAbove, AreIdle}
use Rattle.power_loss.specs.Recovery.{FindsNoneIn, IsNewestBlock, without_block, MayErase, CanUndo, IsMountable}
use Rattle.power_loss.specs.Recovery.{MaySeeInErase}
use Rattle.power_loss.proofs.TwoMounts.{IsLess, all_found, bytes_found, content_at, contents_long, less_fit, less_newest}
use Rattle.power_loss.proofs.TwoMounts.{place_at, place_found, places_long, same_pages, same_place}
use Rattle.power_loss.proofs.Mounting.{found_newest, mounted_newest, mounted_none, none_found}
use Rattle.power_loss.proofs.Steps.{cleared_cases, cleared_stays}

-- Blocks with placed pages

abbrev pub HasPages : Cells → ℕ → Type 0
HasPages c b = valid c b ≡ 0 → ⊥

lies_in : (b : ℕ) (o : Option Place) → is_in b o ≡ true → (q : Place) × (o ≡ Some q) × (q.block ≡ b)
lies_in b None h = absurd cc
lies_in b (Some q) h = (q, refl, eqb-true q.block b h)

-- a page that is placed in it
pub placed_in : (c : Cells) (b : ℕ) → HasPages c b → (page : ℕ) × (q : Place) × (place_of c.places page ≡ Some q) × (q.block ≡ b)
placed_in c b has =
    let f = found (is_in b) c.places (positive (valid c b) has) in
    let q = lies_in b f.1 f.3 in
    (f.0, q.0, get_or_from_slice_get c.places f.0 f.1 None f.2 ∙ q.1, q.2)
  where
    positive : (n : ℕ) → (n ≡ 0 → ⊥) → 1 ≤ n
    positive zero h = absurd (h refl)
    positive (suc n) h = omega arith

-- What is left

less_left : (erased : ℕ) (seen : Shown) → erased < length seen → IsLess (without_block erased seen) seen
less_left erased seen lt q x e = (cleared_cases seen erased lt q x e).1

-- Cells

-- a block by whether it is the one that is erased
abbrev by_use : DiePlan → (ℕ → ℕ) → ℕ → Bool → Block
by_use plan erases b true = record { filled = 0; erasing = 0; erases = erases b }
by_use plan erases b false = record { filled = plan.shape.pages; erasing = 0; erases = erases b }

by_cond : (plan : DiePlan) (erases : ℕ → ℕ) (b : ℕ) (t : Bool)
    → cond t (record { filled = 0; erasing = 0; erases = erases b }) (record { filled = plan.shape.pages; erasing = 0; erases = erases b })
    ≡ by_use plan erases b t
by_cond plan erases b true = refl
by_cond plan erases b false = refl

at_block : (plan : DiePlan) (from : ℕ → ℕ) (erased : ℕ) (erases : ℕ → ℕ) (seen : Shown) (b : ℕ) → b < plan.shape.blocks
    → block_at (remounted_cells plan from erased erases seen) b ≡ by_use plan erases b (b == erased)
at_block plan from erased erases seen b lt =
    get_or-map-range_with_len (remounted_block plan erased erases) 0 plan.shape.blocks b b free_block lt (omega arith)
    ∙ by_cond plan erases b (b == erased)

long : (plan : DiePlan) (from : ℕ → ℕ) (erased : ℕ) (erases : ℕ → ℕ) (seen : Shown)
    → length (remounted_cells plan from erased erases seen).blocks ≡ plan.shape.blocks
long plan from erased erases seen = length-map-range_with_len (remounted_block plan erased erases) 0 plan.shape.blocks

at_past : (plan : DiePlan) (from : ℕ → ℕ) (erased : ℕ) (erases : ℕ → ℕ) (seen : Shown) (b : ℕ) → plan.shape.blocks ≤ b
    → block_at (remounted_cells plan from erased erases seen) b ≡ free_block
at_past plan from erased erases seen b past =
    get_or_past (remounted_cells plan from erased erases seen).blocks b free_block (omega (arith, long plan from erased erases seen))

-- wholly free, or closed
abbrev IsRemade : DiePlan → Block → Type 0
IsRemade plan s = (s.erasing ≡ 0) × ((s.filled ≡ 0) ⊎ (s.filled ≡ plan.shape.pages))

remade : (plan : DiePlan) (from : ℕ → ℕ) (erased : ℕ) (erases : ℕ → ℕ) (seen : Shown) (b : ℕ)
    → IsRemade plan (block_at (remounted_cells plan from erased erases seen) b)
remade plan from erased erases seen b = by_case (cases_lt b plan.shape.blocks)
  where
    by_test : (t : Bool) → IsRemade plan (by_use plan erases b t)
    by_test true = (refl, inl refl)
    by_test false = (refl, inr refl)

    by_case : (b < plan.shape.blocks) ⊎ (plan.shape.blocks ≤ b) → IsRemade plan (block_at (remounted_cells plan from erased erases seen) b)
    by_case (inl lt) = subst (IsRemade plan) (sym (at_block plan from erased erases seen b lt)) (by_test (b == erased))
    by_case (inr past) = subst (IsRemade plan) (sym (at_past plan from erased erases seen b past)) (refl, inl refl)

pub remounted_idle : (plan : DiePlan) (from : ℕ → ℕ) (erased : ℕ) (erases : ℕ → ℕ) (seen : Shown)
    → AreIdle (remounted_cells plan from erased erases seen)
remounted_idle plan from erased erases seen b = (remade plan from erased erases seen b).0

closed_at : (plan : DiePlan) (from : ℕ → ℕ) (erased : ℕ) (erases : ℕ → ℕ) (seen : Shown) (b : ℕ) → b < plan.shape.blocks → b ≢ erased
    → (block_at (remounted_cells plan from erased erases seen) b).filled ≡ plan.shape.pages
closed_at plan from erased erases seen b lt other =
    ap (λ (s : Block). s.filled) (at_block plan from erased erases seen b lt)
    ∙ ap (λ t. (by_use plan erases b t).filled) (ne_eqb b erased other)

no_open : (plan : DiePlan) (from : ℕ → ℕ) (erased : ℕ) (erases : ℕ → ℕ) (seen : Shown) (b : ℕ)
    → IsOpen plan (remounted_cells plan from erased erases seen) b → ⊥
no_open plan from erased erases seen b h = by_case (remade plan from erased erases seen b).1
  where
    by_case : ((block_at (remounted_cells plan from erased erases seen) b).filled ≡ 0)
        ⊎ ((block_at (remounted_cells plan from erased erases seen) b).filled ≡ plan.shape.pages) → ⊥
    by_case (inl e) = omega (arith, h.0)
    by_case (inr e) = omega (arith, h.1, e)

pub placed_within : (plan : DiePlan) (c : Cells) (page : ℕ) (q : Place) → AreSoundCells plan c → place_of c.places page ≡ Some q
    → q.block < length c.blocks
placed_within plan c page q s e = within_blocks plan c q.block (omega (arith, s.placed page q e)) (cases_lt q.block (length c.blocks))

-- a label that is seen is in one of the blocks
within_seen : (seen : Shown) (q : Place) (x : Label) → label_at seen q ≡ Some x → q.block < length seen
within_seen seen q x e = by_case (cases_lt q.block (length seen))
  where
    by_case : (q.block < length seen) ⊎ (length seen ≤ q.block) → q.block < length seen
    by_case (inl lt) = lt
    by_case (inr past) =
        absurd (none-some x (sym (ap (λ (xs : List (Option Label)). get_or xs q.page None) (get_or_past seen q.block [] past)) ∙ e))

-- What stands then

-- a page that is placed, and its label
record IsFoundAt (plan : DiePlan) (from : ℕ → ℕ) (erased : ℕ) (seen : Shown) (page : ℕ) (q : Place) : Type 0 where
  newest : IsNewest (without_block erased seen) page q
  counts : from page ≤ newest.label.serial
  other : q.block ≢ erased
  stands : q.block < plan.shape.blocks
  cell : q.page < plan.shape.pages

found_at : (plan : DiePlan) (from : ℕ → ℕ) (erased : ℕ) (erases : ℕ → ℕ) (seen : Shown) → length seen ≡ plan.shape.blocks → erased < length seen
    → FitPlan plan seen → (page : ℕ) (q : Place) → place_of (remounted_cells plan from erased erases seen).places page ≡ Some q
    → IsFoundAt plan from erased seen page q
found_at plan from erased erases seen blocks lt fit page q e =
    let less = less_left erased seen lt in
    let own = less_fit plan seen (without_block erased seen) less fit in
    let n = found_newest plan (from page) page (without_block erased seen) q own (place_found from plan.logical (without_block erased seen) page q e).1 in
    let there = cleared_cases seen erased lt q n.0.label n.0.stands in
    record {
      newest = n.0;
      counts = n.1;
      other = there.0;
      stands = omega (arith, within_seen seen q n.0.label there.1, blocks);
      cell = fit.cells q n.0.label there.1;
    }

remounted_sound : (plan : DiePlan) (from : ℕ → ℕ) (erased : ℕ) (erases : ℕ → ℕ) (seen : Shown) → length seen ≡ plan.shape.blocks
    → erased < length seen → FitPlan plan seen → AreSoundCells plan (remounted_cells plan from erased erases seen)
remounted_sound plan from erased erases seen blocks lt fit = record {
  blocks = long plan from erased erases seen;
  places = places_long from plan.logical (without_block erased seen);
  within = λ b. within_by b (remade plan from erased erases seen b).1;
  placed = λ page q e.
      let k = found_at plan from erased erases seen blocks lt fit page q e in
      omega (arith, k.cell, closed_at plan from erased erases seen q.block k.stands k.other);
  apart = λ page o q r e f same cells.
      let k = found_at plan from erased erases seen blocks lt fit page q e in
      let n = found_at plan from erased erases seen blocks lt fit o r f in
      apart_by page o q r same cells k.newest n.newest;
  one_open = λ a b h k. absurd (no_open plan from erased erases seen a h);
  erasing = λ b h. absurd (omega (arith, remounted_idle plan from erased erases seen b));
}
  where
    within_by : (b : ℕ) → ((block_at (remounted_cells plan from erased erases seen) b).filled ≡ 0)
        ⊎ ((block_at (remounted_cells plan from erased erases seen) b).filled ≡ plan.shape.pages)
        → (block_at (remounted_cells plan from erased erases seen) b).filled ≤ plan.shape.pages
    within_by b (inl e) = omega arith
    within_by b (inr e) = omega (arith, e)

    apart_by : (page o : ℕ) (q r : Place) → q.block ≡ r.block → q.page ≡ r.page → IsNewest (without_block erased seen) page q
        → IsNewest (without_block erased seen) o r → page ≡ o
    apart_by page o q r same cells n m =
        let label : n.label ≡ m.label = same_Some n.label m.label (sym n.stands
        ∙ (ap (λ b. get_or (labels_in (without_block erased seen) b) q.page None) same
        ∙ (ap (λ k. get_or (labels_in (without_block erased seen) r.block) k None) cells ∙ m.stands))) in
        sym n.own ∙ (ap (λ (x : Label). x.page) label ∙ m.own)

left_filled : (plan : DiePlan) (from : ℕ → ℕ) (erased : ℕ) (erases : ℕ → ℕ) (seen : Shown) (b : ℕ) → length seen ≡ plan.shape.blocks
    → erased < length seen → (block_at (remounted_cells plan from erased erases seen) b).filled < plan.shape.pages
    → length (labels_in (without_block erased seen) b) ≡ (block_at (remounted_cells plan from erased erases seen) b).filled
left_filled plan from erased erases seen b blocks lt room = by_case (cases_lt b plan.shape.blocks) (cases_eq b erased)
  where
    d : Cells
    d = remounted_cells plan from erased erases seen

    by_case : (b < plan.shape.blocks) ⊎ (plan.shape.blocks ≤ b) → (b ≡ erased) ⊎ (b ≡ erased → ⊥)
        → length (labels_in (without_block erased seen) b) ≡ (block_at (remounted_cells plan from erased erases seen) b).filled
    by_case (inl stands) (inl is) =
        ap (λ (xs : List (Option Label)). length xs) (ap (labels_in (without_block erased seen)) is ∙ get_or-set_same seen erased [] [] lt)
        ∙ sym (ap (λ (t : Block). t.filled) (at_block plan from erased erases seen b stands)
        ∙ ap (λ t. (by_use plan erases b t).filled) (eq-eqb b erased is))
    by_case (inl stands) (inr other) = absurd (omega (arith, room, closed_at plan from erased erases seen b stands other))
    by_case (inr past) any =
        ap (λ (xs : List (Option Label)). length xs)
        (get_or_past (without_block erased seen) b [] (omega (arith, past, blocks, length-set {A = List (Option Label)} seen erased [])))
        ∙ sym (ap (λ (t : Block). t.filled) (at_past plan from erased erases seen b past))

-- the labels that are left are a state, in which just these pages are found
remounted_is : (plan : DiePlan) (from : ℕ → ℕ) (erased : ℕ) (erases : ℕ → ℕ) (seen : Shown) (next : ℕ) (pages : List PageData)
    → length seen ≡ plan.shape.blocks → erased < length seen → FitPlan plan seen → IsAbove seen from next
    → mounted_contents from plan.logical (without_block erased seen) ≡ pages
    → IsRecoverable plan (remounted_cells plan from erased erases seen) pages (remounted_labels erased seen next) from
remounted_is plan from erased erases seen next pages blocks lt fit above found = record {
  sound = remounted_sound plan from erased erases seen blocks lt fit;
  labelled = record {
    fit = less_fit plan seen kept less fit;
    blocks = length-set {A = List (Option Label)} seen erased [] ∙ (blocks ∙ sym (long plan from erased erases seen));
    filled = λ b room. left_filled plan from erased erases seen b blocks lt room;
    below = λ q x e. above.labels q x (less q x e);
    newest = λ page q e. (found_at plan from erased erases seen blocks lt fit page q e).newest;
  };
  bytes = λ page q x e f.
      let p = place_found from plan.logical kept page q e in
      sym (bytes_found kept q x f) ∙ (ap (bytes_at kept) (sym p.1) ∙ (sym (content_at from plan.logical kept page p.0)
      ∙ ap (λ (ps : List PageData). get_or ps page blank_page) found));
  counts = record {
    placed = λ page q x e f.
        let k = found_at plan from erased erases seen blocks lt fit page q e in
        subst (λ (y : Label). from page ≤ y.serial) (same_Some k.newest.label x (sym k.newest.stands ∙ f)) k.counts;
    unplaced = λ page none q x f own.
        let within : page < plan.logical = omega (arith, own, fit.pages q x (less q x f)) in
        none_found (from page) page kept (sym (place_at from plan.logical kept page within) ∙ none) q x f own;
  };
  below = above.counts;
  contents = ap (λ (ps : List PageData). length ps) (sym found) ∙ contents_long from plan.logical kept;
  blank = λ page none. ap (λ (ps : List PageData). get_or ps page blank_page) (sym found) ∙ blank_by page none (cases_lt page plan.logical);
}
  where
    kept : Shown
    kept = without_block erased seen

    less : IsLess (without_block erased seen) seen
    less = less_left erased seen lt

    blank_by : (page : ℕ) → place_of (remounted_cells plan from erased erases seen).places page ≡ None
        → (page < plan.logical) ⊎ (plan.logical ≤ page) → get_or (mounted_contents from plan.logical (without_block erased seen)) page blank_page ≡ blank_page
    blank_by page none (inl within) =
        content_at from plan.logical (without_block erased seen) page within
        ∙ ap (bytes_at (without_block erased seen)) (sym (place_at from plan.logical (without_block erased seen) page within) ∙ none)
    blank_by page none (inr past) =
        get_or_past (mounted_contents from plan.logical (without_block erased seen)) page blank_page
        (omega (arith, past, contents_long from plan.logical (without_block erased seen)))

-- A block that may be erased first

pub erased_within : (plan : DiePlan) (pages : List PageData) (from : ℕ → ℕ) (seen : Shown) (erased : ℕ) → IsMountable plan pages from seen
    → MayErase plan from seen erased → erased < length seen
erased_within plan pages from seen erased h (inl may) = omega (arith, may.0, h.blocks)
erased_within plan pages from seen erased h (inr may) =
    let n = may.1 in subst (λ b. b < length seen) n.own (within_seen seen n.place n.label n.stands)

-- where each block shows a page, the newest one is that which may be undone
undone_is : (plan : DiePlan) (pages : List PageData) (from : ℕ → ℕ) (seen : Shown) (erased o : ℕ) → FitPlan plan seen
    → ((a : ℕ) → a < plan.shape.blocks → FindsNoneIn plan from seen a → ⊥) → IsNewestBlock seen erased → CanUndo plan pages from seen o
    → o ≡ erased
undone_is plan pages from seen erased o fit each n u = by_case (cases_eq o erased)
  where
    none_in : (o ≡ erased → ⊥) → FindsNoneIn plan from seen o
    none_in other page lt q e is =
        let m = (found_newest plan (from page) page seen q fit e).0 in
        let older : m.label.serial < n.label.serial = n.newest q m.label m.stands (λ same. other (sym is ∙ same)) in
        omega (arith, older, u.newer q n.place m.label n.label m.stands n.stands is (λ same. other (sym same ∙ n.own)))

    by_case : (o ≡ erased) ⊎ (o ≡ erased → ⊥) → o ≡ erased
    by_case (inl is) = is
    by_case (inr other) = absurd (each o u.stands (none_in other))

can_undo : (plan : DiePlan) (pages : List PageData) (from : ℕ → ℕ) (seen : Shown) (erased : ℕ) → FitPlan plan seen
    → ((b : ℕ) × (b < plan.shape.blocks) × FindsNoneIn plan from seen b) ⊎ ((b : ℕ) × CanUndo plan pages from seen b)
    → ((a : ℕ) → a < plan.shape.blocks → FindsNoneIn plan from seen a → ⊥) → IsNewestBlock seen erased → CanUndo plan pages from seen erased
can_undo plan pages from seen erased fit (inl free) each n = absurd (each free.0 free.1 free.2)
can_undo plan pages from seen erased fit (inr u) each n =
    subst (CanUndo plan pages from seen) (undone_is plan pages from seen erased u.0 fit each n u.1) u.1

-- without the block each page is found as with it
left_found : (plan : DiePlan) (pages : List PageData) (from : ℕ → ℕ) (seen : Shown) (erased : ℕ) → IsMountable plan pages from seen
    → MayErase plan from seen erased → mounted_contents from plan.logical (without_block erased seen) ≡ pages
left_found plan pages from seen erased h (inr may) = (can_undo plan pages from seen erased h.fit h.room may.0 may.1).others
left_found plan pages from seen erased h (inl may) =
    same_pages plan from seen (without_block erased seen) pages h.fit (less_left erased seen (omega (arith, may.0, h.blocks)))
    (λ page q x e f. cleared_stays seen erased q x (may.1 page (within page q x e f) q e) f) h.found
  where
    within : (page : ℕ) (q : Place) (x : Label) → mounted_place (from page) page seen ≡ Some q → label_at seen q ≡ Some x → page < plan.logical
    within page q x e f =
        let n = (found_newest plan (from page) page seen q h.fit e).0 in
        omega (arith, h.fit.pages q n.label n.stands, n.own)

pub remounts : (plan : DiePlan) (pages : List PageData) (from : ℕ → ℕ) (seen : Shown) → IsMountable plan pages from seen → (erased : ℕ)
    → MayErase plan from seen erased → (erases : ℕ → ℕ) (next : ℕ) → IsAbove seen from next
    → IsRecoverable plan (remounted_cells plan from erased erases seen) pages (remounted_labels erased seen next) from
remounts plan pages from seen h erased may erases next above =
    remounted_is plan from erased erases seen next pages h.blocks (erased_within plan pages from seen erased h may) h.fit above
    (left_found plan pages from seen erased h may)

-- Where the power goes in the erase of that block

still_whole : (seen later : Shown) (erased : ℕ) → MaySeeInErase erased seen later → (q : Place) → q.block ≢ erased → label_at later q ≡ label_at seen q
still_whole seen later erased w q other = w.whole q (ap not (ne_eqb q.block erased other))

-- the block that is undone shows fewer copies
undone_found : (plan : DiePlan) (pages : List PageData) (from : ℕ → ℕ) (seen later : Shown) (o : ℕ) → length pages ≡ plan.logical → FitPlan plan seen
    → o < length seen → CanUndo plan pages from seen o → MaySeeInErase o seen later → mounted_contents from plan.logical later ≡ pages
undone_found plan pages from seen later o long fit lt u w =
    all_found from plan.logical later pages long (λ page within. by_place page within (mounted_place (from page) page later) refl)
  where
    kept : Shown
    kept = without_block o seen

    kept_fit : FitPlan plan (without_block o seen)
    kept_fit = less_fit plan seen (without_block o seen) (less_left o seen lt) fit

    -- what is left without it is shown still
    less : IsLess (without_block o seen) later
    less q x e = let k = cleared_cases seen o lt q x e in still_whole seen later o w q k.0 ∙ k.1

    kept_at : (page : ℕ) → page < plan.logical → mounted_content (from page) page (without_block o seen) ≡ get_or pages page blank_page
    kept_at page within = sym (content_at from plan.logical (without_block o seen) page within)
        ∙ ap (λ (ps : List PageData). get_or ps page blank_page) u.others

    by_block : (page : ℕ) → page < plan.logical → (q : Place) → (n : IsNewest later page q) → from page ≤ n.label.serial
        → (q.block ≡ o) ⊎ (q.block ≡ o → ⊥) → n.label.bytes ≡ get_or pages page blank_page
    by_block page within q n counts (inl is) =
        u.copies q n.label (w.remains q n.label n.stands) is ∙ ap (λ p. get_or pages p blank_page) n.own
    by_block page within q n counts (inr other) =
        let stands : label_at (without_block o seen) q ≡ Some n.label = cleared_stays seen o q n.label other (w.remains q n.label n.stands) in
        let place = mounted_newest (from page) page (without_block o seen) q (less_newest later (without_block o seen) page q less n stands) counts in
        sym (bytes_found (without_block o seen) q n.label stands) ∙ (ap (bytes_at (without_block o seen)) (sym place) ∙ kept_at page within)

    by_place : (page : ℕ) → page < plan.logical → (p : Option Place) → mounted_place (from page) page later ≡ p
        → mounted_content (from page) page later ≡ get_or pages page blank_page
    by_place page within None e =
        let none = mounted_none (from page) page (without_block o seen) (λ q x f own. none_found (from page) page later e q x (less q x f) own) in
        ap (bytes_at later) e ∙ (sym (ap (bytes_at (without_block o seen)) none) ∙ kept_at page within)
    by_place page within (Some q) e =
        let n = found_newest plan (from page) page later q (less_fit plan seen later w.remains fit) e in
        ap (bytes_at later) e ∙ (bytes_found later q n.0.label n.0.stands ∙ by_block page within q n.0 n.1 (cases_eq q.block o))

undone_still : (plan : DiePlan) (pages : List PageData) (from : ℕ → ℕ) (seen later : Shown) (o : ℕ) → FitPlan plan seen → o < length seen
    → CanUndo plan pages from seen o → MaySeeInErase o seen later → CanUndo plan pages from later o
undone_still plan pages from seen later o fit lt u w = record {
  stands = u.stands;
  newer = λ q r x y e f own other. u.newer q r x y (w.remains q x e) (w.remains r y f) own other;
  copies = λ q x e own. u.copies q x (w.remains q x e) own;
  others = same_pages plan from (without_block o seen) (without_block o later) pages
      (less_fit plan seen (without_block o seen) (less_left o seen lt) fit) less (λ page q x e f. stays q x f) u.others;
}
  where
    within : o < length later
    within = omega (arith, lt, w.long)

    less : IsLess (without_block o later) (without_block o seen)
    less q x e = let k = cleared_cases later o within q x e in cleared_stays seen o q x k.0 (w.remains q x k.1)

    stays : (q : Place) (x : Label) → label_at (without_block o seen) q ≡ Some x → label_at (without_block o later) q ≡ Some x
    stays q x e = let k = cleared_cases seen o lt q x e in cleared_stays later o q x k.0 (still_whole seen later o w q k.0 ∙ k.1)

pub cut_in_erase : (plan : DiePlan) (pages : List PageData) (from : ℕ → ℕ) (seen : Shown) → IsMountable plan pages from seen → (erased : ℕ)
    → MayErase plan from seen erased → (later : Shown) → MaySeeInErase erased seen later → IsMountable plan pages from later
cut_in_erase plan pages from seen h erased (inr may) later w =
    let u = can_undo plan pages from seen erased h.fit h.room may.0 may.1 in
    let lt = erased_within plan pages from seen erased h (inr may) in record {
      blocks = w.long ∙ h.blocks;
      fit = less_fit plan seen later w.remains h.fit;
      found = undone_found plan pages from seen later erased
          (ap (λ (ps : List PageData). length ps) (sym h.found) ∙ contents_long from plan.logical seen) h.fit lt u w;
      room = inr (erased, undone_still plan pages from seen later erased h.fit lt u w);
    }
cut_in_erase plan pages from seen h erased (inl may) later w = record {
  blocks = w.long ∙ h.blocks;
  fit = less_fit plan seen later w.remains h.fit;
  found = same_pages plan from seen later pages h.fit w.remains stays h.found;
  room = inl (
    erased,
    may.0,
    λ page lt q e. may.1 page lt q (sym (same_place plan (from page) page seen later h.fit w.remains (stays page)) ∙ e),
  );
}
  where
    stays : (page : ℕ) (q : Place) (x : Label) → mounted_place (from page) page seen ≡ Some q → label_at seen q ≡ Some x → label_at later q ≡ Some x
    stays page q x e f =
        let n = (found_newest plan (from page) page seen q h.fit e).0 in
        let lt : page < plan.logical = omega (arith, h.fit.pages q n.label n.stands, n.own) in
        still_whole seen later erased w q (may.1 page lt q e) ∙ f

-- A free block

unfilled_none : (plan : DiePlan) (c : Cells) (b : ℕ) → AreSoundCells plan c → (block_at c b).filled ≡ 0 → (valid c b ≡ 0) ⊎ (valid c b ≡ 0 → ⊥)
    → valid c b ≡ 0
unfilled_none plan c b s none (inl e) = e
unfilled_none plan c b s none (inr has) =
    let p = placed_in c b has in
    absurd (omega (arith, s.placed p.0 p.1 p.2, ap (λ (x : ℕ). (block_at c x).filled) p.3))

-- the block that is erased is wholly free then
pub free_remounted : (plan : DiePlan) (from : ℕ → ℕ) (erased : ℕ) (erases : ℕ → ℕ) (seen : Shown) → erased < plan.shape.blocks
    → IsFreeBlock (remounted_cells plan from erased erases seen) erased
free_remounted plan from erased erases seen lt =
    let is : block_at (remounted_cells plan from erased erases seen) erased ≡ by_use plan erases erased true =
    at_block plan from erased erases seen erased lt ∙ ap (by_use plan erases erased) (eq-eqb erased erased refl) in record {
      stands = omega (arith, lt, long plan from erased erases seen);
      unfilled = ap (λ (s : Block). s.filled) is;
      idle = ap (λ (s : Block). s.erasing) is;
    }

-- as a wholly free one is
pub free_unplaced : (plan : DiePlan) (c : Cells) (b : ℕ) → AreSoundCells plan c → b < length c.blocks → (block_at c b).filled ≡ 0 → HasUnplaced c
free_unplaced plan c b s lt none = record { b = b; stands = lt; none = unfilled_none plan c b s none (cases_eq (valid c b) 0) }
