-- A die's cells and labels stand on the part with other numbers, and those of the part on the die.
use Rattle.std.proofs.Common.{◌≡◌, ◌≢◌, ◌⊎◌, ℕ, ◌+◌, ◌<◌, ◌≤◌, List, [], ◌∷◌, length, Option, None, refl, ap, sym, ◌∙◌}
use Rattle.std.proofs.Common.{inl, inr, arith}
use Rattle.std.proofs.Common.{get_or, Some}
use Rattle.std.specs.Prelude.{option_map, sum_by}
use Rattle.std.proofs.lemmas.Option.{none-some}
use Rattle.std.proofs.Math.ListN.{get_or-map}
use Rattle.std.proofs.lemmas.Bool.{cases_eq, cases_lt}
use Rattle.std.proofs.lemmas.List.{length-map, get_or_past}
use Rattle.slot_types.specs.Places.{place_of}
use Rattle.slot_types.specs.declared.plans.DiePlan.{DiePlan}
use Rattle.slot_types.specs.declared.pages.PageData.{PageData}
use Rattle.slot_types.specs.declared.pages.Place.{Place}
use Rattle.die_log.specs.Model.Flash.{Block, Cells, block_at, free_block, free_in}
use Rattle.die_log.specs.Invariants.SoundCells.{AreSoundCells}
use Rattle.die_log.proofs.Cells.FreePages.{free_idle}
use Rattle.power_loss.specs.Aside.{on_die, on_part, renumbered, renumbered_places, without_aside, part_cells}
use Rattle.power_loss.specs.Aside.{part_labels, die_cells, die_labels, part_of, MaySeeOnPart}
use Rattle.power_loss.specs.Labels.{Label, Labels, Shown, labels_in, label_at, AreLabelled}
use Rattle.power_loss.specs.Recovery.{IsRecoverable, IsFreeBlock, AreIdle}
use Rattle.power_loss.specs.Seen.{MaySeePlaced}
use Rattle.power_loss.proofs.Aside.Lists.{die_last, die_other, part_aside, part_other, without_length, without_at}
use Rattle.power_loss.proofs.Aside.Lists.{without_past, without_sum, with_length, with_at, with_at_aside}
use Rattle.power_loss.proofs.Aside.Renumbering.{IsNobodys, IsThe, AreRenumbered, LiesThere, nobodys, the, HasSame, lies}
use Rattle.power_loss.proofs.Aside.Renumbering.{renumbered_recoverable, there_is}
use Rattle.power_loss.proofs.Remounting.{placed_within}
use Rattle.power_loss.proofs.Steps.{cell}

-- Numbers, back and forth

part_die : (last aside b : ℕ) → b ≢ aside → on_part last aside (on_die last aside b) ≡ b
part_die last aside b other = by_case (cases_eq b last)
  where
    by_case : (b ≡ last) ⊎ (b ≡ last → ⊥) → on_part last aside (on_die last aside b) ≡ b
    by_case (inl is) = part_aside last aside (on_die last aside b) (die_last last aside b is) ∙ sym is
    by_case (inr away) =
        let e = die_other last aside b away in
        part_other last aside (on_die last aside b) (λ k. other (sym e ∙ k)) ∙ e

die_part : (last aside b : ℕ) → b < last → on_die last aside (on_part last aside b) ≡ b
die_part last aside b lt = by_case (cases_eq b aside)
  where
    by_case : (b ≡ aside) ⊎ (b ≡ aside → ⊥) → on_die last aside (on_part last aside b) ≡ b
    by_case (inl is) = die_last last aside (on_part last aside b) (part_aside last aside b is) ∙ sym is
    by_case (inr away) =
        let e = part_other last aside b away in
        die_other last aside (on_part last aside b) (λ k. omega (arith, k, e, lt)) ∙ e

-- the part has no other block for a block of the die than that one
part_apart : (last aside b : ℕ) → b < last → on_part last aside b ≢ aside
part_apart last aside b lt = by_case (cases_eq b aside)
  where
    by_case : (b ≡ aside) ⊎ (b ≡ aside → ⊥) → on_part last aside b ≢ aside
    by_case (inl is) k = omega (arith, part_aside last aside b is, k, is, lt)
    by_case (inr away) k = away (sym (part_other last aside b away) ∙ k)

-- a block of the part that isn't aside is one of the die
die_below : (last aside b : ℕ) → aside ≤ last → b ≤ last → b ≢ aside → on_die last aside b < last
die_below last aside b le stands other = by_case (cases_eq b last)
  where
    by_case : (b ≡ last) ⊎ (b ≡ last → ⊥) → on_die last aside b < last
    by_case (inl is) = omega (arith, die_last last aside b is, le, is, other)
    by_case (inr away) = omega (arith, die_other last aside b away, stands, away)

pub places_at : (number : ℕ → ℕ) (places : List (Option Place)) (page : ℕ)
    → place_of (renumbered_places number places) page ≡ option_map (renumbered number) (place_of places page)
places_at number places page = get_or-map (option_map (renumbered number)) places page None

-- On the part

at_part : (last aside b : ℕ) (c : Cells) → length c.blocks ≡ last → b ≢ aside
    → block_at (part_cells last aside c) b ≡ block_at c (on_die last aside b)
at_part last aside b c e other = with_at aside free_block c.blocks b other ∙ ap (λ n. block_at c (on_die n aside b)) e

labels_at_part : (last aside b : ℕ) (l : Labels) → length l.blocks ≡ last → b ≢ aside
    → labels_in (part_labels aside l).blocks b ≡ labels_in l.blocks (on_die last aside b)
labels_at_part last aside b l e other = with_at aside [] l.blocks b other ∙ ap (λ n. labels_in l.blocks (on_die n aside b)) e

stands_on_part : (last aside : ℕ) (c : Cells) (l : Labels) → aside ≤ last → length c.blocks ≡ last → length l.blocks ≡ last
    → AreRenumbered (on_part last aside) (on_die last aside) c (part_cells last aside c) l.blocks (part_labels aside l).blocks
stands_on_part last aside c l le e f = record {
  here = λ b. here_by b (cases_eq b aside);
  there = λ b. there_by b (cases_lt b last);
  places = places_at (on_part last aside) c.places;
}
  where
    p : Cells
    p = part_cells last aside c

    m : Shown
    m = (part_labels aside l).blocks

    here_by : (b : ℕ) → (b ≡ aside) ⊎ (b ≡ aside → ⊥) → IsNobodys (block_at p b) (labels_in m b)
        ⊎ IsThe (block_at p b) (block_at c (on_die last aside b)) (labels_in m b) (labels_in l.blocks (on_die last aside b))
        (on_part last aside (on_die last aside b)) b
    here_by b (inl is) =
        let s : block_at p b ≡ free_block = ap (block_at p) is ∙ with_at_aside aside free_block free_block c.blocks (omega (arith, le, e)) in
        inl (nobodys (block_at p b) (labels_in m b) (ap (λ (t : Block). t.filled) s) (ap (λ (t : Block). t.erasing) s)
        (ap (labels_in m) is ∙ with_at_aside aside [] [] l.blocks (omega (arith, le, f))))
    here_by b (inr other) =
        inr (the (block_at p b) (block_at c (on_die last aside b)) (labels_in m b) (labels_in l.blocks (on_die last aside b))
        (on_part last aside (on_die last aside b)) b (at_part last aside b c e other) (labels_at_part last aside b l f other) (part_die last aside b other))

    there_by : (b : ℕ) → (b < last) ⊎ (last ≤ b) → IsNobodys (block_at c b) (labels_in l.blocks b)
        ⊎ IsThe (block_at p (on_part last aside b)) (block_at c b) (labels_in m (on_part last aside b)) (labels_in l.blocks b)
        (on_die last aside (on_part last aside b)) b
    there_by b (inr past) =
        let s : block_at c b ≡ free_block = get_or_past c.blocks b free_block (omega (arith, e, past)) in
        inl (nobodys (block_at c b) (labels_in l.blocks b) (ap (λ (t : Block). t.filled) s) (ap (λ (t : Block). t.erasing) s)
        (get_or_past l.blocks b [] (omega (arith, f, past))))
    there_by b (inl lt) =
        let k = die_part last aside b lt in
        let a = part_apart last aside b lt in
        inr (the (block_at p (on_part last aside b)) (block_at c b) (labels_in m (on_part last aside b)) (labels_in l.blocks b)
        (on_die last aside (on_part last aside b)) b (at_part last aside (on_part last aside b) c e a ∙ ap (block_at c) k)
        (labels_at_part last aside (on_part last aside b) l f a ∙ ap (labels_in l.blocks) k) k)

abbrev same_shape : (plan : DiePlan) → HasSame plan (part_of plan)
same_shape plan = (refl, refl, refl)

pub part_recoverable : (plan : DiePlan) (aside : ℕ) (c : Cells) (pages : List PageData) (l : Labels) (from : ℕ → ℕ) → aside ≤ plan.shape.blocks
    → IsRecoverable plan c pages l from
    → IsRecoverable (part_of plan) (part_cells plan.shape.blocks aside c) pages (part_labels aside l) from
part_recoverable plan aside c pages l from le h =
    let last = plan.shape.blocks in
    let e = h.sound.blocks in
    let f : length l.blocks ≡ last = h.labelled.blocks ∙ e in
    renumbered_recoverable plan (part_of plan) (on_part last aside) (on_die last aside) c (part_cells last aside c) pages l (part_labels aside l) from
    (same_shape plan) (stands_on_part last aside c l le e f) refl
    (omega (arith, with_length aside free_block c.blocks, e))
    (omega (arith, with_length {A = List (Option Label)} aside [] l.blocks, with_length aside free_block c.blocks, h.labelled.blocks))
    (length-map c.places (option_map (renumbered (on_part last aside)))) h

-- a label of a placed page counts on the part as on the die
pub part_counts : (plan : DiePlan) (aside : ℕ) (c : Cells) (pages : List PageData) (l : Labels) (known : ℕ → ℕ) → aside ≤ plan.shape.blocks
    → {from : ℕ → ℕ} → IsRecoverable plan c pages l from
    → ((page : ℕ) (q : Place) (x : Label) → place_of c.places page ≡ Some q → label_at l.blocks q ≡ Some x → known page ≤ x.serial)
    → (page : ℕ) (q : Place) (x : Label) → place_of (part_cells plan.shape.blocks aside c).places page ≡ Some q
    → label_at (part_labels aside l).blocks q ≡ Some x → known page ≤ x.serial
part_counts plan aside c pages l known le h counts page q x e f =
    let last = plan.shape.blocks in
    let blocks : length l.blocks ≡ last = h.labelled.blocks ∙ h.sound.blocks in
    let r = stands_on_part last aside c l le h.sound.blocks blocks in
    let k = lies (on_part last aside) (on_die last aside) c (part_cells last aside c) l.blocks (part_labels aside l).blocks r page q e in
    counts page k.place x k.stands
    (there_is plan (on_part last aside) (on_die last aside) c (part_cells last aside c) l.blocks (part_labels aside l).blocks r h.sound page q x f k)

-- What is seen

-- the label in a cell of a block
abbrev row : ℕ → List (Option Label) → Option Label
row k xs = get_or xs k None

-- a label that is seen on the part is seen of a block of the die
pub part_sees : (plan : DiePlan) (aside : ℕ) (c : Cells) (l : Labels) (seen : Shown) → aside ≤ plan.shape.blocks → AreSoundCells plan c
    → length l.blocks ≡ plan.shape.blocks → MaySeeOnPart plan.shape.blocks aside (MaySeePlaced c l.blocks) seen
    → MaySeePlaced (part_cells plan.shape.blocks aside c) (part_labels aside l).blocks seen
part_sees plan aside c l seen le s f w = record {
  long = omega (arith, w.blocks, with_length {A = List (Option Label)} aside [] l.blocks, f);
  whole = λ page q e place is. whole_by page q place is (lies (on_part last aside) (on_die last aside) c (part_cells last aside c) l.blocks
      (part_labels aside l).blocks (stands_on_part last aside c l le s.blocks f) page q e);
  remains = λ place x e. remains_by place x e (cases_eq place.block aside) (cases_lt place.block (last + 1));
}
  where
    last : ℕ
    last = plan.shape.blocks

    m : Shown
    m = (part_labels aside l).blocks

    on : Shown
    on = without_aside last aside [] seen

    at_die : (b : ℕ) → b < last → labels_in on b ≡ labels_in seen (on_part last aside b)
    at_die b lt = without_at last aside [] seen b w.blocks lt

    whole_by : (page : ℕ) (q place : Place) → place.block ≡ q.block → LiesThere (on_part last aside) c page q → label_at seen place ≡ label_at m place
    whole_by page q place is k =
        let b = k.place.block in
        let lt : b < last = omega (arith, placed_within plan c page k.place s k.stands, s.blocks) in
        let n = on_part last aside b in
        let same : place.block ≡ n = is ∙ k.block in
        ap (λ i. row place.page (labels_in seen i)) same
        ∙ (sym (ap (row place.page) (at_die b lt))
        ∙ (w.die.whole page k.place k.stands (cell b place.page) refl
        ∙ (sym (ap (row place.page) (labels_at_part last aside n l f (part_apart last aside b lt) ∙ ap (labels_in l.blocks) (die_part last aside b lt)))
        ∙ sym (ap (λ i. row place.page (labels_in m i)) same))))

    remains_by : (place : Place) (x : Label) → label_at seen place ≡ Some x → (place.block ≡ aside) ⊎ (place.block ≡ aside → ⊥)
        → (place.block < last + 1) ⊎ (last + 1 ≤ place.block) → label_at m place ≡ Some x
    remains_by place x e (inl is) any = absurd (none-some x (sym (w.none place is) ∙ e))
    remains_by place x e (inr other) (inr past) =
        absurd (none-some x (sym (ap (row place.page) (get_or_past seen place.block [] (omega (arith, w.blocks, past)))) ∙ e))
    remains_by place x e (inr other) (inl lt) =
        let d = on_die last aside place.block in
        let below : d < last = die_below last aside place.block le (omega (arith, lt)) other in
        let same : labels_in on d ≡ labels_in seen place.block = at_die d below ∙ ap (labels_in seen) (part_die last aside place.block other) in
        ap (row place.page) (labels_at_part last aside place.block l f other) ∙ w.die.remains (cell d place.page) x (ap (row place.page) same ∙ e)

-- On the die

at_die_cells : (last aside b : ℕ) (p : Cells) → length p.blocks ≡ last + 1 → b < last → block_at (die_cells last aside p) b ≡ block_at p (on_part last aside b)
at_die_cells last aside b p e lt = without_at last aside free_block p.blocks b e lt

pub stands_on_die : (plan : DiePlan) (aside : ℕ) (p : Cells) (l : Labels) → IsFreeBlock p aside → labels_in l.blocks aside ≡ [] → AreSoundCells (part_of plan) p
    → length l.blocks ≡ plan.shape.blocks + 1
    → AreRenumbered (on_die plan.shape.blocks aside) (on_part plan.shape.blocks aside) p (die_cells plan.shape.blocks aside p) l.blocks
    (die_labels plan.shape.blocks aside l).blocks
stands_on_die plan aside p l free none s f = record {
  here = λ b. here_by b (cases_lt b last);
  there = λ b. there_by b (cases_eq b aside) (cases_lt b (last + 1));
  places = places_at (on_die last aside) p.places;
}
  where
    last : ℕ
    last = plan.shape.blocks

    le : aside ≤ last
    le = omega (arith, free.stands, s.blocks)

    d : Cells
    d = die_cells last aside p

    m : Shown
    m = (die_labels last aside l).blocks

    here_by : (b : ℕ) → (b < last) ⊎ (last ≤ b) → IsNobodys (block_at d b) (labels_in m b)
        ⊎ IsThe (block_at d b) (block_at p (on_part last aside b)) (labels_in m b) (labels_in l.blocks (on_part last aside b))
        (on_die last aside (on_part last aside b)) b
    here_by b (inl lt) =
        inr (the (block_at d b) (block_at p (on_part last aside b)) (labels_in m b) (labels_in l.blocks (on_part last aside b))
        (on_die last aside (on_part last aside b)) b (at_die_cells last aside b p s.blocks lt) (without_at last aside [] l.blocks b f lt)
        (die_part last aside b lt))
    here_by b (inr past) =
        let e : block_at d b ≡ free_block = without_past last aside free_block p.blocks b s.blocks past in
        inl (nobodys (block_at d b) (labels_in m b) (ap (λ (t : Block). t.filled) e) (ap (λ (t : Block). t.erasing) e)
        (without_past last aside [] l.blocks b f past))

    there_by : (b : ℕ) → (b ≡ aside) ⊎ (b ≡ aside → ⊥) → (b < last + 1) ⊎ (last + 1 ≤ b) → IsNobodys (block_at p b) (labels_in l.blocks b)
        ⊎ IsThe (block_at d (on_die last aside b)) (block_at p b) (labels_in m (on_die last aside b)) (labels_in l.blocks b)
        (on_part last aside (on_die last aside b)) b
    there_by b (inl is) any =
        inl (nobodys (block_at p b) (labels_in l.blocks b) (ap (λ x. (block_at p x).filled) is ∙ free.unfilled)
        (ap (λ x. (block_at p x).erasing) is ∙ free.idle) (ap (labels_in l.blocks) is ∙ none))
    there_by b (inr other) (inr past) =
        let e : block_at p b ≡ free_block = get_or_past p.blocks b free_block (omega (arith, s.blocks, past)) in
        inl (nobodys (block_at p b) (labels_in l.blocks b) (ap (λ (t : Block). t.filled) e) (ap (λ (t : Block). t.erasing) e)
        (get_or_past l.blocks b [] (omega (arith, f, past))))
    there_by b (inr other) (inl lt) =
        let n = on_die last aside b in
        let below : n < last = die_below last aside b le (omega (arith, lt)) other in
        let k = part_die last aside b other in
        inr (the (block_at d n) (block_at p b) (labels_in m n) (labels_in l.blocks b) (on_part last aside n) b
        (at_die_cells last aside n p s.blocks below ∙ ap (block_at p) k) (without_at last aside [] l.blocks n f below ∙ ap (labels_in l.blocks) k) k)

-- a free block has no labels
free_unlabelled : (plan : DiePlan) (p : Cells) (l : Labels) (b : ℕ) → 0 < plan.shape.pages → IsFreeBlock p b → AreLabelled (part_of plan) p l
    → labels_in l.blocks b ≡ []
free_unlabelled plan p l b more free h = none_of (labels_in l.blocks b) (omega (arith, h.filled b (omega (arith, more, free.unfilled)), free.unfilled))
  where
    none_of : (xs : List (Option Label)) → length xs ≡ 0 → xs ≡ []
    none_of [] e = refl
    none_of (x ∷ xs) e = absurd (omega (arith, e))

pub die_recoverable : (plan : DiePlan) (aside : ℕ) (p : Cells) (pages : List PageData) (l : Labels) (from : ℕ → ℕ) → 0 < plan.shape.pages → IsFreeBlock p aside
    → IsRecoverable (part_of plan) p pages l from
    → IsRecoverable plan (die_cells plan.shape.blocks aside p) pages (die_labels plan.shape.blocks aside l) from
die_recoverable plan aside p pages l from more free h =
    let last = plan.shape.blocks in
    let e = h.sound.blocks in
    let f : length l.blocks ≡ last + 1 = h.labelled.blocks ∙ e in
    let none = free_unlabelled plan p l aside more free h.labelled in
    let long = without_length last aside free_block p.blocks e in
    renumbered_recoverable (part_of plan) plan (on_die last aside) (on_part last aside) p (die_cells last aside p) pages l (die_labels last aside l) from
    (refl, refl, refl) (stands_on_die plan aside p l free none h.sound f) refl long
    (without_length last aside [] l.blocks f ∙ sym long) (length-map p.places (option_map (renumbered (on_die last aside)))) h

pub die_idle : (plan : DiePlan) (aside : ℕ) (p : Cells) → length p.blocks ≡ plan.shape.blocks + 1 → AreIdle p → AreIdle (die_cells plan.shape.blocks aside p)
die_idle plan aside p e idle b = by_case (cases_lt b plan.shape.blocks)
  where
    by_case : (b < plan.shape.blocks) ⊎ (plan.shape.blocks ≤ b) → (block_at (die_cells plan.shape.blocks aside p) b).erasing ≡ 0
    by_case (inl lt) = ap (λ (t : Block). t.erasing) (at_die_cells plan.shape.blocks aside b p e lt) ∙ idle (on_part plan.shape.blocks aside b)
    by_case (inr past) = ap (λ (t : Block). t.erasing) (without_past plan.shape.blocks aside free_block p.blocks b e past)

-- the die has fewer free pages by those of the block aside
pub die_free : (plan : DiePlan) (aside : ℕ) (p : Cells) → length p.blocks ≡ plan.shape.blocks + 1 → IsFreeBlock p aside
    → sum_by (free_in plan) (die_cells plan.shape.blocks aside p).blocks + plan.shape.pages ≡ sum_by (free_in plan) p.blocks
die_free plan aside p e free =
    omega (
      arith,
      without_sum (free_in plan) plan.shape.blocks aside free_block p.blocks e (omega (arith, free.stands, e)),
      free_idle plan (block_at p aside) free.idle,
      free.unfilled,
    )
