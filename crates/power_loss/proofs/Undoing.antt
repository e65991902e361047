-- Where a mount has no block without pages left, all that it copied since it had one went to one block, which shows the
-- greatest number: without that block it sees what stood before.
use Rattle.std.proofs.Common.{◌≡◌, ◌≢◌, ◌⊎◌, ℕ, zero, suc, ◌<◌, ◌≤◌, List, [], ◌∷◌, length, Option, Some, None, refl}
use Rattle.std.proofs.Common.{ap, sym, ◌∙◌, subst, inl, inr, arith}
use Rattle.std.proofs.Common.{get_or, replicate}
use Rattle.std.proofs.lemmas.Bool.{cases_eq, cases_lt, eq-eqb}
use Rattle.std.proofs.lemmas.List.{get_or-set_other, get_or_past, length-replicate, length-set}
use Rattle.std.proofs.lemmas.Option.{none-some}
use Rattle.slot_types.specs.Places.{place_of}
use Rattle.slot_types.specs.declared.plans.DiePlan.{DiePlan}
use Rattle.slot_types.specs.declared.pages.PageData.{PageData}
use Rattle.slot_types.specs.declared.pages.Place.{Place}
use Rattle.slot_types.specs.declared.acts.Act.{Act}
use Rattle.slot_types.specs.declared.acts.Act.TheVariants as does
use Rattle.plan_rules.specs.Bound.{MeetsBound}
use Rattle.die_log.specs.Model.Flash.{Block, Cells, block_at, free_block, open_block, valid, cells_after_program}
use Rattle.die_log.specs.Model.Flash.{cells_after_program_in}
use Rattle.die_log.specs.Model.Start.{blank_page}
use Rattle.die_log.specs.Invariants.SoundCells.{IsProgram, TakesNext}
use Rattle.die_log.proofs.Cells.Acts.{in_block}
use Rattle.die_log.proofs.Cells.Steps.{opens, open_is, program_is}
use Rattle.die_log.proofs.Cells.Valid.{unplaced_is}
use Rattle.die_log.proofs.Legal.Exact.{has_pages}
use Rattle.power_loss.specs.Labels.{Label, Labels, Shown, labels_in, label_at, labels_after_program}
use Rattle.power_loss.specs.Laws.{MountsAll}
use Rattle.power_loss.specs.Mounted.{mounted_place, mounted_places, mounted_contents}
use Rattle.power_loss.specs.Recovery.{IsRecoverable, MayMount, cells_of, labels_of, AreMountActs, AreIdle, NoneOpen}
use Rattle.power_loss.specs.Recovery.{AreCopies, HasUnplaced, FindsNoneIn}
use Rattle.power_loss.specs.Recovery.{IsNewestBlock, without_block, MayErase, CanUndo, IsMountable}
use Rattle.power_loss.specs.Seen.{MaySeeAfter, MaySeePlaced}
use Rattle.power_loss.proofs.TwoMounts.{place_at, place_found, places_long}
use Rattle.power_loss.proofs.MountActs.{all_go_on}
use Rattle.power_loss.proofs.Mounting.{found_newest}
use Rattle.power_loss.proofs.Remounting.{placed_in}
use Rattle.power_loss.proofs.Steps.{new_label, IsNewOr, label_cases, at_other, cleared_cases}

-- Copies into one block

-- since the cells were d, with no block open and none in erase, all programs went to block o, which was wholly free
pub record IsIntoOne (plan : DiePlan) (pages : List PageData) (from : ℕ → ℕ) (c : Cells) (l : Labels) : Type 0 where
  pub d : Cells
  pub m : Labels
  pub recoverable : IsRecoverable plan d pages m from
  pub idle : AreIdle d
  pub none_open : NoneOpen plan d
  pub o : ℕ
  pub stands : o < length d.blocks
  pub free : (block_at d o).filled ≡ 0
  pub others : (a : ℕ) → a ≢ o → block_at c a ≡ block_at d a
  pub labels : (a : ℕ) → a ≢ o → labels_in l.blocks a ≡ labels_in m.blocks a
  pub idle_still : (block_at c o).erasing ≡ 0
  pub rises : m.next ≤ l.next
  pub new : (place : Place) (x : Label) → label_at l.blocks place ≡ Some x → place.block ≡ o → m.next ≤ x.serial
  pub copies : (place : Place) (x : Label) → label_at l.blocks place ≡ Some x → place.block ≡ o → x.bytes ≡ get_or pages x.page blank_page
  pub long : length l.blocks ≡ length m.blocks

abbrev Before : DiePlan → List PageData → (ℕ → ℕ) → Cells → Labels → Type 0
Before plan pages from c l = (NoneOpen plan c × AreIdle c) ⊎ IsIntoOne plan pages from c l

into_idle : (plan : DiePlan) (pages : List PageData) (from : ℕ → ℕ) (c : Cells) (l : Labels) → IsIntoOne plan pages from c l → AreIdle c
into_idle plan pages from c l h a = by_case (cases_eq a h.o)
  where
    by_case : (a ≡ h.o) ⊎ (a ≡ h.o → ⊥) → (block_at c a).erasing ≡ 0
    by_case (inl is) = ap (λ b. (block_at c b).erasing) is ∙ h.idle_still
    by_case (inr other) = ap (λ (s : Block). s.erasing) (h.others a other) ∙ h.idle a

still_idle : (plan : DiePlan) (pages : List PageData) (from : ℕ → ℕ) (c : Cells) (l : Labels) → Before plan pages from c l → AreIdle c
still_idle plan pages from c l (inl h) = h.1
still_idle plan pages from c l (inr h) = into_idle plan pages from c l h

-- a block without programmed pages has no labels
no_labels : (plan : DiePlan) (pages : List PageData) (from : ℕ → ℕ) (c : Cells) (l : Labels) (b : ℕ) → IsRecoverable plan c pages l from
    → (block_at c b).filled < plan.shape.pages → (block_at c b).filled ≡ 0 → (k : ℕ) (x : Label) → get_or (labels_in l.blocks b) k None ≡ Some x → ⊥
no_labels plan pages from c l b h room none k x e = empty_of (labels_in l.blocks b) (omega (arith, h.labelled.filled b room, none)) k e
  where
    empty_of : (xs : List (Option Label)) → length xs ≡ 0 → (j : ℕ) → get_or xs j None ≡ Some x → ⊥
    empty_of [] z j f = none-some x f
    empty_of (y ∷ ys) z j f = omega (arith, z)

copied_bytes : (pages : List PageData) (page : ℕ) (bytes : PageData) (l : Labels) (x : Label) → bytes ≡ get_or pages page blank_page
    → new_label page bytes l ≡ x → x.bytes ≡ get_or pages x.page blank_page
copied_bytes pages page bytes l x own is =
    sym (ap (λ (y : Label). y.bytes) is) ∙ (own ∙ ap (λ p. get_or pages p blank_page) (ap (λ (y : Label). y.page) is))

opened : (plan : DiePlan) (pages : List PageData) (from : ℕ → ℕ) (c : Cells) (l : Labels) (page : ℕ) (bytes : PageData) (b : ℕ)
    → bytes ≡ get_or pages page blank_page → IsRecoverable plan c pages l from → TakesNext plan c b
    → IsProgram plan page b c (cells_after_program_in page (Some b) c) → (block_at c b).filled ≡ 0 → AreIdle c
    → IsIntoOne plan pages from (cells_after_program_in page (Some b) c) (labels_after_program page bytes (Some b) l)
opened plan pages from c l page bytes b own h k w none idle = record {
  d = c;
  m = l;
  recoverable = h;
  idle = idle;
  none_open = λ a room. none_by a room (cases_eq (block_at c a).filled 0);
  o = b;
  stands = k.stands;
  free = none;
  others = w.others;
  labels = λ a other. at_other page bytes b l a other;
  idle_still = w.erasing ∙ idle b;
  rises = omega arith;
  new = λ place x e is. (new_by place x is (label_cases page bytes b l lt place x e)).0;
  copies = λ place x e is. (new_by place x is (label_cases page bytes b l lt place x e)).1;
  long = length-set l.blocks b _;
}
  where
    lt : b < length l.blocks
    lt = omega (arith, k.stands, h.labelled.blocks)

    none_by : (a : ℕ) → (block_at c a).filled < plan.shape.pages → ((block_at c a).filled ≡ 0) ⊎ ((block_at c a).filled ≡ 0 → ⊥) → (block_at c a).filled ≡ 0
    none_by a room (inl e) = e
    none_by a room (inr some) =
        let same : a ≡ b = k.alone a (omega arith, room) in
        absurd (some (ap (λ x. (block_at c x).filled) same ∙ none))

    new_by : (place : Place) (x : Label) → place.block ≡ b → IsNewOr page bytes b l place x
        → (l.next ≤ x.serial) × (x.bytes ≡ get_or pages x.page blank_page)
    new_by place x is (inl n) = (omega (arith, ap (λ (y : Label). y.serial) n.2), copied_bytes pages page bytes l x own n.2)
    new_by place x is (inr o) =
        absurd (no_labels plan pages from c l b h k.room none place.page x (ap (λ a. get_or (labels_in l.blocks a) place.page None) (sym is) ∙ o))

goes_on : (plan : DiePlan) (pages : List PageData) (from : ℕ → ℕ) (c : Cells) (l : Labels) (page : ℕ) (bytes : PageData)
    → bytes ≡ get_or pages page blank_page → (h : IsIntoOne plan pages from c l) → h.o < length l.blocks
    → IsProgram plan page h.o c (cells_after_program_in page (Some h.o) c)
    → IsIntoOne plan pages from (cells_after_program_in page (Some h.o) c) (labels_after_program page bytes (Some h.o) l)
goes_on plan pages from c l page bytes own h lt w = record {
  d = h.d;
  m = h.m;
  recoverable = h.recoverable;
  idle = h.idle;
  none_open = h.none_open;
  o = h.o;
  stands = h.stands;
  free = h.free;
  others = λ a other. w.others a other ∙ h.others a other;
  labels = λ a other. at_other page bytes h.o l a other ∙ h.labels a other;
  idle_still = w.erasing ∙ h.idle_still;
  rises = omega (arith, h.rises);
  new = λ place x e is. (new_by place x is (label_cases page bytes h.o l lt place x e)).0;
  copies = λ place x e is. (new_by place x is (label_cases page bytes h.o l lt place x e)).1;
  long = length-set l.blocks h.o _ ∙ h.long;
}
  where
    new_by : (place : Place) (x : Label) → place.block ≡ h.o → IsNewOr page bytes h.o l place x
        → (h.m.next ≤ x.serial) × (x.bytes ≡ get_or pages x.page blank_page)
    new_by place x is (inl n) = (omega (arith, ap (λ (y : Label). y.serial) n.2, h.rises), copied_bytes pages page bytes l x own n.2)
    new_by place x is (inr o) = (h.new place x o is, h.copies place x o is)

copy_into : (plan : DiePlan) (pages : List PageData) (from : ℕ → ℕ) (c : Cells) (l : Labels) (page : ℕ) (bytes : PageData)
    → bytes ≡ get_or pages page blank_page → MeetsBound plan → IsRecoverable plan c pages l from → MayMount plan c (does.CopyProgram page) → Before plan pages from c l
    → IsIntoOne plan pages from (cells_after_program plan page c) (labels_after_program page bytes (open_block plan c) l)
copy_into plan pages from c l page bytes own bound r may before =
    let o = opens plan c may.0 in
    let k = open_is plan c o.0 (has_pages plan bound) r.sound o.1 in
    let w = program_is plan page o.0 c k.stands k.room k.alone in
    subst (λ (x : Option ℕ). IsIntoOne plan pages from (cells_after_program_in page x c) (labels_after_program page bytes x l)) (sym o.1)
    (by_filled o.0 k w before (cases_eq (block_at c o.0).filled 0))
  where
    Into : ℕ → Type 0
    Into b = IsIntoOne plan pages from (cells_after_program_in page (Some b) c) (labels_after_program page bytes (Some b) l)

    same_block : (b : ℕ) (h : IsIntoOne plan pages from c l) → TakesNext plan c b → ((block_at c b).filled ≡ 0 → ⊥) → (b ≡ h.o) ⊎ (b ≡ h.o → ⊥) → b ≡ h.o
    same_block b h k some (inl is) = is
    same_block b h k some (inr other) =
        let s = ap (λ (t : Block). t.filled) (h.others b other) in
        absurd (some (s ∙ h.none_open b (omega (arith, k.room, s))))

    by_filled : (b : ℕ) → TakesNext plan c b → IsProgram plan page b c (cells_after_program_in page (Some b) c) → Before plan pages from c l
        → ((block_at c b).filled ≡ 0) ⊎ ((block_at c b).filled ≡ 0 → ⊥) → Into b
    by_filled b k w before (inl none) = opened plan pages from c l page bytes b own r k w none (still_idle plan pages from c l before)
    by_filled b k w (inl h) (inr some) = absurd (some (h.0 b k.room))
    by_filled b k w (inr h) (inr some) =
        let is : b ≡ h.o = same_block b h k some (cases_eq b h.o) in
        subst Into (sym is) (goes_on plan pages from c l page bytes own h (omega (arith, is, k.stands, r.labelled.blocks))
        (subst (λ x. IsProgram plan page x c (cells_after_program_in page (Some x) c)) is w))

-- copies that began where no block was open and none in erase
pub copies_into : (plan : DiePlan) (d : Cells) (pages : List PageData) (m : Labels) (from : ℕ → ℕ) → MeetsBound plan → IsRecoverable plan d pages m from
    → AreIdle d → NoneOpen plan d → (acts : List Act) → AreMountActs plan d acts → AreCopies acts
    → (acts ≡ []) ⊎ IsIntoOne plan pages from (cells_of plan acts d) (labels_of plan pages acts d m)
copies_into plan d pages m from bound h idle none [] may copies = inl refl
copies_into plan d pages m from bound h idle none (does.Read page bytes ∷ earlier) may copies = absurd copies.1
copies_into plan d pages m from bound h idle none (does.Write page bytes ∷ earlier) may copies = absurd copies.1
copies_into plan d pages m from bound h idle none (does.Trim page ∷ earlier) may copies = absurd copies.1
copies_into plan d pages m from bound h idle none (does.CopyRead page ∷ earlier) may copies = absurd copies.1
copies_into plan d pages m from bound h idle none (does.Erase a ∷ earlier) may copies = absurd copies.1
copies_into plan d pages m from bound h idle none (does.CopyProgram page ∷ earlier) may copies =
    inr (copy_into plan pages from (cells_of plan earlier d) (labels_of plan pages earlier d m) page (get_or pages page blank_page) refl bound
    (all_go_on plan d pages m from bound h earlier may.0) may.1
    (before (copies_into plan d pages m from bound h idle none earlier may.0 copies.0)))
  where
    before : (earlier ≡ []) ⊎ IsIntoOne plan pages from (cells_of plan earlier d) (labels_of plan pages earlier d m)
        → Before plan pages from (cells_of plan earlier d) (labels_of plan pages earlier d m)
    before (inl e) = inl (subst (λ (xs : List Act). NoneOpen plan (cells_of plan xs d) × AreIdle (cells_of plan xs d)) (sym e) (none, idle))
    before (inr h) = inr h

-- What is seen then

pub sees_before : (plan : DiePlan) (pages : List PageData) (from : ℕ → ℕ) (c : Cells) (l : Labels) (h : IsIntoOne plan pages from c l) (seen : Shown)
    → MaySeeAfter c l seen → MaySeePlaced h.d h.m.blocks (without_block h.o seen)
sees_before plan pages from c l h seen w = record {
  long = length-set {A = List (Option Label)} seen h.o [] ∙ (w.long ∙ h.long);
  whole = λ page q e place is. whole_by place (λ at. apart page q e (sym is ∙ at))
      (ap (λ (s : Block). s.erasing) (h.others place.block (λ at. apart page q e (sym is ∙ at))) ∙ h.idle place.block);
  remains = λ place x e.
      let k = cleared_cases seen h.o within place x e in
      sym (same_there place k.0) ∙ w.remains place x k.1;
}
  where
    within : h.o < length seen
    within = omega (arith, h.stands, h.recoverable.labelled.blocks, h.long, w.long)

    apart : (page : ℕ) (q : Place) → place_of h.d.places page ≡ Some q → q.block ≢ h.o
    apart page q e is = omega (arith, h.recoverable.sound.placed page q e, ap (λ b. (block_at h.d b).filled) is, h.free)

    same_there : (place : Place) → place.block ≢ h.o → label_at l.blocks place ≡ label_at h.m.blocks place
    same_there place other = ap (λ (xs : List (Option Label)). get_or xs place.page None) (h.labels place.block other)

    whole_by : (place : Place) → place.block ≢ h.o → (block_at c place.block).erasing ≡ 0
        → label_at (without_block h.o seen) place ≡ label_at h.m.blocks place
    whole_by place other idle =
        ap (λ (xs : List (Option Label)). get_or xs place.page None) (get_or-set_other seen h.o place.block [] [] other)
        ∙ (w.whole place (eq-eqb (block_at c place.block).erasing 0 idle) ∙ same_there place other)

-- and the block may be undone
pub may_undo : (plan : DiePlan) (pages : List PageData) (from : ℕ → ℕ) (c : Cells) (l : Labels) (h : IsIntoOne plan pages from c l) (seen : Shown)
    → MaySeeAfter c l seen → mounted_contents from plan.logical (without_block h.o seen) ≡ pages → CanUndo plan pages from seen h.o
may_undo plan pages from c l h seen w found = record {
  stands = omega (arith, h.stands, h.recoverable.sound.blocks);
  newer = λ q r x y e f own other. omega (arith, h.new q x (w.remains q x e) own, older r y (w.remains r y f) other);
  copies = λ q x e own. h.copies q x (w.remains q x e) own;
  others = found;
}
  where
    older : (r : Place) (y : Label) → label_at l.blocks r ≡ Some y → r.block ≢ h.o → y.serial < h.m.next
    older r y f other = h.recoverable.labelled.below r y
        (sym (ap (λ (xs : List (Option Label)). get_or xs r.page None) (h.labels r.block other)) ∙ f)

-- Blocks without pages

-- where each page is placed in these cells, it is found
abbrev pub FindsPlaces : DiePlan → Cells → (ℕ → ℕ) → Shown → Type 0
FindsPlaces plan c from seen = (page : ℕ) → page < plan.logical → mounted_place (from page) page seen ≡ place_of c.places page

pub finds_places : (plan : DiePlan) (c : Cells) (pages : List PageData) (from : ℕ → ℕ) (seen : Shown) → MountsAll c pages from seen
    → length c.places ≡ plan.logical → FindsPlaces plan c from seen
finds_places plan c pages from seen h len page lt =
    sym (place_at from (length c.places) seen page (omega (arith, lt, len))) ∙ ap (λ (places : List (Option Place)). place_of places page) h.places

-- a mount finds no page in a block just where none is placed in it
pub finds_none : (plan : DiePlan) (c : Cells) (from : ℕ → ℕ) (seen : Shown) (b : ℕ) → FindsPlaces plan c from seen → valid c b ≡ 0
    → FindsNoneIn plan from seen b
finds_none plan c from seen b h none page lt q e is = unplaced_is plan c b none page (in_block c page b q (sym (h page lt) ∙ e) is)

pub none_placed : (plan : DiePlan) (c : Cells) (from : ℕ → ℕ) (seen : Shown) (b : ℕ) → FindsPlaces plan c from seen
    → length c.places ≡ plan.logical → FindsNoneIn plan from seen b → valid c b ≡ 0
none_placed plan c from seen b h len finds_no = by_case (cases_eq (valid c b) 0)
  where
    slice_within : (places : List (Option Place)) (page : ℕ) (q : Place) → place_of places page ≡ Some q → page < length places
    slice_within places page q e = by_len (cases_lt page (length places))
      where
        by_len : (page < length places) ⊎ (length places ≤ page) → page < length places
        by_len (inl lt) = lt
        by_len (inr past) = absurd (none-some q (sym (get_or_past places page None past) ∙ e))

    by_case : (valid c b ≡ 0) ⊎ (valid c b ≡ 0 → ⊥) → valid c b ≡ 0
    by_case (inl e) = e
    by_case (inr some) =
        let p = placed_in c b some in
        let lt : p.0 < length c.places = slice_within c.places p.0 p.1 p.2 in
        let within : p.0 < plan.logical = omega (arith, lt, len) in
        absurd (finds_no p.0 within p.1 (h p.0 within ∙ p.2) p.3)

-- in some block no page is placed, or in each
pub has_unplaced : (c : Cells) → HasUnplaced c ⊎ ((b : ℕ) → b < length c.blocks → valid c b ≡ 0 → ⊥)
has_unplaced c = up_to (length c.blocks) (omega arith)
  where
    up_to : (n : ℕ) → n ≤ length c.blocks → HasUnplaced c ⊎ ((b : ℕ) → b < n → valid c b ≡ 0 → ⊥)
    up_to zero le = inr (λ b lt e. omega (arith, lt))
    up_to (suc n) le = by_case (cases_eq (valid c n) 0) (up_to n (omega arith))
      where
        by_case : (valid c n ≡ 0) ⊎ (valid c n ≡ 0 → ⊥) → HasUnplaced c ⊎ ((b : ℕ) → b < n → valid c b ≡ 0 → ⊥)
            → HasUnplaced c ⊎ ((b : ℕ) → b < suc n → valid c b ≡ 0 → ⊥)
        by_case (inl e) any = inl (record { b = n; stands = omega (arith, le); none = e })
        by_case (inr some) (inl u) = inl u
        by_case (inr some) (inr each) = inr (λ b lt e. by_last b lt e (cases_eq b n))
          where
            by_last : (b : ℕ) → b < suc n → valid c b ≡ 0 → (b ≡ n) ⊎ (b ≡ n → ⊥) → ⊥
            by_last b lt e (inl is) = some (ap (valid c) (sym is) ∙ e)
            by_last b lt e (inr other) = each b (omega (arith, lt, other)) e

-- What a mount may erase first

-- there is always a block that it may
pub can_erase : (plan : DiePlan) (pages : List PageData) (from : ℕ → ℕ) (seen : Shown) → IsMountable plan pages from seen
    → (b : ℕ) × MayErase plan from seen b
can_erase plan pages from seen h = by_unplaced (has_unplaced c)
  where
    c : Cells
    c = record { blocks = replicate plan.shape.blocks free_block; places = mounted_places from plan.logical seen }

    long : length c.blocks ≡ plan.shape.blocks
    long = length-replicate plan.shape.blocks free_block

    finds : FindsPlaces plan c from seen
    finds page lt = sym (place_at from plan.logical seen page lt)

    none : (b : ℕ) → FindsNoneIn plan from seen b → valid c b ≡ 0
    none b = none_placed plan c from seen b finds (places_long from plan.logical seen)

    newest : (u : (b : ℕ) × CanUndo plan pages from seen b) → (valid c u.0 ≡ 0 → ⊥) → IsNewestBlock seen u.0
    newest u has =
        let p = placed_in c u.0 has in
        let n = (found_newest plan (from p.0) p.0 seen p.1 h.fit (place_found from plan.logical seen p.0 p.1 p.2).1).0 in
        record {
          place = p.1;
          label = n.label;
          own = p.3;
          stands = n.stands;
          newest = λ other x e apart. u.1.newer p.1 other n.label x n.stands e p.3 apart;
        }

    by_room : ((b : ℕ) → b < length c.blocks → valid c b ≡ 0 → ⊥)
        → ((b : ℕ) × (b < plan.shape.blocks) × FindsNoneIn plan from seen b) ⊎ ((b : ℕ) × CanUndo plan pages from seen b)
        → (b : ℕ) × MayErase plan from seen b
    by_room each (inl free) = absurd (each free.0 (omega (arith, free.1, long)) (none free.0 free.2))
    by_room each (inr u) = (
      u.0,
      inr (λ a lt finds_no. each a (omega (arith, lt, long)) (none a finds_no), newest u (each u.0 (omega (arith, u.1.stands, long)))),
    )

    by_unplaced : HasUnplaced c ⊎ ((b : ℕ) → b < length c.blocks → valid c b ≡ 0 → ⊥) → (b : ℕ) × MayErase plan from seen b
    by_unplaced (inl u) = (u.b, inl (omega (arith, u.stands, long), finds_none plan c from seen u.b finds u.none))
    by_unplaced (inr each) = by_room each h.room
