-- What a part has once a block was written.
use Rattle.std.proofs.Common.{◌≡◌, ◌≢◌, ℕ, zero, suc, not, ◌+◌, ◌-◌, ◌<◌, ◌==◌, nat_lt, Bool, true, false, cond, List, ◌∷◌, length, Option, Some, None, get_or, map}
use Rattle.std.proofs.Common.{refl, ap, sym, ◌∙◌, arith, replicate, slice_set, position, option_map}
use Rattle.std.specs.List.{position_or_len}
use Rattle.std.proofs.lemmas.Bool.{eq-eqb, ne_eqb}
use Rattle.std.proofs.lemmas.List.{get_or-map, map-set, length-map}
use Rattle.std.proofs.lemmas.List.Recursion.{is_position_or_len}
use Rattle.slot_types.specs.declared.pages.Place.{Place}
use Rattle.slot_types.specs.declared.plans.DiePlan.{DiePlan}
use Rattle.slot_types.specs.declared.plans.Shape.{Shape}
use Rattle.die_log.specs.Model.Flash.{Block, block_after_erase_slot, free_block}
use Rattle.die_mount.specs.declared.part.PartBlock.{PartBlock}
use Rattle.die_mount.specs.PartState.{PartState, closed_block, closed_but, freed_by, is_open_at, next_cell_of, with_erase_slot, with_program}
use Rattle.die_mount.specs.SoundPart.{block_of, is_unfilled}

abbrev pub state : Shape → List (Option Place) → List Block → ℕ → ℕ → PartState
state shape places blocks last free = record { shape = shape; cells = record { blocks = blocks; places = places }; last = last; free = free }

-- a block that was read
pub block_is : (items : List PartBlock) (b : ℕ) (s : PartBlock) → b < length items → s ≡ get_or items b s → get_or (map block_of items) b free_block
    ≡ block_of s
block_is items b s lt is = get_or-map block_of items b s free_block lt ∙ ap block_of (sym is)

-- all but one are closed
pub all_closed : (shape : Shape) (places : List (Option Place)) (items : List PartBlock) (first : ℕ) (closed free : PartBlock) → items
    ≡ replicate shape.blocks closed → block_of closed ≡ closed_block shape.pages → block_of free ≡ free_block
    → state shape places (map block_of (slice_set items first free)) first shape.pages ≡ closed_but shape places first
all_closed shape places items first closed free is c f =
    ap (λ (bs : List Block). state shape places bs first shape.pages)
    (map-set block_of items first free ∙ ap (λ (t : Block). slice_set (map block_of items) first t) f
    ∙ ap (λ (bs : List Block). slice_set bs first free_block) (ap (map block_of) is ∙ closed_all shape.blocks))
  where
    closed_all : (n : ℕ) → map block_of (replicate n closed) ≡ replicate n (closed_block shape.pages)
    closed_all zero = refl
    closed_all (suc n) = ap (λ (bs : List Block). block_of closed ∷ bs) (closed_all n)
        ∙ ap (λ (t : Block). t ∷ replicate n (closed_block shape.pages)) c

-- One slot of an erase

abbrev put : PartState → ℕ → Block → ℕ → PartState
put s b t gain = record s { cells = record s.cells { blocks = slice_set s.cells.blocks b t }; free = s.free + gain }

put_by : (plan : DiePlan) (shape : Shape) (places : List (Option Place)) (items : List PartBlock) (last free b : ℕ) (s : PartBlock) → b < length items
    → s ≡ get_or items b s → with_erase_slot plan b (state shape places (map block_of items) last free)
    ≡ put (state shape places (map block_of items) last free) b (block_after_erase_slot plan (block_of s)) (freed_by plan (block_of s))
put_by plan shape places items last free b s lt is =
    ap (λ (t : Block). put (state shape places (map block_of items) last free) b (block_after_erase_slot plan t) (freed_by plan t)) (block_is items b s lt is)

pub last_slot : (plan : DiePlan) (shape : Shape) (places : List (Option Place)) (items : List PartBlock) (last free b : ℕ) (s : PartBlock) (t : PartBlock)
    → plan.shape ≡ shape → b < length items → s ≡ get_or items b s → s.erasing + 1 ≡ shape.erase_slots
    → block_of t ≡ record { filled = 0; erasing = 0; erases = s.erases + 1 }
    → state shape places (map block_of (slice_set items b t)) last (free + shape.pages)
    ≡ with_erase_slot plan b (state shape places (map block_of items) last free)
last_slot plan shape places items last free b s t same lt is full by =
    ap (λ (bs : List Block). state shape places bs last (free + shape.pages))
    (map-set block_of items b t ∙ ap (λ (x : Block). slice_set (map block_of items) b x) by)
    ∙ sym (put_by plan shape places items last free b s lt is ∙ (slots ∙ pages))
  where
    done : Block
    done = record { filled = 0; erasing = 0; erases = s.erases + 1 }

    all : s.erasing + 1 ≡ plan.shape.erase_slots
    all = full ∙ sym (ap (λ (x : Shape). x.erase_slots) same)

    slots : put (state shape places (map block_of items) last free) b (block_after_erase_slot plan (block_of s)) (freed_by plan (block_of s))
        ≡ put (state shape places (map block_of items) last free) b done plan.shape.pages
    slots = ap (λ (k : Bool). put (state shape places (map block_of items) last free) b
        (cond k (record { filled = 0; erasing = 0; erases = s.erases + 1 }) (record { filled = s.filled; erasing = s.erasing + 1; erases = s.erases }))
        (cond k plan.shape.pages 0)) (eq-eqb (s.erasing + 1) plan.shape.erase_slots all)

    pages : put (state shape places (map block_of items) last free) b done plan.shape.pages
        ≡ put (state shape places (map block_of items) last free) b done shape.pages
    pages = ap (λ (x : Shape). put (state shape places (map block_of items) last free) b done x.pages) same

pub slot_more : (plan : DiePlan) (shape : Shape) (places : List (Option Place)) (items : List PartBlock) (last free b : ℕ) (s : PartBlock) (t : PartBlock)
    → plan.shape ≡ shape → b < length items → s ≡ get_or items b s → s.erasing + 1 ≢ shape.erase_slots
    → block_of t ≡ record { filled = s.filled; erasing = s.erasing + 1; erases = s.erases }
    → state shape places (map block_of (slice_set items b t)) last free
    ≡ with_erase_slot plan b (state shape places (map block_of items) last free)
slot_more plan shape places items last free b s t same lt is less by =
    ap (λ (bs : List Block). state shape places bs last free)
    (map-set block_of items b t ∙ ap (λ (x : Block). slice_set (map block_of items) b x) by)
    ∙ (none ∙ sym (put_by plan shape places items last free b s lt is ∙ slots))
  where
    more : Block
    more = record { filled = s.filled; erasing = s.erasing + 1; erases = s.erases }

    none : state shape places (slice_set (map block_of items) b more) last free ≡ put (state shape places (map block_of items) last free) b more 0
    none = ap (λ (n : ℕ). state shape places (slice_set (map block_of items) b more) last n) (omega arith)

    slots : put (state shape places (map block_of items) last free) b (block_after_erase_slot plan (block_of s)) (freed_by plan (block_of s))
        ≡ put (state shape places (map block_of items) last free) b more 0
    slots = ap (λ (k : Bool). put (state shape places (map block_of items) last free) b
        (cond k (record { filled = 0; erasing = 0; erases = s.erases + 1 }) (record { filled = s.filled; erasing = s.erasing + 1; erases = s.erases }))
        (cond k plan.shape.pages 0))
        (ne_eqb (s.erasing + 1) plan.shape.erase_slots (λ e. less (e ∙ ap (λ (x : Shape). x.erase_slots) same)))

-- A program

pub one_more : (shape : Shape) (places : List (Option Place)) (items : List PartBlock) (last free page : ℕ) (to : Place) (s t : PartBlock)
    → to.block < length items → s ≡ get_or items to.block s → to.page ≡ (get_or (map block_of items) to.block free_block).filled
    → block_of t ≡ record { filled = s.filled + 1; erasing = s.erasing; erases = s.erases }
    → state shape (slice_set places page (Some to)) (map block_of (slice_set items to.block t)) to.block (free - 1)
    ≡ with_program page to (state shape places (map block_of items) last free)
one_more shape places items last free page to s t lt is next by =
    ap (λ (bs : List Block). state shape (slice_set places page (Some to)) bs to.block (free - 1))
    (map-set block_of items to.block t ∙ ap (λ (x : Block). slice_set (map block_of items) to.block x) by)
    ∙ sym (ap (λ (x : Block). made x to.page) (block_is items to.block s lt is) ∙ refl)
    ∙ ap (made (get_or (map block_of items) to.block free_block)) next
  where
    made : Block → ℕ → PartState
    made x n = state shape (slice_set places page (Some (record { block = to.block; page = n })))
        (slice_set (map block_of items) to.block (record x { filled = x.filled + 1 })) to.block (free - 1)

-- The first block that is wholly free

flip : (t : Bool) (n : ℕ) → cond (not t) n 0 ≡ cond t 0 n
flip true n = refl
flip false n = refl

pub first_free : (items : List PartBlock) → position (λ (t : Block). t.filled == 0) (map block_of items) ≡ position is_unfilled items
first_free items =
    ap (λ (n : ℕ). cond (nat_lt n (length (map block_of items))) (Some n) None) same
    ∙ ap (λ (n : ℕ). cond (nat_lt (position_or_len is_unfilled items) n) (Some (position_or_len is_unfilled items)) None) (length-map items block_of)
  where
    same : position_or_len (λ (t : Block). t.filled == 0) (map block_of items) ≡ position_or_len is_unfilled items
    same = is_position_or_len (λ (xs : List PartBlock). position_or_len (λ (t : Block). t.filled == 0) (map block_of xs)) is_unfilled refl
        (λ x xs. flip (x.filled == 0) (1 + position_or_len (λ (t : Block). t.filled == 0) (map block_of xs))) items

-- where the block of the last program isn't open, the next cell is the first of the first free block
pub next_free : (shape : Shape) (places : List (Option Place)) (items : List PartBlock) (last free : ℕ) (s : PartBlock) (o : Option ℕ)
    → last < length items → s ≡ get_or items last s → is_open_at shape.pages (block_of s) ≡ false → o ≡ position is_unfilled items
    → option_map (λ b. record { block = b; page = 0 }) o ≡ next_cell_of (state shape places (map block_of items) last free)
next_free shape places items last free s o lt is shut found =
    ap first (found ∙ sym (first_free items))
    ∙ sym (ap (λ (t : Bool). cond t (Some (record { block = last; page = (get_or (map block_of items) last free_block).filled })) (first free_one))
    (ap (is_open_at shape.pages) (block_is items last s lt is) ∙ shut))
  where
    first : Option ℕ → Option Place
    first x = option_map (λ b. record { block = b; page = 0 }) x

    free_one : Option ℕ
    free_one = position (λ (t : Block). t.filled == 0) (map block_of items)
