-- A mirror that has the names of a checkpoint's pages: it is as the checkpoint says that the device was left, and its pages have these names.
use Rattle.std.proofs.Common.{◌≡◌, ℕ, zero, suc, ◌+◌, ◌<◌, ◌≤◌, List, [], ◌∷◌, ◌++◌, Option, Some, None, refl, sym, ap, ◌∙◌, inl, inr}
use Rattle.std.proofs.Common.{length, get_or, take, drop, set, map, arith, add-one}
use Rattle.std.specs.Prelude.{replicate, slice_index, slice_index_or, ◌*◌}
use Rattle.std.specs.List.{range_with_len}
use Rattle.std.proofs.lemmas.Bool.{cases_lt}
use Rattle.std.proofs.lemmas.List.{append-nil, drop_all, take_all, length-map, length-replicate, length-set, get_or-map, get_or_past, set-set, get_or-set_same, set-get_or}
use Rattle.std.proofs.lemmas.List.FromFn.{length-map-range_with_len, get_or-map-range_with_len, map-range_with_len_more}
use Rattle.std.proofs.lemmas.List.FromFn.{fill_by_all}
use Rattle.slot_types.specs.declared.pages.PageData.{PageData}
use Rattle.slot_types.specs.declared.pages.Place.{Place}
use Rattle.slot_types.specs.declared.plans.DiePlan.{DiePlan}
use Rattle.slot_types.specs.declared.plans.Shape.{Shape}
use Rattle.slot_types.specs.Places.{place_of}
use Rattle.page_map.proofs.Owners.{owner_is}
use Rattle.die_checkpoint.specs.declared.checkpoint.BlockCounts.{BlockCounts}
use Rattle.die_checkpoint.specs.declared.checkpoint.Checkpoint.{Checkpoint}
use Rattle.die_checkpoint.specs.Counts.{counts_at, no_counts}
use Rattle.die_checkpoint.specs.Fits.{Fits}
use Rattle.flash_die.specs.Flash.{Block, IsNextCell, blank, free_block, block_at, cell_at, blocks_after_program}
use Rattle.flash_die.specs.Memory.{Memory, block_of, cells_up_to, left_memory}
use Rattle.flash_die.proofs.Fresh.{zero_at}
use Rattle.flash_volume.specs.Cells.{content_at, contents}
use Rattle.flash_volume.specs.Checkpoints.{counts_of, IsAsLeft}
use Rattle.die_log.specs.Model.Start.{Start}
use Rattle.die_log.specs.Model.Log.{Log}
use Rattle.die_log.specs.Model.Flash as model
use Rattle.die_log.specs.Model.Opening.{renewed_start}
use Rattle.slot_core.specs.Resumptions.{start_with, resumed_start}
use Rattle.stepped_die.specs.declared.mirror.MirrorNand.{MirrorNand}
use Rattle.stepped_die.specs.Names.{name_of, named_by, page_named, pages_named, name_in, names_in, block_left, memory_left}

-- Lists

map_twice : {A B C : Type 0} (g : B → C) (f : A → B) (xs : List A) → map g (map f xs) ≡ map (λ x. g (f x)) xs
map_twice g f [] = refl
map_twice g f (x ∷ xs) = ap (λ l. g (f x) ∷ l) (map_twice g f xs)

-- the front of one list before the rest of another
abbrev pub up_to : {A : Type 0} → ℕ → List A → List A → List A
up_to k done left = take k done ++ drop k left

pub up_to-all : {A : Type 0} (k : ℕ) (done left : List A) → length done ≤ k → length left ≤ k → up_to k done left ≡ done
up_to-all {A = A} k done left p q =
    ap (λ (l : List A). l ++ drop k left) (take_all k done p)
    ∙ (ap (λ (l : List A). done ++ l) (drop_all k left q) ∙ append-nil done)

pub length-up_to : {A : Type 0} (k : ℕ) (done left : List A) → length done ≡ length left → length (up_to k done left) ≡ length left
length-up_to zero done left e = refl
length-up_to (suc k) [] [] e = refl
length-up_to (suc k) [] (y ∷ left) e = absurd (omega (arith, e))
length-up_to (suc k) (x ∷ done) [] e = absurd (omega (arith, e))
length-up_to (suc k) (x ∷ done) (y ∷ left) e = ap (λ (n : ℕ). suc n) (length-up_to k done left (omega (arith, e)))

-- the next item is still that of the rest
pub next_left : {A : Type 0} (k : ℕ) (done left : List A) (d : A) → length done ≡ length left → k < length left
    → get_or (up_to k done left) k d ≡ get_or left k d
next_left zero done left d e h = refl
next_left (suc k) [] left d e h = absurd (omega (arith, e, h))
next_left (suc k) (x ∷ done) [] d e h = absurd (omega (arith, h))
next_left (suc k) (x ∷ done) (y ∷ left) d e h = next_left k done left d (omega (arith, e)) (omega (arith, h))

one_more : {A : Type 0} (k : ℕ) (done left : List A) (d : A) → length done ≡ length left → k < length left
    → set (up_to k done left) k (get_or done k d) ≡ up_to (suc k) done left
one_more zero [] left d e h = absurd (omega (arith, e, h))
one_more zero (x ∷ done) [] d e h = absurd (omega (arith, h))
one_more zero (x ∷ done) (y ∷ left) d e h = refl
one_more (suc k) [] left d e h = absurd (omega (arith, e, h))
one_more (suc k) (x ∷ done) [] d e h = absurd (omega (arith, h))
one_more (suc k) (x ∷ done) (y ∷ left) d e h = ap (λ l. x ∷ l) (one_more k done left d (omega (arith, e)) (omega (arith, h)))

-- A block that is filled

-- a block with these pages
abbrev pub filled_with : List Block → ℕ → List PageData → List Block
filled_with blocks block pages = set blocks block (record (block_at blocks block) { pages = pages })

pub filled_none : (blocks : List Block) (block : ℕ) → (block_at blocks block).pages ≡ [] → blocks ≡ filled_with blocks block []
filled_none blocks block none =
    sym (ap (λ (pages : List PageData). set blocks block (record (block_at blocks block) { pages = pages })) (sym none)
    ∙ set-get_or blocks block free_block)

-- the block, after some of its cells were programmed
pub filled_at : (blocks : List Block) (block : ℕ) (pages : List PageData) → block < length blocks
    → block_at (filled_with blocks block pages) block ≡ record (block_at blocks block) { pages = pages }
filled_at blocks block pages h = get_or-set_same blocks block (record (block_at blocks block) { pages = pages }) free_block h

-- one cell more
pub filled_more : (blocks : List Block) (block : ℕ) (places : List (Option Place)) (names : List PageData) (n : ℕ) → block < length blocks
    → blocks_after_program (filled_with blocks block (names_in places names block n)) block (name_in places names block n)
    ≡ filled_with blocks block (names_in places names block (n + 1))
filled_more blocks block places names n h =
    let now : List Block = filled_with blocks block (names_in places names block n) in
    let X : Block = record (block_at blocks block) { pages = names_in places names block n } in
    ap (λ (old : Block). set now block (record old { pages = old.pages ++ name_in places names block n ∷ [] }))
    (filled_at blocks block (names_in places names block n) h)
    ∙ (set-set blocks block X (record (block_at blocks block) { pages = names_in places names block n ++ name_in places names block n ∷ [] })
    ∙ ap (λ (pages : List PageData). filled_with blocks block pages)
    (sym (map-range_with_len_more (name_in places names block) 0 n n (omega arith))))

pub length-names_in : (places : List (Option Place)) (names : List PageData) (block n : ℕ) → length (names_in places names block n) ≡ n
length-names_in places names block n = length-map-range_with_len (name_in places names block) 0 n

-- the next cell to be programmed
pub next_cell : (blocks : List Block) (block pages : ℕ) (places : List (Option Place)) (names : List PageData) (n : ℕ)
    → block < length blocks → (block_at blocks block).erasing ≡ 0 → n < pages
    → IsNextCell (filled_with blocks block (names_in places names block n)) pages (record { block = block; page = n })
next_cell blocks block pages places names n h quiet few =
    let X : Block = record (block_at blocks block) { pages = names_in places names block n } in
    let at : block_at (filled_with blocks block (names_in places names block n)) block ≡ X
    = filled_at blocks block (names_in places names block n) h in
    record {
      in_range = omega (arith, h, length-set blocks block X);
      next = sym (ap (λ (b : Block). length b.pages) at ∙ length-names_in places names block n);
      room = few;
      quiet = ap (λ (b : Block). b.erasing) at ∙ quiet;
    }

-- The blocks

-- by block its erases
abbrev pub erases_of : List BlockCounts → List ℕ
erases_of blocks = map (λ (block : BlockCounts). block.erases) blocks

-- a block of which as many pages as `filled` says are programmed and blank, that was erased as often as `erases` says
abbrev pub left_block : List ℕ → List ℕ → ℕ → Block
left_block filled erases block = record {
  pages = replicate (slice_index filled block) blank;
  erasing = 0;
  erases = slice_index erases block;
}

-- of all blocks no cell is programmed yet
abbrev pub unfilled : List BlockCounts → List Block
unfilled counts = map (left_block (replicate (length counts) 0) (erases_of counts)) (range_with_len 0 (length counts))

map_alike : {A B : Type 0} (f g : A → B) (xs : List A) → ((x : A) → f x ≡ g x) → map f xs ≡ map g xs
map_alike f g [] alike = refl
map_alike f g (x ∷ xs) alike = ap (λ y. y ∷ map f xs) (alike x) ∙ ap (λ ys. g x ∷ ys) (map_alike f g xs alike)

-- a device that was left with no page programmed has these blocks
pub left_unfilled : (shape : Shape) (counts : List BlockCounts)
    → (left_memory shape [] (replicate (length counts) 0) (erases_of counts)).blocks ≡ unfilled counts
left_unfilled shape counts =
    map_alike (block_of shape.pages cells none idle erases) (left_block none erases) (range_with_len 0 (length none)) alike
    ∙ ap (λ (n : ℕ). map (left_block none erases) (range_with_len 0 n)) (length-replicate (length counts) 0)
  where
    none : List ℕ
    none = replicate (length counts) 0

    idle : List ℕ
    idle = replicate shape.blocks 0

    erases : List ℕ
    erases = erases_of counts

    cells : List PageData
    cells = cells_up_to (shape.blocks * shape.pages) []

    B : ℕ → ℕ → List PageData → ℕ → Block
    B filled erasing left erases = record { pages = take filled left; erasing = erasing; erases = erases }

    alike : (k : ℕ) → block_of shape.pages cells none idle erases k ≡ left_block none erases k
    alike k =
        ap (λ (n : ℕ). B n (get_or idle k 0) (drop (k * shape.pages) cells) (get_or erases k 0)) (zero_at none (length counts) k refl)
        ∙ (ap (λ (n : ℕ). B 0 n (drop (k * shape.pages) cells) (get_or erases k 0)) (zero_at idle shape.blocks k refl)
        ∙ sym (ap (λ (n : ℕ). record { pages = replicate n blank; erasing = 0; erases = get_or erases k 0 })
        (zero_at none (length counts) k refl)))

abbrev pub all_left : Checkpoint → List PageData → List Block
all_left c names = map (block_left c names) (range_with_len 0 (length c.blocks))

pub length-all : (c : Checkpoint) (names : List PageData) → length (all_left c names) ≡ length c.blocks
length-all c names = length-map-range_with_len (block_left c names) 0 (length c.blocks)

pub length-unfilled : (counts : List BlockCounts) → length (unfilled counts) ≡ length counts
length-unfilled counts = length-map-range_with_len (left_block (replicate (length counts) 0) (erases_of counts)) 0 (length counts)

block_unfilled : (counts : List BlockCounts) (k : ℕ) → k < length counts
    → block_at (unfilled counts) k ≡ record { pages = []; erasing = 0; erases = (counts_at counts k).erases }
block_unfilled counts k h =
    get_or-map-range_with_len (left_block (replicate (length counts) 0) (erases_of counts)) 0 (length counts) k k free_block h (omega arith)
    ∙ (ap (λ (n : ℕ). B (replicate n blank) (get_or (erases_of counts) k 0)) (zero_at (replicate (length counts) 0) (length counts) k refl)
    ∙ ap (λ (n : ℕ). B [] n) (get_or-map (λ (block : BlockCounts). block.erases) counts k no_counts 0 h))
  where
    B : List PageData → ℕ → Block
    B pages erases = record { pages = pages; erasing = 0; erases = erases }

-- the first `k` blocks are filled, and the others are not
abbrev pub filled_up_to : Checkpoint → List PageData → ℕ → List Block
filled_up_to c names k = up_to k (all_left c names) (unfilled c.blocks)

-- the block that is filled next is free
pub next_free : (c : Checkpoint) (names : List PageData) (k : ℕ) → k < length c.blocks
    → block_at (filled_up_to c names k) k ≡ record { pages = []; erasing = 0; erases = (counts_at c.blocks k).erases }
next_free c names k h =
    next_left k (all_left c names) (unfilled c.blocks) free_block (length-all c names ∙ sym (length-unfilled c.blocks))
    (omega (arith, h, length-unfilled c.blocks))
    ∙ block_unfilled c.blocks k h

-- one block more
pub blocks_more : (c : Checkpoint) (names : List PageData) (k : ℕ) → k < length c.blocks
    → filled_with (filled_up_to c names k) k (names_in c.places names k (counts_at c.blocks k).filled) ≡ filled_up_to c names (k + 1)
blocks_more c names k h =
    let now : List Block = filled_up_to c names k in
    ap (λ (b : Block). set now k (record b { pages = names_in c.places names k (counts_at c.blocks k).filled })) (next_free c names k h)
    ∙ (ap (λ (b : Block). set now k b)
    (sym (get_or-map-range_with_len (block_left c names) 0 (length c.blocks) k k free_block h (omega arith)))
    ∙ (one_more k (all_left c names) (unfilled c.blocks) free_block (length-all c names ∙ sym (length-unfilled c.blocks))
    (omega (arith, h, length-unfilled c.blocks))
    ∙ ap (λ (n : ℕ). up_to n (all_left c names) (unfilled c.blocks)) (sym (add-one k))))

pub length-filled : (c : Checkpoint) (names : List PageData) (k : ℕ) → length (filled_up_to c names k) ≡ length c.blocks
length-filled c names k =
    length-up_to k (all_left c names) (unfilled c.blocks) (length-all c names ∙ sym (length-unfilled c.blocks)) ∙ length-unfilled c.blocks

-- all are filled
pub all_filled : (shape : Shape) (c : Checkpoint) (names : List PageData) (k : ℕ) (memory : Memory) → memory.shape ≡ shape
    → memory.blocks ≡ filled_up_to c names k → length c.blocks ≤ k → memory ≡ memory_left shape c names
all_filled shape c names k memory shape_is blocks_are all =
    ap (λ (s : Shape). with_blocks s memory.blocks) shape_is
    ∙ ap (with_blocks shape) (blocks_are ∙ up_to-all k (all_left c names) (unfilled c.blocks) (omega (arith, all, length-all c names))
    (omega (arith, all, length-unfilled c.blocks)))
  where
    with_blocks : Shape → List Block → Memory
    with_blocks shape blocks = record { shape = shape; blocks = blocks }

-- What the mirror is

block_is : (c : Checkpoint) (names : List PageData) (k : ℕ) → k < length c.blocks → block_at (all_left c names) k ≡ block_left c names k
block_is c names k h = get_or-map-range_with_len (block_left c names) 0 (length c.blocks) k k free_block h (omega arith)

-- it is as the checkpoint says
pub is_as_left : (c : Checkpoint) (names : List PageData) → IsAsLeft c (all_left c names) 0
is_as_left c names = record {
  counts = map_twice counts_of (block_left c names) (range_with_len 0 (length c.blocks))
      ∙ sym (fill_by_all (λ (k : ℕ). counts_of (block_left c names k)) c.blocks (length c.blocks) no_counts refl
      (λ k h. sym (ap (λ (n : ℕ). counted n (counts_at c.blocks k).erases)
      (length-names_in c.places names k (counts_at c.blocks k).filled))));
  idle = λ k. elim (cases_lt k (length c.blocks)) [
    | inl below ↦ ap (λ (b : Block). b.erasing) (block_is c names k below)
    | inr past ↦ ap (λ (b : Block). b.erasing)
        (get_or_past (all_left c names) k free_block (omega (arith, past, length-all c names)))
  ];
  well = refl;
}
  where
    counted : ℕ → ℕ → BlockCounts
    counted filled erases = record { filled = filled; erases = erases }

-- a page's cell holds its name
cell_named : (plan : DiePlan) (c : Checkpoint) (names : List PageData) (page : ℕ) (place : Place) → Fits plan c
    → place_of c.places page ≡ Some place → cell_at (all_left c names) place ≡ slice_index_or names page blank
cell_named plan c names page place fits lies =
    let filled : place.page < (counts_at c.blocks place.block).filled = fits.all_else.placed page place lies in
    elim (cases_lt place.block (length c.blocks)) [
      | inl below ↦
          ap (λ (b : Block). get_or b.pages place.page blank) (block_is c names place.block below)
          ∙ (get_or-map-range_with_len (name_in c.places names place.block) 0 (counts_at c.blocks place.block).filled place.page place.page
          blank filled (omega arith)
          ∙ ap (name_of names) (owner_is c.places page place fits.apart lies))
      | inr past ↦
          absurd (omega (arith, filled, ap (λ (b : BlockCounts). b.filled) (get_or_past c.blocks place.block no_counts past)))
    ]

named_content : (plan : DiePlan) (c : Checkpoint) (names : List PageData) (page : ℕ) (o : Option Place) → Fits plan c
    → place_of c.places page ≡ o → content_at (all_left c names) o ≡ named_by names page o
named_content plan c names page None fits lies = refl
named_content plan c names page (Some place) fits lies = cell_named plan c names page place fits lies

-- its pages have these names
pub contents_named : (plan : DiePlan) (c : Checkpoint) (names : List PageData) → Fits plan c
    → contents (all_left c names) c.places ≡ pages_named c.places names
contents_named plan c names fits =
    fill_by_all (page_named c.places names) (contents (all_left c names) c.places) (length c.places) blank
    (length-map c.places (content_at (all_left c names)))
    (λ k h. get_or-map (content_at (all_left c names)) c.places k None blank h
    ∙ named_content plan c names k (place_of c.places k) fits refl)

-- The names that a checkpoint has

own_content : (blocks : List Block) (places : List (Option Place)) (page : ℕ) (o : Option Place) → page < length places → place_of places page ≡ o
    → content_at blocks o ≡ named_by (contents blocks places) page o
own_content blocks places page None h lies = refl
own_content blocks places page (Some place) h lies =
    sym (get_or-map (content_at blocks) places page None blank h ∙ ap (content_at blocks) lies)

-- what pages hold are their names
pub names_reported : (blocks : List Block) (places : List (Option Place)) → contents blocks places
    ≡ pages_named places (contents blocks places)
names_reported blocks places =
    fill_by_all (page_named places (contents blocks places)) (contents blocks places) (length places) blank
    (length-map places (content_at blocks))
    (λ k h. get_or-map (content_at blocks) places k None blank h
    ∙ own_content blocks places k (place_of places k) h refl)

-- the names of a checkpoint are those of the log
pub names_are : (start : Start) (log : Log) (c : Checkpoint) (blocks : List Block) (names : List PageData)
    → resumed_start start.plan c blocks ≡ renewed_start start log → names ≡ contents blocks c.places → names ≡ model.contents start log
names_are start log c blocks names goes_on is = is ∙ ap (λ (s : Start). s.contents) goes_on

-- with them the renewed log goes on
pub goes_on_named : (start : Start) (log : Log) (c : Checkpoint) (blocks : List Block) (names : List PageData)
    → resumed_start start.plan c blocks ≡ renewed_start start log → names ≡ contents blocks c.places
    → start_with start.plan c (pages_named c.places names) ≡ renewed_start start log
goes_on_named start log c blocks names goes_on is =
    ap (λ (pages : List PageData). start_with start.plan c pages)
    (ap (pages_named c.places) is ∙ sym (names_reported blocks c.places))
    ∙ goes_on

-- On a device

-- the cells of a mirror
abbrev pub cells_in : MirrorNand → List Block
cells_in device = device.memory.blocks

-- the names, as they were asked of the die's own device
pub names_asked : (asked device : MirrorNand) (places lie : List (Option Place)) (names : List PageData)
    → names ≡ contents (cells_in asked) places → asked ≡ device → places ≡ lie → names ≡ contents (cells_in device) lie
names_asked asked device places lie names are same lies =
    are ∙ ap (λ (d : MirrorNand). contents (cells_in d) places) same ∙ ap (contents (cells_in device)) lies

-- the pages of a mirror that was left with these names
pub left_named : (plan : DiePlan) (c : Checkpoint) (names : List PageData) (device : MirrorNand) (mirror : MirrorNand) → Fits plan c
    → device ≡ mirror → mirror.memory ≡ memory_left plan.shape c names
    → contents (cells_in device) c.places ≡ pages_named c.places names
left_named plan c names device mirror fits new left =
    ap (λ (d : MirrorNand). contents (cells_in d) c.places) new
    ∙ ap (λ (m : Memory). contents m.blocks c.places) left
    ∙ contents_named plan c names fits
