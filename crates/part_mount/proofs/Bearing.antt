-- What calls of a device do to its blocks, as they are counted, and to the labels that its cells bear.
use Rattle.std.proofs.Common.{◌≡◌, ◌⊎◌, ℕ, zero, suc, ◌+◌, ◌<◌, ◌≤◌, ◌==◌, Bool, true, false, cond, List, [], ◌∷◌, ◌++◌, length, get_or, set, map}
use Rattle.std.proofs.Common.{Option, Some, None, refl, ap, sym, ◌∙◌, subst, inl, inr, arith}
use Rattle.std.specs.Prelude.{slice_set}
use Rattle.std.proofs.lemmas.Bool.{cases_eq, cases_lt}
use Rattle.std.proofs.lemmas.List.{get_or-set_same, get_or-set_other, get_or_past, length-set, length_push, map-set, set-get_or}
use Rattle.std.proofs.lemmas.Option.{none-some, same_Some}
use Rattle.slot_types.specs.declared.pages.PageData.{PageData}
use Rattle.slot_types.specs.declared.pages.Place.{Place}
use Rattle.slot_types.specs.declared.plans.DiePlan.{DiePlan}
use Rattle.flash_die.specs.Flash as device
use Rattle.flash_die.specs.Flash.{blank}
use Rattle.die_log.specs.Model.Flash.{Block, block_after_erase_slot, free_block}
use Rattle.power_loss.specs.Labels.{Label, Labels, Shown, label_at, labels_in}
use Rattle.labelled_nand.specs.PoweredUp.{AreBorne, counts_of}
use Rattle.die_mount.specs.declared.stage.MountCall.{MountCall}
use Rattle.die_mount.specs.declared.stage.MountCall.TheVariants as calls
use Rattle.part_mount.specs.Calls.{CanCarryOut, blocks_by, labels_by}

-- Counts

-- a block of the device, as it is counted
pub counted : (blocks : List device.Block) (b : ℕ) → counts_of (device.block_at blocks b) ≡ get_or (map counts_of blocks) b free_block
counted [] b = refl
counted (x ∷ blocks) zero = refl
counted (x ∷ blocks) (suc b) = counted blocks b

pub programmed : (blocks : List device.Block) (b : ℕ) (bytes : PageData) → map counts_of (device.blocks_after_program blocks b bytes)
    ≡ set (map counts_of blocks) b (record (get_or (map counts_of blocks) b free_block) { filled = (get_or (map counts_of blocks) b free_block).filled + 1 })
programmed blocks b bytes =
    map-set counts_of blocks b _
    ∙ (ap (λ (n : ℕ). set (map counts_of blocks) b (record
    { filled = n; erasing = (device.block_at blocks b).erasing; erases = (device.block_at blocks b).erases }))
    (length_push (device.block_at blocks b).pages bytes)
    ∙ ap (λ (s : Block). set (map counts_of blocks) b (record s { filled = s.filled + 1 })) (counted blocks b))

pub erased : (plan : DiePlan) (blocks : List device.Block) (b : ℕ)
    → map counts_of (device.blocks_after_erase_slot blocks plan.shape.erase_slots b)
    ≡ set (map counts_of blocks) b (block_after_erase_slot plan (get_or (map counts_of blocks) b free_block))
erased plan blocks b =
    map-set counts_of blocks b _
    ∙ (ap (λ (s : Block). set (map counts_of blocks) b s) (once (device.block_at blocks b))
    ∙ ap (λ (s : Block). set (map counts_of blocks) b (block_after_erase_slot plan s)) (counted blocks b))
  where
    by_test : (t : Bool) (s : device.Block)
        → counts_of (cond t (record { pages = []; erasing = 0; erases = s.erases + 1 }) (record s { erasing = s.erasing + 1 }))
        ≡ cond t (record { filled = 0; erasing = 0; erases = s.erases + 1 }) (record (counts_of s) { erasing = s.erasing + 1 })
    by_test true s = refl
    by_test false s = refl

    once : (s : device.Block) → counts_of (device.block_after_erase_slot plan.shape.erase_slots s) ≡ block_after_erase_slot plan (counts_of s)
    once s = by_test (s.erasing + 1 == plan.shape.erase_slots) s

-- a block of which a page is programmed is there
pub is_there : (blocks : List device.Block) (b : ℕ) → 0 < length (device.block_at blocks b).pages → b < length blocks
is_there blocks b some = by_case (cases_lt b (length blocks))
  where
    by_case : (b < length blocks) ⊎ (length blocks ≤ b) → b < length blocks
    by_case (inl lt) = lt
    by_case (inr past) =
        absurd (omega (arith, some, ap (λ (s : device.Block). length s.pages) (get_or_past blocks b device.free_block past)))

-- Labels

-- a label and its bytes are pushed
pushed_bytes : (xs : List (Option Label)) (ps : List PageData) (x : Label) (bytes : PageData) → length xs ≡ length ps → x.bytes ≡ bytes
    → ((k : ℕ) (y : Label) → get_or xs k None ≡ Some y → get_or ps k blank ≡ y.bytes)
    → (k : ℕ) (y : Label) → get_or (xs ++ Some x ∷ []) k None ≡ Some y → get_or (ps ++ bytes ∷ []) k blank ≡ y.bytes
pushed_bytes [] [] x bytes e is h zero y at = sym is ∙ ap (λ (z : Label). z.bytes) (same_Some x y at)
pushed_bytes [] [] x bytes e is h (suc k) y at = absurd (none-some y at)
pushed_bytes [] (p ∷ ps) x bytes e is h k y at = absurd (omega (arith, e))
pushed_bytes (a ∷ xs) [] x bytes e is h k y at = absurd (omega (arith, e))
pushed_bytes (a ∷ xs) (p ∷ ps) x bytes e is h zero y at = h 0 y at
pushed_bytes (a ∷ xs) (p ∷ ps) x bytes e is h (suc k) y at = pushed_bytes xs ps x bytes (omega (arith, e)) is (λ j z a. h (suc j) z a) k y at

abbrev cell : ℕ → ℕ → Place
cell b k = record { block = b; page = k }

-- one block, and its labels, are others
one_other : (blocks : List device.Block) (labels : Shown) (b : ℕ) (s : device.Block) (ls : List (Option Label)) → AreBorne blocks labels
    → b < length blocks → length ls ≡ length s.pages
    → ((k : ℕ) (y : Label) → get_or ls k None ≡ Some y → get_or s.pages k blank ≡ y.bytes) → AreBorne (set blocks b s) (set labels b ls)
one_other blocks labels b s ls h lt long bytes = record {
  count = length-set labels b ls ∙ (h.count ∙ sym (length-set blocks b s));
  long = λ k. long_at k (cases_eq k b);
  bytes = λ place y at. bytes_at place y at (cases_eq place.block b);
}
  where
    there : (k : ℕ) → k ≡ b → get_or (set blocks b s) k device.free_block ≡ s
    there k is = ap (λ (i : ℕ). get_or (set blocks b s) i device.free_block) is ∙ get_or-set_same blocks b s device.free_block lt

    here : (k : ℕ) → k ≡ b → get_or (set labels b ls) k [] ≡ ls
    here k is = ap (λ (i : ℕ). get_or (set labels b ls) i []) is ∙ get_or-set_same labels b ls [] (omega (arith, lt, h.count))

    long_at : (k : ℕ) → (k ≡ b) ⊎ (k ≡ b → ⊥)
        → length (get_or (set labels b ls) k []) ≡ length (get_or (set blocks b s) k device.free_block).pages
    long_at k (inl is) = ap (λ (l : List (Option Label)). length l) (here k is)
        ∙ (long ∙ sym (ap (λ (x : device.Block). length x.pages) (there k is)))
    long_at k (inr other) = ap (λ (l : List (Option Label)). length l) (get_or-set_other labels b k ls [] other)
        ∙ (h.long k ∙ sym (ap (λ (x : device.Block). length x.pages) (get_or-set_other blocks b k s device.free_block other)))

    bytes_at : (place : Place) (y : Label) → label_at (set labels b ls) place ≡ Some y → (place.block ≡ b) ⊎ (place.block ≡ b → ⊥)
        → device.cell_at (set blocks b s) place ≡ y.bytes
    bytes_at place y at (inl is) =
        ap (λ (x : device.Block). get_or x.pages place.page blank) (there place.block is)
        ∙ bytes place.page y (sym (ap (λ (l : List (Option Label)). get_or l place.page None) (here place.block is)) ∙ at)
    bytes_at place y at (inr other) =
        ap (λ (x : device.Block). get_or x.pages place.page blank) (get_or-set_other blocks b place.block s device.free_block other)
        ∙ h.bytes place y (sym (ap (λ (l : List (Option Label)). get_or l place.page None) (get_or-set_other labels b place.block ls [] other)) ∙ at)

pub borne_program : (blocks : List device.Block) (labels : Shown) (b : ℕ) (bytes : PageData) (x : Label) → AreBorne blocks labels → x.bytes ≡ bytes
    → b < length blocks → AreBorne (device.blocks_after_program blocks b bytes) (slice_set labels b (labels_in labels b ++ Some x ∷ []))
borne_program blocks labels b bytes x h is lt =
    let old = device.block_at blocks b in
    one_other blocks labels b (record old { pages = old.pages ++ bytes ∷ [] }) (labels_in labels b ++ Some x ∷ []) h lt
    (length_push (labels_in labels b) (Some x) ∙ (ap (λ (n : ℕ). n + 1) (h.long b) ∙ sym (length_push old.pages bytes)))
    (pushed_bytes (labels_in labels b) old.pages x bytes (h.long b) is (λ k y at. h.bytes (cell b k) y at))

pub borne_erase : (slots : ℕ) (blocks : List device.Block) (labels : Shown) (b : ℕ) → AreBorne blocks labels → b < length blocks
    → AreBorne (device.blocks_after_erase_slot blocks slots b) (cond ((device.block_at blocks b).erasing + 1 == slots) (set labels b []) labels)
borne_erase slots blocks labels b h lt = by_test ((device.block_at blocks b).erasing + 1 == slots)
  where
    old : device.Block
    old = device.block_at blocks b

    by_test : (t : Bool) → AreBorne (set blocks b (cond t (record { pages = []; erasing = 0; erases = old.erases + 1 }) (record old { erasing = old.erasing + 1 })))
        (cond t (set labels b []) labels)
    by_test true = one_other blocks labels b (record { pages = []; erasing = 0; erases = old.erases + 1 }) [] h lt refl (λ k y at. absurd (none-some y at))
    by_test false =
        let s : device.Block = record old { erasing = old.erasing + 1 } in
        subst (AreBorne (set blocks b s)) (set-get_or labels b [])
        (one_other blocks labels b s (labels_in labels b) h lt (h.long b) (λ k y at. h.bytes (cell b k) y at))

-- the labels once a block had one slot of its erase
pub erased_labels : (t : Bool) (l : Labels) (blocks : Shown) → (cond t (record l { blocks = blocks }) l).blocks ≡ cond t blocks l.blocks
erased_labels true l blocks = refl
erased_labels false l blocks = refl

pub borne_by : (slots pages : ℕ) (held : PageData) (call : MountCall) (blocks : List device.Block) (l : Labels) → AreBorne blocks l.blocks
    → CanCarryOut blocks pages call → AreBorne (blocks_by slots held call blocks) (labels_by slots held call blocks l).blocks
borne_by slots pages held (calls.EraseSlot b) blocks l h can =
    subst (AreBorne (device.blocks_after_erase_slot blocks slots b))
    (sym (erased_labels ((device.block_at blocks b).erasing + 1 == slots) l (set l.blocks b [])))
    (borne_erase slots blocks l.blocks b h can.in_range)
borne_by slots pages held (calls.Read place) blocks l h can = h
borne_by slots pages held (calls.Program place label) blocks l h can =
    borne_program blocks l.blocks place.block held (record { page = label.page; serial = label.serial; bytes = held }) h refl can.in_range
