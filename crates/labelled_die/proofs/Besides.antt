-- What the calls of a part do to it without the block aside.
use Rattle.std.proofs.Common.{◌≡◌, ◌≢◌, ◌⊎◌, ℕ, ◌+◌, ◌<◌, ◌≤◌, ◌==◌, Bool, true, false, cond, List, [], ◌∷◌, ◌++◌, length, get_or, set}
use Rattle.std.proofs.Common.{Option, Some, None, refl, ap, sym, ◌∙◌, subst, inl, inr, arith}
use Rattle.std.specs.Prelude.{slice_index_or, slice_set}
use Rattle.std.proofs.lemmas.Bool.{cases_eq}
use Rattle.std.proofs.lemmas.List.{ext_get_or, get_or-set_same, get_or-set_other, length-set}
use Rattle.slot_types.specs.declared.pages.PageData.{PageData}
use Rattle.slot_types.specs.declared.pages.Place.{Place}
use Rattle.flash_die.specs.Flash.{Block, free_block, blank, block_at, cell_at, IsProgrammed, IsNextCell, IsErasable}
use Rattle.flash_die.specs.Flash.{block_after_erase_slot, blocks_after_program, blocks_after_erase_slot}
use Rattle.flash_die.specs.declared.nand.NandCall.{NandCall}
use Rattle.flash_die.specs.declared.nand.NandCall.TheVariants as calls
use Rattle.labelled_nand.specs.Calls.{labels_after_call, serial_after}
use Rattle.power_loss.specs.Aside.{die_labels, on_part, renumbered, without_aside}
use Rattle.power_loss.specs.Labels.{Label, Labels, Shown, labels_in, label_at}
use Rattle.power_loss.proofs.Aside.Lists.{part_aside, part_other, without_at, without_length}
use Rattle.labelled_die.specs.Beside.{call_on_part}

-- the block of a call is below this
abbrev pub IsBelow : ℕ → NandCall → Type 0
IsBelow last (calls.Read place) = place.block < last
IsBelow last (calls.Program place page bytes) = place.block < last
IsBelow last (calls.EraseSlot b) = b < last

module _ (last aside : ℕ) (le : aside ≤ last) where
  -- Numbers

  on_part_within : (b : ℕ) → b < last → on_part last aside b < last + 1
  on_part_within b lt = by_case (cases_eq b aside)
    where
      by_case : (b ≡ aside) ⊎ (b ≡ aside → ⊥) → on_part last aside b < last + 1
      by_case (inl is) = omega (arith, part_aside last aside b is)
      by_case (inr other) = omega (arith, part_other last aside b other, lt)

  on_part_apart : (b k : ℕ) → b < last → k < last → k ≢ b → on_part last aside k ≢ on_part last aside b
  on_part_apart b k lt less other same = by_case (cases_eq b aside) (cases_eq k aside)
    where
      by_case : (b ≡ aside) ⊎ (b ≡ aside → ⊥) → (k ≡ aside) ⊎ (k ≡ aside → ⊥) → ⊥
      by_case (inl is) (inl it) = other (it ∙ sym is)
      by_case (inl is) (inr apart) = omega (arith, part_aside last aside b is, part_other last aside k apart, same, less)
      by_case (inr away) (inl it) = omega (arith, part_other last aside b away, part_aside last aside k it, same, lt)
      by_case (inr away) (inr apart) = other (sym (part_other last aside k apart) ∙ (same ∙ part_other last aside b away))

  -- Lists

  pub without_set : {A : Type 0} (none : A) (all : List A) (b : ℕ) (x : A) → length all ≡ last + 1 → b < last
      → without_aside last aside none (set all (on_part last aside b) x) ≡ set (without_aside last aside none all) b x
  without_set {A = A} none all b x e lt =
      ext_get_or none (without_aside last aside none later) (set (without_aside last aside none all) b x)
      (long ∙ sym (length-set (without_aside last aside none all) b x ∙ without_length last aside none all e))
      (λ k h. at k (omega (arith, h, long)))
    where
      later : List A
      later = set all (on_part last aside b) x

      count : length later ≡ last + 1
      count = length-set all (on_part last aside b) x ∙ e

      long : length (without_aside last aside none later) ≡ last
      long = without_length last aside none later count

      at : (k : ℕ) → k < last → get_or (without_aside last aside none later) k none ≡ get_or (set (without_aside last aside none all) b x) k none
      at k less = without_at last aside none later k count less ∙ by_case (cases_eq k b)
        where
          by_case : (k ≡ b) ⊎ (k ≡ b → ⊥)
              → get_or later (on_part last aside k) none ≡ get_or (set (without_aside last aside none all) b x) k none
          by_case (inl is) =
              ap (λ i. get_or later (on_part last aside i) none) is
              ∙ (get_or-set_same all (on_part last aside b) x none (omega (arith, e, on_part_within b lt))
              ∙ sym (ap (λ i. get_or (set (without_aside last aside none all) b x) i none) is
              ∙ get_or-set_same (without_aside last aside none all) b x none (omega (arith, lt, without_length last aside none all e))))
          by_case (inr other) =
              get_or-set_other all (on_part last aside b) (on_part last aside k) x none (on_part_apart b k lt less other)
              ∙ sym (get_or-set_other (without_aside last aside none all) b k x none other ∙ without_at last aside none all k e less)

  -- Blocks

  pub block_is : (blocks : List Block) (b : ℕ) → length blocks ≡ last + 1 → b < last
      → block_at (without_aside last aside free_block blocks) b ≡ block_at blocks (on_part last aside b)
  block_is blocks b e lt = without_at last aside free_block blocks b e lt

  pub below : (blocks : List Block) (b : ℕ) → length blocks ≡ last + 1 → b < length (without_aside last aside free_block blocks) → b < last
  below blocks b e lt = omega (arith, lt, without_length last aside free_block blocks e)

  pub programmed_there : (blocks : List Block) (place : Place) → length blocks ≡ last + 1
      → IsProgrammed (without_aside last aside free_block blocks) place → IsProgrammed blocks (renumbered (on_part last aside) place)
  programmed_there blocks place e h =
      let lt = below blocks place.block e h.in_range in
      let same = block_is blocks place.block e lt in record {
        in_range = omega (arith, e, on_part_within place.block lt);
        filled = subst (λ (s : Block). place.page < length s.pages) same h.filled;
        quiet = subst (λ (s : Block). s.erasing ≡ 0) same h.quiet;
      }

  pub cell_is : (blocks : List Block) (place : Place) → length blocks ≡ last + 1 → place.block < last
      → cell_at blocks (renumbered (on_part last aside) place) ≡ cell_at (without_aside last aside free_block blocks) place
  cell_is blocks place e lt = ap (λ (s : Block). slice_index_or s.pages place.page blank) (sym (block_is blocks place.block e lt))

  pub next_there : (blocks : List Block) (pages : ℕ) (place : Place) → length blocks ≡ last + 1
      → IsNextCell (without_aside last aside free_block blocks) pages place → IsNextCell blocks pages (renumbered (on_part last aside) place)
  next_there blocks pages place e h =
      let lt = below blocks place.block e h.in_range in
      let same = block_is blocks place.block e lt in record {
        in_range = omega (arith, e, on_part_within place.block lt);
        next = h.next ∙ ap (λ (s : Block). length s.pages) same;
        room = h.room;
        quiet = subst (λ (s : Block). s.erasing ≡ 0) same h.quiet;
      }

  pub erasable_there : (blocks : List Block) (pages b : ℕ) → length blocks ≡ last + 1
      → IsErasable (without_aside last aside free_block blocks) pages b → IsErasable blocks pages (on_part last aside b)
  erasable_there blocks pages b e h =
      let lt = below blocks b e h.in_range in
      let same = block_is blocks b e lt in record {
        in_range = omega (arith, e, on_part_within b lt);
        closed = subst (λ (s : Block). (s.erasing ≡ 0) → length s.pages ≡ pages) same h.closed;
        few_erases = subst (λ (s : Block). s.erases < 4294967295) same h.few_erases;
      }

  pub programs_here : (blocks : List Block) (b : ℕ) (bytes : PageData) → length blocks ≡ last + 1 → b < last
      → without_aside last aside free_block (blocks_after_program blocks (on_part last aside b) bytes)
      ≡ blocks_after_program (without_aside last aside free_block blocks) b bytes
  programs_here blocks b bytes e lt =
      without_set free_block blocks b _ e lt
      ∙ ap (λ (s : Block). slice_set (without_aside last aside free_block blocks) b (record s { pages = s.pages ++ bytes ∷ [] }))
      (sym (block_is blocks b e lt))

  pub erases_here : (blocks : List Block) (slots b : ℕ) → length blocks ≡ last + 1 → b < last
      → without_aside last aside free_block (blocks_after_erase_slot blocks slots (on_part last aside b))
      ≡ blocks_after_erase_slot (without_aside last aside free_block blocks) slots b
  erases_here blocks slots b e lt =
      without_set free_block blocks b _ e lt
      ∙ ap (λ (s : Block). slice_set (without_aside last aside free_block blocks) b (block_after_erase_slot slots s)) (sym (block_is blocks b e lt))

  -- Labels

  labels_is : (blocks : Shown) (b : ℕ) → length blocks ≡ last + 1 → b < last
      → labels_in (without_aside last aside [] blocks) b ≡ labels_in blocks (on_part last aside b)
  labels_is blocks b e lt = without_at last aside [] blocks b e lt

  pub label_is : (blocks : Shown) (place : Place) → length blocks ≡ last + 1 → place.block < last
      → label_at blocks (renumbered (on_part last aside) place) ≡ label_at (without_aside last aside [] blocks) place
  label_is blocks place e lt = ap (λ (xs : List (Option Label)). slice_index_or xs place.page None) (sym (labels_is blocks place.block e lt))

  pushed : (blocks : Shown) (b : ℕ) (x : Option Label) → length blocks ≡ last + 1 → b < last
      → without_aside last aside [] (slice_set blocks (on_part last aside b) (labels_in blocks (on_part last aside b) ++ x ∷ []))
      ≡ slice_set (without_aside last aside [] blocks) b (labels_in (without_aside last aside [] blocks) b ++ x ∷ [])
  pushed blocks b x e lt =
      without_set [] blocks b _ e lt
      ∙ ap (λ (xs : List (Option Label)). slice_set (without_aside last aside [] blocks) b (xs ++ x ∷ [])) (sym (labels_is blocks b e lt))

  pub labels_follow : (slots : ℕ) (blocks : List Block) (call : NandCall) (l : Labels) → length blocks ≡ last + 1 → length l.blocks ≡ last + 1
      → IsBelow last call → die_labels last aside (labels_after_call slots blocks (call_on_part last aside call) l)
      ≡ labels_after_call slots (without_aside last aside free_block blocks) call (die_labels last aside l)
  labels_follow slots blocks (calls.Read place) l e f lt = refl
  labels_follow slots blocks (calls.Program place None bytes) l e f lt =
      ap (λ (bs : Shown). record l { blocks = bs }) (pushed l.blocks place.block None f lt)
  labels_follow slots blocks (calls.Program place (Some page) bytes) l e f lt =
      ap (λ (bs : Shown). record { blocks = bs; next = serial_after l.next })
      (pushed l.blocks place.block (Some (record { page = page; serial = l.next; bytes = bytes })) f lt)
  labels_follow slots blocks (calls.EraseSlot b) l e f lt =
      by_last ((block_at blocks (on_part last aside b)).erasing + 1 == slots)
      ∙ ap (λ (s : Block). cond (s.erasing + 1 == slots)
      (record (die_labels last aside l) { blocks = slice_set (without_aside last aside [] l.blocks) b [] }) (die_labels last aside l))
      (sym (block_is blocks b e lt))
    where
      by_last : (t : Bool) → die_labels last aside (cond t (record l { blocks = slice_set l.blocks (on_part last aside b) [] }) l)
          ≡ cond t (record (die_labels last aside l) { blocks = slice_set (without_aside last aside [] l.blocks) b [] }) (die_labels last aside l)
      by_last true = ap (λ (bs : Shown). record l { blocks = bs }) (without_set [] l.blocks b [] f lt)
      by_last false = refl

-- a call leaves as many blocks with labels
pub labels_stay : (slots : ℕ) (blocks : List Block) (call : NandCall) (l : Labels)
    → length (labels_after_call slots blocks call l).blocks ≡ length l.blocks
labels_stay slots blocks (calls.Read place) l = refl
labels_stay slots blocks (calls.Program place None bytes) l = length-set l.blocks place.block (labels_in l.blocks place.block ++ None ∷ [])
labels_stay slots blocks (calls.Program place (Some page) bytes) l =
    length-set l.blocks place.block (labels_in l.blocks place.block ++ Some (record { page = page; serial = l.next; bytes = bytes }) ∷ [])
labels_stay slots blocks (calls.EraseSlot b) l = by_last ((block_at blocks b).erasing + 1 == slots)
  where
    by_last : (t : Bool) → length (cond t (record l { blocks = slice_set l.blocks b [] }) l).blocks ≡ length l.blocks
    by_last true = length-set l.blocks b []
    by_last false = refl
