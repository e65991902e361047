-- Cells that are laid down as they are used.
use Rattle.std.proofs.Common.{◌≡◌, ℕ, ◌+◌, ◌-◌, ◌<◌, ◌≤◌, List, ◌++◌, length, get_or, set, sym, ap, ◌∙◌, append_assoc, length-append, arith}
use Rattle.std.proofs.Common.{inl, inr}
use Rattle.std.specs.Prelude.{replicate}
use Rattle.std.proofs.lemmas.Bool.{cases_lt}
use Rattle.std.proofs.lemmas.List.{append-nil, get_or-append-add, get_or_append_left, get_or-replicate, get_or_past, length-replicate}
use Rattle.std.proofs.lemmas.List.{length-set, replicate-append-replicate, set-append_left}
use Rattle.slot_types.specs.declared.pages.PageData.{PageData}
use Rattle.flash_die.specs.Flash.{blank}
use Rattle.flash_die.specs.Memory.{cells_up_to}

pub laid-all : (count : ℕ) (cells : List PageData) → count ≤ length cells → cells_up_to count cells ≡ cells
laid-all count cells enough =
    let none : count - length cells ≡ 0 = omega (arith, enough) in
    ap (λ (n : ℕ). cells ++ replicate n blank) none ∙ append-nil cells

pub length-laid : (count : ℕ) (cells : List PageData) → length cells ≤ count → length (cells_up_to count cells) ≡ count
length-laid count cells few = omega (
  arith,
  length-append cells (replicate (count - length cells) blank),
  length-replicate {A = PageData}
      (count - length cells) blank,
  few,
)

free_at : (n i : ℕ) → get_or {A = PageData} (replicate n blank) i blank ≡ blank
free_at n i =
    elim (cases_lt i n) [
      | inl below ↦ get_or-replicate n i blank blank below
      | inr past ↦ get_or_past {X = PageData} (replicate n blank) i blank (omega (arith, past, length-replicate {A = PageData} n blank))
    ]

-- a cell that is not laid down reads as a free one
pub read-laid : (count : ℕ) (cells : List PageData) (i : ℕ) → get_or (cells_up_to count cells) i blank ≡ get_or cells i blank
read-laid count cells i =
    elim (cases_lt i (length cells)) [
      | inl below ↦ get_or_append_left cells (replicate (count - length cells) blank) blank i below
      | inr past ↦
          let at : i ≡ length cells + (i - length cells) = omega (arith, past) in
          ap (λ (n : ℕ). get_or (cells_up_to count cells) n blank) at
          ∙ get_or-append-add cells (replicate (count - length cells) blank) (i - length cells) blank
          ∙ free_at (count - length cells) (i - length cells) ∙ sym (get_or_past cells i blank past)
    ]

-- to lay some down first changes nothing
pub laid-laid : (count some : ℕ) (cells : List PageData) → some ≤ count → length cells ≤ count → cells_up_to count (cells_up_to some cells)
    ≡ cells_up_to count cells
laid-laid count some cells few cells_few =
    elim (cases_lt some (length cells)) [
      | inl less ↦ ap (cells_up_to count) (laid-all some cells (omega (arith, less)))
      | inr more ↦
          let n : ℕ = some - length cells in
          let rest : count - length (cells_up_to some cells) ≡ count - some = ap (λ (k : ℕ). count - k) (length-laid some cells more) in
          let sum : n + (count - some) ≡ count - length cells = omega (arith, more, few) in
          ap (λ (k : ℕ). cells_up_to some cells ++ replicate k blank) rest
          ∙ append_assoc cells (replicate n blank) (replicate (count - some) blank)
          ∙ ap (λ (l : List PageData). cells ++ l) (replicate-append-replicate n (count - some) blank)
          ∙ ap (λ (k : ℕ). cells ++ replicate k blank) sum
    ]

-- a write into a cell that is laid down
pub set-laid : (count : ℕ) (cells : List PageData) (i : ℕ) (bytes : PageData) → i < length cells → cells_up_to count (set cells i bytes)
    ≡ set (cells_up_to count cells) i bytes
set-laid count cells i bytes below =
    ap (λ (k : ℕ). set cells i bytes ++ replicate (count - k) blank) (length-set cells i bytes)
    ∙ sym (set-append_left cells (replicate (count - length cells) blank) i bytes below)

pub below-laid : (some i : ℕ) (cells : List PageData) → i < some → i < length (cells_up_to some cells)
below-laid some i cells below = omega (
  arith,
  length-append cells (replicate (some - length cells) blank),
  length-replicate {A = PageData}
      (some - length cells) blank,
  below,
)

-- a write into a cell that is laid down for it
pub write-laid : (count some : ℕ) (cells : List PageData) (i : ℕ) (bytes : PageData) → some ≤ count → i < some → length cells ≤ count
    → cells_up_to count (set (cells_up_to some cells) i bytes) ≡ set (cells_up_to count cells) i bytes
write-laid count some cells i bytes few below cells_few =
    set-laid count (cells_up_to some cells) i bytes (below-laid some i cells below)
    ∙ ap (λ (l : List PageData). set l i bytes) (laid-laid count some cells few cells_few)

pub some-laid : (count some : ℕ) (cells : List PageData) → some ≤ count → length cells ≤ count → length (cells_up_to some cells) ≤ count
some-laid count some cells few cells_few = omega (
  arith,
  length-append cells (replicate (some - length cells) blank),
  length-replicate
      {A = PageData} (some - length cells) blank,
  few,
  cells_few,
)
