-- A block's labels, taken in one by one.
use Rattle.std.proofs.Common.{◌≡◌, ℕ, ◌+◌, ◌<◌, List, length, drop, Option, Some, None, option_map, ap, sym, ◌∙◌, arith}
use Rattle.page_map.specs.Placing.{Placing}
use Rattle.power_loss.specs.Mounted.{all_count, found_at, found_in_cell, found_in_block}
use Rattle.power_loss.proofs.Steps.{cell}
use Rattle.die_mount.specs.declared.label.Label.{Label}
use Rattle.die_mount.specs.Scanned.{found_of, LieBefore}
use Rattle.die_mount.specs.Told.{told_at, shown_cells, shown_label}
use Rattle.die_mount.proofs.Cells.{next_cell}
use Rattle.die_mount.proofs.Taking.{lie_on}

-- the first k cells of a block were taken in
pub record AreTaken (block k : ℕ) (cells : List (Option Label)) (first : Placing) (first_serials : List ℕ) (now : Placing) (serials : List ℕ) : Type 0 where
  pub shape : now.shape ≡ first.shape
  pub pages : length now.places ≡ length first.places
  pub long : length serials ≡ length now.places
  pub before : LieBefore block k now.places
  pub found : (page : ℕ) → page < length first.places
      → found_in_block (all_count page) page block k (drop k (shown_cells cells)) (found_of now.places serials page)
      ≡ found_in_block (all_count page) page block 0 (shown_cells cells) (found_of first.places first_serials page)

module _ (block k : ℕ) (cells : List (Option Label)) (first : Placing) (first_serials : List ℕ) (now : Placing) (serials : List ℕ)
    (h : AreTaken block k cells first first_serials now serials) (lt : k < length cells) where
  pub no_label : told_at cells k ≡ None → AreTaken block (k + 1) cells first first_serials now serials
  no_label none = record {
    shape = h.shape;
    pages = h.pages;
    long = h.long;
    before = lie_on block k now.places h.before;
    found = λ page within.
        ap (λ o. found_in_block (all_count page) page block (k + 1) (drop (k + 1) (shown_cells cells))
        (found_in_cell (all_count page) page (cell block k) (option_map shown_label o) (found_of now.places serials page))) (sym none)
        ∙ sym (next_cell (all_count page) page block k cells (found_of now.places serials page) lt) ∙ h.found page within;
  }

  pub with_label : (label : Label) → told_at cells k ≡ Some label → (after : Placing) (after_serials : List ℕ) → after.shape ≡ now.shape
      → length after.places ≡ length now.places → length after_serials ≡ length serials → LieBefore block (k + 1) after.places
      → ((page : ℕ) → page < length now.places → found_of after.places after_serials page
      ≡ found_at (all_count page) page (cell block k) (shown_label label) (found_of now.places serials page))
      → AreTaken block (k + 1) cells first first_serials after after_serials
  with_label label some after after_serials shape pages same before found = record {
    shape = shape ∙ h.shape;
    pages = pages ∙ h.pages;
    long = same ∙ h.long ∙ sym pages;
    before = before;
    found = λ page within.
        let below : page < length now.places = omega (arith, h.pages, within) in
        ap (found_in_block (all_count page) page block (k + 1) (drop (k + 1) (shown_cells cells)))
        (found page below ∙ ap (λ o. found_in_cell (all_count page) page (cell block k) (option_map shown_label o) (found_of now.places serials page)) (sym some))
        ∙ sym (next_cell (all_count page) page block k cells (found_of now.places serials page) lt) ∙ h.found page within;
  }
