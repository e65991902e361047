-- A block's cells, one by one.
use Rattle.std.proofs.Common.{◌≡◌, ℕ, ◌+◌, ◌<◌, List, [], ◌∷◌, length, get_or, drop, Option, Some, None, option_map}
use Rattle.std.proofs.Common.{refl, ap, ◌∙◌, arith}
use Rattle.std.proofs.Math.ListN.{get_or-map}
use Rattle.std.proofs.lemmas.List.{drop_more, drop_all, length-map}
use Rattle.power_loss.specs.Labels.{Label as Stands}
use Rattle.power_loss.specs.Mounted.{Found, found_in_cell, found_in_block}
use Rattle.power_loss.proofs.Steps.{cell}
use Rattle.die_mount.specs.declared.label.Label.{Label}
use Rattle.die_mount.specs.Told.{told_at, told_cells, shown_cells, shown_label}

pub shown_at : (cells : List (Option Label)) (k : ℕ) → get_or (shown_cells cells) k None ≡ option_map shown_label (told_at cells k)
shown_at cells k = get_or-map (option_map shown_label) cells k None

pub shown_long : (cells : List (Option Label)) → length (shown_cells cells) ≡ length cells
shown_long cells = length-map cells (option_map shown_label)

-- the next cell
pub next_cell : (from page b k : ℕ) (cells : List (Option Label)) (best : Option Found) → k < length cells
    → found_in_block from page b k (drop k (shown_cells cells)) best
    ≡ found_in_block from page b (k + 1) (drop (k + 1) (shown_cells cells)) (found_in_cell from page (cell b k) (option_map shown_label (told_at cells k)) best)
next_cell from page b k cells best lt =
    let long : k < length (shown_cells cells) = omega (arith, shown_long cells) in
    ap (λ xs. found_in_block from page b k xs best)
    (drop_more (shown_cells cells) k None long ∙ ap (λ o. o ∷ drop (k + 1) (shown_cells cells)) (shown_at cells k))

-- past the last one
pub no_more : (from page b k : ℕ) (cells : List (Option Label)) (best : Option Found) → length cells ≡ k
    → found_in_block from page b k (drop k (shown_cells cells)) best ≡ best
no_more from page b k cells best e =
    ap (λ xs. found_in_block from page b k xs best) (drop_all k (shown_cells cells) (omega (arith, shown_long cells)))

-- the bytes don't matter
pub same_found : (from page b k : ℕ) (shown : List (Option Stands)) (best : Option Found)
    → found_in_block from page b k (shown_cells (told_cells shown)) best ≡ found_in_block from page b k shown best
same_found from page b k [] best = refl
same_found from page b k (None ∷ shown) best = same_found from page b (k + 1) shown best
same_found from page b k (Some x ∷ shown) best = same_found from page b (k + 1) shown (found_in_cell from page (cell b k) (Some x) best)
