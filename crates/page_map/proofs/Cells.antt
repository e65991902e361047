-- Cells and their numbers.
use Rattle.std.proofs.Common.{◌≡◌, ℕ, zero, suc, ◌<◌, ◌≤◌, List, [], ◌∷◌, map, length, get_or, set, Option, Some, None, refl, sym, ap, ◌∙◌}
use Rattle.std.proofs.Common.{arith}
use Rattle.std.specs.Prelude.{replicate, IfSome}
use Rattle.std.proofs.lemmas.List.{length-map, map-set}
use Rattle.std.proofs.lemmas.Nat.{div-mul-add, mod-mul-add}
use Rattle.slot_types.specs.declared.pages.Place.{Place}
use Rattle.slot_types.specs.declared.plans.Shape.{Shape}
use Rattle.page_map.specs.Placing.{IsCell, cell_index}
use Rattle.page_map.specs.Packing.{place_at, place_in}
use Rattle.page_map.specs.Tables.{entries_up_to}
use Rattle.page_map.proofs.Laid.{length-laid, read-laid, laid_below}
use Rattle.page_map.proofs.Owners.{same_place}

-- a cell's number tells it
pub back : (shape : Shape) (place : Place) → IsCell shape place → place_at shape (cell_index shape place) ≡ place
back shape place is =
    same_place (place_at shape (cell_index shape place)) place (div-mul-add place.block shape.pages place.page is.page)
    (mod-mul-add place.block shape.pages place.page is.page)

pub back_in : (shape : Shape) (place : Place) → IsCell shape place → place_in shape (Some (cell_index shape place)) ≡ Some place
back_in shape place is = ap (λ (p : Place). Some p) (back shape place is)

pub none_placed : (shape : Shape) (n : ℕ) → map (place_in shape) (replicate n None) ≡ replicate n None
none_placed shape zero = refl
none_placed shape (suc n) = ap (λ (l : List (Option Place)). None ∷ l) (none_placed shape n)

pub placed_at : (shape : Shape) (l : List (Option ℕ)) (i : ℕ) → get_or (map (place_in shape) l) i None ≡ place_in shape (get_or l i None)
placed_at shape [] i = refl
placed_at shape (o ∷ l) zero = refl
placed_at shape (o ∷ l) (suc i) = placed_at shape l i

pub length-placed : (shape : Shape) (logical : ℕ) (cells : List (Option ℕ)) → length cells ≤ logical
    → length (map (place_in shape) (entries_up_to logical cells)) ≡ logical
length-placed shape logical cells few = length-map (entries_up_to logical cells) (place_in shape) ∙ length-laid logical cells few

-- an entry with a cell is that of its place
pub set-placed : (shape : Shape) (l : List (Option ℕ)) (i : ℕ) (o : Option ℕ) (p : Option Place) → place_in shape o ≡ p
    → map (place_in shape) (set l i o) ≡ set (map (place_in shape) l) i p
set-placed shape l i o p is = map-set (place_in shape) l i o ∙ ap (λ (q : Option Place). set (map (place_in shape) l) i q) is

-- an entry of a map with a cell has pages
pub some_pages : (shape : Shape) (word : Option ℕ) → ((place : Place) → place_in shape word ≡ Some place → IsCell shape place)
    → IfSome word (λ _. 0 < shape.pages)
some_pages shape None cells = tt
some_pages shape (Some cell) cells = omega (arith, (cells (place_at shape cell) refl).page)

-- an entry that tells a place has a number
pub reported_cell : (shape : Shape) (word : Option ℕ) (place : Place) → place_in shape word ≡ Some place → (cell : ℕ) × (word ≡ Some cell)
reported_cell shape None place is = absurd (cc)
reported_cell shape (Some cell) place is = (cell, refl)

-- the place that an entry tells
pub found : (shape : Shape) (logical : ℕ) (cells : List (Option ℕ)) (page : ℕ) (word : Option ℕ) → word ≡ get_or cells page None
    → get_or (map (place_in shape) (entries_up_to logical cells)) page None ≡ place_in shape word
found shape logical cells page word is = placed_at shape (entries_up_to logical cells) page
    ∙ ap (place_in shape) (read-laid logical cells page ∙ sym is)

-- an entry that tells a place is laid down
pub found_below : (shape : Shape) (logical : ℕ) (cells : List (Option ℕ)) (page : ℕ) (place : Place)
    → get_or (map (place_in shape) (entries_up_to logical cells)) page None ≡ Some place → page < length cells
found_below shape logical cells page place is =
    let said = reported_cell shape (get_or (entries_up_to logical cells) page None) place (sym (placed_at shape (entries_up_to logical cells) page) ∙ is) in
    laid_below logical cells page said.0 said.1
