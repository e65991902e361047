-- Where the figures of a record stand among all.
use Rattle.std.proofs.Common.{◌≡◌, ℕ, ◌-◌, ◌<◌, ◌≤◌, ◌++◌, length, get_or, refl, ap, ◌∙◌, arith, Option, Some, None}
use Rattle.std.proofs.lemmas.List.{get_or_append_left, get_or-append_right, length-append}
use Rattle.flashplan_run_figures.specs.Csv.{end_columns, level_columns, low_columns, slot_columns, spare_of, wear_columns}
use Rattle.flashplan_run_figures.specs.Tables.{figure_at}
use Rattle.flashplan_run_figures.specs.declared.figures.Figure.TheVariants as figure
use Rattle.flashplan_run_figures.specs.declared.levels.Low.{Low}
use Rattle.flashplan_run_figures.specs.declared.records.Figures.{Figures}

ends_count : (f : Figures) → length (end_columns f) ≡ 11
unfolding end_columns
ends_count f = refl

slots_count : (f : Figures) → length (slot_columns f) ≡ 7
unfolding slot_columns
slots_count f = refl

low_count : (low : Option Low) → length (low_columns low) ≡ 2
low_count None = refl
low_count (Some low) = refl

levels_count : (f : Figures) → length (level_columns f) ≡ 4
unfolding level_columns
levels_count f =
    let all = length-append (low_columns f.least_balance) (low_columns (spare_of f.own)) in
    omega (arith, all, low_count f.least_balance, low_count (spare_of f.own))

pub of_ends : (f : Figures) (row : ℕ) → row < 11 → figure_at f row ≡ get_or (end_columns f) row figure.Nothing
of_ends f row below =
    get_or_append_left (end_columns f) (slot_columns f ++ (level_columns f ++ wear_columns f)) figure.Nothing row
    (omega (arith, below, ends_count f))

beyond_ends : (f : Figures) (row : ℕ) → 11 ≤ row
    → figure_at f row ≡ get_or (slot_columns f ++ (level_columns f ++ wear_columns f)) (row - 11) figure.Nothing
beyond_ends f row above =
    get_or-append_right (end_columns f) (slot_columns f ++ (level_columns f ++ wear_columns f)) 11 row figure.Nothing (ends_count f) above

pub of_slots : (f : Figures) (row : ℕ) → 11 ≤ row → row < 18 → figure_at f row ≡ get_or (slot_columns f) (row - 11) figure.Nothing
of_slots f row above below =
    beyond_ends f row above
    ∙ get_or_append_left (slot_columns f) (level_columns f ++ wear_columns f) figure.Nothing (row - 11)
    (omega (arith, above, below, slots_count f))

beyond_slots : (f : Figures) (row : ℕ) → 18 ≤ row
    → figure_at f row ≡ get_or (level_columns f ++ wear_columns f) (row - 18) figure.Nothing
beyond_slots f row above =
    let place : row - 11 - 7 ≡ row - 18 = omega (arith, above) in
    beyond_ends f row (omega (arith, above))
    ∙ (get_or-append_right (slot_columns f) (level_columns f ++ wear_columns f) 7 (row - 11) figure.Nothing (slots_count f)
    (omega (arith, above))
    ∙ ap (λ (n : ℕ). get_or (level_columns f ++ wear_columns f) n figure.Nothing) place)

pub of_levels : (f : Figures) (row : ℕ) → 18 ≤ row → row < 22 → figure_at f row ≡ get_or (level_columns f) (row - 18) figure.Nothing
of_levels f row above below =
    beyond_slots f row above
    ∙ get_or_append_left (level_columns f) (wear_columns f) figure.Nothing (row - 18) (omega (arith, above, below, levels_count f))

pub of_wear : (f : Figures) (row : ℕ) → 22 ≤ row → figure_at f row ≡ get_or (wear_columns f) (row - 22) figure.Nothing
of_wear f row above =
    let place : row - 18 - 4 ≡ row - 22 = omega (arith, above) in
    beyond_slots f row (omega (arith, above))
    ∙ (get_or-append_right (level_columns f) (wear_columns f) 4 (row - 18) figure.Nothing (levels_count f) (omega (arith, above))
    ∙ ap (λ (n : ℕ). get_or (wear_columns f) n figure.Nothing) place)
