-- Figures as a table for eyes: a row for each figure, with its name; and in columns what the die has there, and each task.
use Rattle.std.specs.Prelude.{ℕ, ◌+◌, ◌-◌, ◌&&◌, nat_lt, max, Bool, is_none, is_some, pos, int_lt, if◌then◌else◌, fold, get_or}
use Rattle.std.specs.Prelude.{List, [], ◌∷◌, ◌++◌, length, map, flat_map, replicate, Option, Some, None, codes, decimal}
use Rattle.std.specs.Borrow.{Bor}
use Rattle.std.specs.List.{enumerate_from}
use Rattle.flashplan_slot_times.specs.declared.units.Units.{Units}
use Rattle.flashplan_slot_times.specs.Times.{slots_text}
use Rattle.flashplan_run_figures.specs.Csv.{end_columns, level_columns, slot_columns, task_text, wear_columns}
use Rattle.flashplan_run_figures.specs.FigureTexts.{figure_text}
use Rattle.flashplan_run_figures.specs.Quantities.{quantity_text}
use Rattle.flashplan_run_figures.specs.declared.figures.Figure.{Figure}
use Rattle.flashplan_run_figures.specs.declared.figures.Figure.TheVariants as figure
use Rattle.flashplan_run_figures.specs.declared.lives.Lasting.{Lasting}
use Rattle.flashplan_run_figures.specs.declared.lives.Rate.{Rate}
use Rattle.flashplan_run_figures.specs.declared.quantities.Unit.{Unit}
use Rattle.flashplan_run_figures.specs.declared.quantities.Unit.TheVariants as unit
use Rattle.flashplan_run_figures.specs.declared.records.Figures.{Figures}
use Rattle.flashplan_run_figures.specs.declared.records.OwnFigures.{OwnFigures}
use Rattle.flashplan_run_figures.specs.declared.records.Records.{Records}
use Rattle.flashplan_run_figures.specs.declared.table_cells.Counted.{Counted}
use Rattle.flashplan_run_figures.specs.declared.table_cells.Counted.TheVariants as counts
use Rattle.flashplan_run_figures.specs.declared.table_cells.Layout.{Layout}

-- Columns

abbrev pub blanks : (from to : ℕ) → List ℕ
blanks from to = replicate (to - from) 32

-- a text in a column of this width, at its left, and at its right
abbrev pub left : ℕ → List ℕ → List ℕ
left width text = text ++ blanks (length text) width

abbrev pub right : ℕ → List ℕ → List ℕ
right width text = blanks (length text) width ++ text

-- Cells

-- the figures of a record, in the order of CSV
abbrev pub all_columns : Figures → List Figure
all_columns f = end_columns f ++ (slot_columns f ++ (level_columns f ++ wear_columns f))

abbrev pub figure_at : Figures → ℕ → Figure
figure_at f row = get_or (all_columns f) row figure.Nothing

abbrev pub unit_of : ℕ → Counted → Unit
unit_of slots counts.Others = unit.One
unit_of slots counts.Slots = unit.Slot
unit_of slots counts.Pages = unit.Page slots

-- what a record has in a row, with its time or rate
abbrev pub cell : Layout → Figures → ℕ → Counted → List ℕ
cell t f row counted =
    quantity_text (record { figure = figure_at f row; unit = unit_of t.slots counted; units = t.units })

-- Rows

-- the names of figures, in their order, and what they count
abbrev pub NAMES : List (List ℕ × Counted)
NAMES =
    (codes "jobs done", counts.Others) ∷ (codes "jobs waiting", counts.Others) ∷ (codes "jobs refused", counts.Others)
    ∷ (codes "jobs late", counts.Others) ∷ (codes "lateness: worst", counts.Slots) ∷ (codes "lateness: mean", counts.Slots)
    ∷ (codes "lateness: 99 % at most", counts.Slots) ∷ (codes "collections run", counts.Others)
    ∷ (codes "collections waived", counts.Others) ∷ (codes "collections waiting", counts.Others)
    ∷ (codes "collections refused", counts.Others) ∷ (codes "slots of jobs", counts.Slots) ∷ (codes "slots of copies", counts.Slots)
    ∷ (codes "slots of erases", counts.Slots) ∷ (codes "slots idle", counts.Slots) ∷ (codes "pages written", counts.Pages)
    ∷ (codes "pages copied", counts.Pages) ∷ (codes "amplification", counts.Others) ∷ (codes "least balance", counts.Others)
    ∷ (codes "  in slot", counts.Slots) ∷ (codes "least spare", counts.Others) ∷ (codes "  in slot", counts.Slots)
    ∷ (codes "erases", counts.Others) ∷ (codes "  of a block, least", counts.Others) ∷ (codes "  mean", counts.Others)
    ∷ (codes "  greatest", counts.Others) ∷ []

-- a die's record, and those of its tasks
abbrev pub all_records : Records → List Figures
all_records records = records.die ∷ records.tasks.items

abbrev pub row_text : Layout → Records → ℕ → List ℕ × Counted → List ℕ
row_text t records row name =
    left 25 name.0 ++ flat_map (λ f. right t.width (cell t f row name.1)) (all_records records) ++ 10 ∷ []

unfoldable pub rows_text : Layout → Records → List ℕ
rows_text t records = flat_map (λ (p : ℕ × (List ℕ × Counted)). row_text t records p.0 p.1) (enumerate_from 0 NAMES)

-- the same of the names as the code has them, numbered from this one on
abbrev pub named_rows : Layout → Records → ℕ → List (Bor (List ℕ) × Counted) → List ℕ
named_rows t records from names =
    flat_map (λ (p : ℕ × (Bor (List ℕ) × Counted)). row_text t records p.0 (p.1.0.now, p.1.1)) (enumerate_from from names)

-- the names of the columns
abbrev pub head_text : Layout → Figures → List ℕ
head_text t f = right t.width (codes "task " ++ right 2 (task_text f.task))

unfoldable pub heads_text : Layout → ℕ → Records → List ℕ
heads_text t die records =
    left 25 (codes "die " ++ decimal die) ++ right t.width (codes "all") ++ flat_map (head_text t) records.tasks.items ++ 10 ∷ []

-- How long blocks last

-- a row in which the die alone has something
unfoldable pub own_row : Layout → Records → List ℕ → Figure → List ℕ
own_row t records name f =
    left 25 name ++ right t.width (figure_text f) ++ flat_map (λ (task : Figures). right t.width []) records.tasks.items ++ 10 ∷ []

-- in years, below one in days
unfoldable pub lasts_row : Layout → Records → (in_days in_years : List ℕ) → Option Rate → List ℕ
lasts_row t records in_days in_years None = own_row t records in_years figure.Nothing
lasts_row t records in_days in_years (Some rate) =
    if int_lt rate.years (pos 100) then own_row t records in_days (figure.Hundredths rate.days)
    else own_row t records in_years (figure.Hundredths rate.years)

abbrev pub daily : Option Rate → Figure
daily None = figure.Nothing
daily (Some rate) = figure.Hundredths rate.a_day

unfoldable pub until_one_wears_out : Layout → Records → Option Rate → List ℕ
until_one_wears_out t records rate =
    lasts_row t records (codes "days until one wears out") (codes "years until one wears out") rate

unfoldable pub if_all_wear_evenly : Layout → Records → Option Rate → List ℕ
if_all_wear_evenly t records rate =
    lasts_row t records (codes "days if all wear evenly") (codes "years if all wear evenly") rate

-- the seconds of a run
abbrev pub run_of : Lasting → Figure
run_of lasting = figure.Hundredths lasting.run

-- what it is reported by: the length of the run, and how often a block is erased a day
unfoldable pub rate_rows : Layout → Records → Lasting → List ℕ
rate_rows t records lasting =
    own_row t records (codes "seconds of the run") (run_of lasting)
    ++ own_row t records (codes "erases of a block a day") (daily lasting.mean)
    ++ own_row t records (codes "  of the one erased most") (daily lasting.worst)

-- where it is asked for, else a row without a figure
unfoldable pub lasting_rows : Layout → Records → Option Lasting → List ℕ
lasting_rows t records None = until_one_wears_out t records None
lasting_rows t records (Some lasting) =
    rate_rows t records lasting ++ if_all_wear_evenly t records lasting.mean ++ until_one_wears_out t records lasting.worst

abbrev pub lasting_of : Option OwnFigures → Option Lasting
lasting_of None = None
lasting_of (Some own) = own.lasting

-- why no life is reported by the block that was erased most
unfoldable pub most_erased : (die erases : ℕ) → List ℕ
most_erased die erases =
    codes "die " ++ decimal die ++ codes ": the block that was erased most was erased " ++ decimal erases ++ codes " times "

unfoldable pub fewest_of_rate : Units → (slots : ℕ) → List ℕ
fewest_of_rate units slots =
    codes "in " ++ slots_text units.slot_us slots ++ codes " slots, and " ++ decimal 10 ++ codes " at least make a rate: "

unfoldable pub too_short_text : Units → ℕ → OwnFigures → List ℕ
too_short_text units die own =
    most_erased die own.wearing.greatest ++ fewest_of_rate units own.wearing.slots ++ codes "run more slots, or go on from a checkpoint\n"

-- where one is asked for, and that block was erased fewer than ten times
abbrev pub is_too_short : OwnFigures → Bool
is_too_short own = is_some own.lasting && nat_lt own.wearing.greatest 10

unfoldable pub too_short : Units → ℕ → Option OwnFigures → List ℕ
too_short units die None = []
too_short units die (Some own) = if is_too_short own then too_short_text units die own else []

-- The table

abbrev pub slots_in : Option OwnFigures → ℕ
slots_in None = 0
slots_in (Some own) = own.wearing.slots

-- the greatest of a width, and of what each cell of a record takes with two blanks before it
abbrev pub wide_names : {X : Type 0} → Layout → Figures → (width from : ℕ) → List (X × Counted) → ℕ
wide_names {X} t f width from names =
    fold max width (map (λ (p : ℕ × (X × Counted)). length (cell t f p.0 p.1.1) + 2) (enumerate_from from names))

abbrev pub wide_all : {X : Type 0} → Layout → Records → List (X × Counted) → ℕ
wide_all t records names = fold (λ (width : ℕ) (f : Figures). wide_names t f width 0 names) 11 (all_records records)

-- 11 characters, and more where a number has its time
unfoldable pub width_of : Layout → Records → ℕ
width_of t records = if is_none t.units.slot_us then 11 else wide_all t records NAMES

abbrev pub narrow_layout : Records → Units → Layout
narrow_layout records units = record { units = units; slots = slots_in records.die.own; width = 11 }

unfoldable pub layout_of : Records → Units → Layout
layout_of records units = record (narrow_layout records units) { width = width_of (narrow_layout records units) records }

-- The table of a die of this number: its head, a row for each figure, how long its blocks last, and why that isn't told where it
-- is asked for.
abbrev pub table_text : ℕ → Records → Units → List ℕ
table_text die records units =
    let t = layout_of records units in
    heads_text t die records ++ rows_text t records ++ lasting_rows t records (lasting_of records.die.own)
    ++ too_short units die records.die.own
