-- Figures as records of CSV.
use Rattle.std.specs.Prelude.{ℕ, List, [], ◌∷◌, ◌++◌, Option, Some, None, codes, decimal, flat_map}
use Rattle.std.specs.List.{enumerate_from}
use Rattle.flashplan_run_figures.specs.FigureTexts.{amplification, count_of, figure_text, hundredths_of, whole_of}
use Rattle.flashplan_run_figures.specs.Wearing.{mean_erases}
use Rattle.flashplan_run_figures.specs.declared.figures.Figure.{Figure}
use Rattle.flashplan_run_figures.specs.declared.figures.Figure.TheVariants as figure
use Rattle.flashplan_run_figures.specs.declared.levels.Low.{Low}
use Rattle.flashplan_run_figures.specs.declared.lives.Lasting.{Lasting}
use Rattle.flashplan_run_figures.specs.declared.lives.Rate.{Rate}
use Rattle.flashplan_run_figures.specs.declared.records.Figures.{Figures}
use Rattle.flashplan_run_figures.specs.declared.records.OwnFigures.{OwnFigures}
use Rattle.flashplan_run_figures.specs.declared.records.Records.{Records}

-- what a die has, and nothing of a task
abbrev pub of_own : (OwnFigures → Figure) → Option OwnFigures → Figure
of_own what None = figure.Nothing
of_own what (Some own) = what own

-- what was asked for, and how late it was
unfoldable pub end_columns : Figures → List Figure
end_columns f =
    count_of f.ends.done ∷ count_of f.ends.waiting ∷ count_of f.ends.refused ∷ count_of f.ends.late ∷ whole_of f.lateness.worst
    ∷ hundredths_of f.lateness.mean ∷ whole_of f.lateness.p99 ∷ count_of f.ends.collected ∷ count_of f.ends.waived
    ∷ count_of f.ends.collecting ∷ count_of f.ends.uncollected ∷ []

-- what the slots carried
unfoldable pub slot_columns : Figures → List Figure
slot_columns f =
    count_of f.slots.jobs ∷ count_of f.slots.copies ∷ count_of f.slots.erases ∷ of_own (λ own. count_of own.idle) f.own
    ∷ count_of f.slots.written ∷ count_of f.slots.copied ∷ amplification f.slots.written f.slots.copied ∷ []

-- how low something fell, and in which slot
abbrev pub low_columns : Option Low → List Figure
low_columns None = figure.Nothing ∷ figure.Nothing ∷ []
low_columns (Some low) = count_of low.value ∷ count_of low.slot ∷ []

abbrev pub spare_of : Option OwnFigures → Option Low
spare_of None = None
spare_of (Some own) = Some own.least_spare

-- the fewest tokens of a task, and the fewest spare pages of a die
unfoldable pub level_columns : Figures → List Figure
level_columns f = low_columns f.least_balance ++ low_columns (spare_of f.own)

-- how often a block is erased a day, and how many days it lasts
abbrev pub rate_columns : Option Rate → List Figure
rate_columns None = figure.Nothing ∷ figure.Nothing ∷ []
rate_columns (Some rate) = figure.Hundredths rate.a_day ∷ figure.Hundredths rate.days ∷ []

abbrev pub years_of : Option Rate → Figure
years_of None = figure.Nothing
years_of (Some rate) = figure.Hundredths rate.years

-- a run's seconds, and how long blocks last by it: by the mean, and by the one that was erased most
abbrev pub lasting_columns : Option Lasting → List Figure
lasting_columns None = figure.Nothing ∷ figure.Nothing ∷ figure.Nothing ∷ figure.Nothing ∷ figure.Nothing ∷ figure.Nothing ∷ []
lasting_columns (Some lasting) =
    figure.Hundredths lasting.run ∷ rate_columns lasting.mean ++ rate_columns lasting.worst ++ years_of lasting.worst ∷ []

-- what a die wore
abbrev pub worn_columns : Option OwnFigures → List Figure
worn_columns None = figure.Nothing ∷ figure.Nothing ∷ figure.Nothing ∷ figure.Nothing ∷ lasting_columns None
worn_columns (Some own) =
    count_of own.wearing.erases ∷ count_of own.wearing.least ∷ hundredths_of (mean_erases own.wearing) ∷ count_of own.wearing.greatest
    ∷ lasting_columns own.lasting

unfoldable pub wear_columns : Figures → List Figure
wear_columns f = worn_columns f.own

-- each after a comma
abbrev pub fields : List Figure → List ℕ
fields figures = flat_map (λ f. 44 ∷ figure_text f) figures

-- all figures, in their order
abbrev pub all_fields : Figures → List ℕ
all_fields f = fields (end_columns f) ++ fields (slot_columns f) ++ fields (level_columns f) ++ fields (wear_columns f)

abbrev pub task_text : Option ℕ → List ℕ
task_text None = []
task_text (Some task) = decimal task

-- the record of a task of a die of this number, or of the die itself
abbrev pub csv_record : ℕ → Figures → List ℕ
csv_record die f = decimal die ++ codes "," ++ task_text f.task ++ all_fields f ++ 10 ∷ []

-- the records of a die and of its tasks
abbrev pub csv_records : ℕ → Records → List ℕ
csv_records die records = csv_record die records.die ++ flat_map (csv_record die) records.tasks.items

-- the names of the figures
unfoldable pub end_names : List ℕ
end_names = codes ",done,waiting,refused,late,worst,mean,p99" ++ codes ",collected,waived,collecting,uncollected"

unfoldable pub slot_names : List ℕ
slot_names = codes ",job_slots,copy_slots,erase_slots,idle_slots" ++ codes ",written,copied,amplification"

unfoldable pub level_names : List ℕ
level_names = codes ",least_balance,balance_slot,least_spare,spare_slot"

unfoldable pub wear_names : List ℕ
wear_names = codes ",erases,least_erases,mean_erases,most_erases" ++ codes ",run_s,mean_a_day,mean_days,most_a_day,most_days,years"

abbrev pub csv_header : List ℕ
csv_header = codes "die,task" ++ end_names ++ slot_names ++ level_names ++ wear_names ++ 10 ∷ []

-- the header, and the records of dies, numbered from 0
abbrev pub csv_text : List Records → List ℕ
csv_text dies = csv_header ++ flat_map (λ (p : ℕ × Records). csv_records p.0 p.1) (enumerate_from 0 dies)
