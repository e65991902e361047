-- The text of what dies came to.
use Rattle.std.specs.Prelude.{◌≡◌, ℕ, ◌+◌, Bool, true, false, List, [], ◌∷◌, ◌++◌}
use Rattle.flashplan_slot_times.specs.declared.units.Units.{Units}
use Rattle.flashplan_run_figures.specs.Csv.{csv_text}
use Rattle.flashplan_run_figures.specs.Tables.{table_text}
use Rattle.flashplan_run_figures.specs.declared.records.Records.{Records}

-- the tables of dies, numbered from this one on, each followed by what is said of its lateness: some text
abbrev pub AreTables : (die : ℕ) → Units → List Records → List ℕ → Type 0
AreTables die units [] text = text ≡ []
AreTables die units (records ∷ more) text = (said : List ℕ) × (rest : List ℕ)
    × (text ≡ table_text die records units ++ said ++ rest) × AreTables (die + 1) units more rest

-- the figures of dies, as CSV or as tables
abbrev pub TellsFigures : (as_csv : Bool) → Units → List Records → List ℕ → Type 0
TellsFigures true units figures text = text ≡ csv_text figures
TellsFigures false units figures text = AreTables 0 units figures text
