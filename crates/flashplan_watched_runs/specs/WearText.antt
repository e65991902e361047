-- What dies wore, as a text.
use Rattle.std.specs.Prelude.{◌≡◌, ◌==◌, ℕ, ◌+◌, ◌*◌, ◌/◌, ◌%◌, if◌then◌else◌}
use Rattle.std.specs.Prelude.{Option, All, false, map, ◌++◌, List, [], ◌∷◌, flat_map, codes, decimal}
use Rattle.std.specs.List.{enumerate_from}
use Rattle.slot_types.specs.declared.plans.DiePlan.{DiePlan}
use Rattle.die_log.specs.Model.Start.{Start, fresh}
use Rattle.flashplan_script_runs.specs.Counted.{CountsRows}
use Rattle.flashplan_script_runs.specs.ScriptRuns.{IsRunOf}
use Rattle.flashplan_script_runs.specs.declared.counted.RefusedRows.{RefusedRows}
use Rattle.flashplan_script_runs.specs.declared.refused.RefusedRow.{RefusedRow}
use Rattle.flashplan_watched_runs.specs.Wear.{IsWorn, Worn}
use Rattle.flashplan_watched_runs.specs.declared.tallies.Tally.{Tally}

-- thousandths, with three digits after the point
abbrev pub in_thousandths : ℕ → List ℕ
in_thousandths n = decimal (n / 1000) ++ codes "." ++ decimal (n / 100 % 10) ++ decimal (n / 10 % 10) ++ decimal (n % 10)

-- the pages that were programmed for each page that was written, to the thousandth below; nothing where none was written
abbrev pub amplification : ℕ → ℕ → List ℕ
amplification written copied = if written == 0 then [] else in_thousandths ((written + copied) * 1000 / written)

abbrev pub die_counts : (die erased written copied : ℕ) → List ℕ
die_counts die erased written copied =
    codes "die," ++ decimal die ++ codes ",," ++ decimal erased ++ codes "," ++ decimal written ++ codes "," ++ decimal copied ++ codes ","

abbrev pub die_record : ℕ → Tally → List ℕ
die_record die tally =
    die_counts die tally.erased tally.written tally.copied ++ amplification tally.written tally.copied ++ 10 ∷ []

abbrev pub block_record : ℕ → ℕ → ℕ → List ℕ
block_record die block erases = codes "block," ++ decimal die ++ codes "," ++ decimal block ++ codes "," ++ decimal erases ++ codes ",,,"
    ++ 10 ∷ []

-- the records of blocks, numbered from 0
abbrev pub block_records : ℕ → List ℕ → List ℕ
block_records die erases = flat_map (λ (p : ℕ × ℕ). block_record die p.0 p.1) (enumerate_from 0 erases)

-- the records of a die and of its blocks
abbrev pub records_of : ℕ → Tally → List ℕ
records_of die tally = die_record die tally ++ block_records die tally.erases.items

abbrev pub header : List ℕ
header = codes "row,die,block,erases,written,copied,amplification" ++ 10 ∷ []

-- the header, and the records of dies, numbered from 0
abbrev pub wear_text : List Tally → List ℕ
wear_text dies = header ++ flat_map (λ (p : ℕ × Tally). records_of p.0 p.1) (enumerate_from 0 dies)

-- the text of what dies wore that start so, and ran this script, where it is known, and `slots` slots; no device
-- failed, so all rows came, and all slots were carried out
pub record IsWearFrom (starts : List Start) (script : Option (List ℕ)) (slots : ℕ) (counts : RefusedRows) (text : List ℕ) : Type 0 where
  pub dies : List Worn
  pub refused : List RefusedRow
  pub ran : IsRunOf starts script slots refused (map (λ (die : Worn). die.run) dies)
  pub counted : CountsRows refused counts
  pub none_stopped : All (λ (die : Worn). die.run.stopped ≡ false) dies
  pub worn : All IsWorn dies
  pub is : text ≡ wear_text (map (λ (die : Worn). die.tally) dies)

-- so it is of fresh dies of these plans
abbrev pub IsWearText : List DiePlan → Option (List ℕ) → ℕ → RefusedRows → List ℕ → Type 0
IsWearText plans script slots counts text = IsWearFrom (map fresh plans) script slots counts text
