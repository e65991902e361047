use Rattle.std.proofs.Common.{◌≡◌, ℕ, ◌++◌, drop}
use Rattle.std.specs.Prelude.{flat_map}
use Rattle.std.specs.List.{enumerate_from}
use Rattle.flashplan_run_figures.specs.Csv.{csv_records, csv_text}
use Rattle.flashplan_run_figures.specs.declared.records.Records.{Records}
use Rattle.flashplan_run_figures.proofs.csv.put_csv.Given as goal

abbrev pub invariant-loop-die : goal.invariant-loop-die
invariant-loop-die l =
    l.text.items ++ flat_map (λ (p : ℕ × Records). csv_records p.0 p.1) (enumerate_from l.die (drop l.die l.dies))
    ≡ l.fn.text.items ++ csv_text l.dies
