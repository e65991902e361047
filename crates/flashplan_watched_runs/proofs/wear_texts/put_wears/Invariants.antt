use Rattle.std.proofs.Common.{◌≡◌, ℕ, ◌++◌, drop}
use Rattle.std.specs.Prelude.{flat_map}
use Rattle.std.specs.List.{enumerate_from}
use Rattle.flashplan_watched_runs.specs.WearText.{records_of}
use Rattle.flashplan_watched_runs.specs.declared.tallies.Tally.{Tally}
use Rattle.flashplan_watched_runs.proofs.wear_texts.put_wears.Given as goal

abbrev pub invariant-loop-die : goal.invariant-loop-die
invariant-loop-die l =
    l.text.items ++ flat_map (λ (p : ℕ × Tally). records_of p.0 p.1) (enumerate_from l.die (drop l.die l.dies))
    ≡ l.initial.text.items ++ flat_map (λ (p : ℕ × Tally). records_of p.0 p.1) (enumerate_from 0 l.dies)
