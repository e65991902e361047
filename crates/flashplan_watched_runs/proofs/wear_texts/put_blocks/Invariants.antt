use Rattle.std.proofs.Common.{◌≡◌, ℕ, ◌++◌, drop}
use Rattle.std.specs.Prelude.{flat_map}
use Rattle.std.specs.List.{enumerate_from}
use Rattle.flashplan_watched_runs.specs.WearText.{block_record, block_records}
use Rattle.flashplan_watched_runs.proofs.wear_texts.put_blocks.Given as goal

abbrev pub invariant-loop-block : goal.invariant-loop-block
invariant-loop-block l =
    l.text.items ++ flat_map (λ (p : ℕ × ℕ). block_record l.die p.0 p.1) (enumerate_from l.block (drop l.block l.erases))
    ≡ l.initial.text.items ++ block_records l.die l.erases
