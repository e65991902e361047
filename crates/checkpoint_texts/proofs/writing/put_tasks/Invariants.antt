use Rattle.std.proofs.Common.{◌≡◌, ◌++◌, drop}
use Rattle.std.specs.Prelude.{flat_map}
use Rattle.csv.specs.Writing.{default_writer, row_text}
use Rattle.checkpoint_texts.specs.CheckpointText.{task_record}
use Rattle.checkpoint_texts.proofs.writing.put_tasks.Given as goal

abbrev pub invariant-loop-balance : goal.invariant-loop-balance
invariant-loop-balance l = l.text.items ++ flat_map (λ balance. row_text default_writer (task_record balance)) (drop l.balance-index l.balances)
    ≡ l.initial.text.items ++ flat_map (λ balance. row_text default_writer (task_record balance)) l.balances
