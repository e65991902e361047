use Rattle.std.proofs.Common.{◌≡◌, ◌++◌, drop}
use Rattle.std.specs.Prelude.{flat_map}
use Rattle.csv.specs.Writing.{default_writer, row_text}
use Rattle.checkpoint_texts.specs.CheckpointText.{block_record}
use Rattle.checkpoint_texts.proofs.writing.put_blocks.Given as goal

abbrev pub invariant-loop-block : goal.invariant-loop-block
invariant-loop-block l = l.text.items ++ flat_map (λ block. row_text default_writer (block_record block)) (drop l.block-index l.blocks)
    ≡ l.initial.text.items ++ flat_map (λ block. row_text default_writer (block_record block)) l.blocks
