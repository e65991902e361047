use Rattle.std.proofs.Common.{◌∙◌, ap, arith, inl, length, max}
use Rattle.std.proofs.lemmas.List.{length-map}
use Rattle.task_script.specs.RowEnds.{ends_from}
use Rattle.task_script.specs.RunCounts.{counted_after, rows_in}
use Rattle.task_script.proofs.RowReading.{as_many, zipped}
use Rattle.task_script.proofs.RowsRun.{batch_ran_from, batch_stopped_from, has_run}
use Rattle.task_script.proofs.row_dies.RowDie.run.Goals as goal

pub returns-in-Err-run : goal.returns-in-Err-run
returns-in-Err-run c =
    let h = c.in-Ok.ensures in
    let until = c.args.batch.now.until in
    inl (batch_stopped_from _ _ c.requires.idle.0 c.args.batch.now.rows h.0 until c.args.self.now c.requires.idle.1 h.1 _ c.max.result
    c.read.new.self.die c.run.new.self c.requires.in_reach c.requires.within (c.max.ensures ∙ ap (λ n. max n until) h.4) h.2 c.in-Err-run.ensures)

pub returns : goal.returns
returns c =
    let h = c.in-Ok.ensures in
    let texts = c.args.batch.now.rows in
    let until = c.args.batch.now.until in
    let old = c.args.self.now in
    let idle = c.requires.idle in
    let after = c.run.new.self in
    let came = batch_ran_from _ _ idle.0 texts h.0 until old idle.1 h.1 c.max.result c.read.new.self.die after
    (c.max.ensures ∙ ap (λ n. max n until) h.4) h.2 c.in-Ok-run.ensures in (
      h.0,
      h.1,
      has_run _ _ idle.0 texts h.0 until old idle.1 h.1 after _ c.requires.in_reach c.requires.within came c.clear-2.ensures.die
          c.clear-2.ensures.clock c.clear-2.ensures.none c.clear.ensures.items
          (c.add_rows.ensures ∙ λ i. counted_after (h.5 i)
          (ends_from 0 ((c.as_slice.ensures.value ∙ h.3) i) (c.refused.ensures i))),
    )

pub add_rows-requires : goal.add_rows-requires
add_rows-requires c =
    let h = c.in-Ok.ensures in
    let texts = c.args.batch.now.rows in record {
      few = omega (
        arith,
        c.requires.few,
        ap rows_in h.5,
        ap length c.as_slice.ensures.value,
        ap length h.3,
        length-map h.0 (λ i. i.line),
        as_many texts h.0 (zipped texts h.0 h.1),
      );
    }
