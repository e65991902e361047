use Rattle.std.proofs.Common.{ℕ, List, vec_capacity, refl, ap, ◌∙◌}
use Rattle.job_table.specs.declared.rows.Row.{Row}
use Rattle.job_table.specs.Jobs.{JobRecord, with_stage}
use Rattle.job_table.specs.Table.{changed_at}
use Rattle.job_table.specs.Flat.{IsRowOf}
use Rattle.job_table.proofs.Laying.{few_set, row_read, laid_kept, room_kept, jobs_set}
use Rattle.job_table.proofs.Kept.{jobs_of, jobs_become}
use Rattle.job_table.proofs.flat_jobs.FlatJobs.set_stage.Goals as goal

pub invariant_of-self : goal.invariant_of-self
invariant_of-self c =
    let row : Row = c.index_mut-row.result.now in
    let at_n = row_read c.self.inside.rows.items c.self.inside.ops.ops c.self.inside.reads.items c.args.self.now.jobs c.number.inside.0 c.args.number
    row (jobs_of c.self.view_is) c.number.view_is c.requires c.index_mut-row.ensures.value in
    let old = (c.self.invariant.0.each c.number.inside.0 row at_n).fits in
    let fits : IsRowOf c.self.inside.ops.ops (record row { stage = c.args.stage }) = record {
      ops_there = old.ops_there;
      ops_few = old.ops_few;
      first_write_is = old.first_write_is;
      read_count_is = old.read_count_is;
      reads_done_is = old.reads_done_is;
      writes_done_is = old.writes_done_is;
    } in (
      laid_kept c.self.inside.rows.items c.self.inside.ops.ops c.self.inside.reads.items c.self.inside.placed c.number.inside.0 row _ at_n refl refl refl refl refl fits
          c.self.invariant.0,
      room_kept c.self.inside.rows.items c.self.inside.ops.ops c.self.inside.reads.items c.self.inside.all_reads c.self.inside.placed
          (vec_capacity c.self.inside.reads) c.number.inside.0 row _ at_n refl c.self.invariant.1,
      few_set c.self.inside.rows.items c.self.inside.ops.ops c.number.inside.0 _ c.self.invariant.2,
      record {
        for_rows = c.self.invariant.3.for_rows;
        for_reads = c.self.invariant.3.for_reads;
        rows_last = c.self.invariant.3.rows_last;
        reads_last = c.self.invariant.3.reads_last;
        most_arrivals = c.self.invariant.3.most_arrivals;
        most_operations = c.self.invariant.3.most_operations;
      },
    )

pub returns : goal.returns
returns c =
    let row : Row = c.index_mut-row.result.now in
    let at_n = row_read c.self.inside.rows.items c.self.inside.ops.ops c.self.inside.reads.items c.args.self.now.jobs c.number.inside.0 c.args.number
    row (jobs_of c.self.view_is) c.number.view_is c.requires c.index_mut-row.ensures.value in
    jobs_become _ _ _ _ c.self.view_is (jobs_set c.self.inside.rows.items c.self.inside.ops.ops c.self.inside.reads.items c.number.inside.0 row
    (record row { stage = c.args.stage }) (with_stage c.args.stage) at_n refl
    ∙ ap (λ (l : List JobRecord). changed_at l c.number.inside.0 (with_stage c.args.stage)) (jobs_of c.self.view_is)
    ∙ ap (λ (n : ℕ). changed_at c.args.self.now.jobs n (with_stage c.args.stage)) c.number.view_is)
