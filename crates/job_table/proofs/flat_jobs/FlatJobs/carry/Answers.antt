use Rattle.std.proofs.Common.{◌+◌, ℕ, List, Some, vec_capacity, refl, sym, ap, ◌∙◌, arith, slice_get}
use Rattle.job_table.specs.declared.rows.Row.{Row}
use Rattle.job_table.specs.Jobs.{JobRecord, with_one_more_slot}
use Rattle.job_table.specs.Table.{changed_at, work_of, reads_next_of}
use Rattle.slot_types.specs.declared.events.Op.{Op}
use Rattle.std.specs.Prelude.{Option}
use Rattle.slot_types.specs.Operations.{is_write}
use Rattle.slot_types.specs.Operations.{is_some_write}
use Rattle.job_table.specs.Flat.{ops_at}
use Rattle.job_table.proofs.Reading.{write_of, next_few}
use Rattle.job_table.proofs.Laying.{few_set, row_read, job_there, row_carried, laid_kept, room_kept, jobs_set}
use Rattle.job_table.proofs.Kept.{jobs_of, jobs_become}
use Rattle.job_table.proofs.flat_jobs.FlatJobs.carry.Goals as goal

pub invariant_of-self : goal.invariant_of-self
invariant_of-self c =
    let row : Row = c.index_mut-row.result.now in
    let at_n = row_read c.self.inside.rows.items c.self.inside.ops.ops c.self.inside.reads.items c.args.self.now.jobs c.number.inside.0 c.args.number
    row (jobs_of c.self.view_is) c.number.view_is c.requires.there c.index_mut-row.ensures.value in
    let there = job_there c.self.inside.rows.items c.self.inside.ops.ops c.self.inside.reads.items c.args.self.now.jobs c.number.inside.0
    c.args.number (Some row) (jobs_of c.self.view_is) c.number.view_is at_n in
    let next = sym (ap reads_next_of there) ∙ c.requires.reads in
    let fits = row_carried c.self.inside.ops.ops row c.next_writes.result next c.next_writes.ensures (c.self.invariant.0.each c.number.inside.0 row at_n).fits in (
      laid_kept c.self.inside.rows.items c.self.inside.ops.ops c.self.inside.reads.items c.self.inside.placed c.number.inside.0 row _ at_n refl refl refl refl refl fits
          c.self.invariant.0,
      room_kept c.self.inside.rows.items c.self.inside.ops.ops c.self.inside.reads.items c.self.inside.all_reads c.self.inside.placed
          (vec_capacity c.self.inside.reads) c.number.inside.0 row _ at_n refl c.self.invariant.1,
      few_set c.self.inside.rows.items c.self.inside.ops.ops c.number.inside.0 _ c.self.invariant.2,
      record {
        for_rows = c.self.invariant.3.for_rows;
        for_reads = c.self.invariant.3.for_reads;
        rows_last = c.self.invariant.3.rows_last;
        reads_last = c.self.invariant.3.reads_last;
        most_arrivals = c.self.invariant.3.most_arrivals;
        most_operations = c.self.invariant.3.most_operations;
      },
    )

pub next_writes-requires : goal.next_writes-requires
next_writes-requires c =
    let row : Row = c.index_mut-row.result.now in
    let at_n = row_read c.self.inside.rows.items c.self.inside.ops.ops c.self.inside.reads.items c.args.self.now.jobs c.number.inside.0 c.args.number
    row (jobs_of c.self.view_is) c.number.view_is c.requires.there c.index_mut-row.ensures.value in
    (c.self.invariant.0.each c.number.inside.0 row at_n).fits

pub overflow_add-row : goal.overflow_add-row
overflow_add-row c =
    let row : Row = c.index_mut-row.result.now in
    let at_n = row_read c.self.inside.rows.items c.self.inside.ops.ops c.self.inside.reads.items c.args.self.now.jobs c.number.inside.0 c.args.number
    row (jobs_of c.self.view_is) c.number.view_is c.requires.there c.index_mut-row.ensures.value in
    let fits = (c.self.invariant.0.each c.number.inside.0 row at_n).fits in
    let next : Option Op = slice_get (ops_at c.self.inside.ops.ops row) row.work in
    let few = (next_few is_write c.self.inside.ops.ops row row.writes_done (is_some_write next) fits (write_of next) fits.writes_done_is).1 in
    omega (arith, few, c.next_writes.ensures)

pub overflow_add-row-2 : goal.overflow_add-row-2
overflow_add-row-2 c =
    let row : Row = c.index_mut-row.result.now in
    let at_n = row_read c.self.inside.rows.items c.self.inside.ops.ops c.self.inside.reads.items c.args.self.now.jobs c.number.inside.0 c.args.number
    row (jobs_of c.self.view_is) c.number.view_is c.requires.there c.index_mut-row.ensures.value in
    let work = ap work_of (job_there c.self.inside.rows.items c.self.inside.ops.ops c.self.inside.reads.items c.args.self.now.jobs c.number.inside.0
    c.args.number (Some row) (jobs_of c.self.view_is) c.number.view_is at_n) in
    omega (arith, work, c.requires.room)

pub returns : goal.returns
returns c =
    let row : Row = c.index_mut-row.result.now in
    let at_n = row_read c.self.inside.rows.items c.self.inside.ops.ops c.self.inside.reads.items c.args.self.now.jobs c.number.inside.0 c.args.number
    row (jobs_of c.self.view_is) c.number.view_is c.requires.there c.index_mut-row.ensures.value in
    jobs_become _ _ _ _ c.self.view_is (jobs_set c.self.inside.rows.items c.self.inside.ops.ops c.self.inside.reads.items c.number.inside.0 row (record row { writes_done = row.writes_done + c.next_writes.result; work = row.work + 1 })
    with_one_more_slot at_n refl
    ∙ ap (λ (l : List JobRecord). changed_at l c.number.inside.0 with_one_more_slot) (jobs_of c.self.view_is)
    ∙ ap (λ (n : ℕ). changed_at c.args.self.now.jobs n with_one_more_slot) c.number.view_is)
