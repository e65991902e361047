use Rattle.std.proofs.Common.{◌≡◌, ◌<◌, ◌^◌, ℕ, ◌+◌, List, Some, true, slice_get, length, replicate, vec_len, vec_capacity, rules, arith, ap, ◌∙◌}
use Rattle.std.proofs.lemmas.List.{length-replicate}
use Rattle.slot_types.specs.declared.pages.PageData.{PageData}
use Rattle.job_table.specs.declared.rows.Row.{Row}
use Rattle.job_table.specs.Jobs.{JobRecord, is_read, with_one_more_slot, with_read}
use Rattle.job_table.specs.Table.{changed_at, work_of}
use Rattle.job_table.specs.Flat.{blank}
use Rattle.job_table.specs.Flat.{ops_at, places_lacking, places_unfilled, place_from}
use Rattle.job_table.proofs.Reading.{read_of, next_few}
use Rattle.job_table.proofs.Laying.{few_set, job_there, row_reading, row_room, made, read_room, laid_read, room_read, jobs_read}
use Rattle.job_table.proofs.Kept.{jobs_of, jobs_become}
use Rattle.job_table.proofs.flat_jobs.FlatJobs.carry_read.Goals as goal

pub give_places-requires-clause-filled : goal.give_places-requires-clause-filled
give_places-requires-clause-filled c =
    let whole : vec_len c.self.inside.reads ≡ length c.self.inside.reads.items = search rules in
    omega (arith, whole, c.self.invariant.1.filled)

pub give_places-requires-clause-room : goal.give_places-requires-clause-room
give_places-requires-clause-room c = omega (arith, c.self.invariant.1.places, c.self.invariant.1.room)

pub give_places-requires-clause-few : goal.give_places-requires-clause-few
give_places-requires-clause-few c =
    let f = c.self.inside in
    let row : Row = c.index_mut-row.result.now in
    let reading = row_reading f.rows.items f.ops.ops f.reads.items c.args.self.now.jobs c.number.inside.0
    c.args.number row (jobs_of c.self.view_is) c.number.view_is c.requires.there c.index_mut-row.ensures.value c.requires.reads in
    let room = row_room f.rows.items f.ops.ops f.reads.items f.all_reads f.placed (vec_capacity f.reads) c.number.inside.0 row reading.there
    c.self.invariant.1 in
    let few : c.self.inside.all_reads < 2 ^ 32 = search rules in
    omega (arith, room, few)

pub overflow_add-row : goal.overflow_add-row
overflow_add-row c =
    let f = c.self.inside in
    let row : Row = c.index_mut-row.result.now in
    let reading = row_reading f.rows.items f.ops.ops f.reads.items c.args.self.now.jobs c.number.inside.0
    c.args.number row (jobs_of c.self.view_is) c.number.view_is c.requires.there c.index_mut-row.ensures.value c.requires.reads in
    let fits = (c.self.invariant.0.each c.number.inside.0 row reading.there).fits in
    let few = (next_few is_read f.ops.ops row row.reads_done true fits (read_of (slice_get (ops_at f.ops.ops row) row.work) ∙ reading.next)
    fits.reads_done_is).1 in
    rw c.give_places.ensures.row (omega (arith, few))

pub overflow_add-row-2 : goal.overflow_add-row-2
overflow_add-row-2 c =
    let f = c.self.inside in
    let row : Row = c.index_mut-row.result.now in
    let reading = row_reading f.rows.items f.ops.ops f.reads.items c.args.self.now.jobs c.number.inside.0
    c.args.number row (jobs_of c.self.view_is) c.number.view_is c.requires.there c.index_mut-row.ensures.value c.requires.reads in
    let work = ap work_of (job_there f.rows.items f.ops.ops f.reads.items c.args.self.now.jobs c.number.inside.0
    c.args.number (Some row) (jobs_of c.self.view_is) c.number.view_is reading.there) in
    let room = c.requires.room in
    rw c.give_places.ensures.row (omega arith)

pub put_page-requires-clause-there : goal.put_page-requires-clause-there
put_page-requires-clause-there c =
    let f = c.self.inside in
    let row : Row = c.index_mut-row.result.now in
    let reading = row_reading f.rows.items f.ops.ops f.reads.items c.args.self.now.jobs c.number.inside.0
    c.args.number row (jobs_of c.self.view_is) c.number.view_is c.requires.there c.index_mut-row.ensures.value c.requires.reads in
    let whole : vec_len f.reads ≡ length f.reads.items = search rules in
    let count : ℕ = places_unfilled f.placed (vec_len f.reads) row in
    let more : List PageData = replicate count blank in
    let filled = c.self.invariant.1.filled in
    let made = made f.rows.items f.ops.ops f.reads.items more f.placed (vec_len f.reads) c.number.inside.0 row reading.there whole
    (omega (arith, whole, filled)) (length-replicate count blank) c.self.invariant.0 in
    let from : ℕ = place_from f.placed row in
    let len : vec_len c.give_places.new.reads ≡ length c.give_places.new.reads.items = search rules in
    let items = ap length c.give_places.ensures.places in
    let here = made.here in
    rw c.give_places.ensures.row (omega (arith, len, items, here))

pub put_page-requires-clause-room : goal.put_page-requires-clause-room
put_page-requires-clause-room c =
    let f = c.self.inside in
    let row : Row = c.index_mut-row.result.now in
    let reading = row_reading f.rows.items f.ops.ops f.reads.items c.args.self.now.jobs c.number.inside.0
    c.args.number row (jobs_of c.self.view_is) c.number.view_is c.requires.there c.index_mut-row.ensures.value c.requires.reads in
    let whole : vec_len f.reads ≡ length f.reads.items = search rules in
    let count : ℕ = places_unfilled f.placed (vec_len f.reads) row in
    let more : List PageData = replicate count blank in
    let filled = c.self.invariant.1.filled in
    let made = made f.rows.items f.ops.ops f.reads.items more f.placed (vec_len f.reads) c.number.inside.0 row reading.there whole
    (omega (arith, whole, filled)) (length-replicate count blank) c.self.invariant.0 in
    let from : ℕ = place_from f.placed row in
    let room = read_room f.rows.items f.ops.ops f.reads.items more f.all_reads f.placed (vec_capacity f.reads) c.number.inside.0 row from
    reading c.self.invariant.0 made c.self.invariant.1 in
    rw (c.give_places.ensures.row, c.give_places.ensures.capacity) (omega (arith, room))

pub invariant_of-self : goal.invariant_of-self
invariant_of-self c =
    let f = c.self.inside in
    let row : Row = c.index_mut-row.result.now in
    let reading = row_reading f.rows.items f.ops.ops f.reads.items c.args.self.now.jobs c.number.inside.0
    c.args.number row (jobs_of c.self.view_is) c.number.view_is c.requires.there c.index_mut-row.ensures.value c.requires.reads in
    let whole : vec_len f.reads ≡ length f.reads.items = search rules in
    let count : ℕ = places_unfilled f.placed (vec_len f.reads) row in
    let more : List PageData = replicate count blank in
    let filled = c.self.invariant.1.filled in
    let made = made f.rows.items f.ops.ops f.reads.items more f.placed (vec_len f.reads) c.number.inside.0 row reading.there whole
    (omega (arith, whole, filled)) (length-replicate count blank) c.self.invariant.0 in
    let from : ℕ = place_from f.placed row in
    rw (
      c.put_page.ensures.pages,
      c.put_page.ensures.capacity,
      c.give_places.ensures.row,
      c.give_places.ensures.places,
      c.give_places.ensures.capacity,
      c.give_places.ensures.placed,
    ) (
      laid_read f.rows.items f.ops.ops f.reads.items more f.placed (f.placed + places_lacking row) c.number.inside.0 row from c.args.bytes
          reading (omega arith) c.self.invariant.0 made,
      room_read f.rows.items f.ops.ops f.reads.items more f.all_reads f.placed (vec_capacity f.reads) c.number.inside.0 row from c.args.bytes
          reading c.self.invariant.0 made c.self.invariant.1,
      few_set f.rows.items f.ops.ops c.number.inside.0 _ c.self.invariant.2,
      record {
        for_rows = c.self.invariant.3.for_rows;
        for_reads = c.self.invariant.3.for_reads;
        rows_last = c.self.invariant.3.rows_last;
        reads_last = c.self.invariant.3.reads_last;
        most_arrivals = c.self.invariant.3.most_arrivals;
        most_operations = c.self.invariant.3.most_operations;
      },
    )

pub returns : goal.returns
returns c =
    let f = c.self.inside in
    let row : Row = c.index_mut-row.result.now in
    let reading = row_reading f.rows.items f.ops.ops f.reads.items c.args.self.now.jobs c.number.inside.0
    c.args.number row (jobs_of c.self.view_is) c.number.view_is c.requires.there c.index_mut-row.ensures.value c.requires.reads in
    let whole : vec_len f.reads ≡ length f.reads.items = search rules in
    let count : ℕ = places_unfilled f.placed (vec_len f.reads) row in
    let more : List PageData = replicate count blank in
    let filled = c.self.invariant.1.filled in
    let made = made f.rows.items f.ops.ops f.reads.items more f.placed (vec_len f.reads) c.number.inside.0 row reading.there whole
    (omega (arith, whole, filled)) (length-replicate count blank) c.self.invariant.0 in
    let from : ℕ = place_from f.placed row in
    rw (c.put_page.ensures.pages, c.give_places.ensures.row, c.give_places.ensures.places)
    (jobs_become _ _ _ _ c.self.view_is (jobs_read f.rows.items f.ops.ops f.reads.items more f.placed (f.placed + places_lacking row) c.number.inside.0 row from c.args.bytes
    reading c.self.invariant.0 made
    ∙ ap (λ (l : List JobRecord). changed_at l c.number.inside.0 (λ (job : JobRecord). with_read c.args.bytes (with_one_more_slot job))) (jobs_of c.self.view_is)
    ∙ ap (λ (n : ℕ). changed_at c.args.self.now.jobs n (λ (job : JobRecord). with_read c.args.bytes (with_one_more_slot job))) c.number.view_is))
