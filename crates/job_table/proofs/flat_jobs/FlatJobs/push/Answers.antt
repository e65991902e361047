use Rattle.std.proofs.Common.{◌≡◌, length, vec_len, rules, length-append, ◌+◌, ◌∷◌, ◌++◌, [], List, vec_capacity, arith, refl, ap, ◌∙◌}
use Rattle.std.proofs.lemmas.List.Sums.{count_by-le-length}
use Rattle.std.proofs.lemmas.Grind.{common_steps}
use Rattle.job_table.specs.declared.rows.Row.{Row}
use Rattle.job_table.specs.declared.stages.Stage.TheVariants as stages
use Rattle.job_table.specs.Jobs.{JobRecord, is_read}
use Rattle.job_table.specs.Entering.{job_of}
use Rattle.job_table.proofs.Laying.{IsBegun, laid_push, room_push, jobs_pushed}
use Rattle.job_table.specs.Reserves.{KeptJobs, reserve_after}
use Rattle.job_table.proofs.flat_jobs.FlatJobs.push.Goals as goal

pub invariant_of-self-2 : goal.invariant_of-self-2
invariant_of-self-2 c =
    let row : Row = record {
      task = c.args.head.now.task;
      release = c.args.head.now.release;
      due = c.args.head.now.due;
      first_op = c.len.result;
      first_write = c.writes.result;
      first_place = 0;
      work = 0;
      stage =
          stages.Pending;
      op_count = c.len-2.result;
      read_count = c.reads-2.result;
      reads_done = 0;
      writes_done = 0;
      collects = c.args.head.now.collects;
    } in
    let begun : IsBegun row c.self.inside.ops.ops c.args.ops.now = record {
      first_op_is = c.len.ensures;
      op_count_is = c.len-2.ensures;
      op_count_few = omega (arith, c.requires.few_ops, c.len-2.ensures);
      first_write_is = c.writes.ensures;
      first_place_is = refl;
      read_count_is = c.reads-2.ensures;
      reads_done_is = refl;
      writes_done_is = refl;
      work_is = refl;
    } in
    let count = c.reads.ensures in
    let room = c.in_ok-reserve-2.ensures.ok in
    let len = c.in_ok-reserve-2.ensures.len in
    let before = c.len-3.ensures in
    let whole : vec_len c.self.inside.reads ≡ length c.self.inside.reads.items = search rules in
    let filled = c.self.invariant.1.filled in
    let placed = c.self.invariant.1.places in
    rw (c.push_reserved.ensures.items, c.in_ok-reserve.ensures.items, c.in_ok-add_to.ensures.ok, c.in_ok-reserve-2.ensures.items) (
      laid_push c.self.inside.rows.items c.self.inside.ops.ops c.args.ops.now c.self.inside.reads.items c.self.inside.placed row begun c.self.invariant.0,
      room_push c.self.inside.rows.items c.self.inside.ops.ops c.args.ops.now c.self.inside.reads.items c.self.inside.all_reads
          (c.self.inside.all_reads + c.reads.result) c.self.inside.placed (vec_capacity c.self.inside.reads) (vec_capacity c.reserve-2.new.self) row begun (omega arith)
          (omega arith)
          c.self.invariant.1,
      let few = c.self.invariant.2 in
          let few_more = c.requires.few_ops in
          omega (
            arith,
            few,
            few_more,
            length-append c.self.inside.ops.ops c.args.ops.now,
            length-append c.self.inside.rows.items (row ∷ []),
          ),
      record {
        for_rows = omega (
          arith,
          c.push_reserved.ensures.len,
          c.push_reserved.ensures.capacity,
          c.in_ok-reserve.ensures.len,
          c.in_ok-reserve.ensures.ok,
          c.in_ok-reserve.ensures.capacity,
          c.saturating_sub-self-inside.ensures,
          c.self.invariant.3.for_rows,
        );
        for_reads = omega (
          arith,
          count,
          room,
          len,
          before,
          whole,
          filled,
          placed,
          c.in_ok-reserve-2.ensures.capacity,
          c.self.invariant.3.for_reads,
          count_by-le-length is_read c.args.ops.now,
        );
        rows_last = omega (arith, c.push_reserved.ensures.capacity, c.in_ok-reserve.ensures.capacity, c.self.invariant.3.rows_last);
        reads_last = omega (arith, c.in_ok-reserve-2.ensures.capacity, c.self.invariant.3.reads_last);
        most_arrivals = omega (arith, c.saturating_sub-self-inside.ensures, c.self.invariant.3.most_arrivals);
        most_operations = omega (arith, c.self.invariant.3.most_operations);
      },
    )

pub returns-clause-ok : goal.returns-clause-ok
returns-clause-ok c =
    let row : Row = record {
      task = c.args.head.now.task;
      release = c.args.head.now.release;
      due = c.args.head.now.due;
      first_op = c.len.result;
      first_write = c.writes.result;
      first_place = 0;
      work = 0;
      stage =
          stages.Pending;
      op_count = c.len-2.result;
      read_count = c.reads-2.result;
      reads_done = 0;
      writes_done = 0;
      collects = c.args.head.now.collects;
    } in
    let begun : IsBegun row c.self.inside.ops.ops c.args.ops.now = record {
      first_op_is = c.len.ensures;
      op_count_is = c.len-2.ensures;
      op_count_few = omega (arith, c.requires.few_ops, c.len-2.ensures);
      first_write_is = c.writes.ensures;
      first_place_is = refl;
      read_count_is = c.reads-2.ensures;
      reads_done_is = refl;
      writes_done_is = refl;
      work_is = refl;
    } in
    let made : List JobRecord → KeptJobs = λ jobs. record {
      jobs = jobs;
      reserve = reserve_after (length c.args.ops.now) (record { arrivals = c.self.inside.arrivals; operations = c.self.inside.ops.room });
      lasting = record { arrivals = c.self.inside.lasting_arrivals; operations = c.self.inside.ops.lasting };
    } in
    let grown : KeptJobs → KeptJobs = λ kept. record kept {
      jobs = kept.jobs ++ job_of c.args.head.now c.args.ops.now ∷ [];
      reserve = reserve_after (length c.args.ops.now) kept.reserve;
    } in
    rw (
      c.push_reserved.ensures.items,
      c.in_ok-reserve.ensures.items,
      c.in_ok-add_to.ensures.ok,
      c.in_ok-reserve-2.ensures.items,
      c.saturating_sub-self-inside.ensures,
    ) (ap made (jobs_pushed c.self.inside.rows.items c.self.inside.ops.ops c.args.ops.now c.self.inside.reads.items c.self.inside.placed row begun c.self.invariant.0)
    ∙ ap grown c.self.view_is)

pub invariant_of-self : goal.invariant_of-self
invariant_of-self c = grind (arith, common_steps)

pub returns-in_err-reserve-clause-ok : goal.returns-in_err-reserve-clause-ok
returns-in_err-reserve-clause-ok c = grind (arith, common_steps)

pub returns-in_err-reserve-clause-number : goal.returns-in_err-reserve-clause-number
returns-in_err-reserve-clause-number c = grind (arith, common_steps)

pub returns-in_err-reserve-clause-refused : goal.returns-in_err-reserve-clause-refused
returns-in_err-reserve-clause-refused c = grind (arith, common_steps)

pub returns-in_err-reserve-clause-err : goal.returns-in_err-reserve-clause-err
returns-in_err-reserve-clause-err c = grind (arith, common_steps)

pub invariant_of-self-in_err-reserve-2 : goal.invariant_of-self-in_err-reserve-2
invariant_of-self-in_err-reserve-2 c = grind (arith, common_steps)

pub returns-in_err-reserve-2-clause-ok : goal.returns-in_err-reserve-2-clause-ok
returns-in_err-reserve-2-clause-ok c = grind (arith, common_steps)

pub returns-in_err-reserve-2-clause-number : goal.returns-in_err-reserve-2-clause-number
returns-in_err-reserve-2-clause-number c = grind (arith, common_steps)

pub returns-in_err-reserve-2-clause-refused : goal.returns-in_err-reserve-2-clause-refused
returns-in_err-reserve-2-clause-refused c = grind (arith, common_steps)

pub returns-in_err-reserve-2-clause-err : goal.returns-in_err-reserve-2-clause-err
returns-in_err-reserve-2-clause-err c = grind (arith, common_steps)

pub invariant_of-self-in_err-add_to : goal.invariant_of-self-in_err-add_to
invariant_of-self-in_err-add_to c = grind (arith, common_steps)

pub returns-in_err-add_to-clause-ok : goal.returns-in_err-add_to-clause-ok
returns-in_err-add_to-clause-ok c = grind (arith, common_steps)

pub returns-in_err-add_to-clause-number : goal.returns-in_err-add_to-clause-number
returns-in_err-add_to-clause-number c = grind (arith, common_steps)

pub returns-in_err-add_to-clause-refused : goal.returns-in_err-add_to-clause-refused
returns-in_err-add_to-clause-refused c = grind (arith, common_steps)

pub returns-in_err-add_to-clause-err : goal.returns-in_err-add_to-clause-err
returns-in_err-add_to-clause-err c = grind (arith, common_steps)

pub returns-clause-number : goal.returns-clause-number
returns-clause-number c = grind (arith, common_steps)

pub returns-clause-refused : goal.returns-clause-refused
returns-clause-refused c = grind (arith, common_steps)

pub returns-clause-err : goal.returns-clause-err
returns-clause-err c = grind (arith, common_steps)
