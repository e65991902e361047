use Rattle.std.proofs.Common.{◌≡◌, ◌≤◌, vec_len, vec_capacity, List, IsSome, length, ap, ◌∙◌, subst}
use Rattle.std.proofs.lemmas.List.Elements.{All-from_recursion}
use Rattle.die_service.specs.PassWorks.{MayCall}
use Rattle.atomic_table.specs.Seated.{TableId}
use Rattle.die_service.proofs.LastPasses.{written, room_for}
use Rattle.die_service.proofs.Gathering.{PassState, all_ran, all_run, end_length, few_wait, same_locks, waits_long}
use Rattle.die_service.proofs.runs.run_slots.Goals as goal

pub run_drivers-requires-clause-few : goal.run_drivers-requires-clause-few
run_drivers-requires-clause-few g c κs within =
    few_wait c.args.store.now c.args.passes.now.items c.replace-taken.result.items c.in_ok-courses.courses.items
    c.make_drivers-drivers.result.items c.as_mut_slice.result.now c.requires.own (ap (λ v. v.items) c.replace-taken.ensures.value)
    c.make_drivers-drivers.ensures.waiting c.as_mut_slice.ensures.value
    (subst (λ (l : List TableId). length l ≤ 8) c.store.view_is c.store.invariant)

pub into_ends-requires-clause-ended : goal.into_ends-requires-clause-ended
into_ends-requires-clause-ended g c =
    let same = end_length (MayCall g.N.Nand.never_fails) 0 c.args.slots c.as_mut_slice.result.now c.run_drivers.new.drivers c.run_drivers.ensures ∙ ap length c.as_mut_slice.ensures.value in
    let whole = written c.make_drivers-drivers.result.len c.make_drivers-drivers.result.items c.run_drivers.new.drivers same c.make_drivers-drivers.result.ok.0 in
    rw whole (All-from_recursion (λ (y : PassState). IsSome y.1) c.run_drivers.new.drivers
    (all_ran g.N.Nand.never_fails 0 c.args.slots c.replace-taken.result.items c.in_ok-courses.courses.items c.as_mut_slice.result.now
    c.run_drivers.new.drivers (rw (c.as_mut_slice.ensures.value) c.make_drivers-drivers.ensures.waiting) c.run_drivers.ensures))

pub into_ends-requires-clause-room : goal.into_ends-requires-clause-room
into_ends-requires-clause-room g c =
    let same = end_length (MayCall g.N.Nand.never_fails) 0 c.args.slots c.as_mut_slice.result.now c.run_drivers.new.drivers c.run_drivers.ensures ∙ ap length c.as_mut_slice.ensures.value in
    let whole = written c.make_drivers-drivers.result.len c.make_drivers-drivers.result.items c.run_drivers.new.drivers same c.make_drivers-drivers.result.ok.0 in
    let long = waits_long c.replace-taken.result.items c.in_ok-courses.courses.items c.make_drivers-drivers.result.items c.make_drivers-drivers.ensures.waiting ∙ ap (λ v. length v.items) c.replace-taken.ensures.value in
    let count : vec_len c.args.passes.now ≡ length c.args.passes.now.items = c.args.passes.now.ok.0 in
    rw whole (room_for _ _ _ _ _ _ same long count c.len-count.ensures c.in_ok-ends.ensures.exact)

pub into_ends-requires-clause-passes_room : goal.into_ends-requires-clause-passes_room
into_ends-requires-clause-passes_room g c =
    let same = end_length (MayCall g.N.Nand.never_fails) 0 c.args.slots c.as_mut_slice.result.now c.run_drivers.new.drivers c.run_drivers.ensures ∙ ap length c.as_mut_slice.ensures.value in
    let whole = written c.make_drivers-drivers.result.len c.make_drivers-drivers.result.items c.run_drivers.new.drivers same c.make_drivers-drivers.result.ok.0 in
    let long = waits_long c.replace-taken.result.items c.in_ok-courses.courses.items c.make_drivers-drivers.result.items c.make_drivers-drivers.ensures.waiting ∙ ap (λ v. length v.items) c.replace-taken.ensures.value in
    let count : vec_len c.args.passes.now ≡ length c.args.passes.now.items = c.args.passes.now.ok.0 in
    let room : vec_capacity c.replace-taken.new.dest ≡ vec_capacity c.in_ok-back.back = ap (λ v. vec_capacity v)
    c.replace-taken.ensures.after in
    rw whole (room_for _ _ _ _ _ _ same long count c.len-count.ensures (room ∙ c.in_ok-back.ensures.exact))

pub returns-clause-ran : goal.returns-clause-ran
returns-clause-ran g c =
    let same = end_length (MayCall g.N.Nand.never_fails) 0 c.args.slots c.as_mut_slice.result.now c.run_drivers.new.drivers c.run_drivers.ensures ∙ ap length c.as_mut_slice.ensures.value in
    let whole = written c.make_drivers-drivers.result.len c.make_drivers-drivers.result.items c.run_drivers.new.drivers same c.make_drivers-drivers.result.ok.0 in
    let taken = ap (λ v. v.items) c.replace-taken.ensures.value in
    rw (← taken) (all_run g.N.Nand.never_fails 0 c.args.slots c.replace-taken.result.items c.args.feeds.items c.as_mut_slice.result.now c.run_drivers.new.drivers
    c.into_ends.result c.into_ends.new.passes.items c.make_drivers-drivers.ensures.ready
    (rw (← c.in_ok-courses.ensures.whole, c.as_mut_slice.ensures.value) c.make_drivers-drivers.ensures.waiting) c.run_drivers.ensures
    (rw (← whole) c.into_ends.ensures))

pub returns-clause-own : goal.returns-clause-own
returns-clause-own g c = same_locks g.N.Nand.never_fails _ c.args.passes.now.items c.into_ends.result
    c.into_ends.new.passes.items (returns-clause-ran g c) ∙ c.requires.own
