use Rattle.std.proofs.Common.{◌≡◌, ◌∙◌, [], Some, None, ap, arith}
use Rattle.std.proofs.lemmas.Grind.{common_steps}
use Rattle.std.specs.Vec.Iter.{into_iter_items}
use Rattle.die_service.specs.Drives.{first_state}
use Rattle.die_service.proofs.Gathering.{ready_more, waits_all, waits_one}
use Rattle.die_service.proofs.LastPasses.{more_yielded}
use Rattle.die_service.proofs.runs.make_drivers.Goals as goal

pub returns-clause-waiting : goal.returns-clause-waiting
returns-clause-waiting g c =
    let none : into_iter_items c.loop-pass.pass-iterator ≡ [] = grind (arith, common_steps) in
    let left : into_iter_items c.loop-pass.courses ≡ [] = grind (arith, common_steps) in
    waits_all c.args.passes.items c.args.courses.items c.loop-pass.drivers.items
    (λ xs waits. c.loop-pass.invariant.made xs (rw (none, left) waits))

pub returns-clause-ready : goal.returns-clause-ready
returns-clause-ready g c =
    let none : into_iter_items c.loop-pass.pass-iterator ≡ [] = grind (arith, common_steps) in
    let all : c.args.passes.items ≡ c.loop-pass.yielded = grind (arith, common_steps) in
    rw all c.loop-pass.invariant.ready

pub loop-pass-init : goal.loop-pass-init
loop-pass-init g c =
    let gives = c.into_iter-pass-iterator.ensures.into_iter_gives.0 in
    let of = c.into_iter-courses.ensures.rest in record {
      can_next = tt;
      is_finite = tt;
      room = grind (arith, common_steps);
      passes = grind (arith, common_steps);
      drivers = grind (arith, common_steps);
      own = rw gives c.requires.own;
      courses = rw (gives, of) c.requires.courses;
      made = λ xs waits. rw (← gives, ← of, c.requires.none) waits;
      ready = tt;
    }

pub unreachable-requires : goal.unreachable-requires
unreachable-requires g c = grind (arith, common_steps)

pub unreachable-requires-in_default-next : goal.unreachable-requires-in_default-next
unreachable-requires-in_default-next g c = grind (arith, common_steps)

pub push_reserved-requires : goal.push_reserved-requires
push_reserved-requires g c = grind (arith, common_steps)

pub loop-pass-preserved : goal.loop-pass-preserved
loop-pass-preserved g c =
    let was = c.loop-pass.invariant in
    let p = c.in-Some.pass in
    let course = c.in-Some-next.course in record {
      can_next = tt;
      is_finite = tt;
      room = grind (arith, common_steps);
      passes = more_yielded _ _ _ p _ was.passes c.in-Some.ensures.steps.0;
      drivers = grind (arith, common_steps);
      own = grind (arith, common_steps);
      courses = grind (arith, common_steps);
      made = waits_one c.args.passes.items _ c.args.courses.items _ c.loop-pass.drivers.items c.push_reserved.new.self.items p course
          c.new-in-loop-pass.result (λ xs waits. was.made xs (rw (c.in-Some.ensures.steps.0, c.in-Some-next.ensures.cases.0) waits))
          c.push_reserved.ensures.items
          (c.new-in-loop-pass.ensures ∙ ap (λ d. (Some d, None)) (c.new-driver.ensures ∙ ap (λ q. first_state q course) c.new.ensures.pass));
      ready = ready_more _ p was.ready c.new.ensures.live (let f = c.new.ensures.fits in (f.0, (f.1, f.2)));
    }
