use Rattle.std.proofs.Common.{◌≡◌, ◌<◌, ◌∙◌, length, arith, refl, sym, ap, subst, true, false, Some, None}
use Rattle.std.specs.Prelude.{is_ok}
use Rattle.std.proofs.lemmas.List.{get_or_read}
use Rattle.slot_types.specs.declared.plans.Shape.{Shape}
use Rattle.flash_volume.specs.declared.collection.Collection.{Collection}
use Rattle.flash_volume.specs.declared.collection.CollectStep.TheVariants as steps
use Rattle.flash_volume.specs.Pages.{next_in}
use Rattle.flash_volume.specs.Running.{running_of}
use Rattle.flash_volume.specs.Steps.{EndsStep}
use Rattle.flash_volume.proofs.Erasing.{unplaced_of}
use Rattle.flash_volume.proofs.Running.{dropped}
use Rattle.flash_volume.proofs.Stepping.{copied_content}
use Rattle.flash_volume.proofs.volume.Volume.collect_slot.Goals as goal

pub first_page-requires : goal.first_page-requires
first_page-requires g c =
    let alive = sym c.failed.ensures ∙ c.if-failed.false in
    let sound = c.self.invariant alive in
    let task = rw (← c.self.view_is) at c.requires.task in
    let here : c.args.task < length c.self.inside.running.items = omega (arith, sound.runs.len, task) in
    let below : c.task.inside.0 < length c.self.inside.running.items = rw c.task.view_is here in
    let runs : running_of c.self.inside.running.items c.args.task
    ≡ Some c.unwrap-collection.result = ap (running_of c.self.inside.running.items) (sym c.task.view_is)
    ∙ sym (get_or_read c.self.inside.running.items c.task.inside.0 c.index.result.now below c.index.ensures None)
    ∙ c.unwrap-collection.ensures in
    let run = sound.runs.each c.args.task c.unwrap-collection.result runs in
    omega (arith, run.in_range, sound.stands.count, ap (λ (s : Shape). s.blocks) sound.stands.map_shape)

pub erase-requires-clause-unplaced : goal.erase-requires-clause-unplaced
erase-requires-clause-unplaced g c =
    let alive = sym c.failed.ensures ∙ c.if-failed.false in
    let sound = c.self.invariant alive in
    rw (← c.self.view_is) (λ page few. c.in-None-first_page.ensures.none page
    (omega (arith, few, ap (λ (s : Shape). s.pages) sound.shape_is, ap (λ (s : Shape). s.pages) sound.stands.map_shape)))

-- Its call

pub returns-in-Ok-clause-once : goal.returns-in-Ok-clause-once
returns-in-Ok-clause-once g c = λ alive c' is.
    let sound = c.self.invariant (sym c.failed.ensures ∙ c.if-failed.false) in
    let task = rw (← c.self.view_is) at c.requires.task in
    let here : c.args.task < length c.self.inside.running.items = omega (arith, sound.runs.len, task) in
    let below : c.task.inside.0 < length c.self.inside.running.items = rw c.task.view_is here in
    let runs : running_of c.self.inside.running.items c.args.task
    ≡ Some c.unwrap-collection.result = ap (running_of c.self.inside.running.items) (sym c.task.view_is)
    ∙ sym (get_or_read c.self.inside.running.items c.task.inside.0 c.index.result.now below c.index.ensures None)
    ∙ c.unwrap-collection.ensures in
    let run = sound.runs.each c.args.task c.unwrap-collection.result runs in
    let same : c.unwrap-collection.result ≡ c' = (let e : Some c.unwrap-collection.result ≡ Some c' = sym runs
    ∙ (rw (← c.self.view_is) at is) in cc) in
    subst (λ (x : Collection). EndsStep g.N.Nand.ends g.N.Nand.blocks c.args.self.now x true c.program_copy.new.self) same
    (record {
      step = steps.Program c.in-Some.copied.page (next_in g.N.Nand.blocks c.args.self.now) c.in-Some.copied.bytes;
      is = record {
        copied = c.in-Some.copied;
        holds = c.in-Some.ensures.some.0;
        page_is = refl;
        here = run.source c.in-Some.copied c.in-Some.ensures.some.0;
        lies = c.in-Some.ensures.some.1;
        bytes_are = rw (← c.self.view_is) (copied_content c.in-Some.copied run c.in-Some.ensures.some.0
            (rw (← c.self.view_is) at c.in-Some.ensures.some.1));
        finds = c.program_copy.ensures.finds;
        place_is = refl;
      };
      ended = c.in-Ok.ensures.once;
    })

pub returns-in-Err-clause-once : goal.returns-in-Err-clause-once
returns-in-Err-clause-once g c = λ alive c' is.
    let sound = c.self.invariant (sym c.failed.ensures ∙ c.if-failed.false) in
    let task = rw (← c.self.view_is) at c.requires.task in
    let here : c.args.task < length c.self.inside.running.items = omega (arith, sound.runs.len, task) in
    let below : c.task.inside.0 < length c.self.inside.running.items = rw c.task.view_is here in
    let runs : running_of c.self.inside.running.items c.args.task
    ≡ Some c.unwrap-collection.result = ap (running_of c.self.inside.running.items) (sym c.task.view_is)
    ∙ sym (get_or_read c.self.inside.running.items c.task.inside.0 c.index.result.now below c.index.ensures None)
    ∙ c.unwrap-collection.ensures in
    let run = sound.runs.each c.args.task c.unwrap-collection.result runs in
    let same : c.unwrap-collection.result ≡ c' = (let e : Some c.unwrap-collection.result ≡ Some c' = sym runs
    ∙ (rw (← c.self.view_is) at is) in cc) in
    subst (λ (x : Collection). EndsStep g.N.Nand.ends g.N.Nand.blocks c.args.self.now x false c.program_copy.new.self) same
    (record {
      step = steps.Program c.in-Some.copied.page (next_in g.N.Nand.blocks c.args.self.now) c.in-Some.copied.bytes;
      is = record {
        copied = c.in-Some.copied;
        holds = c.in-Some.ensures.some.0;
        page_is = refl;
        here = run.source c.in-Some.copied c.in-Some.ensures.some.0;
        lies = c.in-Some.ensures.some.1;
        bytes_are = rw (← c.self.view_is) (copied_content c.in-Some.copied run c.in-Some.ensures.some.0
            (rw (← c.self.view_is) at c.in-Some.ensures.some.1));
        finds = c.program_copy.ensures.finds;
        place_is = refl;
      };
      ended = c.in-Err.ensures.once;
    })

pub returns-in-Ok-read_copy-clause-once : goal.returns-in-Ok-read_copy-clause-once
returns-in-Ok-read_copy-clause-once g c = λ alive c' is.
    let sound = c.self.invariant (sym c.failed.ensures ∙ c.if-failed.false) in
    let task = rw (← c.self.view_is) at c.requires.task in
    let here : c.args.task < length c.self.inside.running.items = omega (arith, sound.runs.len, task) in
    let below : c.task.inside.0 < length c.self.inside.running.items = rw c.task.view_is here in
    let runs : running_of c.self.inside.running.items c.args.task
    ≡ Some c.unwrap-collection.result = ap (running_of c.self.inside.running.items) (sym c.task.view_is)
    ∙ sym (get_or_read c.self.inside.running.items c.task.inside.0 c.index.result.now below c.index.ensures None)
    ∙ c.unwrap-collection.ensures in
    let run = sound.runs.each c.args.task c.unwrap-collection.result runs in
    let same : c.unwrap-collection.result ≡ c' = (let e : Some c.unwrap-collection.result ≡ Some c' = sym runs
    ∙ (rw (← c.self.view_is) at is) in cc) in
    subst (λ (x : Collection). EndsStep g.N.Nand.ends g.N.Nand.blocks c.args.self.now x true c.read_copy.new.self) same
    (record {
      step = steps.Read c.in-Some-first_page.page c.in-Some-first_page.source;
      is = record {
        dropped = rw (← c.self.view_is) (dropped run (rw (← c.self.view_is) at c.in-None.ensures.none));
        left = c.in-None.ensures.none;
        first = rw (← c.self.view_is) c.in-Some-first_page.ensures.some;
      };
      ended = c.in-Ok-read_copy.ensures.once;
    })

pub returns-in-Err-read_copy-clause-once : goal.returns-in-Err-read_copy-clause-once
returns-in-Err-read_copy-clause-once g c = λ alive c' is.
    let sound = c.self.invariant (sym c.failed.ensures ∙ c.if-failed.false) in
    let task = rw (← c.self.view_is) at c.requires.task in
    let here : c.args.task < length c.self.inside.running.items = omega (arith, sound.runs.len, task) in
    let below : c.task.inside.0 < length c.self.inside.running.items = rw c.task.view_is here in
    let runs : running_of c.self.inside.running.items c.args.task
    ≡ Some c.unwrap-collection.result = ap (running_of c.self.inside.running.items) (sym c.task.view_is)
    ∙ sym (get_or_read c.self.inside.running.items c.task.inside.0 c.index.result.now below c.index.ensures None)
    ∙ c.unwrap-collection.ensures in
    let run = sound.runs.each c.args.task c.unwrap-collection.result runs in
    let same : c.unwrap-collection.result ≡ c' = (let e : Some c.unwrap-collection.result ≡ Some c' = sym runs
    ∙ (rw (← c.self.view_is) at is) in cc) in
    subst (λ (x : Collection). EndsStep g.N.Nand.ends g.N.Nand.blocks c.args.self.now x false c.read_copy.new.self) same
    (record {
      step = steps.Read c.in-Some-first_page.page c.in-Some-first_page.source;
      is = record {
        dropped = rw (← c.self.view_is) (dropped run (rw (← c.self.view_is) at c.in-None.ensures.none));
        left = c.in-None.ensures.none;
        first = rw (← c.self.view_is) c.in-Some-first_page.ensures.some;
      };
      ended = c.in-Err-read_copy.ensures.once;
    })

pub returns-in-None-first_page-clause-once : goal.returns-in-None-first_page-clause-once
returns-in-None-first_page-clause-once g c = λ alive c' is.
    let sound = c.self.invariant (sym c.failed.ensures ∙ c.if-failed.false) in
    let task = rw (← c.self.view_is) at c.requires.task in
    let here : c.args.task < length c.self.inside.running.items = omega (arith, sound.runs.len, task) in
    let below : c.task.inside.0 < length c.self.inside.running.items = rw c.task.view_is here in
    let runs : running_of c.self.inside.running.items c.args.task
    ≡ Some c.unwrap-collection.result = ap (running_of c.self.inside.running.items) (sym c.task.view_is)
    ∙ sym (get_or_read c.self.inside.running.items c.task.inside.0 c.index.result.now below c.index.ensures None)
    ∙ c.unwrap-collection.ensures in
    let run = sound.runs.each c.args.task c.unwrap-collection.result runs in
    let clear = unplaced_of c.unwrap-collection.result.victim sound.stands run.in_range run.closed
    (λ page few. c.in-None-first_page.ensures.none page (omega (arith, few, ap (λ (s : Shape). s.pages) sound.stands.map_shape))) in
    let same : c.unwrap-collection.result ≡ c' = (let e : Some c.unwrap-collection.result ≡ Some c' = sym runs
    ∙ (rw (← c.self.view_is) at is) in cc) in
    subst (λ (x : Collection). EndsStep g.N.Nand.ends g.N.Nand.blocks c.args.self.now x (is_ok c.erase.result) c.erase.new.self) same
    (record {
      step = steps.Erase c.unwrap-collection.result.victim;
      is = record {
        victim = refl;
        dropped = rw (← c.self.view_is) (dropped run (rw (← c.self.view_is) at c.in-None.ensures.none));
        left = c.in-None.ensures.none;
        unplaced = rw (← c.self.view_is) clear.none;
      };
      ended = c.erase.ensures.once;
    })
