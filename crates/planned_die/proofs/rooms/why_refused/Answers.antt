use Rattle.std.proofs.Common.{◌≡◌, ◌+◌, List, map, length, nat_le, Some, refl, ap, sym, subst, ◌∙◌, arith, find, ◌≤◌, get_or}
use Rattle.std.specs.Prelude.{option_map}
use Rattle.slot_types.specs.Operations.{page_of, writes}
use Rattle.demand_rules.specs.declared.terms.TaskTerms.{TaskTerms}
use Rattle.demand_rules.specs.Demand.{terms_of}
use Rattle.planned_log.specs.AskKinds.{most_of}
use Rattle.planned_die.specs.Remembered.{next_room, own_asks, jobs_of, AreKept, HasRoomFor}
use Rattle.planned_die.specs.declared.memory.AskedJob.{AskedJob}
use Rattle.planned_die.proofs.Waits.{bad_page_first, too_soon_first}
use Rattle.planned_die.proofs.rooms.why_refused.Goals as goal

pub returns-in-Err-clause-refused : goal.returns-in-Err-clause-refused
returns-in-Err-clause-refused c =
    bad_page_first (most_of c.args.kind (terms_of c.args.terms.now c.args.task)) c.args.plan.now c.args.terms.now c.args.life c.args.first c.args.now
    (own_asks c.args.task (map jobs_of c.args.asked.now.items)) c.args.task c.args.ops.now
    c.in-Err.page (omega (arith, c.if-task-len.false, c.len.ensures, c.task.view_is)) (omega (arith, c.if-ops-eq0.false))
    (omega (
      arith,
      c.if-ops-most.false,
      c.most_ops-most.ensures.most,
      ap (most_of c.args.kind) (c.terms_at-own.ensures ∙ ap (terms_of c.args.terms.now) c.task.view_is),
    ))
    (ap (λ l. option_map page_of (find (λ op. nat_le c.args.plan.now.logical (page_of op)) l)) (sym c.list.ensures) ∙ c.in-Err.ensures.missing)

pub returns-in-Some-clause-refused : goal.returns-in-Some-clause-refused
returns-in-Some-clause-refused c =
    let asked : List (List AskedJob) = map jobs_of c.args.asked.now.items in
    too_soon_first (most_of c.args.kind (terms_of c.args.terms.now c.args.task)) c.args.plan.now c.args.terms.now c.args.life c.args.first c.args.now
    (own_asks c.args.task asked) c.args.task c.args.ops.now c.terms_at-own.result (c.args.first + c.from.result) (length c.args.ops.now)
    c.writes-writes.result c.in-Some.next (c.terms_at-own.ensures ∙ ap (terms_of c.args.terms.now) c.task.view_is) (omega (arith, c.from.ensures)) refl
    (c.writes-writes.ensures ∙ ap writes (c.in-Ok.ensures.ok ∙ c.list.ensures))
    (omega (arith, c.if-task-len.false, c.len.ensures, c.task.view_is)) (omega (arith, c.if-ops-eq0.false))
    (omega (
      arith,
      c.if-ops-most.false,
      c.most_ops-most.ensures.most,
      ap (most_of c.args.kind) (c.terms_at-own.ensures ∙ ap (terms_of c.args.terms.now) c.task.view_is),
    ))
    (ap (option_map page_of) (ap (λ l. find (λ op. nat_le c.args.plan.now.logical (page_of op)) l) (sym c.list.ensures) ∙ c.in-Ok.ensures.all_there))
    (omega (
      arith,
      c.if-writes-own.false,
      c.writes.ensures,
      ap writes (c.in-Ok.ensures.ok ∙ c.list.ensures),
      ap (λ (t : TaskTerms). t.writes) (c.terms_at-own.ensures ∙ ap (terms_of c.args.terms.now) c.task.view_is),
    ))
    (subst (λ n. Some c.in-Some.next ≡ next_room c.terms_at-own.result c.args.first (c.args.first + c.from.result) (own_asks n asked) (length c.args.ops.now)
    c.writes-writes.result) c.task.view_is c.in-Some.ensures.next)

pub returns-in-Some-clause-kept : goal.returns-in-Some-clause-kept
returns-in-Some-clause-kept c =
    let same : c.args.first + c.from.result ≡ c.args.first + c.args.now = omega (arith, c.from.ensures) in
    subst (λ n. AreKept c.args.terms.now n c.too_soon.new.asked.items) same (c.too_soon.ensures.kept c.args.terms.now c.terms_at-own.ensures
    (subst (λ n. AreKept c.args.terms.now n c.args.asked.now.items) (sym same) c.requires.kept))

pub returns-then-from-clause-kept : goal.returns-then-from-clause-kept
returns-then-from-clause-kept c =
    let same : c.args.first + c.from.result ≡ c.args.first + c.args.now = omega (arith, c.from.ensures) in
    subst (λ n. AreKept c.args.terms.now n c.too_soon.new.asked.items) same (c.too_soon.ensures.kept c.args.terms.now c.terms_at-own.ensures
    (subst (λ n. AreKept c.args.terms.now n c.args.asked.now.items) (sym same) c.requires.kept))

pub returns-clause-kept : goal.returns-clause-kept
returns-clause-kept c =
    let same : c.args.first + c.from.result ≡ c.args.first + c.args.now = omega (arith, c.from.ensures) in
    subst (λ n. AreKept c.args.terms.now n c.too_soon.new.asked.items) same (c.too_soon.ensures.kept c.args.terms.now c.terms_at-own.ensures
    (subst (λ n. AreKept c.args.terms.now n c.args.asked.now.items) (sym same) c.requires.kept))

pub too_soon-requires-clause-kept : goal.too_soon-requires-clause-kept
too_soon-requires-clause-kept c =
    let same : c.args.first + c.from.result ≡ c.args.first + c.args.now = omega (arith, c.from.ensures) in (
      c.args.terms.now,
      c.terms_at-own.ensures,
      subst (λ n. AreKept c.args.terms.now n c.args.asked.now.items) (sym same) c.requires.kept,
    )

pub returns-in-Some-clause-memory : goal.returns-in-Some-clause-memory
returns-in-Some-clause-memory c = c.too_soon.ensures.memory c.args.terms.now

pub returns-then-from-clause-memory : goal.returns-then-from-clause-memory
returns-then-from-clause-memory c = c.too_soon.ensures.memory c.args.terms.now

pub returns-clause-memory : goal.returns-clause-memory
returns-clause-memory c = c.too_soon.ensures.memory c.args.terms.now

pub returns-clause-few : goal.returns-clause-few
returns-clause-few c d =
    subst (λ n. (get_or c.too_soon.new.asked.items n d).operations + length c.args.ops.now ≤ (terms_of c.args.terms.now n).work) c.task.view_is
    (subst (λ (t : TaskTerms). (get_or c.too_soon.new.asked.items c.task.inside.0 d).operations + length c.args.ops.now ≤ t.work) c.terms_at-own.ensures
    (c.in-None.ensures.few d))

pub returns-clause-room : goal.returns-clause-room
returns-clause-room c d =
    subst (λ n. HasRoomFor (get_or c.too_soon.new.asked.items c.args.task d) (length c.args.ops.now) n) (c.writes-writes.ensures
    ∙ ap writes (c.in-Ok.ensures.ok ∙ c.list.ensures))
    (subst (λ n. HasRoomFor (get_or c.too_soon.new.asked.items n d) (length c.args.ops.now) c.writes-writes.result) c.task.view_is
    (c.in-None.ensures.room d))
