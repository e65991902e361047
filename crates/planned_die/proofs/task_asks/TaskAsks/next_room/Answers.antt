use Rattle.std.proofs.Common.{◌-◌, cond, None, Some, refl, ap, sym, ◌∙◌, arith}
use Rattle.planned_log.specs.Asks.{room_at, counting}
use Rattle.planned_die.specs.Remembered.{newest_first}
use Rattle.planned_die.proofs.Passing.{room_is, room_now}
use Rattle.planned_die.proofs.Waits.{later}
use Rattle.planned_die.proofs.task_asks.TaskAsks.next_room.Goals as goal

pub returns-then-has_room-clause-next : goal.returns-then-has_room-clause-next
returns-then-has_room-clause-next c =
    let t = c.args.self.now in
    let own = c.args.own.now in
    sym (ap (λ b. cond b None (Some (room_at own (counting own.period c.args.clock (newest_first t.jobs.items)) c.args.ops c.args.writes - c.args.first)))
    (room_is own.period c.args.clock t c.requires.kept c.requires.counts own refl c.args.ops c.args.writes
    ∙ (sym c.has_room.ensures.room ∙ c.if-has_room.true)))

pub overflow_sub-result : goal.overflow_sub-result
overflow_sub-result c =
    let t = c.args.self.now in
    let own = c.args.own.now in
    let none = room_is own.period c.args.clock t c.requires.kept c.requires.counts own refl c.args.ops c.args.writes
    ∙ (sym c.has_room.ensures.room ∙ c.if-has_room.false) in
    let wait = later own (newest_first t.jobs.items) c.args.first c.args.clock c.args.ops c.args.writes c.requires.ops c.requires.writes none in
    let is = room_now own.period c.args.clock t c.requires.kept c.requires.counts own refl c.args.ops c.args.writes _ _ c.free_slot-operations.ensures
    c.free_slot-written.ensures in
    omega (arith, wait, is, c.max.ensures, c.requires.first)

pub returns-clause-next : goal.returns-clause-next
returns-clause-next c =
    let t = c.args.self.now in
    let own = c.args.own.now in
    let none = room_is own.period c.args.clock t c.requires.kept c.requires.counts own refl c.args.ops c.args.writes
    ∙ (sym c.has_room.ensures.room ∙ c.if-has_room.false) in
    let is = room_now own.period c.args.clock t c.requires.kept c.requires.counts own refl c.args.ops c.args.writes _ _ c.free_slot-operations.ensures
    c.free_slot-written.ensures in
    ap (λ n. Some (n - c.args.first)) (c.max.ensures ∙ is)
    ∙ sym (ap (λ b. cond b None (Some (room_at own (counting own.period c.args.clock (newest_first t.jobs.items)) c.args.ops c.args.writes
    - c.args.first))) none)
