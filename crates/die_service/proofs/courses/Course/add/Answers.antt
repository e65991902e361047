use Rattle.std.proofs.Common.{◌≡◌, ◌++◌, ◌∷◌, [], OnOk, subst}
use Rattle.slot_types.specs.Arrivals.{arrival_of}
use Rattle.die_service.specs.declared.feeds.Arrival.{Arrival}
use Rattle.die_service.specs.Drives.{Course}
use Rattle.die_service.specs.Feeds.{last_ops}
use Rattle.die_service.proofs.Feeding.{course_more, on}
use Rattle.die_service.proofs.courses.Course.add.Goals as goal

pub returns-clause-ok : goal.returns-clause-ok
returns-clause-ok c =
    let f = c.self.inside in
    let new = c.push_lent.new.self in
    let x : Arrival = record { at = c.args.at; event = arrival_of c.args.head c.args.ops.now } in
    subst (λ (k : Course). OnOk c.push_lent.result
    (on f.place new (last_ops f.place new) c.reserve.new.self.items ≡ record k { rest = k.rest ++ x ∷ [] })) c.self.view_is
    (course_more c.push_lent.result f.feed new f.place x f.refused.items c.reserve.new.self.items c.self.invariant.2
    c.in_ok-reserve.ensures.items c.push_lent.ensures.ok)
