use Rattle.std.proofs.Common.{sym, ap, ◌∙◌}
use Rattle.turn_lock.proofs.Turns.{by_reply, refuses, accepts, adds, own_entries}
use Rattle.turn_lock.proofs.lock.Turned.note.Goals as goal

pub release-pass-inside-requires-clause-more : goal.release-pass-inside-requires-clause-more
release-pass-inside-requires-clause-more g c =
    adds g.B.Book.log g.B.Book.about g.B.Book.fits (g.B.NotingBook.whole c.args.head c.args.parts.now) (g.B.NotingBook.noted c.note-note.result) _ _
    c.take-kept.result c.note-note.new.self _ _ c.take-kept.ensures.won.1 c.pass.invariant.3 c.note-note.ensures.accepted
    c.note-note.ensures.refused

pub returns-clause-reply : goal.returns-clause-reply
returns-clause-reply g c =
    let won = c.take-kept.ensures.won.1 in
    let idle = c.pass.invariant.2 in
    let who = c.pass.invariant.3 in
    let did = c.note-note.ensures in rw (← c.pass.view_is) (by_reply _ _ _
    (λ yes. accepts g.B.Book.log g.B.Book.about g.B.Book.fits g.B.Book.gives _ _ _ c.take-kept.new.seat.me.0 _ c.take-kept.result
    c.note-note.new.self _ won idle who did.about (did.accepted yes) c.release-pass-inside.ensures.view
    c.release-pass-inside.ensures.fits did.gives)
    (λ no. refuses g.B.Book.log g.B.Book.about g.B.Book.fits g.B.Book.gives _ _ _ c.take-kept.new.seat.me.0 _ c.take-kept.result
    c.note-note.new.self _ won idle who (did.refused no) c.release-pass-inside.ensures.view did.gives))

pub returns-clause-own : goal.returns-clause-own
returns-clause-own g c = own_entries g.B.Book.fits g.B.Book.gives _ _ _ _ _ (ap (λ k. k.view.live) (sym c.pass.view_is)
    ∙ c.pass.invariant.1) (returns-clause-reply g c)
