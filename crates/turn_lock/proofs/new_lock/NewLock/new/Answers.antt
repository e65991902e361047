use Rattle.std.proofs.Common.{◌≡◌, [], ◌∷◌, ◌++◌, Some, ap, ◌∙◌}
use Rattle.turn_lock.specs.declared.view.Kept.{Kept}
use Rattle.turn_lock.proofs.Keeps.{starts}
use Rattle.turn_lock.proofs.new_lock.NewLock.new.Goals as goal

pub new-requires : goal.new-requires
new-requires g c =
    let kept : Kept g.row.B.Denot = record { book = c.args.book; made = 1 } in
    let items : c.push_reserved.new.self.items ≡ Some kept ∷ [] = c.push_reserved.ensures.items
    ∙ ap (λ l. l ++ Some kept ∷ []) (c.reserve.ensures.items ∙ c.new-slots.ensures.items) in
    rw (c.of-first.ensures, items) (starts g.B.Book.log g.B.Book.about g.B.Book.fits c.args.book c.requires.empty
    (rw c.requires.empty at c.len.ensures.fits))
