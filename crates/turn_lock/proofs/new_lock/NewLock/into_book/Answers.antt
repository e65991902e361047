use Rattle.std.proofs.Common.{◌≡◌, Some, None, sym, ap, ◌∙◌}
use mathlib.Core.Option.{some-injective}
use Rattle.turn_lock.specs.declared.view.Kept.{Kept}
use Rattle.turn_lock.proofs.Keeps.{book_back}
use Rattle.turn_lock.proofs.new_lock.NewLock.into_book.Goals as goal

pub unreachable-requires : goal.unreachable-requires
unreachable-requires g c =
    let back = book_back g.B.Book.log g.B.Book.about g.B.Book.fits c.self.inside.table.shared.key.value _ _
    (ap (λ m. m.0.unused) c.self.invariant.2) _ _ c.close_with-closed.ensures.values.2 in
    let is = some-injective _ _ (sym c.take.ensures.value ∙ back) in
    c.in_default.not-Some _ is

pub returns : goal.returns
returns g c =
    let back = book_back g.B.Book.log g.B.Book.about g.B.Book.fits c.self.inside.table.shared.key.value _ _
    (ap (λ m. m.0.unused) c.self.invariant.2) _ _ c.close_with-closed.ensures.values.2 in
    let kept : Kept g.row.B.Denot = record { book = c.self.inside.table.shared.key.value; made = 1 } in
    let is : Some c.in-Some.kept ≡ Some kept = sym c.in-Some.is ∙ some-injective _ _ (sym c.take.ensures.value ∙ back) in
    let same : c.in-Some.kept ≡ kept = cc in
    ap (λ k. k.book) same ∙ c.self.view_is
