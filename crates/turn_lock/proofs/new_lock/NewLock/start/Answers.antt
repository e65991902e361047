use Rattle.std.proofs.Common.{◌≡◌, false, length, refl, sym, ap, ◌∙◌, subst, rules}
use Rattle.turn_lock.specs.Views.{first_view, CountsOwn, SeesFitting}
use Rattle.turn_lock.proofs.Keeps.{begins}
use Rattle.turn_lock.proofs.Turns.{first_counts}
use Rattle.turn_lock.proofs.new_lock.NewLock.start.Goals as goal

pub load-requires : goal.load-requires
load-requires g c = (search rules, search rules, begins _ _ _ _ _ _ _)

pub invariant_of-pass : goal.invariant_of-pass
invariant_of-pass g c =
    let a = g.B.Book.about c.self.inside.table.shared.key.value in
    let first : c.load.new.seat.me.0 ≡ first_view a = c.load.ensures.2.1 ∙ ap (λ m. record m.0 { unused = false }) c.self.invariant.2 in (
      c.load.ensures.2.0 ∙ ap (λ m. m.1) c.self.invariant.2,
      ap (λ v. v.live) first,
      ap (λ v. v.turn) first,
      sym (ap (λ v. v.number) first),
      sym (ap (λ v. length v.joined) first),
      subst (λ v. CountsOwn v) (sym first) first_counts,
      refl,
      subst (λ v. SeesFitting g.B.Book.fits v) (sym first) (a, refl, c.self.invariant.3),
      ap (λ v. v.unused) first,
    )
