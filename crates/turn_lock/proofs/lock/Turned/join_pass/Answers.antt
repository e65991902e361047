use Rattle.std.proofs.Common.{arith}
use Rattle.std.proofs.lemmas.Grind.{common_steps}
use Rattle.std.proofs.Common.{rules, ap, ◌∙◌, ◌≡◌}
use Rattle.turn_lock.proofs.Turns.{joined_seen}
use Rattle.turn_lock.specs.Views.{joined_view}
use Rattle.turn_lock.proofs.Owned.{owns_joined, joined_count}
use Rattle.turn_lock.proofs.Keeps.{joins, compares}
use Rattle.turn_lock.proofs.lock.Turned.join_pass.Goals as goal

pub join_seat-requires : goal.join_seat-requires
join_seat-requires g c = (
  search rules,
  search rules,
  search rules,
  search rules,
  joins _ _ _ _ _ _ _ _ c.pass.invariant.1 c.other.invariant.1
      c.pass.invariant.2,
)

pub load-requires : goal.load-requires
load-requires g c = (search rules, search rules, compares _ _ _ _ _ _ _ (ap (λ m. m.0.live) c.join_seat.ensures.2 ∙ c.pass.invariant.1))

pub returns-clause-joined : goal.returns-clause-joined
returns-clause-joined g c = let said = c.load.ensures.2 in
    rw (← c.pass.view_is, ← c.other.view_is) (joined_seen _ _ _ _ c.pass.invariant.1 (ap (λ m. m.0) said.0)
    (ap (λ m. m.0) c.join_seat.ensures.2) said.1 said.2)

pub invariant_of-pass : goal.invariant_of-pass
invariant_of-pass g c =
    let said = c.load.ensures.2 in
    let v = c.pass.inside.seat.me.0 in
    let o = c.other.inside.seat.me.0 in
    let w = c.load.new.seat.me.0 in
    let is : w ≡ joined_view v o = ap (λ m. m.0) said.0 ∙ ap (λ m. m.0) c.join_seat.ensures.2 in (
      search rules,
      search rules,
      search rules,
      search rules,
      joined_count v o w _ _ is c.pass.invariant.4 c.other.invariant.4,
      owns_joined v o w is c.pass.invariant.5 c.other.invariant.5,
      search rules,
      rw (ap (λ m. m.0) said.0) said.4,
      ap (λ u. u.unused) is,
    )

pub returns-clause-same : goal.returns-clause-same
returns-clause-same g c = grind (arith, common_steps)
