-- Before which slot of the clock a slot begins with nothing.
use Rattle.std.proofs.Common.{◌≡◌, ℕ, ◌+◌, ◌<◌, ◌≤◌, ◌==◌, false, get_or, set, List, Option, Some, None, refl, ap, sym, subst, ◌∙◌, inl, inr, arith}
use Rattle.std.proofs.lemmas.Bool.Decides.{nat_tests}
use Rattle.die_log.specs.Model.Log.{now}
use Rattle.ongoing_log.specs.Ongoing.{WaitingAsk, due_at}
use Rattle.ongoing_log.proofs.WhatWaits.{set_reads}
use Rattle.ongoing_die.specs.Standing.{OngoingParts, NoneIsDue, IsQuietBefore}

pub quiet_none : {N : Type 0} (parts : OngoingParts N) → IsQuietBefore 0 parts
quiet_none parts = record { goes_on = omega arith; none_waits = λ task w e. omega arith }

module _ {N : Type 0} (slot : ℕ) (before after : OngoingParts N) (first_is : after.die.first ≡ before.die.first) (life_is : after.die.life ≡ before.die.life)
    (quiet : IsQuietBefore slot before) where
  pub quiet_same : after.waiting ≡ before.waiting → IsQuietBefore slot after
  quiet_same waits = record {
    goes_on = omega (arith, quiet.goes_on, first_is, life_is);
    none_waits = λ task w e. quiet.none_waits task w (ap (λ (ws : List (Option WaitingAsk)). get_or ws task None) (sym waits) ∙ e);
  }

  -- what waits for the next life changes nothing
  pub quiet_kept : (task : ℕ) (w : WaitingAsk) → before.die.first + before.die.life ≤ w.until → after.waiting ≡ set before.waiting task (Some w)
      → IsQuietBefore slot after
  quiet_kept task w later waits = record {
    goes_on = omega (arith, quiet.goes_on, first_is, life_is);
    none_waits = λ other x e. elim (set_reads before.waiting task other w x (ap (λ (ws : List (Option WaitingAsk)). get_or ws other None) (sym waits) ∙ e)) [
      | inl both ↦ omega (arith, later, quiet.goes_on, ap (λ (y : WaitingAsk). y.until) both.1)
      | inr there ↦ quiet.none_waits other x there
    ];
  }

-- so in an earlier slot nothing is due
module _ {N : Type 0} (slot : ℕ) (parts : OngoingParts N) (quiet : IsQuietBefore slot parts) (lt : parts.die.first + now parts.die.core.log < slot) where
  pub quiet_lives : now parts.die.core.log < parts.die.life
  quiet_lives = omega (arith, quiet.goes_on, lt)

  pub quiet_due : NoneIsDue (parts.die.first + now parts.die.core.log) parts.waiting
  quiet_due task = by (get_or parts.waiting task None) refl
    where
      by : (v : Option WaitingAsk) → get_or parts.waiting task None ≡ v → due_at (parts.die.first + now parts.die.core.log) v ≡ None
      by None e = refl
      by (Some w) e =
          let until = quiet.none_waits task w e in
          let away : (w.until == parts.die.first + now parts.die.core.log) ≡ false = grind (arith, nat_tests, until, lt) in
          rw away refl
