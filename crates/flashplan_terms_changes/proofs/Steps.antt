-- Steps from one number to another.
use Rattle.std.proofs.Common.{◌≡◌, ◌≢◌, ℕ, ◌+◌, ◌-◌, ◌<◌, ◌≤◌, subst, sym, arith}
use Rattle.std.specs.Prelude.{max, min}
use Rattle.flashplan_terms_changes.specs.Changes.{IsNearest, nearer_to, step}

-- before the first step it is the one, and after the last step the other
pub no-step : (from to : ℕ) → step from to 0 ≡ from
no-step from to = grind arith

pub last-step : (from to : ℕ) → step from to (max from to - min from to) ≡ to
last-step from to = grind arith

-- after some steps it isn't the one any more
pub some-steps : (from to k : ℕ) → 1 ≤ k → k ≤ max from to - min from to → step from to k ≢ from
some-steps from to k some few = grind arith

-- the next number on the way back is the one a step before
pub step-back : (from to k n : ℕ) → n ≡ k + 1 → n ≤ max from to - min from to → nearer_to (step from to n) from ≡ step from to k
step-back from to k n next few = grind arith

differ : (a b : ℕ) → a ≢ b → 0 < max a b - min a b
differ a b other = grind arith

-- there is a step between numbers of which one is of a kind, and the other isn't
pub apart : (P : ℕ → Type 0) (from to : ℕ) → ¬ P from → P to → 0 < max from to - min from to
apart P from to isnt is = differ from to (λ same. isnt (subst P (sym same) is))

-- the number after the first step with which it does
pub nearest-step : (P : ℕ → Type 0) (from to without reached n : ℕ) → without < reached → reached ≤ max from to - min from to → reached ≤ without + 1
    → ¬ P (step from to without) → P (step from to reached) → n ≡ step from to reached → IsNearest P from n
nearest-step P from to without reached n order few last fails does is =
    let next : reached ≡ without + 1 = omega (arith, order, last) in
    subst (IsNearest P from) (sym is) (record {
      does = does;
      other = some-steps from to reached (omega (arith, order)) few;
      nearer = subst (λ k. ¬ P k) (sym (step-back from to without reached next few)) fails;
    })
