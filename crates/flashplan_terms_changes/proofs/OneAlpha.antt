-- The nearest alpha, of one more.
use Rattle.std.proofs.Common.{ℕ, ◌+◌, ◌<◌, ◌≤◌, arith, below_more, Option, Some, None}
use Rattle.std.proofs.Math.Nat.{lt_irrefl, lt_trans}
use Rattle.std.specs.Prelude.{IfSome}
use Rattle.flashplan_design.specs.Changes.{distance}
use Rattle.flashplan_terms_changes.specs.Changes.{FindsAlpha}

-- of the nearer ones none is of a kind, nor is the next one
one-more : (P : ℕ → Type 0) (before from d : ℕ) → ((other : ℕ) → 1 ≤ other → other ≤ before → distance other from < d → ¬ P other)
    → (distance (before + 1) from < d → ¬ P (before + 1))
    → (other : ℕ) → 1 ≤ other → other ≤ before + 1 → distance other from < d → ¬ P other
one-more P before from d some last other one few near =
    below_more (λ k. 1 ≤ k → distance k from < d → ¬ P k) (before + 1) (λ k below least. some k least (omega (arith, below)))
    (λ least. last) other (omega (arith, few)) one near

-- one that isn't nearer than what was found
pub one-farther : (P : ℕ → Type 0) (before from : ℕ) (found : Option ℕ) → ¬ IfSome found (λ best. distance (before + 1) from < distance best from)
    → FindsAlpha P before from found → FindsAlpha P (before + 1) from found
one-farther P before from None isnt holds = λ n some few does. isnt tt
one-farther P before from (Some best) isnt holds = record {
  some = holds.some;
  few = omega (arith, holds.few);
  does = holds.does;
  nearest = one-more P before from (distance best from) holds.nearest (λ near does. isnt near);
}

-- one with which it doesn't do
pub one-without : (P : ℕ → Type 0) (before from : ℕ) (found : Option ℕ) → ¬ P (before + 1)
    → FindsAlpha P before from found → FindsAlpha P (before + 1) from found
one-without P before from None isnt holds = λ n some few.
    below_more (λ k. 1 ≤ k → ¬ P k) (before + 1) (λ k below least. holds k least (omega (arith, below))) (λ least. isnt) n
    (omega (arith, few)) some
one-without P before from (Some best) isnt holds = record {
  some = holds.some;
  few = omega (arith, holds.few);
  does = holds.does;
  nearest = one-more P before from (distance best from) holds.nearest (λ near. isnt);
}

-- a nearer one with which it does
pub one-nearer : (P : ℕ → Type 0) (before from : ℕ) (found : Option ℕ) → IfSome found (λ best. distance (before + 1) from < distance best from)
    → P (before + 1) → FindsAlpha P before from found → FindsAlpha P (before + 1) from (Some (before + 1))
one-nearer P before from None near does holds = record {
  some = omega arith;
  few = omega arith;
  does = does;
  nearest = one-more P before from (distance (before + 1) from) (λ other one few closer. holds other one few)
      (λ closer is. lt_irrefl (distance (before + 1) from) closer);
}
one-nearer P before from (Some best) near does holds = record {
  some = omega arith;
  few = omega arith;
  does = does;
  nearest = one-more P before from (distance (before + 1) from) (λ other one few closer. holds.nearest other one few (lt_trans closer near))
      (λ closer is. lt_irrefl (distance (before + 1) from) closer);
}
