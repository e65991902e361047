-- Blanks, one after the other.
use Rattle.std.proofs.Common.{◌≡◌, ℕ, suc, ◌+◌, ◌-◌, ◌<◌, ◌≤◌, [], ◌∷◌, ap, arith}
use Rattle.std.specs.Prelude.{replicate}
use Rattle.flashplan_run_figures.specs.Tables.{blanks}

pub one_more : (from to : ℕ) → from < to → blanks from to ≡ 32 ∷ blanks (from + 1) to
one_more from to below =
    let is : to - from ≡ suc (to - (from + 1)) = omega (arith, below) in
    ap (λ (n : ℕ). replicate n 32) is

pub none_left : (from to : ℕ) → to ≤ from → blanks from to ≡ []
none_left from to all =
    let is : to - from ≡ 0 = omega (arith, all) in
    ap (λ (n : ℕ). replicate n 32) is
