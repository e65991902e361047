use Rattle.std.proofs.Common.{◌≡◌, ℕ, ◌+◌, ◌-◌, ◌*◌, ◌/◌, ◌≤◌, ◌↔◌, arith}
use Rattle.std.proofs.Math.Nat.{mul-le-mul_right}
use Rattle.std.proofs.lemmas.Nat.{div-add-mod', div_below, mod_below}
use Rattle.flashplan_terms_design.proofs.laws.least_caps_do.Goals as goal

one_more : (k p : ℕ) → (k + 1) * p ≡ k * p + p
one_more k p = grind arith

rounded_up : (wanted period count : ℕ) → 1 ≤ period → (wanted ≤ count * period) ↔ ((wanted + (period - 1)) / period ≤ count)
rounded_up wanted period count some =
    let all : ℕ = wanted + (period - 1) in (
      λ enough. omega (
        arith,
        div_below all period (count + 1) (omega (arith, some)) (omega (arith, some, enough, one_more count period)),
      ),
      λ least. omega (
        arith,
        mul-le-mul_right period least,
        div-add-mod' all period,
        mod_below all period (omega (arith, some)),
        some,
      ),
    )

pub returns : goal.returns
returns c plan t some cap = rounded_up (t.writes * (t.period + t.held) + 2 * plan.alpha * t.period) t.period cap some
