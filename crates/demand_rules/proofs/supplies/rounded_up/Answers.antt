use Rattle.std.proofs.Common.{◌≡◌, ℕ, ◌+◌, ◌-◌, ◌*◌, ◌≤◌, arith}
use Rattle.std.proofs.Math.Nat.{mul-le-mul_right}
use Rattle.std.proofs.lemmas.Nat.{div-add-mod', div_below, mod_below}
use Rattle.demand_rules.proofs.supplies.rounded_up.Goals as goal

one_more : (k p : ℕ) → (k + 1) * p ≡ k * p + p
one_more k p = grind arith

pub returns : goal.returns
returns c count =
    let period : ℕ = c.args.period in
    let all : ℕ = c.args.wanted + (period - 1) in
    let most : 1 ≤ period = c.requires.some in (
      λ enough. omega (
        arith,
        div_below all period (count + 1) (omega (arith, most)) (omega (arith, most, enough, one_more count period)),
      ),
      λ least. omega (
        arith,
        mul-le-mul_right period least,
        div-add-mod' all period,
        mod_below all period (omega (arith, most)),
        most,
      ),
    )
