use Rattle.std.proofs.Common.{◌≡◌, ℕ, ◌+◌, ◌-◌, ◌*◌, ◌/◌, ◌%◌, ◌∙◌, ap, sym, arith, lit<, length, min}
use Rattle.std.specs.Prelude.{slice_get}
use Rattle.std.specs.Int.{div_ceil}
use Rattle.std.proofs.Math.Nat.{mul-add-div, div-add-mod}
use Rattle.flashplan_run_figures.proofs.ranks.nearest_rank.Goals as goal

-- a product by the thousands and the rest of its first number
spread : (q r m : ℕ) → (1000 * q + r) * m ≡ 1000 * (q * m) + r * m
spread q r m = grind arith

rounded_up : (x : ℕ) → x / 1000 + min 1 (x % 1000) ≡ (x + 999) / 1000
rounded_up x = omega arith

by_parts : (n m : ℕ) → n / 1000 * m + (n % 1000 * m + 999) / 1000 ≡ (n * m + 999) / 1000
by_parts n m =
    let q = n / 1000 in
    let r = n % 1000 in
    let whole : n * m ≡ 1000 * (q * m) + r * m = ap (λ (k : ℕ). k * m) (sym (div-add-mod n 1000)) ∙ spread q r m in
    let sum : n * m + 999 ≡ 1000 * (q * m) + (r * m + 999) = omega (arith, whole) in
    sym (ap (λ (k : ℕ). k / 1000) sum ∙ mul-add-div {m = 1000} (lit< tt) (q * m) (r * m + 999))

pub returns : goal.returns
returns c =
    let n = length c.args.rising.now in
    let m = c.args.per_mille in
    let up : div_ceil (n % 1000 * m) 1000 ≡ (n % 1000 * m + 999) / 1000 = rounded_up (n % 1000 * m) in
    let place : c.saturating_sub.result ≡ (n * m + 999) / 1000 - 1 =
    c.saturating_sub.ensures
    ∙ ap (λ (k : ℕ). n / 1000 * m + k - 1) (c.div_ceil-rest.ensures ∙ up)
    ∙ ap (λ (k : ℕ). k - 1) (by_parts n m) in
    c.number_at.ensures ∙ ap (slice_get c.args.rising.now) place
