-- In no slot nothing is asked for.
use Rattle.std.proofs.Common.{◌≡◌, ℕ, ◌+◌, ◌-◌, ◌≤◌, List, [], ◌∷◌, refl, ap, ◌∙◌, min, arith}
use Rattle.std.specs.Int.{div_ceil}
use Rattle.std.proofs.Math.Nat.{zero-div, zero-mod}
use Rattle.std.proofs.lemmas.List.Sums.{sum_by-cons}
use Rattle.slot_types.specs.declared.limits.TheConstants.{MAX_JOBS, MAX_SLOT}
use Rattle.slot_types.specs.declared.plans.TaskTimes.{TaskTimes}
use Rattle.flashplan_lives.specs.Lives.{asked_by, asked_in, comings}

none_of : (n period : ℕ) → n ≡ 0 → div_ceil n period ≡ 0
none_of n period e = ap (λ m. div_ceil m period) e ∙ simp (zero-div, zero-mod)

no_comings : (period : ℕ) → comings 0 period ≡ 0
no_comings period = none_of (min 0 (MAX_SLOT + 1 - period)) period (omega arith)

nothing : (a b c : ℕ) → a ≡ 0 → b ≡ 0 → c ≡ 0 → (a + b) + c ≡ 0
nothing a b c e f g = omega arith

pub nothing_asked : (tasks : List TaskTimes) → asked_in tasks 0 ≡ 0
nothing_asked [] = refl
nothing_asked (task ∷ tasks) = sum_by-cons (asked_by 0) task tasks ∙ nothing _ _ _ (no_comings task.period) (no_comings task.collect_period) (nothing_asked tasks)

at_most : (n : ℕ) → n ≡ 0 → n ≤ MAX_JOBS
at_most n e = omega arith

pub begins : (tasks : List TaskTimes) → asked_in tasks 0 ≤ MAX_JOBS
begins tasks = at_most _ (nothing_asked tasks)
