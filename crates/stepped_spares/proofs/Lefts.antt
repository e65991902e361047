-- How many calls may come yet, before and after one.
use Rattle.std.proofs.Common.{◌≡◌, ℕ, ◌+◌, ◌-◌, ◌*◌, ◌<◌, ◌≤◌, Bool, true, length, ap, sym, subst, arith, true≢false}
use Rattle.std.specs.Prelude.{IsSome}
use Rattle.spare_blocks.specs.declared.cells.BlockUse.{BlockUse}
use Rattle.spare_blocks.specs.declared.cells.BlockUse.TheVariants as use_as
use Rattle.spare_blocks.specs.Tables.{Table, IsSpare, use_of, spares_in}
use Rattle.spare_blocks.proofs.Numbers.{spare_within, plan_within, spares_given_up}
use Rattle.stepped_spares.specs.declared.moves.Stage.{Stage}
use Rattle.stepped_spares.specs.declared.moves.Stage.TheVariants as stage
use Rattle.stepped_spares.specs.Stepping.{Stepping, IsNextFill, IsSoundAt, calls_at, calls_left, move_at, must_erase}

pub at_least : (a m : ℕ) → 0 < m → a ≤ a * m
at_least a m some = grind (arith, some)

pub some_spare : (t : Table) (x : ℕ) → IsSpare t x → 0 < spares_in t
some_spare t x is = omega (arith, spares_given_up t x is)

pub copy_less : (n m k : ℕ) → k < n → 0 < m → (2 * n + 1) * m - 2 * (k + 1) < (2 * n + 1) * m - 2 * k
copy_less n m k lt some = omega (arith, lt, at_least (2 * n + 1) m some)

pub some_left : (n m k : ℕ) → k ≤ n → 0 < m → 0 < (2 * n + 1) * m - 2 * k
some_left n m k le some = omega (arith, le, at_least (2 * n + 1) m some)

pub spare_less : (n l m k : ℕ) → k ≤ n → l + 1 ≡ m → (2 * n + 1) * l - 2 * 0 < (2 * n + 1) * m - 2 * k
spare_less n l m k le one = omega (arith, le, step)
  where
    step : (2 * n + 1) * l + (2 * n + 1) ≡ (2 * n + 1) * m
    step = subst (λ (x : ℕ). (2 * n + 1) * l + (2 * n + 1) ≡ (2 * n + 1) * x) one (grind arith)

pub erased_within : (all : Bool) (t : Table) (x : ℕ) → must_erase all (use_of t x) ≡ true → x < length t.uses
erased_within all t x is = by_use (use_of t x) (ap (λ u. u) refl) is
  where
    refl : use_of t x ≡ use_of t x
    refl = grind arith

    by_use : (u : BlockUse) → use_of t x ≡ u → must_erase all u ≡ true → x < length t.uses
    by_use (use_as.InPlan b) e m = plan_within t x b e
    by_use use_as.Spare e m = spare_within t x e
    by_use use_as.Bad e m = absurd (true≢false (sym m))

-- what comes next of a block that is filled
pub left_after_spare : (t : Table) (number cells k m : ℕ) (s : Stage) → IsNextFill t number cells s → k ≤ cells → spares_in t + 1 ≡ m
    → calls_at t s < (2 * cells + 1) * m - 2 * k
left_after_spare t number cells k m (stage.Filling n spare c j) (a, b, d, e) le one =
    subst (λ (x : ℕ). (2 * c + 1) * spares_in t - 2 * x < (2 * cells + 1) * m - 2 * k) (sym d)
    (subst (λ (x : ℕ). (2 * x + 1) * spares_in t - 2 * 0 < (2 * cells + 1) * m - 2 * k) (sym b) (spare_less cells (spares_in t) m k le one))
left_after_spare t number cells k m (stage.Erasing x all) is le one = absurd is
left_after_spare t number cells k m stage.Working is le one = absurd is
left_after_spare t number cells k m stage.Faulted is le one = absurd is
left_after_spare t number cells k m stage.WornOut none le one = some_left cells m k le (omega (arith, one))

left_of : (s : Stepping) (x : Stage) → s.stage ≡ x → calls_left s ≡ calls_at s.table x
left_of s x e = ap (calls_at s.table) e

-- while a call comes, some are left
pub some_come : (t : Table) (pages : ℕ) (s : Stage) → IsSoundAt t pages s → IsSome (move_at t s) → 0 < calls_at t s
some_come t pages (stage.Erasing x all) sound next = omega (arith, erased_within all t x sound)
some_come t pages (stage.Filling number spare cells cell) (within, is, le, room) next = some_left cells (spares_in t) cell le (some_spare t spare is)
some_come t pages stage.Working sound next = absurd (true≢false (sym next))
some_come t pages stage.WornOut sound next = absurd (true≢false (sym next))
some_come t pages stage.Faulted sound next = absurd (true≢false (sym next))
