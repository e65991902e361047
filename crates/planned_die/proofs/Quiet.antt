-- In which slots no collection comes.
use Rattle.std.proofs.Common.{◌≡◌, ℕ, ◌+◌, ◌-◌, ◌%◌, ◌<◌, ◌≤◌, ◌==◌, Bool, false, List, suc, zero, length, refl, ap, sym, subst, ◌∙◌, arith}
use Rattle.std.proofs.Math.Nat.{mod-add-mod, mod-eq_of_lt, mod-lt}
use Rattle.std.proofs.lemmas.Bool.Decides.{nat_tests}
use Rattle.slot_types.specs.declared.plans.DiePlan.{DiePlan}
use Rattle.flash_die.specs.declared.nand.NandCall.{NandCall}
use Rattle.demand_rules.specs.declared.terms.TaskTerms.{TaskTerms}
use Rattle.demand_rules.specs.declared.terms.Terms.{Terms}
use Rattle.demand_rules.specs.Demand.{terms_of, no_terms}
use Rattle.die_log.specs.Model.Log.{now}
use Rattle.die_log.specs.Model.Lives.{Lives}
use Rattle.slot_core.specs.Core.{Core}
use Rattle.planned_log.specs.KeptLogs.{comes_at}
use Rattle.planned_log.specs.Laws.{IsKept}
use Rattle.planned_die.specs.OwnCollections.{IsQuiet, AreQuiet}
use Rattle.planned_die.specs.PlannedCalls.{with_own}
use Rattle.planned_die.proofs.Cores.{own_begins, own_further, passed_over, passed_keeps}

-- what is left of a period reaches no multiple of it
pub no_multiple : (period from past slot : ℕ) → from % period ≡ past → 0 < past → 0 < period → from ≤ slot → slot < from + (period - past)
    → comes_at period slot ≡ false
no_multiple period from past slot is some long le lt =
    let further : ℕ = slot - from in
    let below : from % period < period = mod-lt from long in
    let at : slot ≡ from + further = omega (arith, le) in
    let lands : slot % period ≡ past + further =
    ap (λ n. n % period) at ∙ (sym (mod-add-mod from period further) ∙ (ap (λ p. (p + further) % period) is
    ∙ mod-eq_of_lt (omega (arith, is, below, le, lt)))) in
    grind (arith, nat_tests, lands, some)

-- nothing comes in a slot before the next one in which something does
pub quiet_later : (tasks : List TaskTerms) (from later until : ℕ) → from ≤ later → AreQuiet tasks from until → AreQuiet tasks later until
quiet_later tasks from later until le h k d lt slot since before = h k d lt slot (omega (arith, le, since)) before

-- and nothing is said of none
pub quiet_at_once : (tasks : List TaskTerms) (from : ℕ) → AreQuiet tasks from 0
quiet_at_once tasks from k d lt slot since before = absurd (omega (arith, before))

-- where no collection comes in the present slot, all tasks are passed over at once
module _ {N : Type 0} (ends : N → NandCall → Bool → N → Type 0) (failures : N → ℕ) (never : Bool) (core : Core N) (terms : Terms) (life caller until : ℕ)
    (runs : core.stopped ≡ false) (early : now core.log < life) (quiet : AreQuiet terms.tasks (now core.log) until) (before : now core.log < until) where
  module _ (earlier : Lives) (from : ℕ) (kept : IsKept core.start terms earlier life from core.log) where
    known : (task : ℕ) → task < length core.start.plan.caps → task < length terms.tasks
    known task lt = omega (arith, lt, kept.demand.has.one_each)

    none : (task : ℕ) → task < length core.start.plan.caps → comes_at (terms_of terms task).collect_period (now core.log) ≡ false
    none task lt = quiet task no_terms (known task lt) (now core.log) (omega arith) before

    pub all_kept : (more : ℕ) → from + more ≤ length core.start.plan.caps → IsKept core.start terms earlier life (from + more) core.log
    all_kept zero le = subst (λ n. IsKept core.start terms earlier life n core.log) (omega arith) kept
    all_kept (suc more) le =
        let lt : from + more < length core.start.plan.caps = omega (arith, le) in
        subst (λ n. IsKept core.start terms earlier life n core.log) (omega arith)
        (passed_keeps ends failures never core terms earlier life caller (from + more) (now core.log) _ _ (all_kept more (omega (arith, lt))) runs lt early
        refl refl refl (none (from + more) lt))

    pub all_passed : (more : ℕ) → from + more ≤ length core.start.plan.caps → core ≡ with_own caller terms core from (from + more)
    all_passed zero le = subst (λ n. core ≡ with_own caller terms core from n) (omega arith) (own_begins caller terms core from)
    all_passed (suc more) le =
        let lt : from + more < length core.start.plan.caps = omega (arith, le) in
        subst (λ n. core ≡ with_own caller terms core from n) (omega arith)
        (own_further caller terms core core core from (from + more) (omega arith) (known (from + more) lt) (all_passed more (omega (arith, lt))) refl
        (passed_over ends failures never core terms earlier life caller (from + more) (now core.log) _ _ (all_kept more (omega (arith, lt))) runs lt early
        refl refl refl (none (from + more) lt)))
