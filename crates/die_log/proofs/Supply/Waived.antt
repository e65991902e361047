-- What was waived is a collection.
use Rattle.std.proofs.Common.{◌≡◌, ℕ, ◌==◌, true, false, List, [], ◌∷◌, ◌++◌, Some, ap, sym, ◌∙◌, inl, inr, arith, slice_get}
use Rattle.std.specs.List.{AllByRecursion}
use Rattle.std.proofs.lemmas.Bool.{or_cases, eqb-true}
use Rattle.std.proofs.lemmas.Option.{slice_get_within}
use Rattle.std.proofs.lemmas.List.Folds.{list_any-append}
use Rattle.slot_types.specs.declared.plans.DiePlan.{DiePlan}
use Rattle.slot_types.specs.declared.events.Event.{Event}
use Rattle.slot_types.specs.declared.events.Event.TheVariants as events
use Rattle.slot_types.specs.declared.replies.Waived.{Waived}
use Rattle.plan_rules.specs.Accounts.{Accounts}
use Rattle.plan_rules.specs.Accounts as moves
use Rattle.die_log.specs.Model.Log.{Log, Job, jobs, job_at, waived_collections, is_waived}
use Rattle.die_log.specs.Model.Accounts.{accounts}
use Rattle.die_log.specs.Model.Answers.{IsExact, reply_if_accepted, refusals, choice, slot_reply}
use Rattle.die_log.specs.Results.Legal.{is_among, AreWaivers}
use Rattle.die_log.proofs.Legality.{entry, exact_induction}
use Rattle.die_log.proofs.Known.{waived_is}
use Rattle.die_log.proofs.Legal.Exact.{stands_well, well_served, chosen_is}
use Rattle.die_log.proofs.LogInvariants.OneMoreEntry.{elsewhere}
use Rattle.die_log.specs.Model.Start.{Start}
use Rattle.die_log.specs.Model.Opening.{IsOpening}

-- the number is of a collection
abbrev IsCollection : Log → ℕ → Type 0
IsCollection log number = (j : Job) × (job_at log number ≡ Some j) × (j.collects ≡ true)

abbrev WaivesCollections : Log → Type 0
WaivesCollections log = (number : ℕ) → is_waived log number ≡ true → IsCollection log number

-- a longer list of jobs has the same ones at the same places
pub earlier_at : {X : Type 0} (xs : List X) (y : X) (k : ℕ) (x : X) → slice_get xs k ≡ Some x → slice_get (xs ++ y ∷ []) k ≡ Some x
earlier_at xs y k x e = elsewhere xs y k (λ is. absurd (omega (arith, is, slice_get_within xs k x e))) ∙ e

among_collections : (plan : DiePlan) (past : Log) (earlier ws : List Waived) (a : Accounts) (number : ℕ) → AreWaivers plan past earlier a ws
    → is_among number ws ≡ true → IsCollection past number
among_collections plan past earlier [] a number h is = absurd cc
among_collections plan past earlier (w ∷ ws) a number (j, one, rest) is = elim (or_cases (w.number == number) (is_among number ws) is) [
  | inl here ↦ (j, sym (ap (job_at past) (eqb-true w.number number here)) ∙ one.known, one.collects)
  | inr later ↦ among_collections plan past (earlier ++ w ∷ []) ws (moves.accounts_after_waiver a j.task) number rest later
]

pub waives_collections : (start : Start) → IsOpening start → (log : Log) → IsExact start log → (number : ℕ) → is_waived log number ≡ true
    → (j : Job) × (job_at log number ≡ Some j) × (j.collects ≡ true)
waives_collections start bound = exact_induction start WaivesCollections (λ number is. absurd cc) step
  where
    step : (past : Log) (caller : ℕ) (event : Event) → IsExact start past → WaivesCollections past
        → AllByRecursion (λ c. c.0 ≡ false) (refusals start past event)
        → WaivesCollections (entry caller event (reply_if_accepted start past event) ∷ past)
    step past caller (events.Submit task release due ops) exact h none = λ number is. let c = h number is in
        (c.0, earlier_at (jobs past) _ number c.0 c.1, c.2)
    step past caller (events.Collect task release due) exact h none = λ number is. let c = h number is in
        (c.0, earlier_at (jobs past) _ number c.0 c.1, c.2)
    step past caller events.Slot exact h none = λ number is.
        let c = choice start past in
        let ws = (slot_reply start past c.waived c.head).waived in
        let chosen = chosen_is start past (well_served start past bound (stands_well start bound past exact)) in
        let either = sym (list_any-append (λ w. w.number == number) (waived_collections past) ws) ∙ is in
        elim (or_cases (is_waived past number) (is_among number ws) either) [
          | inl before ↦ h number before
          | inr now_waived ↦ among_collections start.plan past (waived_collections past) c.waived (accounts start past) number chosen.waivers
              (sym (ap (is_among number) (waived_is start past c.waived c.head)) ∙ now_waived)
        ]
