-- What a slot leaves and gives to a task: waivers and acts never lower its balance nor raise its hold, and a waived or
-- settled collection of its own brings it alpha pages or up to its cap.
use Rattle.std.proofs.Common.{◌≡◌, ℕ, ◌+◌, ◌-◌, ◌<◌, ◌≤◌, ◌==◌, Bool, true, false, cond, List, [], ◌∷◌, ◌++◌, length, get_or, count_by, min}
use Rattle.std.proofs.Common.{Option, Some, None, ap, sym, subst, ◌∙◌, ◌⊎◌, inl, inr, arith}
use Rattle.std.proofs.lemmas.Bool.{cases_lt, cases_eq, or_cases, eqb-true}
use Rattle.std.proofs.lemmas.List.{set_past, get_or-set_same, get_or-set_other}
use Rattle.slot_types.specs.declared.plans.DiePlan.{DiePlan}
use Rattle.slot_types.specs.declared.acts.Act.{Act}
use Rattle.slot_types.specs.declared.acts.Act.TheVariants as does
use Rattle.slot_types.specs.declared.replies.Waived.{Waived}
use Rattle.plan_rules.specs.Accounts.{Accounts, owned_of, given_of, accounts_after_collection}
use Rattle.plan_rules.specs.Accounts as moves
use Rattle.plan_rules.proofs.Owned.{given_owned, waived_others}
use Rattle.die_log.specs.Model.Log.{Log, Job, job_at}
use Rattle.die_log.specs.Model.Work.{are_all, is_copy_program}
use Rattle.die_log.specs.Model.Accounts.{after_act, after_waiver, after_waivers}
use Rattle.die_log.specs.Results.Legal.{is_among}
use Rattle.die_log.specs.Invariants.TrueAccounts.{AccountsAgree}
use Rattle.die_log.proofs.Tokens.Amounts.{added, taken, added_at, length_added}

-- a task has as much in its balance, or more, and holds as much, or less
pub record Rises (a b : Accounts) (task : ℕ) : Type 0 where
  pub balance : get_or a.balances task 0 ≤ get_or b.balances task 0
  pub hold : get_or b.holds task 0 ≤ get_or a.holds task 0

-- and it was given alpha pages, or lacks to its cap no more than it held
pub record Gains (plan : DiePlan) (a b : Accounts) (task : ℕ) : Type 0 where
  pub rises : Rises a b task
  pub gain : (get_or a.balances task 0 + plan.alpha ≤ get_or b.balances task 0)
      ⊎ (get_or plan.caps task 0 ≤ get_or b.balances task 0 + get_or a.holds task 0)

pub stays : (a : Accounts) (t : ℕ) → Rises a a t
stays a t = record { balance = omega arith; hold = omega arith }

pub rises_then : (a b c : Accounts) (t : ℕ) → Rises a b t → Rises b c t → Rises a c t
rises_then a b c t x y = record { balance = omega (arith, x.balance, y.balance); hold = omega (arith, x.hold, y.hold) }

pub gains_then : (plan : DiePlan) (a b c : Accounts) (t : ℕ) → Gains plan a b t → Rises b c t → Gains plan a c t
gains_then plan a b c t x y = record {
  rises = rises_then a b c t x.rises y;
  gain = elim x.gain [
    | inl g ↦ inl (omega (arith, g, y.balance))
    | inr g ↦ inr (omega (arith, g, y.balance))
  ];
}

pub then_gains : (plan : DiePlan) (a b c : Accounts) (t : ℕ) → Rises a b t → Gains plan b c t → Gains plan a c t
then_gains plan a b c t x y = record {
  rises = rises_then a b c t x y.rises;
  gain = elim y.gain [
    | inl g ↦ inl (omega (arith, g, x.balance))
    | inr g ↦ inr (omega (arith, g, x.hold))
  ];
}

-- Amounts

added_more : (xs : List ℕ) (task n t : ℕ) → get_or xs t 0 ≤ get_or (added xs task n) t 0
added_more xs task n t = elim (cases_lt task (length xs)) [
  | inl below ↦ omega (arith, added_at xs task n t below)
  | inr past ↦ omega (arith, ap (λ (l : List ℕ). get_or l t 0) (set_past xs task (get_or xs task 0 + n) past))
]

one_less : (xs : List ℕ) (task t : ℕ) → get_or (taken xs task 1) t 0 ≤ get_or xs t 0
one_less xs task t = elim (cases_lt task (length xs)) [
  | inl below ↦ elim (cases_eq t task) [
    | inl e ↦ rw e (omega (arith, get_or-set_same xs task (get_or xs task 0 - 1) 0 below))
    | inr apart ↦ omega (arith, get_or-set_other xs task t (get_or xs task 0 - 1) 0 apart)
  ]
  | inr past ↦ omega (arith, ap (λ (l : List ℕ). get_or l t 0) (set_past xs task (get_or xs task 0 - 1) past))
]

-- Waivers and acts

waived_rises : (o : Option Job) (a : Accounts) (t : ℕ) → Rises a (after_waiver o a) t
waived_rises None a t = stays a t
waived_rises (Some j) a t = record { balance = added_more a.balances j.task (given_of a j.task) t; hold = omega arith }

pub waivers_rise : (past : Log) (ws : List Waived) (a : Accounts) (t : ℕ) → Rises a (after_waivers past ws a) t
waivers_rise past [] a t = stays a t
waivers_rise past (w ∷ ws) a t =
    let b : Accounts = after_waiver (job_at past w.number) a in
    rises_then a b (after_waivers past ws b) t (waived_rises (job_at past w.number) a t) (waivers_rise past ws b t)

settled_rises : (a : Accounts) (task copied : ℕ) (is_over : Bool) (t : ℕ) → Rises a (cond is_over (accounts_after_collection a task copied) a) t
settled_rises a task copied true t = record { balance = added_more a.balances task (given_of a task) t; hold = omega arith }
settled_rises a task copied false t = stays a t

pub act_rises : (plan : DiePlan) (o : Option Job) (own : List Act) (act : Act) (a : Accounts) (t : ℕ)
    → Rises a (after_act plan o own act a) t
act_rises plan None own act a t = stays a t
act_rises plan (Some j) own (does.Read page bytes) a t = stays a t
act_rises plan (Some j) own (does.Write page bytes) a t = record { balance = omega arith; hold = one_less a.holds j.task t }
act_rises plan (Some j) own (does.Trim page) a t = stays a t
act_rises plan (Some j) own (does.CopyRead page) a t = stays a t
act_rises plan (Some j) own (does.CopyProgram page) a t = record { balance = omega arith; hold = omega arith }
act_rises plan (Some j) own (does.Erase block) a t = settled_rises a j.task (count_by is_copy_program own)
    (are_all plan j (own ++ does.Erase block ∷ [])) t

-- Gifts

-- accounts of this plan, with a balance for each task, none of which owns more than its cap
pub record Fits (plan : DiePlan) (a : Accounts) : Type 0 where
  pub plan_is : a.plan ≡ plan
  pub balances_len : length a.balances ≡ length plan.caps
  pub owned : (task : ℕ) → owned_of a task ≤ get_or plan.caps task 0

pub agree_fits : (plan : DiePlan) (a : Accounts) (held lent : ℕ → ℕ) (owed free : ℕ) → AccountsAgree plan a held lent owed free → Fits plan a
agree_fits plan a held lent owed free g = record { plan_is = g.plan_is; balances_len = g.balances_len; owned = g.owned }

-- what is given brings what the task owns to its cap, or alpha pages higher
grown : (plan : DiePlan) (a : Accounts) (task : ℕ) → Fits plan a → task < length a.balances
    → get_or (added a.balances task (given_of a task)) task 0 + get_or a.holds task 0
    ≡ min (get_or plan.caps task 0) (owned_of a task + plan.alpha)
grown plan a task f b =
    let cap : get_or a.plan.caps task 0 ≡ get_or plan.caps task 0 = ap (λ (p : DiePlan). get_or p.caps task 0) f.plan_is in
    let alpha : a.plan.alpha ≡ plan.alpha = ap (λ (p : DiePlan). p.alpha) f.plan_is in
    given_owned a task b (omega (arith, f.owned task, cap))
    ∙ (ap (λ n. min n (owned_of a task + a.plan.alpha)) cap ∙ ap (λ n. min (get_or plan.caps task 0) (owned_of a task + n)) alpha)

given_gain : (plan : DiePlan) (a : Accounts) (task : ℕ) → Fits plan a → task < length plan.caps
    → (get_or a.balances task 0 + plan.alpha ≤ get_or (added a.balances task (given_of a task)) task 0)
    ⊎ (get_or plan.caps task 0 ≤ get_or (added a.balances task (given_of a task)) task 0 + get_or a.holds task 0)
given_gain plan a task f h =
    let is = grown plan a task f (omega (arith, f.balances_len, h)) in
    elim (cases_lt (get_or plan.caps task 0) (owned_of a task + plan.alpha)) [
      | inl near ↦ inr (omega (arith, near, is))
      | inr far ↦ inl (omega (arith, far, is))
    ]

pub waived_gains : (plan : DiePlan) (a : Accounts) (task : ℕ) → Fits plan a → task < length plan.caps
    → Gains plan a (moves.accounts_after_waiver a task) task
waived_gains plan a task f h = record {
  rises = record { balance = added_more a.balances task (given_of a task) task; hold = omega arith };
  gain = given_gain plan a task f h;
}

pub settled_gains : (plan : DiePlan) (a : Accounts) (task copied : ℕ) → Fits plan a → task < length plan.caps
    → Gains plan a (accounts_after_collection a task copied) task
settled_gains plan a task copied f h = record {
  rises = record
      { balance = added_more a.balances task (given_of a task) task; hold = omega arith };
  gain = given_gain plan a task f h;
}

waived_fits : (plan : DiePlan) (a : Accounts) (task : ℕ) → Fits plan a → Fits plan (moves.accounts_after_waiver a task)
waived_fits plan a task f = record {
  plan_is = f.plan_is;
  balances_len = length_added a.balances task (given_of a task) ∙ f.balances_len;
  owned = λ other.
      elim (cases_eq other task) [
        | inl e ↦ rw e own
        | inr apart ↦ omega (arith, f.owned other, waived_others a task other apart)
      ];
}
  where
    own : owned_of (moves.accounts_after_waiver a task) task ≤ get_or plan.caps task 0
    own = elim (cases_lt task (length a.balances)) [
      | inl below ↦ omega (arith, grown plan a task f below)
      | inr past ↦ omega (
        arith,
        f.owned task,
        ap (λ (l : List ℕ). get_or l task 0)
            (set_past a.balances task (get_or a.balances task 0 + given_of a task) past),
      )
    ]

pub waivers_fit : (plan : DiePlan) (past : Log) (ws : List Waived) (a : Accounts) → Fits plan a → Fits plan (after_waivers past ws a)
waivers_fit plan past [] a f = f
waivers_fit plan past (w ∷ ws) a f = waivers_fit plan past ws (after_waiver (job_at past w.number) a) (by_job (job_at past w.number))
  where
    by_job : (o : Option Job) → Fits plan (after_waiver o a)
    by_job None = f
    by_job (Some j) = waived_fits plan a j.task f

-- a waived collection brings its task the gift
pub waivers_gain : (plan : DiePlan) (past : Log) (ws : List Waived) (a : Accounts) (j : Job) → Fits plan a → job_at past j.number ≡ Some j
    → j.task < length plan.caps → is_among j.number ws ≡ true
    → Gains plan a (after_waivers past ws a) j.task
waivers_gain plan past [] a j f known within is = absurd cc
waivers_gain plan past (w ∷ ws) a j f known within is = elim (or_cases (w.number == j.number) (is_among j.number ws) is) [
  | inl here ↦
      let at : job_at past w.number ≡ Some j = ap (job_at past) (eqb-true w.number j.number here) ∙ known in
      let next : after_waiver (job_at past w.number) a ≡ moves.accounts_after_waiver a j.task = ap (λ o. after_waiver o a) at in
      subst (λ (b : Accounts). Gains plan a (after_waivers past ws b) j.task) (sym next)
      (gains_then plan a (moves.accounts_after_waiver a j.task) (after_waivers past ws (moves.accounts_after_waiver a j.task)) j.task
      (waived_gains plan a j.task f within) (waivers_rise past ws (moves.accounts_after_waiver a j.task) j.task))
  | inr later ↦
      let b : Accounts = after_waiver (job_at past w.number) a in
      then_gains plan a b (after_waivers past ws b) j.task (waived_rises (job_at past w.number) a j.task)
      (waivers_gain plan past ws b j (waivers_fit plan past (w ∷ []) a f) known within later)
]
