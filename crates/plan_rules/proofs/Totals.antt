-- What the accounts come to.
use Rattle.std.proofs.Common.{◌≡◌, ℕ, suc, ◌+◌, ◌-◌, ◌*◌, ◌/◌, ◌<◌, ◌≤◌, List, [], ◌∷◌, length, sum, get_or, replicate, ap, ◌∙◌, inl, inr}
use Rattle.std.proofs.Common.{arith}
use Rattle.std.proofs.lemmas.List.Sums.{sum_by-cons}
use Rattle.std.proofs.lemmas.List.Folds.{sum_by-replicate}
use Rattle.std.proofs.lemmas.Bool.{cases_lt}
use Rattle.std.proofs.lemmas.List.{length-replicate, get_or-replicate, get_or_past}
use Rattle.std.proofs.Math.Nat.{mul-le-mul_right}
use Rattle.std.proofs.lemmas.Nat.{div-add-mod', mod_below}
use Rattle.slot_types.specs.declared.plans.DiePlan.{DiePlan}
use Rattle.plan_rules.specs.Bound.{MeetsBound, fmax_of}
use Rattle.plan_rules.specs.Accounts.{Accounts, total_of, AreSoundAccounts}

-- two lists that come to no more than a third one at each place
pub sums_le : (xs ys zs : List ℕ) → length xs ≡ length zs → length ys ≡ length zs
    → ((i : ℕ) → get_or xs i 0 + get_or ys i 0 ≤ get_or zs i 0) → sum xs + sum ys ≤ sum zs
sums_le [] [] zs _ _ _ = omega arith
sums_le [] (y ∷ ys) zs d e _ = absurd (omega (arith, d, e))
sums_le (x ∷ xs) [] zs d e _ = absurd (omega (arith, d, e))
sums_le (x ∷ xs) (y ∷ ys) [] d e _ = absurd (omega (arith, d))
sums_le (x ∷ xs) (y ∷ ys) (z ∷ zs) d e below =
    omega (
      arith,
      sum_by-cons (λ (n : ℕ). n) x xs,
      sum_by-cons (λ (n : ℕ). n) y ys,
      sum_by-cons (λ (n : ℕ). n) z zs,
      below 0,
      sums_le xs ys
          zs (omega (arith, d)) (omega (arith, e)) (λ i. below (suc i)),
    )

one-more : (n k : ℕ) → (n + 1) * k ≡ n * k + k
one-more n k = grind arith

pub sum_le : (xs : List ℕ) (m : ℕ) → ((i : ℕ) → get_or xs i 0 ≤ m) → sum xs ≤ length xs * m
sum_le [] m _ = omega arith
sum_le (x ∷ xs) m below =
    omega (arith, sum_by-cons (λ (n : ℕ). n) x xs, below 0, sum_le xs m (λ i. below (suc i)), one-more (length xs) m)

-- while few pages are spare, few are free
pub few_free : (accounts : Accounts) → AreSoundAccounts accounts → accounts.spare < accounts.plan.alpha → total_of accounts ≤ fmax_of accounts.plan
few_free accounts sound short =
    omega (
      arith,
      short,
      sums_le accounts.balances accounts.holds accounts.plan.caps sound.balances_len sound.holds_len sound.owned,
      sum_le accounts.reserves (accounts.plan.shape.pages - accounts.plan.alpha) sound.reserved,
      ap (λ (n : ℕ). n * (accounts.plan.shape.pages - accounts.plan.alpha)) sound.reserves_len,
    )

-- a bound on plans leaves room for all that is given away at the start
pub room : (plan : DiePlan) → MeetsBound plan → sum plan.caps + length plan.caps * (plan.shape.pages - plan.alpha)
    ≤ plan.shape.blocks * plan.shape.pages
room plan bound =
    let whole : fmax_of plan / plan.shape.pages + 1 ≤ plan.shape.blocks = omega (arith, bound.closed) in
    omega (
      arith,
      mul-le-mul_right plan.shape.pages whole,
      one-more (fmax_of plan / plan.shape.pages) plan.shape.pages,
      div-add-mod' (fmax_of plan) plan.shape.pages,
      mod_below (fmax_of plan) plan.shape.pages (omega (arith, bound.shape.some_pages)),
    )

get_or-replicate_le : (n m i : ℕ) → get_or (replicate n m) i 0 ≤ m
get_or-replicate_le n m i =
    elim (cases_lt i n) [
      | inl below ↦ omega (arith, get_or-replicate n i m 0 below)
      | inr past ↦ omega (arith, get_or_past (replicate n m) i 0 (omega (arith, past, length-replicate n m)))
    ]

pub opening_sound : (plan : DiePlan) (spare : ℕ) (balances holds reserves : List ℕ) → MeetsBound plan → spare
    ≡ plan.shape.blocks * plan.shape.pages - sum plan.caps - length plan.caps * (plan.shape.pages - plan.alpha) → balances ≡ plan.caps
    → holds ≡ replicate (length plan.caps) 0 → reserves ≡ replicate (length plan.caps) (plan.shape.pages - plan.alpha)
    → AreSoundAccounts (record { plan = plan; spare = spare; balances = balances; holds = holds; reserves = reserves })
opening_sound plan spare balances holds reserves bound rest all none lent = record {
  bound = bound;
  balances_len = ap length all;
  holds_len = ap length none ∙ length-replicate (length plan.caps) 0;
  reserves_len = ap length lent ∙ length-replicate (length plan.caps) (plan.shape.pages - plan.alpha);
  owned = λ task. omega (
    arith,
    ap (λ (l : List ℕ). get_or l task 0) all,
    ap (λ (l : List ℕ). get_or l task 0) none,
    get_or-replicate_le
        (length plan.caps) 0 task,
  );
  reserved = λ task. rw lent (get_or-replicate_le (length plan.caps) (plan.shape.pages - plan.alpha) task);
  total = rw (all, none, lent, rest) (omega (
    arith,
    room plan bound,
    sum_by-replicate (λ (n : ℕ). n) (length plan.caps) 0,
    sum_by-replicate
        (λ (n : ℕ). n) (length plan.caps) (plan.shape.pages - plan.alpha),
  ));
}
