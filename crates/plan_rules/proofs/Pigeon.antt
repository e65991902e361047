-- A pigeonhole over the blocks of a die.
use Rattle.std.proofs.Common.{◌≡◌, ℕ, suc, ◌+◌, ◌-◌, ◌*◌, ◌/◌, ◌≤◌, Bool, true, false, cond, List, [], ◌∷◌, length, sum_by, count_by, ◌⊎◌}
use Rattle.std.proofs.Common.{inl, inr, Any, refl, ap, ◌∙◌, arith}
use Rattle.std.proofs.lemmas.Bool.{cases_lt, cases_Bool}
use Rattle.std.proofs.lemmas.List.Sums.{sum_by-cons}
use Rattle.std.proofs.lemmas.Bool.Decides.{nat_tests}
use Rattle.std.proofs.lemmas.Nat.{le-div}
use Rattle.std.proofs.Math.Nat.{mul-le-mul_right}
use Rattle.slot_types.specs.declared.plans.DiePlan.{DiePlan}
use Rattle.plan_rules.specs.Bound.{MeetsBound, fmax_of, closed_of}
use Rattle.plan_rules.specs.Blocks.{BlockUse, is_open, MayBegin, IsVictim}

-- some of the blocks are wholly free, and some are closed and collected by nobody; either one of these is a victim, or each has many valid
-- pages
pub record IsSplit (plan : DiePlan) (blocks : List BlockUse) : Type 0 where
  pub whole : ℕ
  pub alone : ℕ
  pub whole_free : whole * plan.shape.pages ≤ sum_by (λ block. block.free) blocks
  pub rest : length blocks ≤ alone + whole + count_by (is_open plan) blocks + count_by (λ block. block.collected) blocks
  pub found : Any (IsVictim plan) blocks ⊎ (alone * (plan.shape.pages - plan.alpha + 1) ≤ sum_by (λ block. block.valid) blocks)

pub Any-cons : {X : Type 0} (P : X → Type 0) (x : X) (xs : List X) → Any P xs → Any P (x ∷ xs)
Any-cons P x xs (k, y, below, is, holds) = (suc k, y, omega arith, is, holds)

count-yes : {X : Type 0} (p : X → Bool) (x : X) (xs : List X) → p x ≡ true → count_by p (x ∷ xs) ≡ 1 + count_by p xs
count-yes p x xs is = sum_by-cons (λ y. cond (p y) 1 0) x xs ∙ ap (λ t. cond t 1 0 + count_by p xs) is

count-more : {X : Type 0} (p : X → Bool) (x : X) (xs : List X) → count_by p xs ≤ count_by p (x ∷ xs)
count-more p x xs = omega (arith, sum_by-cons (λ y. cond (p y) 1 0) x xs)

one-more : (n k : ℕ) → (n + 1) * k ≡ n * k + k
one-more n k = grind arith

-- the head holds no victim: what was found further on, or a sum that is no smaller
found-later : (plan : DiePlan) (n : ℕ) (b : BlockUse) (bs : List BlockUse) → Any (IsVictim plan) bs ⊎ (n ≤ sum_by (λ block. block.valid) bs)
    → Any (IsVictim plan) (b ∷ bs) ⊎ (n ≤ sum_by (λ block. block.valid) (b ∷ bs))
found-later plan n b bs (inl any) = inl (Any-cons (IsVictim plan) b bs any)
found-later plan n b bs (inr many) = inr (omega (arith, sum_by-cons (λ (block : BlockUse). block.valid) b bs))

-- the head is closed and collected by nobody
found-here : (plan : DiePlan) (n : ℕ) (b : BlockUse) (bs : List BlockUse) → b.free ≤ 0 → b.collected ≡ false → Any (IsVictim plan) bs
    ⊎ (n * (plan.shape.pages - plan.alpha + 1) ≤ sum_by (λ block. block.valid) bs) → Any (IsVictim plan) (b ∷ bs)
    ⊎ ((n + 1) * (plan.shape.pages - plan.alpha + 1) ≤ sum_by (λ block. block.valid) (b ∷ bs))
found-here plan n b bs none alone (inl any) = inl (Any-cons (IsVictim plan) b bs any)
found-here plan n b bs none alone (inr many) =
    elim (cases_lt (plan.shape.pages - plan.alpha) b.valid) [
      | inl much ↦ inr (omega (arith, sum_by-cons (λ (block : BlockUse). block.valid) b bs, one-more n (plan.shape.pages - plan.alpha + 1)))
      | inr little ↦ inl (0, b, omega arith, refl, record { closed = omega arith; alone = alone; few_valid = little })
    ]

step : (plan : DiePlan) (b : BlockUse) (bs : List BlockUse) → IsSplit plan bs → IsSplit plan (b ∷ bs)
step plan b bs s =
    let free_is = sum_by-cons (λ (block : BlockUse). block.free) b bs in
    let opens = count-more (is_open plan) b bs in
    let collects = count-more (λ (block : BlockUse). block.collected) b bs in
    elim (cases_lt 0 b.free) [
      | inl some ↦ elim (cases_lt b.free plan.shape.pages) [
        | inl few ↦ record {
          whole = s.whole;
          alone = s.alone;
          whole_free = omega (arith, s.whole_free);
          rest = omega (arith, s.rest, count-yes (is_open plan) b bs (grind (arith, nat_tests)));
          found = found-later plan (s.alone * (plan.shape.pages - plan.alpha + 1)) b bs s.found;
        }
        | inr all ↦ record {
          whole = s.whole + 1;
          alone = s.alone;
          whole_free = omega (arith, s.whole_free, one-more s.whole plan.shape.pages);
          rest = omega (arith, s.rest);
          found = found-later plan (s.alone * (plan.shape.pages - plan.alpha + 1)) b bs s.found;
        }
      ]
      | inr none ↦ elim (cases_Bool b.collected) [
        | inl is_collected ↦ record {
          whole = s.whole;
          alone = s.alone;
          whole_free = omega (arith, s.whole_free);
          rest = omega (arith, s.rest, count-yes (λ (block : BlockUse). block.collected) b bs is_collected);
          found = found-later plan (s.alone * (plan.shape.pages - plan.alpha + 1)) b bs s.found;
        }
        | inr alone ↦ record {
          whole = s.whole;
          alone = s.alone + 1;
          whole_free = omega (arith, s.whole_free);
          rest = omega (arith, s.rest);
          found = found-here plan s.alone b bs none alone s.found;
        }
      ]
    ]

pub split : (plan : DiePlan) (blocks : List BlockUse) → IsSplit plan blocks
split plan [] = record { whole = 0; alone = 0; whole_free = omega arith; rest = omega arith; found = inr (omega arith) }
split plan (b ∷ bs) = step plan b bs (split plan bs)

-- where no block is a victim, there are more valid pages than the plan has
pub victim : (plan : DiePlan) (blocks : List BlockUse) → MeetsBound plan → MayBegin plan blocks → Any (IsVictim plan) blocks
victim plan blocks bound begin =
    let s : IsSplit plan blocks = split plan blocks in
    let few_whole : s.whole ≤ fmax_of plan / plan.shape.pages = le-div s.whole (fmax_of plan) plan.shape.pages
    (omega (arith, bound.shape.some_pages)) (omega (arith, s.whole_free, begin.few_free)) in
    let many_alone : closed_of plan ≤ s.alone = omega (arith, s.rest, begin.count, begin.one_open, begin.others_collect, bound.closed) in
    elim s.found [
      | inl any ↦ any
      | inr much ↦ absurd (omega (
        arith,
        much,
        begin.few_valid,
        bound.live,
        mul-le-mul_right (plan.shape.pages - plan.alpha + 1)
            many_alone,
      ))
    ]
