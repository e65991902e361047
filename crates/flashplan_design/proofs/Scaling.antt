-- What a die does with one number it does with another: with fewer logical pages, and with a part of its hyperperiod.
use Rattle.std.proofs.Common.{◌≡◌, ℕ, zero, suc, ◌+◌, ◌*◌, ◌/◌, ◌%◌, ◌≤◌, List, [], ◌∷◌, All, Option, Some, None, sym, ap, ◌∙◌, arith}
use Rattle.std.proofs.Math.Nat.{div-mul_cancel, mul-div_assoc, le_of_mul-le-mul_left}
use Rattle.std.proofs.lemmas.Nat.Gcd.{dvd_of_mod-eq-zero}
use Rattle.std.proofs.lemmas.List.Sums.{sum_by-cons}
use Rattle.std.specs.List.{AllZip}
use Rattle.std.specs.Prelude.{IfSome, IsSomeAnd, option_map, sum_by}
use Rattle.slot_types.specs.declared.limits.TheConstants.{MAX_SLOT}
use Rattle.slot_types.specs.declared.plans.DiePlan.{DiePlan}
use Rattle.slot_types.specs.declared.plans.Shape.{Shape}
use Rattle.slot_types.specs.declared.plans.TaskTimes.{TaskTimes}
use Rattle.slot_types.specs.declared.plans.Times.{Times}
use Rattle.plan_rules.specs.Bound.{MeetsBound}
use Rattle.plan_rules.specs.Times.{IsSustained, Passes, collection_work}
use Rattle.flashplan_design.specs.Commons.{AreDivisors, Divide}
use Rattle.flashplan_design.specs.Numbers.{DieDoes, times_with}
use Rattle.flashplan_design.specs.declared.commons.Periods.TheVariants as periods
use Rattle.flashplan_design.specs.declared.numbers.Number.TheVariants as number

-- the bound says nothing of times, and what meets it meets it with fewer logical pages
bound_by : (shape : Shape) (n m alpha : ℕ) (caps : List ℕ) (times others : Option Times) → 1 ≤ m → m ≤ n
    → MeetsBound (record { shape = shape; logical = n; alpha = alpha; caps = caps; times = times })
    → MeetsBound (record { shape = shape; logical = m; alpha = alpha; caps = caps; times = others })
bound_by shape n m alpha caps times others some less b = record {
  shape = b.shape;
  limits = record {
    some_tasks = b.limits.some_tasks;
    few_tasks = b.limits.few_tasks;
    some_logical = some;
    some_alpha = b.limits.some_alpha;
    alpha_fits = b.limits.alpha_fits;
    some_cap = b.limits.some_cap;
  };
  closed = b.closed;
  live = omega (arith, less, b.live);
}

head : {B : Type 0} (D : B → Type 0) (y : B) (ys : List B) → All D (y ∷ ys) → D y
head D y ys d = d 0 y (omega arith)

rest : {B : Type 0} (D : B → Type 0) (y : B) (ys : List B) → All D (y ∷ ys) → All D ys
rest D y ys d = λ k e lt. d (suc k) e (omega (arith, lt))

-- what follows of each pair follows of all
zip_map : {A B : Type 0} (D : B → Type 0) (R S : A → B → Type 0) (xs : List A) (ys : List B)
    → ((x : A) (y : B) → D y → R x y → S x y) → All D ys → AllZip R xs ys → AllZip S xs ys
zip_map D R S [] [] f d h = tt
zip_map D R S [] (y ∷ ys) f d h = h
zip_map D R S (x ∷ xs) [] f d h = h
zip_map D R S (x ∷ xs) (y ∷ ys) f d h = (f x y (head D y ys d) h.0, zip_map D R S xs ys f (rest D y ys d) h.1)

if_some : {A : Type 0} (P Q : A → Type 0) (o : Option A) → ((a : A) → P a → Q a) → IfSome o P → IfSome o Q
if_some P Q None f h = tt
if_some P Q (Some a) f h = f a h

logical_passes : (d : DiePlan) (n m : ℕ) (times : Times) → Passes (record d { logical = n }) times → Passes (record d { logical = m }) times
logical_passes d n m times p = record {
  timed = record {
    one_each = p.timed.one_each;
    some_common = p.timed.some_common;
    few_common = p.timed.few_common;
    each = p.timed.each;
  };
  sustained = zip_map (λ y. 0 ≤ 0) (IsSustained (record d { logical = n }) times.common)
      (IsSustained (record d { logical = m }) times.common) d.caps times.tasks
      (λ cap t yes s. record {
        period_divides = s.period_divides;
        collect_period_divides = s.collect_period_divides;
        regained = s.regained;
        stocked = s.stocked;
      })
      (λ k e lt. omega arith) p.sustained;
  fits = p.fits;
}

-- with fewer logical pages
pub fewer_logical : (d : DiePlan) (n m : ℕ) → 1 ≤ m → m ≤ n → DieDoes number.Logical d n → DieDoes number.Logical d m
fewer_logical d n m some less does = record {
  bound = bound_by d.shape n m d.alpha d.caps d.times d.times some less does.bound;
  passes = if_some (Passes (record d { logical = n })) (Passes (record d { logical = m })) d.times (logical_passes d n m) does.passes;
}

-- how many logical pages there are doesn't matter to the test of times
pub any_logical_passes : (d : DiePlan) (n m : ℕ) → IfSome d.times (Passes (record d { logical = n })) → IfSome d.times (Passes (record d { logical = m }))
any_logical_passes d n m passes = if_some (Passes (record d { logical = n })) (Passes (record d { logical = m })) d.times (logical_passes d n m) passes

-- what holds of a value that is there holds of it if it is there
pub if_there : {A : Type 0} (P : A → Type 0) (o : Option A) → IsSomeAnd o P → IfSome o P
if_there P None h = tt
if_there P (Some a) h = h

-- how often a period comes in a multiple of a common multiple
quotient : (n m p : ℕ) → n % m ≡ 0 → m % p ≡ 0 → n / p ≡ (n / m) * (m / p)
quotient n m p whole part =
    ap (λ k. k / p) (sym (div-mul_cancel m (dvd_of_mod-eq-zero m whole)))
    ∙ mul-div_assoc p (n / m) (dvd_of_mod-eq-zero p part)

one_scales : (work collection n m p q : ℕ) → n % m ≡ 0 → m % p ≡ 0 → m % q ≡ 0
    → work * (n / p) + collection * (n / q) ≡ (n / m) * (work * (m / p) + collection * (m / q))
one_scales work collection n m p q whole one other =
    ap (λ x. work * x + collection * (n / q)) (quotient n m p whole one)
    ∙ (ap (λ y. work * ((n / m) * (m / p)) + collection * y) (quotient n m q whole other)
    ∙ regroup work collection (n / m) (m / p) (m / q))
  where
    regroup : (w c k x y : ℕ) → w * (k * x) + c * (k * y) ≡ k * (w * x + c * y)
    regroup w c k x y = grind arith

-- the demand of a task whose collections take `collection` slots each
abbrev asked : ℕ → ℕ → TaskTimes → ℕ
asked collection n t = t.work * (n / t.period) + collection * (n / t.collect_period)

all_scale : (collection n m : ℕ) (tasks : List TaskTimes) → n % m ≡ 0 → All (Divide periods.All m) tasks
    → sum_by (asked collection n) tasks ≡ (n / m) * sum_by (asked collection m) tasks
all_scale collection n m [] whole divided = nothing (n / m)
  where
    nothing : (k : ℕ) → 0 ≡ k * 0
    nothing k = grind arith
all_scale collection n m (t ∷ ts) whole divided =
    joined (n / m) _ _ _ _ _ _ (sum_by-cons (asked collection n) t ts) (sum_by-cons (asked collection m) t ts)
    (one_scales t.work collection n m t.period t.collect_period whole (head (Divide periods.All m) t ts divided).0 (head (Divide periods.All m) t ts divided).1)
    (all_scale collection n m ts whole (rest (Divide periods.All m) t ts divided))
  where
    joined : (k a b c d e f : ℕ) → a ≡ b + c → d ≡ e + f → b ≡ k * e → c ≡ k * f → a ≡ k * d
    joined k a b c d e f one two three four = one ∙ (omega (arith, three, four, spread k e f, ap (λ x. k * x) two))
      where
        spread : (k e f : ℕ) → k * (e + f) ≡ k * e + k * f
        spread k e f = grind arith

-- what fits into a multiple fits into a part of it
part_fits : (n m large small : ℕ) → 1 ≤ n → n % m ≡ 0 → large ≡ (n / m) * small → large ≤ n → small ≤ m
part_fits n m large small some whole scaled fits =
    let fill : (n / m) * m ≡ n = div-mul_cancel m (dvd_of_mod-eq-zero m whole) in
    shorter (n / m) small m (omega (arith, some, fill)) (omega (arith, scaled, fits, fill))
  where
    shorter : (k small m : ℕ) → 1 ≤ k * m → k * small ≤ k * m → small ≤ m
    shorter zero small m some le = absurd (omega (arith, some))
    shorter (suc k) small m some le = le_of_mul-le-mul_left le (omega arith)

common_passes : (d : DiePlan) (n m : ℕ) (t u o : Option Times) → 1 ≤ n → 1 ≤ m → m ≤ MAX_SLOT → n % m ≡ 0
    → IfSome o (λ times. AreDivisors periods.All times.tasks m)
    → IfSome (option_map (times_with number.Common n) o) (Passes (record d { times = t }))
    → IfSome (option_map (times_with number.Common m) o) (Passes (record d { times = u }))
common_passes d n m t u None some one few whole divided p = tt
common_passes d n m t u (Some times) some one few whole divided p = record {
  timed = record {
    one_each = p.timed.one_each;
    some_common = one;
    few_common = few;
    each = p.timed.each;
  };
  sustained = zip_map (Divide periods.All m) (IsSustained (record d { times = t }) n)
      (IsSustained (record d { times = u }) m) d.caps times.tasks
      (λ cap task both s. record {
        period_divides = both.0;
        collect_period_divides = both.1;
        regained = s.regained;
        stocked = s.stocked;
      })
      divided p.sustained;
  fits = part_fits n m _ _ some whole (all_scale (collection_work d) n m times.tasks whole divided) p.fits;
}

-- with a part of a hyperperiod that all periods divide
pub part_common : (d : DiePlan) (n m : ℕ) → 1 ≤ n → 1 ≤ m → m ≤ MAX_SLOT → n % m ≡ 0
    → IfSome d.times (λ times. AreDivisors periods.All times.tasks m) → DieDoes number.Common d n → DieDoes number.Common d m
part_common d n m some one few whole divided does = record {
  bound = bound_by d.shape d.logical d.logical d.alpha d.caps (option_map (times_with number.Common n) d.times)
      (option_map (times_with number.Common m) d.times) does.bound.limits.some_logical (omega arith) does.bound;
  passes = common_passes d n m (option_map (times_with number.Common n) d.times) (option_map (times_with number.Common m) d.times) d.times
      some one few whole divided does.passes;
}
