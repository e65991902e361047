-- Lists by block, with one for the block aside and without it.
use Rattle.std.proofs.Common.{◌≡◌, ◌≢◌, ◌⊎◌, ℕ, zero, suc, ◌+◌, ◌-◌, ◌<◌, ◌≤◌, Bool, cond, List, [], ◌∷◌, ◌++◌, length}
use Rattle.std.proofs.Common.{refl, ap, sym, ◌∙◌, inl, inr, arith, get_or, set}
use Rattle.std.specs.Prelude.{sum_by, take}
use Rattle.std.proofs.lemmas.Bool.{cases_eq, cases_lt, eq-eqb, ne_eqb}
use Rattle.std.proofs.lemmas.List.{length-set, length_push, length-take-le, get_or-set_same, get_or-set_other}
use Rattle.std.proofs.lemmas.List.{get_or-take, get_or_past, get_or_append_left, get_or-append_right}
use Rattle.std.proofs.lemmas.List.Sums.{sum_by-set, sum_by_more}
use Rattle.power_loss.specs.Aside.{on_die, on_part, with_aside, without_aside}

-- Numbers

pub die_last : (last aside b : ℕ) → b ≡ last → on_die last aside b ≡ aside
die_last last aside b e = ap (λ (t : Bool). cond t aside b) (eq-eqb b last e)

pub die_other : (last aside b : ℕ) → b ≢ last → on_die last aside b ≡ b
die_other last aside b n = ap (λ (t : Bool). cond t aside b) (ne_eqb b last n)

pub part_aside : (last aside b : ℕ) → b ≡ aside → on_part last aside b ≡ last
part_aside last aside b e = ap (λ (t : Bool). cond t last b) (eq-eqb b aside e)

pub part_other : (last aside b : ℕ) → b ≢ aside → on_part last aside b ≡ b
part_other last aside b n = ap (λ (t : Bool). cond t last b) (ne_eqb b aside n)

-- Without

pub without_length : {A : Type 0} (last aside : ℕ) (none : A) (all : List A) → length all ≡ last + 1 → length (without_aside last aside none all) ≡ last
without_length last aside none all e =
    length-take-le last (set all aside (get_or all last none)) (omega (arith, e, length-set all aside (get_or all last none)))

-- the die's block has what the part's has
pub without_at : {A : Type 0} (last aside : ℕ) (none : A) (all : List A) (b : ℕ) → length all ≡ last + 1 → b < last
    → get_or (without_aside last aside none all) b none ≡ get_or all (on_part last aside b) none
without_at last aside none all b e lt = by_case (cases_eq b aside)
  where
    taken : get_or (without_aside last aside none all) b none ≡ get_or (set all aside (get_or all last none)) b none
    taken = get_or-take last (set all aside (get_or all last none)) b none lt

    by_case : (b ≡ aside) ⊎ (b ≡ aside → ⊥) → get_or (without_aside last aside none all) b none ≡ get_or all (on_part last aside b) none
    by_case (inl is) =
        taken ∙ (ap (λ i. get_or (set all aside (get_or all last none)) i none) is
        ∙ (get_or-set_same all aside (get_or all last none) none (omega (arith, e, lt, is))
        ∙ sym (ap (λ i. get_or all i none) (part_aside last aside b is))))
    by_case (inr other) =
        taken ∙ (get_or-set_other all aside b (get_or all last none) none other ∙ sym (ap (λ i. get_or all i none) (part_other last aside b other)))

pub without_past : {A : Type 0} (last aside : ℕ) (none : A) (all : List A) (b : ℕ) → length all ≡ last + 1 → last ≤ b
    → get_or (without_aside last aside none all) b none ≡ none
without_past last aside none all b e le = get_or_past (without_aside last aside none all) b none (omega (arith, without_length last aside none all e, le))

-- a sum loses what the block aside has
pub without_sum : {A : Type 0} (f : A → ℕ) (last aside : ℕ) (none : A) (all : List A) → length all ≡ last + 1 → aside ≤ last
    → sum_by f (without_aside last aside none all) + f (get_or all aside none) ≡ sum_by f all
without_sum {A = A} f last aside none all e le =
    let x = get_or all last none in
    let ys = set all aside x in
    let more : sum_by f (take (last + 1) ys) ≡ sum_by f (take last ys) + f (get_or ys last none) =
    sum_by_more f ys last none (omega (arith, e, length-set all aside x)) in
    let whole : sum_by f (take (last + 1) ys) ≡ sum_by f ys = ap (sum_by f) (all_taken ys (last + 1) (omega (arith, e, length-set all aside x))) in
    omega (arith, more, whole, sum_by-set f all aside x none (omega (arith, e, le)), at_last x ys (cases_eq last aside))
  where
    all_taken : {B : Type 0} (zs : List B) (n : ℕ) → length zs ≡ n → take n zs ≡ zs
    all_taken [] zero h = refl
    all_taken [] (suc n) h = refl
    all_taken (z ∷ zs) zero h = absurd (omega (arith, h))
    all_taken (z ∷ zs) (suc n) h = ap (λ w. z ∷ w) (all_taken zs n (omega (arith, h)))

    at_last : (x : A) (ys : List A) → (last ≡ aside) ⊎ (last ≡ aside → ⊥) → f (get_or (set all aside (get_or all last none)) last none) ≡ f (get_or all last none)
    at_last x ys (inl is) = ap f (ap (λ i. get_or (set all aside (get_or all last none)) i none) is ∙ get_or-set_same all aside (get_or all last none) none (omega (arith, e, le)))
    at_last x ys (inr other) = ap f (get_or-set_other all aside last (get_or all last none) none other)

-- With

pub with_length : {A : Type 0} (aside : ℕ) (own : A) (some : List A) → length (with_aside aside own some) ≡ length some + 1
with_length aside own some =
    length-set (some ++ get_or some aside own ∷ []) aside own ∙ length_push some (get_or some aside own)

pub with_at_aside : {A : Type 0} (aside : ℕ) (own none : A) (some : List A) → aside ≤ length some → get_or (with_aside aside own some) aside none ≡ own
with_at_aside aside own none some le =
    get_or-set_same (some ++ get_or some aside own ∷ []) aside own none (omega (arith, le, length_push some (get_or some aside own)))

-- the part's block has what the die's has
pub with_at : {A : Type 0} (aside : ℕ) (own : A) (some : List A) (b : ℕ) → b ≢ aside
    → get_or (with_aside aside own some) b own ≡ get_or some (on_die (length some) aside b) own
with_at aside own some b other = by_case (cases_eq b (length some)) (cases_lt b (length some))
  where
    pushed : get_or (with_aside aside own some) b own ≡ get_or (some ++ get_or some aside own ∷ []) b own
    pushed = get_or-set_other (some ++ get_or some aside own ∷ []) aside b own own other

    by_case : (b ≡ length some) ⊎ (b ≡ length some → ⊥) → (b < length some) ⊎ (length some ≤ b)
        → get_or (with_aside aside own some) b own ≡ get_or some (on_die (length some) aside b) own
    by_case (inl is) any =
        let first : b - length some ≡ 0 = omega (arith, is) in
        pushed ∙ (get_or-append_right some (get_or some aside own ∷ []) (length some) b own refl (omega (arith, is))
        ∙ (ap (λ i. get_or (get_or some aside own ∷ []) i own) first ∙ sym (ap (λ i. get_or some i own) (die_last (length some) aside b is))))
    by_case (inr away) (inl lt) =
        pushed ∙ (get_or_append_left some (get_or some aside own ∷ []) own b lt ∙ sym (ap (λ i. get_or some i own) (die_other (length some) aside b away)))
    by_case (inr away) (inr le) =
        pushed ∙ (get_or_past (some ++ get_or some aside own ∷ []) b own (omega (arith, length_push some (get_or some aside own), le, away))
        ∙ sym (ap (λ i. get_or some i own) (die_other (length some) aside b away) ∙ get_or_past some b own le))
