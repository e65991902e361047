-- The order of pairs tells any two apart, and is the order by which a heap of them compares.
use Rattle.std.proofs.Common.{◌≡◌, ℕ, Bool, true, false, arith}
use Rattle.std.proofs.lemmas.Bool.Decides.{nat_tests}
use Rattle.std.specs.Ordering.{is_lt}
use Rattle.due_queue.specs.Pairs.{is_pair_before}
use Rattle.due_queue.specs.Heaps.{reverse_cmp}
use Rattle.std.specs.declared.cmp.Reverse.{Reverse}

-- a strict order that tells any two apart
pub record IsStrict {K : Type 0} (is_before : K → K → Bool) : Type 0 where
  pub one_way : (x y : K) → is_before x y ≡ true → is_before y x ≡ false
  pub chain : (x y z : K) → is_before x y ≡ true → is_before y z ≡ true → is_before x z ≡ true
  pub apart : (x y : K) → is_before x y ≡ false → is_before y x ≡ false → x ≡ y

one_way : (a b c d : ℕ) → is_pair_before (a, b) (c, d) ≡ true → is_pair_before (c, d) (a, b) ≡ false
one_way a b c d h = grind (arith, nat_tests)

chain : (a b c d e f : ℕ) → is_pair_before (a, b) (c, d) ≡ true → is_pair_before (c, d) (e, f) ≡ true → is_pair_before (a, b) (e, f) ≡ true
chain a b c d e f h g = grind (arith, nat_tests)

same_first : (a b c d : ℕ) → is_pair_before (a, b) (c, d) ≡ false → is_pair_before (c, d) (a, b) ≡ false → a ≡ c
same_first a b c d h g = grind (arith, nat_tests)

same_second : (a b c d : ℕ) → is_pair_before (a, b) (c, d) ≡ false → is_pair_before (c, d) (a, b) ≡ false → b ≡ d
same_second a b c d h g = grind (arith, nat_tests)

pub pairs_strict : IsStrict is_pair_before
pairs_strict = record {
  one_way = λ x y h. one_way x.0 x.1 y.0 y.1 h;
  chain = λ x y z h g. chain x.0 x.1 y.0 y.1 z.0 z.1 h g;
  apart = λ x y h g. λ i. (same_first x.0 x.1 y.0 y.1 h g i, same_second x.0 x.1 y.0 y.1 h g i);
}

compares : (a b c d : ℕ) → is_lt (reverse_cmp (record { 0 = (a, b) }) (record { 0 = (c, d) })) ≡ is_pair_before (c, d) (a, b)
compares a b c d = grind (arith, nat_tests)

-- the heap puts below what is before
pub reverse_cmp-is_lt : (x y : Reverse (ℕ × ℕ)) → is_lt (reverse_cmp x y) ≡ is_pair_before y.0 x.0
reverse_cmp-is_lt x y = compares x.0.0 x.0.1 y.0.0 y.0.1
