-- The orders of keys tell any two keys apart.
use Rattle.std.proofs.Common.{◌≡◌, ◌≤◌, true, false, arith}
use Rattle.std.proofs.lemmas.Bool.Decides.{nat_tests}
use Rattle.due_queue.specs.declared.keys.Key.{Key}
use Rattle.due_queue.specs.declared.keys.WaitKey.{WaitKey}
use Rattle.due_queue.specs.Keys.{is_due_before, is_released_before}
use Rattle.due_queue.proofs.Orders.{IsStrict, pairs_strict}

pub due_strict : IsStrict is_due_before
due_strict = record {
  one_way = λ x y h. pairs_strict.one_way (x.due, x.number) (y.due, y.number) h;
  chain = λ x y z h g. pairs_strict.chain (x.due, x.number) (y.due, y.number) (z.due, z.number) h g;
  apart = λ x y h g. let e = pairs_strict.apart (x.due, x.number) (y.due, y.number) h g in λ i. record { due = (e i).0; number = (e i).1 };
}

pub release_strict : IsStrict is_released_before
release_strict = record {
  one_way = λ x y h. pairs_strict.one_way (x.release, x.number) (y.release, y.number) h;
  chain = λ x y z h g. pairs_strict.chain (x.release, x.number) (y.release, y.number) (z.release, z.number) h g;
  apart = λ x y h g. let e = pairs_strict.apart (x.release, x.number) (y.release, y.number) h g in λ i. record
      { release = (e i).0; number = (e i).1 };
}

-- no key is before itself
pub due_irreflexive : (x : Key) → is_due_before x x ≡ false
due_irreflexive x = grind (arith, nat_tests)

-- one that is released later isn't before
pub later_release : (x y : WaitKey) → is_released_before x y ≡ true → x.release ≤ y.release
later_release x y h = grind (arith, nat_tests)

-- of two keys with equal releases and numbers none is before
pub not_before_same : (x y : WaitKey) → x.release ≡ y.release → x.number ≡ y.number → is_released_before x y ≡ false
not_before_same x y e f = grind (arith, nat_tests)

pub not_due_before_same : (x y : Key) → x.due ≡ y.due → x.number ≡ y.number → is_due_before x y ≡ false
not_due_before_same x y e f = grind (arith, nat_tests)
