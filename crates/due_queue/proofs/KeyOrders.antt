-- The orders of keys tell any two apart, for the crates above: with these the lemmas on lists that insertion makes hold of both queues'
-- keys.
use Rattle.std.proofs.Common.{ap}
use Rattle.due_queue.specs.Keys.{is_due_before, key_of}
use Rattle.due_queue.proofs.Orders.{IsStrict, pairs_strict}

pub due_strict : IsStrict is_due_before
due_strict = record {
  one_way = λ k l h. pairs_strict.one_way (k.due, k.number) (l.due, l.number) h;
  chain = λ k l m h g. pairs_strict.chain (k.due, k.number) (l.due, l.number) (m.due, m.number) h g;
  apart = λ k l h g. ap key_of (pairs_strict.apart (k.due, k.number) (l.due, l.number) h g);
}
