use Rattle.std.proofs.Common.{◌≡◌, ℕ, ◌<◌, ◌≤◌, min, List, length, take, drop, ap, sym, ◌∙◌, inl, inr, arith, take_all, drop_of_length-le}
use Rattle.std.proofs.lemmas.Bool.{cases_lt}
use Rattle.slot_types.specs.declared.limits.TheConstants.{MAX_OPS}
use Rattle.slot_types.specs.declared.events.Op.{Op}
use Rattle.planned_die.proofs.burst_jobs.cut.Goals as goal

taken : (n : ℕ) (xs : List Op) → n ≡ min (length xs) MAX_OPS → take n xs ≡ take MAX_OPS xs
taken n xs is = elim (cases_lt (length xs) MAX_OPS) [
  | inl lt ↦ take_all n xs (omega (arith, is, lt)) ∙ sym (take_all MAX_OPS xs (omega (arith, lt)))
  | inr le ↦ let all : n ≡ MAX_OPS = omega (arith, is, le) in ap (λ k. take k xs) all
]

dropped : (n : ℕ) (xs : List Op) → n ≡ min (length xs) MAX_OPS → drop n xs ≡ drop MAX_OPS xs
dropped n xs is = elim (cases_lt (length xs) MAX_OPS) [
  | inl lt ↦ drop_of_length-le xs {i = n} (omega (arith, is, lt)) ∙ sym (drop_of_length-le xs {i = MAX_OPS} (omega (arith, lt)))
  | inr le ↦ let all : n ≡ MAX_OPS = omega (arith, is, le) in ap (λ k. drop k xs) all
]

pub returns-clause-job : goal.returns-clause-job
returns-clause-job c = c.split_at.ensures.front ∙ taken c.min.result c.args.ops.now (omega arith)

pub returns-clause-rest : goal.returns-clause-rest
returns-clause-rest c = c.split_at.ensures.back ∙ dropped c.min.result c.args.ops.now (omega arith)
