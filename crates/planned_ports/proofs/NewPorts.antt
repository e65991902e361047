-- One port more of a die that is opened.
use Rattle.std.proofs.Common.{◌≡◌, ℕ, suc, ◌+◌, List, [], ◌∷◌, ◌++◌, length, Option, refl, subst, arith}
use Rattle.std.proofs.lemmas.List.{length-append}
use Rattle.std.specs.List.{AllByRecursion}
use Rattle.atomic_table.specs.Seated.{TableId}
use Rattle.task_outcomes.specs.OutcomeDies.{OutcomeParts}
use Rattle.planned_ports.specs.declared.pages.PageRange.{PageRange}
use Rattle.planned_ports.specs.Ports.{TaskParts}
use Rattle.planned_ports.specs.Opening.{IsNewPort, AreNewFrom}

-- a list that has one more
pub one_longer : {X : Type 0} (xs longer : List X) (x : X) (n : ℕ) → longer ≡ xs ++ x ∷ [] → length xs ≡ n → length longer ≡ n + 1
one_longer xs longer x n is count = rw (is, length-append xs (x ∷ []), count) refl

module _ {N : Type 0} (lock : TableId) (opened : Option (OutcomeParts N)) (ranges : List (Option PageRange)) where
  pub one_port_more : (from : ℕ) (ports : List (TaskParts N)) (port : TaskParts N) → AreNewFrom lock opened ranges from ports
      → IsNewPort lock opened ranges (from + length ports) port → AreNewFrom lock opened ranges from (ports ++ port ∷ [])
  one_port_more from [] port all one = (subst (λ n. IsNewPort lock opened ranges n port) none one, tt)
    where
      none : from + 0 ≡ from
      none = omega arith
  one_port_more from (p ∷ ports) port all one =
      (all.0, one_port_more (from + 1) ports port all.1 (subst (λ n. IsNewPort lock opened ranges n port) (next (length ports)) one))
    where
      next : (n : ℕ) → from + suc n ≡ from + 1 + n
      next n = omega arith

  -- each is of the lock
  pub new_own : (from : ℕ) (ports : List (TaskParts N)) → AreNewFrom lock opened ranges from ports → AllByRecursion (λ (port : TaskParts N). port.lock ≡ lock) ports
  new_own from [] all = tt
  new_own from (port ∷ ports) all = (all.0.lock_is, new_own (from + 1) ports all.1)
