-- Dies of a run, none of which was refused.
use Rattle.std.proofs.Common.{◌≡◌, List, [], ◌∷◌, ap, map, refl, subst, Bool, true, false, None, Some, Result, Ok, Err}
use Rattle.std.specs.Prelude.{nat_le, if◌then◌else◌}
use Rattle.slot_types.specs.declared.refusals.Refusal.{Refusal}
use Rattle.task_script.specs.RanScripts.{die_or, dies_in, with_dies}
use Rattle.task_script.specs.declared.row_dies.RowDie.{RowDie}
use Rattle.task_script.specs.declared.row_runners.RowRunner.{RowRunner}
use Rattle.task_script.specs.RowTexts.{order_of}

refused_stays : {A B : Type 0} (e : Refusal) (dies : List (Result A Refusal)) → with_dies (Some e) dies ≡ None → B
refused_stays e [] none = absurd cc
refused_stays e (Ok x ∷ dies) none = refused_stays e dies none
refused_stays {A} {B} e (Err f ∷ dies) none =
    either_way (nat_le (order_of e) (order_of f)) (refused_stays e dies) (refused_stays f dies) none
  where
    either_way : (b : Bool) → (with_dies (Some e) dies ≡ None → B) → (with_dies (Some f) dies ≡ None → B)
        → with_dies (if b then Some e else Some f) dies ≡ None → B
    either_way true one other h = one h
    either_way false one other h = other h

-- the first wasn't
pub first_ran : {A B : Type 0} (die : Result A Refusal) (dies : List (Result A Refusal)) → with_dies None (die ∷ dies) ≡ None
    → ((x : A) → die ≡ Ok x → ⊥) → B
first_ran (Ok x) dies none not = absurd (not x refl)
first_ran (Err e) dies none not = refused_stays e dies none

-- nor was one of the others
pub others_ran : {A : Type 0} (die : Result A Refusal) (dies : List (Result A Refusal)) (x : A) → with_dies None (die ∷ dies) ≡ None
    → die ≡ Ok x → with_dies None dies ≡ None
others_ran {A} die dies x none is = subst (λ (d : Result A Refusal). with_dies None (d ∷ dies) ≡ None) is none

-- where none was, each has its die
pub none_refused : (runners : List RowRunner) → with_dies None (map (λ (r : RowRunner). r.die) runners) ≡ None
    → map (λ (r : RowRunner). r.die) runners ≡ map Ok (dies_in runners)
none_refused [] none = refl
none_refused (r ∷ runners) none = one r.die (map (λ (x : RowRunner). x.die) runners) (dies_in runners) none (none_refused runners)
  where
    one : (die : Result RowDie Refusal) (rest : List (Result RowDie Refusal)) (dies : List RowDie) → with_dies None (die ∷ rest) ≡ None
        → (with_dies None rest ≡ None → rest ≡ map Ok dies) → die ∷ rest ≡ map Ok (die_or die dies)
    one (Ok d) rest dies is again = ap (λ (xs : List (Result RowDie Refusal)). Ok d ∷ xs) (again is)
    one (Err e) rest dies is again = refused_stays e rest is
