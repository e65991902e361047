-- Members of lists of keys.
use Rattle.std.proofs.Common.{◌≢◌, Bool, true, false, cond, refl, sym, List, [], ◌∷◌, Contains, inl, inr}
use Rattle.std.specs.List.{AllByRecursion}
use Rattle.std.proofs.lemmas.List.Elements.{All-from_recursion, All-contains}
use Rattle.due_queue.specs.Queue.{with_key}
use Rattle.job_table.specs.QueuedKeys.{IsAmong}

-- what holds of each holds of a member
pub at_member : {K : Type 0} (P : K → Type 0) (x : K) (ks : List K) → AllByRecursion P ks → IsAmong x ks → P x
at_member P x [] all here = absurd here
at_member P x (k ∷ ks) all (inl e) = rw (sym e) all.0
at_member P x (k ∷ ks) all (inr h) = at_member P x ks all.1 h

-- what holds of each by one fact holds by another that follows at each
pub both : {K : Type 0} (P Q R : K → Type 0) → ((k : K) → P k → Q k → R k) → (ks : List K) → AllByRecursion P ks → AllByRecursion Q ks
    → AllByRecursion R ks
both P Q R follows [] p q = tt
both P Q R follows (k ∷ ks) p q = (follows k p.0 q.0, both P Q R follows ks p.1 q.1)

pub inserted_member : {K : Type 0} (is_before : K → K → Bool) (x : K) (ks : List K) → IsAmong x (with_key is_before x ks)
inserted_member is_before x [] = inl refl
inserted_member is_before x (k ∷ ks) =
    elim (is_before x k) as (λ v. IsAmong x (cond v (x ∷ k ∷ ks) (k ∷ with_key is_before x ks)))
    [ true ↦ inl refl | false ↦ inr (inserted_member is_before x ks) ]

pub inserted_keeps : {K : Type 0} (is_before : K → K → Bool) (x y : K) (ks : List K) → IsAmong y ks → IsAmong y (with_key is_before x ks)
inserted_keeps is_before x y [] h = absurd h
inserted_keeps is_before x y (k ∷ ks) (inl e) =
    elim (is_before x k) as (λ v. IsAmong y (cond v (x ∷ k ∷ ks) (k ∷ with_key is_before x ks)))
    [ true ↦ inr (inl e) | false ↦ inl e ]
inserted_keeps is_before x y (k ∷ ks) (inr h) =
    elim (is_before x k) as (λ v. IsAmong y (cond v (x ∷ k ∷ ks) (k ∷ with_key is_before x ks)))
    [ true ↦ inr (inr h) | false ↦ inr (inserted_keeps is_before x y ks h) ]

-- a list doesn't contain what differs from each of its keys
pub not_contained : {K : Type 0} (x : K) (ks : List K) → AllByRecursion (λ k. k ≢ x) ks → Contains ks x → ⊥
not_contained x ks all found = All-contains (λ k. k ≢ x) ks x (All-from_recursion (λ k. k ≢ x) ks all) found refl
