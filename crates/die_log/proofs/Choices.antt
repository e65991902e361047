-- Whom a slot's choice names: those that wait.
use Rattle.std.proofs.Common.{◌≡◌, ℕ, zero, suc, Bool, true, false, cond, List, [], ◌∷◌, Option, Some, None, refl, fold, filter}
use Rattle.std.specs.List.{AllByRecursion}
use Rattle.slot_types.specs.declared.plans.DiePlan.{DiePlan}
use Rattle.slot_types.specs.declared.replies.Waived.{Waived}
use Rattle.die_log.specs.Model.Log.{Log, Job}
use Rattle.die_log.specs.Model.Work.{goes_first, least}
use Rattle.plan_rules.specs.Accounts.{Accounts}
use Rattle.die_log.specs.Model.Answers.{Choice, head_or_waiver, choice_by_head, choice_among, is_waivable, without}

-- what holds of all holds of those that pass a test
kept_if : {X : Type 0} (P : X → Type 0) (t : X → Bool) (x : X) (xs : List X) (b : Bool) → P x → AllByRecursion P (filter t xs)
    → AllByRecursion P (cond b (x ∷ filter t xs) (filter t xs))
kept_if P t x xs true p h = (p, h)
kept_if P t x xs false p h = h

pub all_kept : {X : Type 0} (P : X → Type 0) (t : X → Bool) (xs : List X) → AllByRecursion P xs → AllByRecursion P (filter t xs)
all_kept P t [] h = tt
all_kept P t (x ∷ xs) h = kept_if P t x xs (t x) h.0 (all_kept P t xs h.1)

-- the lesser of two
abbrev lesser : Job → Job → Job
lesser best j = cond (goes_first j best) j best

one_of : (P : Job → Type 0) (i j : Job) (b : Bool) → P i → P j → P (cond b j i)
one_of P i j true p q = q
one_of P i j false p q = p

fold_all : (P : Job → Type 0) (j : Job) (xs : List Job) → P j → AllByRecursion P xs → P (fold lesser j xs)
fold_all P j [] p h = p
fold_all P j (x ∷ xs) p h = fold_all P (lesser j x) xs (one_of P j x (goes_first x j) p h.0) h.1

-- P holds of it, if there is one
abbrev pub OfSome : {X : Type 0} → (X → Type 0) → Option X → Type 0
OfSome P None = Unit {0}
OfSome P (Some x) = P x

pub least_all : (P : Job → Type 0) (xs : List Job) → AllByRecursion P xs → OfSome P (least xs)
least_all P [] h = tt
least_all P (x ∷ xs) h = fold_all P x xs h.0 h.1

-- what was waived is a job of which P holds
abbrev pub OfWaived : (Job → Type 0) → Waived → Type 0
OfWaived P w = (j : Job) × P j × (w.number ≡ j.number)

pub record Names (P : Job → Type 0) (c : Choice) : Type 0 where
  pub waived : AllByRecursion (OfWaived P) c.waived
  pub head : OfSome P c.head

names_weighed : (P : Job → Type 0) (a : Accounts) (waiting : List Job) (again : Accounts → List Job → Choice) (j : Job) (b : Bool)
    → P j → AllByRecursion P waiting → ((a' : Accounts) (rest : List Job) → AllByRecursion P rest → Names P (again a' rest))
    → Names P (head_or_waiver a waiting again j b)
names_weighed P a waiting again j true p h ih =
    let rest = ih _ (without j waiting) (all_kept P _ waiting h) in record { waived = ((j, p, refl), rest.waived); head = rest.head }
names_weighed P a waiting again j false p h ih = record { waived = tt; head = p }

names_chosen : (P : Job → Type 0) (plan : DiePlan) (past : Log) (a : Accounts) (waiting : List Job) (again : Accounts → List Job → Choice)
    (o : Option Job)
    → OfSome P o → AllByRecursion P waiting → ((a' : Accounts) (rest : List Job) → AllByRecursion P rest → Names P (again a' rest))
    → Names P (choice_by_head plan past a waiting again o)
names_chosen P plan past a waiting again None p h ih = record { waived = tt; head = tt }
names_chosen P plan past a waiting again (Some j) p h ih = names_weighed P a waiting again j (is_waivable plan past a j) p h ih

-- a choice names those alone that it is made among
pub names_waiting : (P : Job → Type 0) (plan : DiePlan) (past : Log) (rounds : ℕ) (a : Accounts) (waiting : List Job)
    → AllByRecursion P waiting → Names P (choice_among plan past rounds a waiting)
names_waiting P plan past zero a waiting h = record { waived = tt; head = tt }
names_waiting P plan past (suc rounds) a waiting h =
    names_chosen P plan past a waiting (choice_among plan past rounds) (least waiting) (least_all P waiting h) h
    (names_waiting P plan past rounds)
