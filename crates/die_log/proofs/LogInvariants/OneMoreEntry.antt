-- What one more entry does to jobs, acts and blocks; and who is the head of a slot.
use Rattle.std.proofs.Common.{◌≡◌, ◌≢◌, ℕ, zero, suc, ◌+◌, Bool, true, false, cond, List, [], ◌∷◌, ◌++◌, Option, Some, None, refl, ap, sym}
use Rattle.std.proofs.Common.{◌∙◌, arith, length, slice_get, fold, filter, append-nil}
use Rattle.std.specs.Prelude.{Contains}
use Rattle.std.specs.List.{filter_map, cons_option, AllByRecursion, reduce, list_any}
use Rattle.std.proofs.lemmas.List.Elements.{filter_map-append, All-contains_itself, recursion_from_All}
use Rattle.std.proofs.lemmas.List.Folds.{list_any_at}
use Rattle.std.proofs.lemmas.Option.{slice_get-get_or, slice_get_within, get_or_from_slice_get, same_Some, none-some}
use Rattle.std.proofs.lemmas.Bool.{ne_eqb, eq-eqb}
use Rattle.slot_types.specs.declared.plans.DiePlan.{DiePlan}
use Rattle.slot_types.specs.declared.acts.Act.{Act}
use Rattle.slot_types.specs.declared.replies.Reply.{Reply}
use Rattle.slot_types.specs.declared.replies.Reply.TheVariants as replies
use Rattle.slot_types.specs.declared.replies.Entry.{Entry}
use Rattle.die_log.specs.Model.Log.{Log, Job, Carried, jobs, carried_slots, act_of, acts, with_slot}
use Rattle.die_log.specs.Model.Flash.{ran_by}
use Rattle.die_log.specs.Model.Work.{is_ready, ready, victim_of, shown_by}
use Rattle.die_log.specs.Model.Accounts.{accounts}
use Rattle.die_log.specs.Model.Answers.{choice}
use Rattle.die_log.specs.Invariants.RunningCollections.{AreNumbered}
use Rattle.die_log.proofs.Choices.{OfSome, Names, names_waiting}
use Rattle.die_log.specs.Model.Start.{Start}

-- Numbers

pub numbered_push : (k : ℕ) (js : List Job) (j : Job) → AreNumbered k js → j.number ≡ k + length js → AreNumbered k (js ++ j ∷ [])
numbered_push k [] j h e = (omega arith, tt)
numbered_push k (i ∷ js) j h e = (h.0, numbered_push (k + 1) js j h.1 (omega arith))

pub number_at : (k : ℕ) (js : List Job) (i : ℕ) (j : Job) → AreNumbered k js → slice_get js i ≡ Some j → j.number ≡ k + i
number_at k [] i j h e = absurd (none-some j e)
number_at k (x ∷ js) zero j h e = let is : x ≡ j = same_Some x j e in omega (arith, h.0, ap (λ (y : Job). y.number) is)
number_at k (x ∷ js) (suc i) j h e = omega (arith, number_at (k + 1) js i j h.1 e)

get_contained : (js : List Job) (j : Job) (h : Contains js j) → slice_get js h.0 ≡ Some j
get_contained js j h = slice_get-get_or js h.0 j h.1 ∙ ap Some h.2

-- a job stands at its number
pub stands_at : (js : List Job) (j : Job) → AreNumbered 0 js → Contains js j → slice_get js j.number ≡ Some j
stands_at js j n h =
    let is : j.number ≡ h.0 = omega (arith, number_at 0 js h.0 j n (get_contained js j h)) in
    ap (slice_get js) is ∙ get_contained js j h

-- jobs of one number are one
pub same_job : (js : List Job) (i j : Job) → AreNumbered 0 js → Contains js i → Contains js j → i.number ≡ j.number → i ≡ j
same_job js i j n h k e = same_Some i j (sym (stands_at js i n h) ∙ (ap (slice_get js) e ∙ stands_at js j n k))

-- what stands at a place is contained
pub contained : (js : List Job) (k : ℕ) (i : Job) → slice_get js k ≡ Some i → Contains js i
contained js k i e = (k, slice_get_within js k i e, get_or_from_slice_get js k i i e)

-- A list with one more

pub at_end : {X : Type 0} (xs : List X) (x : X) → slice_get (xs ++ x ∷ []) (length xs) ≡ Some x
at_end [] x = refl
at_end (y ∷ xs) x = at_end xs x

pub elsewhere : {X : Type 0} (xs : List X) (x : X) (k : ℕ) → (k ≡ length xs → ⊥) → slice_get (xs ++ x ∷ []) k ≡ slice_get xs k
elsewhere [] x zero apart = absurd (apart refl)
elsewhere [] x (suc k) apart = refl
elsewhere (y ∷ xs) x zero apart = refl
elsewhere (y ∷ xs) x (suc k) apart = elsewhere xs x k (λ e. apart (omega (arith, e)))

-- Acts

acts_by : (n : ℕ) (r : Reply) (cs : List Carried) → filter_map (λ c. act_of n c) (with_slot r cs) ≡ filter_map (λ c. act_of n c) cs
    ++ cons_option (act_of n (ran_by r)) []
acts_by n (replies.Taken number) cs = sym (append-nil (filter_map (λ c. act_of n c) cs))
acts_by n (replies.Slot s) cs = filter_map-append (λ c. act_of n c) cs (s.ran ∷ [])
acts_by n (replies.Refused refusal) cs = sym (append-nil (filter_map (λ c. act_of n c) cs))

-- the acts of one number after one more entry
pub acts_more : (n : ℕ) (e : Entry) (past : Log) → acts n (e ∷ past) ≡ acts n past ++ cons_option (act_of n (ran_by e.reply)) []
acts_more n e past = acts_by n e.reply (carried_slots past)

pub act_other : (n m : ℕ) (act : Act) → n ≢ m → act_of m (Some (n, act)) ≡ None
act_other n m act other = rw (ne_eqb n m other) refl

pub act_own : (n : ℕ) (act : Act) → act_of n (Some (n, act)) ≡ Some act
act_own n act = rw (eq-eqb n n refl) refl

-- without an act of this number its acts stay
pub acts_stay : (n : ℕ) (e : Entry) (past : Log) → act_of n (ran_by e.reply) ≡ None → acts n (e ∷ past) ≡ acts n past
acts_stay n e past h = acts_more n e past ∙ (ap (λ (o : Option Act). acts n past ++ cons_option o []) h ∙ append-nil (acts n past))

pub acts_grow : (n : ℕ) (e : Entry) (past : Log) (act : Act) → act_of n (ran_by e.reply) ≡ Some act → acts n (e ∷ past) ≡ acts n past ++ act
    ∷ []
acts_grow n e past act h = acts_more n e past ∙ ap (λ (o : Option Act). acts n past ++ cons_option o []) h

-- Blocks shown

pub shown_none : (start : Start) (past : Log) (o : Option ℕ) → shown_by start past o None ≡ o
shown_none start past None = refl
shown_none start past (Some b) = refl

-- an act of another number shows nothing
pub shown_other : (start : Start) (past : Log) (o : Option ℕ) (act : Option Act) → act ≡ None → shown_by start past o act ≡ o
shown_other start past o act e = ap (shown_by start past o) e ∙ shown_none start past o

pub victim_stays : (start : Start) (n : ℕ) (e : Entry) (past : Log) → act_of n (ran_by e.reply) ≡ None → victim_of start n (e ∷ past)
    ≡ victim_of start n past
victim_stays start n e past h = ap (shown_by start past (victim_of start n past)) h ∙ shown_none start past (victim_of start n past)

nil_parts : (o : Option Act) (xs : List Act) → xs ++ cons_option o [] ≡ [] → (xs ≡ []) × (o ≡ None)
nil_parts None [] e = (refl, refl)
nil_parts None (x ∷ xs) e = absurd cc
nil_parts (Some a) [] e = absurd cc
nil_parts (Some a) (x ∷ xs) e = absurd cc

-- without acts no block is shown
pub no_victim : (start : Start) (n : ℕ) (log : Log) → acts n log ≡ [] → victim_of start n log ≡ None
no_victim start n [] h = refl
no_victim start n (e ∷ past) h =
    let parts = nil_parts (act_of n (ran_by e.reply)) (acts n past) (sym (acts_more n e past) ∙ h) in
    victim_stays start n e past parts.1 ∙ no_victim start n past parts.0

-- The head

kept_if : {X : Type 0} (P : X → Type 0) (t : X → Bool) (x : X) (xs : List X) (b : Bool) → t x ≡ b → P x
    → AllByRecursion (λ y. P y × (t y ≡ true)) (filter t xs)
    → AllByRecursion (λ y. P y × (t y ≡ true)) (cond b (x ∷ filter t xs) (filter t xs))
kept_if P t x xs true e p h = ((p, e), h)
kept_if P t x xs false e p h = h

-- what a filter keeps passes, too
pub kept_both : {X : Type 0} (P : X → Type 0) (t : X → Bool) (xs : List X) → AllByRecursion P xs
    → AllByRecursion (λ y. P y × (t y ≡ true)) (filter t xs)
kept_both P t [] h = tt
kept_both P t (x ∷ xs) h = kept_if P t x xs (t x) refl h.0 (kept_both P t xs h.1)

abbrev pub IsWaiting : DiePlan → Log → Job → Type 0
IsWaiting plan past j = Contains (jobs past) j × (is_ready plan past j ≡ true)

-- the head of a slot, and each that is waived, stands and is ready
pub waits : (start : Start) (past : Log) → Names (IsWaiting start.plan past) (choice start past)
waits start past =
    names_waiting (IsWaiting start.plan past) start.plan past (length (ready start.plan past)) (accounts start past) (ready start.plan past)
    (kept_both (Contains (jobs past)) (is_ready start.plan past) (jobs past)
    (recursion_from_All (Contains (jobs past)) (jobs past) (All-contains_itself (jobs past))))

-- The best of a list

one_of : {X : Type 0} (P : X → Type 0) (i j : X) (b : Bool) → P i → P j → P (cond b j i)
one_of P i j true p q = q
one_of P i j false p q = p

fold_all : {X : Type 0} (P : X → Type 0) (better : X → X → Bool) (j : X) (xs : List X) → P j → AllByRecursion P xs
    → P (fold (λ best x. cond (better x best) x best) j xs)
fold_all P better j [] p h = p
fold_all P better j (x ∷ xs) p h = fold_all P better (cond (better x j) x j) xs (one_of P j x (better x j) p h.0) h.1

pub best_all : {X : Type 0} (P : X → Type 0) (better : X → X → Bool) (xs : List X) → AllByRecursion P xs
    → OfSome P (reduce (λ best x. cond (better x best) x best) xs)
best_all P better [] h = tt
best_all P better (x ∷ xs) h = fold_all P better x xs h.0 h.1

-- what one that is contained passes, some pass
pub any_contained : {X : Type 0} (t : X → Bool) (xs : List X) (x : X) → Contains xs x → t x ≡ true → list_any t xs ≡ true
any_contained t xs x h e = list_any_at t xs h.0 x h.1 (ap t h.2 ∙ e)
