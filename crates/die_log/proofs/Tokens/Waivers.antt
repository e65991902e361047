-- What a slot waives, and whom it then chooses.
use Rattle.std.proofs.Common.{◌≡◌, ℕ, zero, suc, ◌==◌, ◌||◌, ◌&&◌, nat_le, not, Bool, true, false, cond, List, [], ◌∷◌, ◌++◌, Option, Some}
use Rattle.std.proofs.Common.{None, refl, ap, sym, subst, ◌∙◌, filter, append_assoc, append-nil, MatchOption}
use Rattle.std.specs.List.{AllByRecursion}
use Rattle.std.proofs.lemmas.Bool.{and_parts, leb-true, eqb-true, eqb-false, not-true, or_from, ne_eqb}
use Rattle.std.proofs.lemmas.List.Folds.{list_any-append}
use Rattle.slot_types.specs.declared.plans.DiePlan.{DiePlan}
use Rattle.slot_types.specs.declared.replies.Waived.{Waived}
use Rattle.die_log.specs.Model.Log.{Log, Job, job_at, jobs, now, is_waived, work, waived_collections}
use Rattle.die_log.specs.Model.Work.{is_ready, is_done, least, ready}
use Rattle.plan_rules.specs.Accounts.{Accounts, given_of}
use Rattle.plan_rules.specs.Accounts as moves
use Rattle.die_log.specs.Model.Accounts.{accounts, after_waiver, after_waivers}
use Rattle.die_log.specs.Model.Answers.{Choice, choice, head_or_waiver, choice_by_head, choice_among, is_waivable, without, with_waiver}
use Rattle.die_log.specs.Results.Legal.{is_among, IsWaiver, AreWaivers}
use Rattle.die_log.proofs.Choices.{OfSome, least_all}
use Rattle.die_log.specs.Model.Start.{Start}

-- it stands, is released, not done and not waived, nor among these waivers
pub record Waits (plan : DiePlan) (past : Log) (ws : List Waived) (j : Job) : Type 0 where
  pub known : job_at past j.number ≡ Some j
  pub ready : is_ready plan past j ≡ true
  pub new : is_among j.number ws ≡ false

-- a choice after these waivers: what it waives is waived by the rules, and its head waits and may not be waived with
-- the accounts that are then left
pub record IsChosen (plan : DiePlan) (past : Log) (earlier : List Waived) (a : Accounts) (c : Choice) : Type 0 where
  pub waivers : AreWaivers plan past earlier a c.waived
  pub head : MatchOption c.head (Unit {0}) (λ j. Waits plan past (earlier ++ c.waived) j)
  pub unwaivable : MatchOption c.head (Unit {0}) (λ j. is_waivable plan past (after_waivers past c.waived a) j ≡ false)

keep_one : {X : Type 0} (Q : X → Type 0) (t : X → Bool) (x : X) (xs : List X) (b : Bool) → t x ≡ b → (t x ≡ true → Q x)
    → AllByRecursion Q (filter t xs) → AllByRecursion Q (cond b (x ∷ filter t xs) (filter t xs))
keep_one Q t x xs true is q h = (q is, h)
keep_one Q t x xs false is q h = h

-- what a filter keeps has passed its test
pub all_passing : {X : Type 0} (P Q : X → Type 0) (t : X → Bool) (xs : List X) → ((x : X) → t x ≡ true → P x → Q x) → AllByRecursion P xs
    → AllByRecursion Q (filter t xs)
all_passing P Q t [] f h = tt
all_passing P Q t (x ∷ xs) f h = keep_one Q t x xs (t x) refl (λ is. f x is h.0) (all_passing P Q t xs f h.1)

abbrev waiver_of : Accounts → Job → Waived
waiver_of a j = record { number = j.number; given = given_of a j.task }

apart_from : (i j : Job) → not (i.number == j.number) ≡ true → (j.number == i.number) ≡ false
apart_from i j h = ne_eqb j.number i.number (λ e. eqb-false i.number j.number (not-true (i.number == j.number) h) (sym e))

not_among : (n : ℕ) (ws : List Waived) (w : Waived) → is_among n ws ≡ false → (w.number == n) ≡ false → is_among n (ws ++ w ∷ []) ≡ false
not_among n ws w h k = list_any-append (λ v. v.number == n) ws (w ∷ [])
    ∙ or_from (is_among n ws) ((w.number == n) || false) h (or_from (w.number == n) false k refl)

still_waits : (plan : DiePlan) (past : Log) (earlier : List Waived) (a : Accounts) (j i : Job) → not (i.number == j.number) ≡ true
    → Waits plan past earlier i → Waits plan past (earlier ++ waiver_of a j ∷ []) i
still_waits plan past earlier a j i apart h = record {
  known = h.known;
  ready = h.ready;
  new = not_among i.number earlier (waiver_of a j)
      h.new (apart_from i j apart);
}

is_waiver : (plan : DiePlan) (past : Log) (earlier : List Waived) (a : Accounts) (j : Job) → Waits plan past earlier j
    → is_waivable plan past a j ≡ true → IsWaiver plan past earlier a j (waiver_of a j)
is_waiver plan past earlier a j h is =
    let parts = and_parts (j.collects && (work j.number past == 0)) (nat_le plan.alpha a.spare) is in
    let first = and_parts j.collects (work j.number past == 0) parts.0 in
    let ready = and_parts (nat_le j.release (now past) && not (is_done plan past j)) (not (is_waived past j.number)) h.ready in
    let released = and_parts (nat_le j.release (now past)) (not (is_done plan past j)) ready.0 in
    record {
      known = h.known;
      collects = first.0;
      released = leb-true j.release (now past) released.0;
      unbegun = eqb-true (work j.number past) 0 first.1;
      once = h.new;
      spare = leb-true plan.alpha a.spare parts.1;
      gives = refl;
    }

waived_job : (plan : DiePlan) (past : Log) (a : Accounts) (j : Job) (o : Option Job) → o ≡ Some j → after_waiver o a ≡ moves.accounts_after_waiver a j.task
waived_job plan past a j o e = ap (λ p. after_waiver p a) e

-- one more waiver before a choice
with_one : (plan : DiePlan) (past : Log) (earlier : List Waived) (a : Accounts) (j : Job) (c : Choice) → Waits plan past earlier j
    → is_waivable plan past a j ≡ true
    → IsChosen plan past (earlier ++ waiver_of a j ∷ []) (moves.accounts_after_waiver a j.task) c
    → IsChosen plan past earlier a (with_waiver (waiver_of a j) c)
with_one plan past earlier a j c h is rest = record {
  waivers = (j, is_waiver plan past earlier a j h is, rest.waivers);
  head = subst (λ ws. MatchOption c.head (Unit {0}) (λ i. Waits plan past ws i)) (append_assoc earlier (waiver_of a j ∷ []) c.waived)
      rest.head;
  unwaivable = subst (λ b. MatchOption c.head (Unit {0}) (λ i. is_waivable plan past (after_waivers past c.waived b) i ≡ false))
      (sym (waived_job plan past a j (job_at past j.number) h.known)) rest.unwaivable;
}

by_test : (plan : DiePlan) (past : Log) (earlier : List Waived) (a : Accounts) (waiting : List Job) (again : Accounts → List Job → Choice)
    (j : Job) (b : Bool)
    → is_waivable plan past a j ≡ b → Waits plan past earlier j → AllByRecursion (Waits plan past earlier) waiting
    → ((before : List Waived) (a' : Accounts) (rest : List Job) → AllByRecursion (Waits plan past before) rest
    → IsChosen plan past before a' (again a' rest))
    → IsChosen plan past earlier a (head_or_waiver a waiting again j b)
by_test plan past earlier a waiting again j true is p h ih =
    with_one plan past earlier a j (again (moves.accounts_after_waiver a j.task) (without j waiting)) p is (
    ih (earlier ++ waiver_of a j ∷ []) (moves.accounts_after_waiver a j.task) (without j waiting) (
    all_passing (Waits plan past earlier) (Waits plan past (earlier ++ waiver_of a j ∷ [])) (λ i. not (i.number == j.number)) waiting
    (still_waits plan past earlier a j) h
    )
    )
by_test plan past earlier a waiting again j false is p h ih =
    record { waivers = tt; head = subst (λ ws. Waits plan past ws j) (sym (append-nil earlier)) p; unwaivable = is }

by_least : (plan : DiePlan) (past : Log) (earlier : List Waived) (a : Accounts) (waiting : List Job) (again : Accounts → List Job → Choice)
    (o : Option Job)
    → OfSome (Waits plan past earlier) o → AllByRecursion (Waits plan past earlier) waiting
    → ((before : List Waived) (a' : Accounts) (rest : List Job) → AllByRecursion (Waits plan past before) rest
    → IsChosen plan past before a' (again a' rest))
    → IsChosen plan past earlier a (choice_by_head plan past a waiting again o)
by_least plan past earlier a waiting again None p h ih = record { waivers = tt; head = tt; unwaivable = tt }
by_least plan past earlier a waiting again (Some j) p h ih = by_test plan past earlier a waiting again j (is_waivable plan past a j) refl p
    h ih

-- among those that wait, a choice waives by the rules, and its head waits and may not be waived
pub chosen_among : (plan : DiePlan) (past : Log) (rounds : ℕ) (earlier : List Waived) (a : Accounts) (waiting : List Job)
    → AllByRecursion (Waits plan past earlier) waiting → IsChosen plan past earlier a (choice_among plan past rounds a waiting)
chosen_among plan past zero earlier a waiting h = record { waivers = tt; head = tt; unwaivable = tt }
chosen_among plan past (suc rounds) earlier a waiting h =
    by_least plan past earlier a waiting (choice_among plan past rounds) (least waiting) (least_all (Waits plan past earlier) waiting h) h
    (chosen_among plan past rounds)

ready_waits : (plan : DiePlan) (past : Log) (j : Job) → is_ready plan past j ≡ true → job_at past j.number ≡ Some j
    → Waits plan past (waived_collections past) j
ready_waits plan past j ready known = record {
  known = known;
  ready = ready;
  new = not-true (is_waived past j.number) (and_parts (nat_le j.release (now past) && not (is_done plan past j))
      (not (is_waived past j.number)) ready).1;
}

-- a slot's choice
pub choice_is : (start : Start) (past : Log) → AllByRecursion (λ j. job_at past j.number ≡ Some j) (jobs past)
    → IsChosen start.plan past (waived_collections past) (accounts start past) (choice start past)
choice_is start past known =
    chosen_among start.plan past _ (waived_collections past) (accounts start past) (ready start.plan past) (
    all_passing (λ j. job_at past j.number ≡ Some j) (Waits start.plan past (waived_collections past)) (is_ready start.plan past) (jobs past)
    (ready_waits start.plan past) known
    )
