-- A slot's choice, made step by step: while the head is waived, the choice goes on among the rest.
use Rattle.std.proofs.Common.{◌≡◌, ℕ, zero, suc, ◌<◌, ◌≤◌, ◌==◌, ◌||◌, ◌&&◌, not, Bool, true, false, cond, List, [], ◌∷◌, ◌++◌, Option}
use Rattle.std.proofs.Common.{Some, None, refl, ap, sym, ◌∙◌, subst, length, filter, arith, append_assoc}
use Rattle.slot_types.specs.declared.plans.DiePlan.{DiePlan}
use Rattle.slot_types.specs.declared.replies.Waived.{Waived}
use Rattle.plan_rules.specs.Accounts.{Accounts, given_of}
use Rattle.plan_rules.specs.Accounts as moves
use Rattle.die_log.specs.Model.Log.{Log, Job}
use Rattle.die_log.specs.Model.Work.{ready, least}
use Rattle.die_log.specs.Model.Accounts.{accounts}
use Rattle.die_log.specs.Model.Answers.{Choice, choice, choice_among, choice_by_head, head_or_waiver, without, with_waiver, is_waivable}
use Rattle.die_log.specs.Results.Legal.{is_among}
use Rattle.slot_core.specs.WithinSlot.{without_waived, choice_after, ChoiceGoesOn}
use Rattle.die_log.proofs.Choices.{OfSome}
use Rattle.die_log.proofs.Heads.{least_less}
use Rattle.die_log.specs.Model.Start.{Start}

abbrev pub waiver_of : Accounts → Job → Waived
waiver_of a j = record { number = j.number; given = given_of a j.task }

filter_all : {X : Type 0} (xs : List X) → filter (λ (x : X). true) xs ≡ xs
filter_all [] = refl
filter_all (x ∷ xs) = ap (λ ys. x ∷ ys) (filter_all xs)

pub starts : (start : Start) (past : Log) → ChoiceGoesOn start past [] (accounts start past)
starts start past = record {
  rounds = length (ready start.plan past);
  enough = rw (filter_all (ready start.plan past)) (omega arith);
  rest = rw (filter_all (ready start.plan past)) refl;
}

among_more : (n : ℕ) (ws : List Waived) (w : Waived) → is_among n (ws ++ w ∷ []) ≡ (is_among n ws || (w.number == n))
among_more n [] w = or_false (w.number == n)
  where
    or_false : (b : Bool) → (b || false) ≡ b
    or_false true = refl
    or_false false = refl
among_more n (x ∷ ws) w = or_assoc (x.number == n) (is_among n ws) (w.number == n) (is_among n (ws ++ w ∷ [])) (among_more n ws w)
  where
    or_assoc : (a b c d : Bool) → d ≡ (b || c) → (a || d) ≡ ((a || b) || c)
    or_assoc true b c d e = refl
    or_assoc false b c d e = e

filter_same : {X : Type 0} (p q : X → Bool) → ((x : X) → p x ≡ q x) → (xs : List X) → filter p xs ≡ filter q xs
filter_same p q e [] = refl
filter_same p q e (x ∷ xs) = rw (e x) (ap (λ ys. cond (q x) (x ∷ ys) ys) (filter_same p q e xs))

pub filter_twice : {X : Type 0} (p q : X → Bool) (xs : List X) → filter q (filter p xs) ≡ filter (λ x. p x && q x) xs
filter_twice p q [] = refl
filter_twice p q (x ∷ xs) = by_case (p x) (filter_twice p q xs)
  where
    by_case : (a : Bool) → filter q (filter p xs) ≡ filter (λ y. p y && q y) xs
        → filter q (cond a (x ∷ filter p xs) (filter p xs))
        ≡ cond (a && q x) (x ∷ filter (λ y. p y && q y) xs) (filter (λ y. p y && q y) xs)
    by_case true again = ap (λ ys. cond (q x) (x ∷ ys) ys) again
    by_case false again = again

not_or : (a b : Bool) → (not a && not b) ≡ not (a || b)
not_or true b = refl
not_or false b = refl

same_turned : (m n : ℕ) → (m == n) ≡ (n == m)
same_turned m n = grind (arith)

-- to waive one more is to leave it out
pub unwaived_more : (ws : List Waived) (w : Waived) (j : Job) (waiting : List Job) → w.number ≡ j.number → without_waived (ws ++ w ∷ []) waiting
    ≡ without j (without_waived ws waiting)
unwaived_more ws w j waiting e =
    sym (filter_twice (λ i. not (is_among i.number ws)) (λ i. not (i.number == j.number)) waiting
    ∙ filter_same (λ i. not (is_among i.number ws) && not (i.number == j.number)) (λ i. not (is_among i.number (ws ++ w ∷ []))) same
    waiting)
  where
    same : (i : Job) → (not (is_among i.number ws) && not (i.number == j.number)) ≡ not (is_among i.number (ws ++ w ∷ []))
    same i =
        not_or (is_among i.number ws) (i.number == j.number)
        ∙ ap not (ap (λ b. is_among i.number ws || b) (same_turned i.number j.number ∙ ap (λ n. n == i.number) (sym e))
        ∙ sym (among_more i.number ws w))

none_of_nil : (rounds : ℕ) (xs : List Job) (j : Job) → least xs ≡ Some j → length xs ≤ rounds → 0 < rounds
none_of_nil rounds [] j e h = absurd cc
none_of_nil rounds (x ∷ xs) j e h = omega arith

joined : (ws : List Waived) (w : Waived) (c : Choice) → choice_after ws (with_waiver w c) ≡ choice_after (ws ++ w ∷ []) c
joined ws w c = ap (λ (ys : List Waived). choice_after [] (record { waived = ys; head = c.head })) (sym (append_assoc ws (w ∷ []) c.waived))

append_none : {X : Type 0} (xs : List X) → xs ++ [] ≡ xs
append_none [] = refl
append_none (x ∷ xs) = ap (λ ys. x ∷ ys) (append_none xs)

only : (ws : List Waived) (o : Option Job) → choice_after ws (record { waived = []; head = o }) ≡ record { waived = ws; head = o }
only ws o = ap (λ (ys : List Waived). choice_after [] (record { waived = ys; head = o })) (append_none ws)

-- the head is waived, and the choice goes on
pub waives : (start : Start) (past : Log) (ws : List Waived) (a : Accounts) (j : Job) → ChoiceGoesOn start past ws a
    → least (without_waived ws (ready start.plan past)) ≡ Some j → is_waivable start.plan past a j ≡ true
    → ChoiceGoesOn start past (ws ++ waiver_of a j ∷ []) (moves.accounts_after_waiver a j.task)
waives start past ws a j g e yes_is = by_rounds g.rounds refl
  where
    xs : List Job
    xs = without_waived ws (ready start.plan past)

    less : OfSome (λ i. length (without i xs) < length xs) (Some j)
    less = subst (OfSome (λ i. length (without i xs) < length xs)) e (least_less xs)

    by_rounds : (n : ℕ) → g.rounds ≡ n → ChoiceGoesOn start past (ws ++ waiver_of a j ∷ []) (moves.accounts_after_waiver a j.task)
    by_rounds zero is = absurd (omega (arith, none_of_nil g.rounds xs j e g.enough))
    by_rounds (suc n) is = record {
      rounds = n;
      enough = rw (unwaived_more ws (waiver_of a j) j (ready start.plan past) refl) (omega (arith, less, g.enough));
      rest = g.rest ∙ (ap (λ t. choice_after ws (choice_among start.plan past t a xs)) is
          ∙ (ap (λ o. choice_after ws (choice_by_head start.plan past a xs (choice_among start.plan past n) o)) e
          ∙ (ap (λ b. choice_after ws (head_or_waiver a xs (choice_among start.plan past n) j b)) yes_is ∙ moved n)));
    }
      where
        moved : (n : ℕ) → choice_after ws (with_waiver (waiver_of a j) (choice_among start.plan past n (moves.accounts_after_waiver a j.task) (without j xs)))
            ≡ choice_after (ws ++ waiver_of a j ∷ []) (choice_among start.plan past n (moves.accounts_after_waiver a j.task)
            (without_waived (ws ++ waiver_of a j ∷ []) (ready start.plan past)))
        moved n = rw (unwaived_more ws (waiver_of a j) j (ready start.plan past) refl)
            (joined ws (waiver_of a j) (choice_among start.plan past n (moves.accounts_after_waiver a j.task) (without j xs)))

-- the head is not waived: it has the slot
pub begins : (start : Start) (past : Log) (ws : List Waived) (a : Accounts) (j : Job) → ChoiceGoesOn start past ws a
    → least (without_waived ws (ready start.plan past)) ≡ Some j → is_waivable start.plan past a j ≡ false
    → choice start past ≡ record { waived = ws; head = Some j }
begins start past ws a j g e no_is = by_rounds g.rounds refl
  where
    xs : List Job
    xs = without_waived ws (ready start.plan past)

    by_rounds : (n : ℕ) → g.rounds ≡ n → choice start past ≡ record { waived = ws; head = Some j }
    by_rounds zero is = absurd (omega (arith, none_of_nil g.rounds xs j e g.enough))
    by_rounds (suc n) is =
        g.rest ∙ (ap (λ t. choice_after ws (choice_among start.plan past t a xs)) is
        ∙ (ap (λ o. choice_after ws (choice_by_head start.plan past a xs (choice_among start.plan past n) o)) e
        ∙ (ap (λ b. choice_after ws (head_or_waiver a xs (choice_among start.plan past n) j b)) no_is ∙ only ws (Some j))))

-- nobody is left
pub ends : (start : Start) (past : Log) (ws : List Waived) (a : Accounts) → ChoiceGoesOn start past ws a → least (without_waived ws (ready start.plan past))
    ≡ None → choice start past ≡ record { waived = ws; head = None }
ends start past ws a g e = by_rounds g.rounds refl
  where
    xs : List Job
    xs = without_waived ws (ready start.plan past)

    by_rounds : (n : ℕ) → g.rounds ≡ n → choice start past ≡ record { waived = ws; head = None }
    by_rounds zero is = g.rest ∙ (ap (λ t. choice_after ws (choice_among start.plan past t a xs)) is ∙ only ws None)
    by_rounds (suc n) is =
        g.rest ∙ (ap (λ t. choice_after ws (choice_among start.plan past t a xs)) is
        ∙ (ap (λ o. choice_after ws (choice_by_head start.plan past a xs (choice_among start.plan past n) o)) e ∙ only ws None))
