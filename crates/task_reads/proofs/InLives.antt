-- Two dies that begin their lives themselves, and one task that sees the same in both.
use Rattle.std.proofs.Common.{◌≡◌, ℕ, List, [], ◌∷◌, length, map, drop, Option, Some, None, refl, ap, sym, subst, ◌∙◌}
use Rattle.demand_rules.specs.declared.terms.Terms.{Terms}
use Rattle.die_log.specs.Model.Log.{Log, Job, now}
use Rattle.die_log.specs.Model.Flash.{content}
use Rattle.die_log.specs.Model.Start.{Start}
use Rattle.die_log.specs.Model.Lives.{Lives, all_slots, start_after, HaveEnded, AreLives}
use Rattle.planned_log.specs.Asks.{asked_by}
use Rattle.ongoing_log.specs.PastLives.{PastLife, starts_after, counted}
use Rattle.ongoing_log.specs.Ongoing.{WaitingAsk, Ongoing, waiting_of, awaited_of, start_of, begun_after, AreLongEnough, IsOngoing}
use Rattle.ongoing_log.specs.Ahead.{AheadMove, ahead_answers_to, ahead_seen_by}
use Rattle.ongoing_log.proofs.WhatWaits.{none_waits}
use Rattle.ongoing_log.proofs.GoingOn.{begins_after, goes_on_ahead}
use Rattle.task_reads.specs.OwnPages.{IsOwnInBoth, ReadAlike}
use Rattle.task_reads.specs.Lives.{IsOwnInLives}
use Rattle.task_reads.specs.GoingOn.{BeginsAfter, gone_on, lives_since, GoOnAlike, InEachLife, AskAlikeInLives, HaveAlikeInLives, ForOwnPages}
use Rattle.task_reads.proofs.Alike.{read_alike, ended_alike}
use Rattle.task_reads.proofs.Calls.{unnumbered, keys}
use Rattle.task_reads.proofs.Running.{alike_by, come_in_order, none_ordered}
use Rattle.task_reads.proofs.Told.{Told, all_told, told_of, since_moves, run_told}
use Rattle.task_reads.proofs.Served.{logs_of, IsServed, AreServed, HaveGone, moves_gone, lives_are, are_lives, all_served}

-- One die

module _ (first : Start) (terms : Terms) (life : ℕ) (past : List PastLife) (b : BeginsAfter first terms life past) where
  abbrev began : Start
  began = starts_after first past

  abbrev new : Ongoing
  new = begun_after past (length began.plan.caps)

  goes_on : IsOngoing first terms life new
  goes_on = begins_after first terms life b.long past b.passed b.kept

  none_awaited : (task : ℕ) → awaited_of (waiting_of new task) ≡ None
  none_awaited task = by (waiting_of new task) refl
    where
      by : (v : Option WaitingAsk) → waiting_of new task ≡ v → awaited_of v ≡ None
      by None is = refl
      by (Some w) is = absurd (none_waits (length began.plan.caps) task w is)

  module _ (task : ℕ) (moves : List AheadMove) where
    abbrev end : Ongoing
    end = gone_on first terms life past moves

    abbrev since : List PastLife
    since = since_moves first terms life new moves []

    gone : HaveGone first terms life task past since end
    gone = moves_gone first terms life task past b.long moves [] new goes_on (record {
      earlier_is = refl;
      ended = tt;
      starts = refl;
      served = tt;
      ordered = none_ordered began terms task;
    })

    lives_is : lives_since past end ≡ end.log ∷ logs_of since
    lives_is = lives_are first terms life task past since end gone

    pub served : AreServed began terms task (lives_since past end)
    served = subst (AreServed began terms task) (sym lives_is)
        (all_served first terms life task past since end gone (goes_on_ahead first terms life b.long new goes_on moves).kept.opens)

    pub lives_told : map (keys task) (lives_since past end) ≡ keys task end.log ∷ map (λ (p : PastLife). keys task p.log) since
    lives_told = ap (λ (l : Lives). map (keys task) l) lives_is ∙ ap (λ (l : List (List Job)). keys task end.log ∷ l) (twice since)
      where
        twice : (ps : List PastLife) → map (keys task) (logs_of ps) ≡ map (λ (p : PastLife). keys task p.log) ps
        twice [] = refl
        twice (p ∷ ps) = ap (λ (l : List (List Job)). keys task p.log ∷ l) (twice ps)

  pub all_lives : (moves : List AheadMove) → AreLives began (lives_since past (gone_on first terms life past moves))
  all_lives moves = subst (AreLives began) (sym (lives_is 0 moves))
      (are_lives first terms life 0 past (since 0 moves) (end 0 moves) (gone 0 moves))

  pub present_starts : (moves : List AheadMove) → let d = gone_on first terms life past moves in
      start_after began (drop 1 (lives_since past d)) ≡ start_of first d
  present_starts moves = ap (λ (l : Lives). start_after began (drop 1 l)) (lives_is 0 moves) ∙ (gone 0 moves).starts

-- Two dies

-- what holds of each two lives in which a task's jobs are the same but for their numbers
in_each : (terms : Terms) (task : ℕ) (Holds : Lives → Log → Lives → Log → Type 0) (first other : Start)
    → ((earlier : Lives) (log : Log) (before : Lives) (twin : Log) → IsServed (start_after first earlier) terms task log
    → IsServed (start_after other before) terms task twin → keys task log ≡ keys task twin → Holds earlier log before twin)
    → (one two : Lives) → AreServed first terms task one → AreServed other terms task two → map (keys task) one ≡ map (keys task) two
    → InEachLife Holds one two
in_each terms task Holds first other holds [] [] s t same = tt
in_each terms task Holds first other holds [] (twin ∷ before) s t same = absurd cc
in_each terms task Holds first other holds (log ∷ earlier) [] s t same = absurd cc
in_each terms task Holds first other holds (log ∷ earlier) (twin ∷ before) s t same =
    (in_each terms task Holds first other holds earlier before s.0 t.0 (tail_is same), holds earlier log before twin s.1 t.1 (head_is same))
  where
    head_is : {x y : List Job} {xs ys : List (List Job)} → x ∷ xs ≡ y ∷ ys → x ≡ y
    head_is e = cc

    tail_is : {x y : List Job} {xs ys : List (List Job)} → x ∷ xs ≡ y ∷ ys → xs ≡ ys
    tail_is e = cc

-- the same stands on a page that is the task's own in all lives
module _ (task page : ℕ) (first other : Start) (same : content first [] page ≡ content other [] page) where
  stands_alike : (one two : Lives) → HaveEnded first one → HaveEnded other two → AskAlikeInLives task first one other two
      → IsOwnInLives task page one → IsOwnInLives task page two → content (start_after first one) [] page ≡ content (start_after other two) [] page
  stands_alike [] [] e f asked own_one own_two = same
  stands_alike [] (twin ∷ before) e f asked own_one own_two = absurd asked
  stands_alike (log ∷ earlier) [] e f asked own_one own_two = absurd asked
  stands_alike (log ∷ earlier) (twin ∷ before) e f asked own_one own_two =
      ended_alike task (start_after first earlier) log (start_after other before) twin asked.1 page (record {
        own_one = own_one.1;
        own_two = own_two.1;
        same = stands_alike earlier before e.0 f.0 asked.0 own_one.0 own_two.0;
      }) e.2 f.2

own_alike : (task : ℕ) (first other : Start) (one two : Lives) → AreLives first one → AreLives other two → AskAlikeInLives task first one other two
    → ForOwnPages (IsOwnInBoth task) task first one other two
own_alike task first other [] [] e f asked = tt
own_alike task first other [] (twin ∷ before) e f asked = absurd asked
own_alike task first other (log ∷ earlier) [] e f asked = absurd asked
own_alike task first other (log ∷ earlier) (twin ∷ before) e f asked = (
  own_alike task first other earlier before (are_before first earlier e.0) (are_before other before f.0) asked.0,
  λ page same own_one own_two. record {
    own_one = own_one.1;
    own_two = own_two.1;
    same = stands_alike task page first other same earlier before e.0 f.0 asked.0 own_one.0 own_two.0;
  },
)
  where
    are_before : (start : Start) (lives : Lives) → HaveEnded start lives → AreLives start lives
    are_before start [] h = tt
    are_before start (l ∷ ls) h = (h.0, h.1)

-- so its reads give the same bytes
abbrev reads_of : ℕ → ℕ → Start → Log → Start → Log → Type 0
reads_of task page start log other twin = ReadAlike task page log twin

reads_alike : (task : ℕ) (first other : Start) (one two : Lives) → AskAlikeInLives task first one other two
    → ForOwnPages (IsOwnInBoth task) task first one other two → ForOwnPages (reads_of task) task first one other two
reads_alike task first other [] [] asked own = tt
reads_alike task first other [] (twin ∷ before) asked own = absurd asked
reads_alike task first other (log ∷ earlier) [] asked own = absurd asked
reads_alike task first other (log ∷ earlier) (twin ∷ before) asked own = (
  reads_alike task first other earlier before asked.0 own.0,
  λ page same own_one own_two k i j kth_one kth_two.
      read_alike task (start_after first earlier) log (start_after other before) twin asked.1 k i j kth_one kth_two page (own.1 page same own_one own_two),
)

-- what a task is answered tells from what it sees
abbrev pub Isolates : Type 0
Isolates = (first other : Start) (terms : Terms) (life task : ℕ) → AreLongEnough terms life → first.plan ≡ other.plan → (one two : Ongoing)
    → IsOngoing first terms life one → IsOngoing other terms life two → all_slots (counted one.earlier) ≡ all_slots (counted two.earlier)
    → now one.log ≡ now two.log → asked_by task (one.log ∷ counted one.earlier) ≡ asked_by task (two.log ∷ counted two.earlier)
    → awaited_of (waiting_of one task) ≡ awaited_of (waiting_of two task) → (moves others : List AheadMove)
    → ahead_seen_by task moves ≡ ahead_seen_by task others
    → ahead_answers_to first terms life task one moves ≡ ahead_answers_to other terms life task two others

module _ (law : Isolates) (task life : ℕ) (terms : Terms) (first : Start) (past : List PastLife) (moves : List AheadMove) (other : Start)
    (before : List PastLife) (others : List AheadMove) (h : GoOnAlike task life terms first past moves other before others) where
  abbrev one : Ongoing
  one = new first terms life past h.begins_one

  abbrev two : Ongoing
  two = new other terms life before h.begins_two

  none_both : awaited_of (waiting_of one task) ≡ awaited_of (waiting_of two task)
  none_both = none_awaited first terms life past h.begins_one task ∙ sym (none_awaited other terms life before h.begins_two task)

  answered : ahead_answers_to first terms life task one moves ≡ ahead_answers_to other terms life task two others
  answered = law first other terms life task h.begins_one.long h.plan one two (goes_on first terms life past h.begins_one)
      (goes_on other terms life before h.begins_two) h.clock refl h.asked none_both moves others h.seen

  told_alike : told_of first terms life task h.begins_one.long (since first terms life past h.begins_one task moves) (gone_on first terms life past moves)
      ≡ told_of other terms life task h.begins_two.long (since other terms life before h.begins_two task others) (gone_on other terms life before others)
  told_alike =
      run_told first terms life task h.begins_one.long moves [] one (goes_on first terms life past h.begins_one)
      ∙ ((λ i. all_told terms life task (record { first = h.clock i; slot = 0; awaits = none_both i; own = []; before = [] }) (h.seen i) (answered i))
      ∙ sym (run_told other terms life task h.begins_two.long others [] two (goes_on other terms life before h.begins_two)))

  keys_alike : map (keys task) (lives_since past (gone_on first terms life past moves)) ≡ map (keys task) (lives_since before (gone_on other terms life before others))
  keys_alike = lives_told first terms life past h.begins_one task moves
      ∙ (ap (λ (s : Told). s.own ∷ s.before) told_alike ∙ sym (lives_told other terms life before h.begins_two task others))

  abbrev ones : Lives
  ones = lives_since past (gone_on first terms life past moves)

  abbrev twos : Lives
  twos = lives_since before (gone_on other terms life before others)

  each : (Holds : Lives → Log → Lives → Log → Type 0)
      → ((earlier : Lives) (log : Log) (lives : Lives) (twin : Log) → IsServed (start_after (starts_after first past) earlier) terms task log
      → IsServed (start_after (starts_after other before) lives) terms task twin → keys task log ≡ keys task twin → Holds earlier log lives twin)
      → InEachLife Holds ones twos
  each Holds holds = in_each terms task Holds (starts_after first past) (starts_after other before) holds ones twos
      (served first terms life past h.begins_one task moves) (served other terms life before h.begins_two task others) keys_alike

  pub asked_in_lives : AskAlikeInLives task (starts_after first past) ones (starts_after other before) twos
  asked_in_lives = each _ (λ earlier log lives twin s t same. record {
    opens_one = s.opens;
    opens_two = t.opens;
    exact_one = s.ordered.exact;
    exact_two = t.ordered.exact;
    order_one = come_in_order _ terms task log s.ordered;
    order_two = come_in_order _ terms task twin t.ordered;
    same = alike_by task log twin same (λ (j : Job). j.ops) (λ j. refl);
  })

  pub alike_in_lives : {X : Type 0} (of : Job → X) → ((j : Job) → of (unnumbered j) ≡ of j)
      → HaveAlikeInLives of task (starts_after first past) ones (starts_after other before) twos
  alike_in_lives of e = each _ (λ earlier log lives twin s t same. alike_by task log twin same of e)

  pub own_in_lives : ForOwnPages (IsOwnInBoth task) task (starts_after first past) ones (starts_after other before) twos
  own_in_lives = own_alike task (starts_after first past) (starts_after other before) ones twos
      (all_lives first terms life past h.begins_one moves) (all_lives other terms life before h.begins_two others) asked_in_lives

  pub read_in_lives : ForOwnPages (reads_of task) task (starts_after first past) ones (starts_after other before) twos
  read_in_lives = reads_alike task (starts_after first past) (starts_after other before) ones twos asked_in_lives own_in_lives
