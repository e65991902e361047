-- A log has at most as many finished erases as collections: each ends one.
use Rattle.std.proofs.Common.{◌≡◌, ℕ, zero, suc, ◌+◌, ◌*◌, ◌≤◌, ◌&&◌, Bool, true, false, cond, List, [], ◌∷◌, ◌++◌, length, Option, Some}
use Rattle.std.proofs.Common.{None, is_some, MatchOption, refl, ap, sym, ◌∙◌, inl, inr, arith, slice_get, count_by, sum_by}
use Rattle.std.specs.List.{AllByRecursion}
use Rattle.std.proofs.lemmas.Bool.{cases_eq}
use Rattle.std.proofs.lemmas.List.Sums.{sum_by-cons, sum_by_push}
use Rattle.std.proofs.lemmas.Option.{same_Some}
use Rattle.slot_types.specs.declared.limits.TheConstants.{MAX_JOBS}
use Rattle.slot_types.specs.declared.acts.Act.{Act}
use Rattle.slot_types.specs.declared.acts.Act.TheVariants as does
use Rattle.slot_types.specs.declared.events.Event.{Event}
use Rattle.slot_types.specs.declared.events.Event.TheVariants as events
use Rattle.slot_types.specs.declared.replies.Reply.{Reply}
use Rattle.slot_types.specs.declared.replies.Reply.TheVariants as replies
use Rattle.slot_types.specs.declared.replies.Waived.{Waived}
use Rattle.die_log.specs.Model.Log.{Log, Job, Carried, jobs, now, acts, waived_collections}
use Rattle.die_log.specs.Model.Start.{Start}
use Rattle.die_log.specs.Model.Work.{are_all, is_done, is_erase}
use Rattle.die_log.specs.Model.Flash.{block_at}
use Rattle.die_log.specs.Model.Answers.{IsExact, reply_if_accepted, refusals, choice, slot_reply, reply_with, act_for}
use Rattle.die_log.specs.Model.Opening.{IsOpening}
use Rattle.die_log.specs.Model.Lives.{Lives, start_after, AreLives, ends_erase, erases_block, erases_in, ends_some_erase, carries_erase}
use Rattle.die_log.specs.Model.Lives.{all_erases_in, collections_taken}
use Rattle.die_log.proofs.Legality.{entry, exact_induction}
use Rattle.die_log.proofs.Legal.Exact.{StandsWell, stands_well, well_served, chosen_is}
use Rattle.die_log.proofs.Limits.{keeps_limits}
use Rattle.die_log.proofs.LogInvariants.EveryLog.{waiting_undone}
use Rattle.die_log.proofs.LogInvariants.OneMoreEntry.{number_at}
use Rattle.die_log.proofs.Tokens.Changes.{one_less, Acts}
use Rattle.die_log.proofs.Tokens.Slots.{idle_acts, ran_acts}
use Rattle.die_log.proofs.Tokens.Sums.{one_if, le_at}
use Rattle.die_log.proofs.Tokens.Waivers.{Waits}
use Rattle.die_log.proofs.Life.Starting.{ended_live, ended_opens}
use Rattle.die_log.proofs.Life.Wearing.{is_collection, lives_wear}

-- a sum whose terms are no less, and one is more
more_at : {X : Type 0} (f g : X → ℕ) (xs : List X) (k : ℕ) (x : X) (d : ℕ) → slice_get xs k ≡ Some x → f x + d ≤ g x
    → ((i : ℕ) (y : X) → slice_get xs i ≡ Some y → f y ≤ g y) → sum_by f xs + d ≤ sum_by g xs
more_at f g [] k x d e here rest = absurd cc
more_at f g (z ∷ xs) zero x d e here rest =
    let same : z ≡ x = same_Some z x e in
    omega (
      arith,
      here,
      ap f same,
      ap g same,
      le_at f g xs (λ i y is. rest (suc i) y is),
      sum_by-cons f z xs,
      sum_by-cons g z xs,
    )
more_at f g (z ∷ xs) (suc k) x d e here rest =
    omega (
      arith,
      rest zero z refl,
      more_at f g xs k x d e here (λ i y is. rest (suc i) y is),
      sum_by-cons f z xs,
      sum_by-cons g z xs,
    )

-- Collections that are done

abbrev is_over : Start → Log → Job → Bool
is_over start log j = j.collects && is_done start.plan log j

abbrev over_in : Start → Log → ℕ
over_in start log = count_by (is_over start log) (jobs log)

-- a slot that carries nothing leaves what is done
abbrev idle_log : Log → ℕ → List Waived → Log
idle_log past caller ws = entry caller events.Slot (replies.Slot (record { slot = now past; waived = ws; ran = None; finished = None })) ∷ past

idle_over : (start : Start) (past : Log) (caller : ℕ) (ws : List Waived) → over_in start past ≤ over_in start (idle_log past caller ws)
idle_over start past caller ws =
    le_at (λ j. one_if (is_over start past j)) (λ j. one_if (is_over start (idle_log past caller ws) j)) (jobs past) (λ k j e.
    omega (arith, ap {B = ℕ} (λ (l : List Act). one_if (j.collects && are_all start.plan j l)) (idle_acts caller (now past) ws None past j.number)))

never : (b : Bool) → one_if (b && false) ≡ 0
never true = refl
never false = refl

-- an erase is of a collection, and the last slot of one ends it
ends_one : (start : Start) (past : Log) (j : Job) (act : Act) (t : Bool) → act_for start past j ≡ Some act
    → one_if (is_some (cond t (Some j.number) None) && is_erase act) ≤ one_if (j.collects && t)
ends_one start past j (does.Read page bytes) t e = omega (arith, never (is_some (cond t (Some j.number) None)))
ends_one start past j (does.Write page bytes) t e = omega (arith, never (is_some (cond t (Some j.number) None)))
ends_one start past j (does.Trim page) t e = omega (arith, never (is_some (cond t (Some j.number) None)))
ends_one start past j (does.CopyRead page) t e = omega (arith, never (is_some (cond t (Some j.number) None)))
ends_one start past j (does.CopyProgram page) t e = omega (arith, never (is_some (cond t (Some j.number) None)))
ends_one start past j (does.Erase block) t e =
    omega (arith, by_end t, ap {B = ℕ} (λ b. one_if (b && t)) (is_collection start past j block e))
  where
    by_end : (b : Bool) → one_if (is_some (cond b (Some j.number) None) && true) ≡ one_if (true && b)
    by_end true = refl
    by_end false = refl

undone : (b c : Bool) → c ≡ false → one_if (b && c) ≡ 0
undone b c e = ap {B = ℕ} (λ d. one_if (b && d)) e ∙ never b

module _ (start : Start) (past : Log) (caller : ℕ) (ws : List Waived) (j : Job) (act : Act) (h : StandsWell start past)
    (ws' : List Waived) (waits : Waits start.plan past ws' j) (e : act_for start past j ≡ Some act) where
  abbrev log : Log
  log = entry caller events.Slot (replies.Slot (reply_with start.plan past ws j (Some act))) ∷ past

  abbrev before : Job → ℕ
  before i = one_if (is_over start past i)

  abbrev after : Job → ℕ
  after i = one_if (is_over start log i)

  own_before : before j ≡ 0
  own_before = undone j.collects (is_done start.plan past j) (waiting_undone start.plan past j waits.ready)

  acted : Acts (λ n. acts n past) (λ n. acts n log) j.number act
  acted = ran_acts caller (now past) ws (reply_with start.plan past ws j (Some act)).finished past j.number act

  own_after : after j ≡ one_if (j.collects && are_all start.plan j (acts j.number past ++ act ∷ []))
  own_after = ap {B = ℕ} (λ (l : List Act). one_if (j.collects && are_all start.plan j l)) acted.more

  here : before j + one_if (ends_some_erase (replies.Slot (reply_with start.plan past ws j (Some act)))) ≤ after j
  here = omega (
    arith,
    own_before,
    own_after,
    ends_one start past j act (are_all start.plan j (acts j.number past ++ act ∷ [])) e,
  )

  each : (k : ℕ) (i : Job) → slice_get (jobs past) k ≡ Some i → before i ≤ after i
  each k i is = elim (cases_eq i.number j.number) [
    | inl same ↦
        let number : k ≡ i.number = omega (arith, number_at 0 (jobs past) k i h.0.numbered is) in
        let one : i ≡ j = same_Some i j (sym is ∙ (ap (λ n. slice_get (jobs past) n) (number ∙ same) ∙ waits.known)) in
        omega (arith, ap before one, own_before)
    | inr apart ↦ omega (
      arith,
      ap {B = ℕ} (λ (l : List Act). one_if (i.collects && are_all start.plan i l)) (acted.other i.number apart),
    )
  ]

  pub act_over : over_in start past + one_if (ends_some_erase (replies.Slot (reply_with start.plan past ws j (Some act)))) ≤ over_in start log
  act_over = more_at before after (jobs past) j.number j
      (one_if (ends_some_erase (replies.Slot (reply_with start.plan past ws j (Some act))))) waits.known here each

job_over : (start : Start) (past : Log) (caller : ℕ) (ws : List Waived) (j : Job) (o : Option Act) → StandsWell start past
    → (ws' : List Waived) → Waits start.plan past ws' j → act_for start past j ≡ o
    → over_in start past + one_if (ends_some_erase (replies.Slot (reply_with start.plan past ws j o)))
    ≤ over_in start (entry caller events.Slot (replies.Slot (reply_with start.plan past ws j o)) ∷ past)
job_over start past caller ws j None h ws' waits e = omega (arith, idle_over start past caller ws)
job_over start past caller ws j (Some act) h ws' waits e = act_over start past caller ws j act h ws' waits e

head_over : (start : Start) (past : Log) (caller : ℕ) (ws : List Waived) (o : Option Job) → StandsWell start past
    → (ws' : List Waived) → MatchOption o (Unit {0}) (λ j. Waits start.plan past ws' j)
    → over_in start past + one_if (ends_some_erase (replies.Slot (slot_reply start past ws o)))
    ≤ over_in start (entry caller events.Slot (replies.Slot (slot_reply start past ws o)) ∷ past)
head_over start past caller ws None h ws' waits = omega (arith, idle_over start past caller ws)
head_over start past caller ws (Some j) h ws' waits = job_over start past caller ws j (act_for start past j) h ws' waits refl

-- one more job leaves what is done
push_over : (start : Start) (past : Log) (j : Job) → over_in start past ≤ count_by (is_over start past) (jobs past ++ j ∷ [])
push_over start past j = omega (arith, sum_by_push (λ i. one_if (is_over start past i)) (jobs past) j)

-- A log

few_over : (start : Start) → IsOpening start → (log : Log) → IsExact start log → all_erases_in log ≤ over_in start log
few_over start bound = exact_induction start (λ log. all_erases_in log ≤ over_in start log) (omega arith) step
  where
    step : (past : Log) (caller : ℕ) (event : Event) → IsExact start past → all_erases_in past ≤ over_in start past
        → AllByRecursion (λ c. c.0 ≡ false) (refusals start past event)
        → all_erases_in (entry caller event (reply_if_accepted start past event) ∷ past)
        ≤ over_in start (entry caller event (reply_if_accepted start past event) ∷ past)
    step past caller (events.Submit task release due ops) exact ih none = omega (
      arith,
      ih,
      sum_by-cons (λ e. one_if (ends_some_erase e.reply)) (entry caller (events.Submit task release due ops)
          (reply_if_accepted start past (events.Submit task release due ops))) past,
      push_over start past (record {
        number = length (jobs past);
        collects = false;
        task = task;
        release = release;
        due = due;
        ops = ops;
      }),
    )
    step past caller (events.Collect task release due) exact ih none = omega (
      arith,
      ih,
      sum_by-cons (λ e. one_if (ends_some_erase e.reply)) (entry caller (events.Collect task release due)
          (reply_if_accepted start past (events.Collect task release due))) past,
      push_over start past (record {
        number = length (jobs past);
        collects = true;
        task = task;
        release = release;
        due = due;
        ops = [];
      }),
    )
    step past caller events.Slot exact ih none =
        let h = stands_well start bound past exact in
        let c = chosen_is start past (well_served start past bound h) in
        omega (
          arith,
          ih,
          head_over start past caller (choice start past).waived (choice start past).head h
              (waived_collections past ++ (choice start past).waived) c.head,
          sum_by-cons (λ e. one_if (ends_some_erase e.reply)) (entry caller events.Slot (reply_if_accepted start past events.Slot)) past,
        )

one_of_both : (b c : Bool) → one_if (b && c) ≤ one_if b
one_of_both true c = one_most c
  where
    one_most : (d : Bool) → one_if d ≤ 1
    one_most true = omega arith
    one_most false = omega arith
one_of_both false c = omega arith

pub few_erases : (start : Start) → IsOpening start → (log : Log) → IsExact start log → all_erases_in log ≤ collections_taken log
few_erases start bound log exact =
    omega (
      arith,
      few_over start bound log exact,
      le_at (λ j. one_if (is_over start log j)) (λ j. one_if j.collects) (jobs log)
          (λ k j e. one_of_both j.collects (is_done start.plan log j)),
    )

-- One block

of_some : (b : ℕ) (r : Reply) → one_if (ends_erase b r) ≤ one_if (ends_some_erase r)
of_some b (replies.Taken number) = omega arith
of_some b (replies.Refused refusal) = omega arith
of_some b (replies.Slot s) = one_less (is_some s.finished) (carries_erase s.ran) (erases_block b s.ran) (by_ran s.ran)
  where
    by_ran : (c : Carried) → erases_block b c ≡ true → carries_erase c ≡ true
    by_ran None e = e
    by_ran (Some (n, does.Read page bytes)) e = e
    by_ran (Some (n, does.Write page bytes)) e = e
    by_ran (Some (n, does.Trim page)) e = e
    by_ran (Some (n, does.CopyRead page)) e = e
    by_ran (Some (n, does.CopyProgram page)) e = e
    by_ran (Some (n, does.Erase block)) e = refl

of_all : (b : ℕ) (log : Log) → erases_in b log ≤ all_erases_in log
of_all b log = le_at (λ e. one_if (ends_erase b e.reply)) (λ e. one_if (ends_some_erase e.reply)) log (λ k e is. of_some b e.reply)

few_taken : (js : List Job) → count_by (λ j. j.collects) js ≤ length js
few_taken [] = omega arith
few_taken (j ∷ js) = omega (arith, sum_by-cons (λ i. one_if i.collects) j js, few_taken js, one_of_both true j.collects)

pub few_of_block : (start : Start) → IsOpening start → (log : Log) → IsExact start log → (b : ℕ) → erases_in b log ≤ MAX_JOBS
few_of_block start bound log exact b = omega (
  arith,
  of_all b log,
  few_erases start bound log exact,
  few_taken (jobs log),
  (keeps_limits start log exact).few_jobs,
)

-- All lives

sum_few : (b : ℕ) (first : Start) → IsOpening first → (lives : Lives) → AreLives first lives → sum_by (erases_in b) lives ≤ MAX_JOBS * length lives
sum_few b first opens [] h = omega arith
sum_few b first opens (log ∷ earlier) h = omega (
  arith,
  sum_by-cons (erases_in b) log earlier,
  few_of_block (start_after first earlier) (ended_opens first opens earlier h.0) log h.1 b,
  sum_few b first opens earlier (ended_live first earlier h.0),
)

pub lives_few : (first : Start) → IsOpening first → (lives : Lives) → AreLives first lives → (b : ℕ)
    → (block_at (start_after first lives).cells b).erases ≤ (block_at first.cells b).erases + MAX_JOBS * length lives
lives_few first opens lives h b = omega (arith, lives_wear first opens lives h b, sum_few b first opens lives h)
