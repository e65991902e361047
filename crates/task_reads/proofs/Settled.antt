-- What a task's jobs have left on a page of its own: all operations of those before the one that is carried out, and of that
-- one the operations that it has had.
use Rattle.std.proofs.Common.{◌≡◌, ◌⊎◌, ℕ, zero, suc, ◌+◌, ◌<◌, ◌≤◌, ◌==◌, Bool, true, false, cond, List, [], ◌∷◌, ◌++◌, length, Option}
use Rattle.std.proofs.Common.{Some, None, refl, ap, sym, subst, ◌∙◌, inl, inr, arith, slice_get, take, drop, append_assoc, append-nil}
use Rattle.std.specs.Prelude.{Contains, IsFalse}
use Rattle.std.specs.List.{AllByRecursion, flat_map, list_any, last_or}
use Rattle.std.proofs.lemmas.Bool.{true≢false, cases_Bool, eqb-true}
use Rattle.std.proofs.lemmas.Grind.{flat_map-append}
use Rattle.std.proofs.lemmas.Option.{same_Some, none-some, slice_get_within, get_or_from_slice_get}
use Rattle.std.proofs.lemmas.List.{length_push}
use Rattle.std.proofs.lemmas.List.Elements.{Contains-append_left, Contains-append_right, All-contains, All-from_recursion}
use Rattle.slot_types.specs.Operations.{page_of}
use Rattle.slot_types.specs.declared.acts.Act.{Act}
use Rattle.slot_types.specs.declared.events.Op.{Op}
use Rattle.slot_types.specs.declared.events.Event.{Event}
use Rattle.slot_types.specs.declared.events.Event.TheVariants as events
use Rattle.slot_types.specs.declared.pages.PageData.{PageData}
use Rattle.die_log.specs.Model.Log.{Log, Job, Carried, jobs, act_of, acts, work}
use Rattle.die_log.specs.Model.Flash.{cells, contents, content, contents_after}
use Rattle.die_log.specs.Model.Start.{Start}
use Rattle.die_log.specs.Model.Work.{are_all, is_done}
use Rattle.die_log.specs.Model.Opening.{IsOpening}
use Rattle.die_log.specs.Model.Answers.{IsExact, act_of_op, collect_act, buffer_after, block_for, reply_if_accepted, refusals}
use Rattle.die_log.specs.Invariants.RunningCollections.{AreNumbered}
use Rattle.die_log.proofs.Collecting.{no_acts}
use Rattle.die_log.proofs.Legality.{entry, exact_induction}
use Rattle.die_log.proofs.Limits.{keeps_limits}
use Rattle.die_log.proofs.Renewal.{contents_len}
use Rattle.die_log.proofs.LogInvariants.EveryLog.{waiting_undone}
use Rattle.die_log.proofs.LogInvariants.OneMoreEntry.{stands_at, any_contained, act_own}
use Rattle.task_reads.specs.Asked.{is_job_of, changes, left_by, left_on}
use Rattle.task_reads.specs.OwnPages.{IsOwnPage}
use Rattle.task_reads.proofs.Lists.{flat_map_same, flat_map_none, split_at, take_next, take_whole}
use Rattle.task_reads.proofs.Turns.{Carries, own_act, carries, carried_of, carries_first, slot_entry, next_ran, slot_stays, slot_grows, done_rests}
use Rattle.task_reads.proofs.Turns.{InOrder, in_turn, numbered_of, job_kind, order_before}
use Rattle.task_reads.proofs.Doing.{DoesOp, does_next, collection_leaves, op_leaves, changes_nothing, page_in}

-- what operations leave, one after the other
pub left_append : (page : ℕ) (xs ys : List Op) (before : PageData) → left_on page (xs ++ ys) before ≡ left_on page ys (left_on page xs before)
left_append page [] ys before = refl
left_append page (x ∷ xs) ys before = left_append page xs ys (left_by page x before)

-- what stands before a place has smaller numbers, and what stands after it greater ones
numbers_below : (k : ℕ) (js : List Job) (m : ℕ) → AreNumbered k js → AllByRecursion (λ (i : Job). i.number < k + m) (take m js)
numbers_below k js zero h = tt
numbers_below k [] (suc m) h = tt
numbers_below k (j ∷ js) (suc m) h = (
  omega (arith, h.0),
  rest (take m js) (numbers_below (k + 1) js m h.1),
)
  where
    rest : (is : List Job) → AllByRecursion (λ (i : Job). i.number < (k + 1) + m) is → AllByRecursion (λ (i : Job). i.number < k + suc m) is
    rest [] g = tt
    rest (i ∷ is) g = (omega (arith, g.0), rest is g.1)

numbers_from : (k : ℕ) (js : List Job) → AreNumbered k js → AllByRecursion (λ (i : Job). k ≤ i.number) js
numbers_from k [] h = tt
numbers_from k (j ∷ js) h = (omega (arith, h.0), rest js (numbers_from (k + 1) js h.1))
  where
    rest : (is : List Job) → AllByRecursion (λ (i : Job). k + 1 ≤ i.number) is → AllByRecursion (λ (i : Job). k ≤ i.number) is
    rest [] g = tt
    rest (i ∷ is) g = (omega (arith, g.0), rest is g.1)

numbers_above : (k : ℕ) (js : List Job) (m : ℕ) → AreNumbered k js → AllByRecursion (λ (i : Job). k + m < i.number) (drop (suc m) js)
numbers_above k [] m h = tt
numbers_above k (j ∷ js) zero h = rest js (numbers_from (k + 1) js h.1)
  where
    rest : (is : List Job) → AllByRecursion (λ (i : Job). k + 1 ≤ i.number) is → AllByRecursion (λ (i : Job). k + 0 < i.number) is
    rest [] g = tt
    rest (i ∷ is) g = (omega (arith, g.0), rest is g.1)
numbers_above k (j ∷ js) (suc m) h = rest (drop (suc m) js) (numbers_above (k + 1) js m h.1)
  where
    rest : (is : List Job) → AllByRecursion (λ (i : Job). (k + 1) + m < i.number) is → AllByRecursion (λ (i : Job). k + suc m < i.number) is
    rest [] g = tt
    rest (i ∷ is) g = (omega (arith, g.0), rest is g.1)

-- the parts of all jobs, by number
by_number : (f g : Job → List Op) (js : List Job) (m : ℕ) (j : Job) → AreNumbered 0 js → slice_get js m ≡ Some j
    → ((i : Job) → Contains js i → i.number < m → f i ≡ g i) → ((i : Job) → Contains js i → m < i.number → f i ≡ [])
    → flat_map f js ≡ flat_map g (take m js) ++ f j
by_number f g js m j numbered at below above =
    ap (flat_map f) whole
    ∙ (flat_map-append f (take m js) (j ∷ drop (suc m) js)
    ∙ (ap (λ (l : List Op). l ++ (f j ++ flat_map f (drop (suc m) js))) before
    ∙ ap (λ (l : List Op). flat_map g (take m js) ++ l) (ap (λ (l : List Op). f j ++ l) after ∙ append-nil (f j))))
  where
    whole : js ≡ take m js ++ j ∷ drop (suc m) js
    whole = split_at js m j at

    in_all : (i : Job) → Contains (take m js ++ j ∷ drop (suc m) js) i → Contains js i
    in_all i = subst (λ (l : List Job). Contains l i) (sym whole)

    before : flat_map f (take m js) ≡ flat_map g (take m js)
    before = flat_map_same f g (take m js) (λ i is. below i (in_all i (Contains-append_left (take m js) (j ∷ drop (suc m) js) i is))
        (omega (
          arith,
          All-contains (λ (x : Job). x.number < 0 + m) (take m js) i
              (All-from_recursion (λ (x : Job). x.number < 0 + m) (take m js) (numbers_below 0 js m numbered)) is,
        )))

    after : flat_map f (drop (suc m) js) ≡ []
    after = flat_map_same f (λ i. []) (drop (suc m) js) (λ i is. above i
        (in_all i (Contains-append_right (take m js) (j ∷ drop (suc m) js) i (Contains-append_right (j ∷ []) (drop (suc m) js) i is)))
        (omega (
          arith,
          All-contains (λ (x : Job). 0 + m < x.number) (drop (suc m) js) i
              (All-from_recursion (λ (x : Job). 0 + m < x.number) (drop (suc m) js) (numbers_above 0 js m numbered)) is,
        ))) ∙ flat_map_none (drop (suc m) js)

-- the operations of a job of the task, and of these the ones that it has had
abbrev pub whole_part : ℕ → Job → List Op
whole_part task j = cond (is_job_of task j) j.ops []

abbrev pub done_part : ℕ → Log → Job → List Op
done_part task log j = cond (is_job_of task j) (take (work j.number log) j.ops) []

module _ (start : Start) (opens : IsOpening start) (task page : ℕ) where
  abbrev pub at_first : PageData
  at_first = content start [] page

  -- what the task asked for before the job of this number
  abbrev pub asked_before : Log → ℕ → List Op
  asked_before log number = flat_map (whole_part task) (take number (jobs log))

  part_own : (log : Log) (j : Job) → is_job_of task j ≡ true → done_part task log j ≡ take (work j.number log) j.ops
  part_own log j e = ap (λ (b : Bool). cond b (take (work j.number log) j.ops) []) e

  whole_own : (j : Job) → is_job_of task j ≡ true → whole_part task j ≡ j.ops
  whole_own j e = ap (λ (b : Bool). cond b j.ops []) e

  part_other : (log : Log) (j : Job) → is_job_of task j ≡ false → done_part task log j ≡ []
  part_other log j e = ap (λ (b : Bool). cond b (take (work j.number log) j.ops) []) e

  whole_other : (j : Job) → is_job_of task j ≡ false → whole_part task j ≡ []
  whole_other j e = ap (λ (b : Bool). cond b j.ops []) e

  -- a done job has had all of its operations
  pub part_done : (log : Log) (j : Job) → (is_job_of task j ≡ true → is_done start.plan log j ≡ true) → done_part task log j ≡ whole_part task j
  part_done log j done = elim (cases_Bool (is_job_of task j)) [
    | inl own ↦ part_own log j own ∙ (take_whole j.ops (work j.number log) (all_had own) ∙ sym (whole_own j own))
    | inr other ↦ part_other log j other ∙ sym (whole_other j other)
  ]
    where
      all_had : is_job_of task j ≡ true → work j.number log ≡ length j.ops
      all_had own = eqb-true (work j.number log) (length j.ops) (sym (by_kind (acts j.number log)) ∙ done own)
        where
          by_kind : (own : List Act) → are_all start.plan j own ≡ (length own == length j.ops)
          by_kind acts_of_it = rw (job_kind start opens task j own) refl

  part_none : (log : Log) (j : Job) → work j.number log ≡ 0 → done_part task log j ≡ []
  part_none log j e = elim (cases_Bool (is_job_of task j)) [
    | inl own ↦ part_own log j own ∙ ap (λ (n : ℕ). take n j.ops) e
    | inr other ↦ part_other log j other
  ]

  -- where those before a job of the task are done, and those after it aren't begun
  parts_at : (log : Log) → AreNumbered 0 (jobs log) → (j : Job) → Contains (jobs log) j → is_job_of task j ≡ true
      → ((i : Job) → Contains (jobs log) i → is_job_of task i ≡ true → i.number < j.number → is_done start.plan log i ≡ true)
      → ((i : Job) → Contains (jobs log) i → is_job_of task i ≡ true → j.number < i.number → work i.number log ≡ 0)
      → flat_map (done_part task log) (jobs log) ≡ asked_before log j.number ++ take (work j.number log) j.ops
  parts_at log numbered j stands own before after =
      by_number (done_part task log) (whole_part task) (jobs log) j.number j numbered (stands_at (jobs log) j numbered stands)
      (λ i is less. part_done log i (λ theirs. before i is theirs less))
      (λ i is more. none_of i is more)
      ∙ ap (λ (l : List Op). asked_before log j.number ++ l) (part_own log j own)
    where
      none_of : (i : Job) → Contains (jobs log) i → j.number < i.number → done_part task log i ≡ []
      none_of i is more = elim (cases_Bool (is_job_of task i)) [
        | inl theirs ↦ part_none log i (after i is theirs more)
        | inr other ↦ part_other log i other
      ]

  -- Nothing of the task is carried out

  abbrev pub Stands : Log → Type 0
  Stands log = content start log page ≡ left_on page (flat_map (done_part task log) (jobs log)) at_first

  taken_part : (past : Log) (new : Job) → IsExact start past → (new.collects ≡ true) ⊎ (new.number ≡ length (jobs past))
      → done_part task past new ≡ []
  taken_part past new exact (inl kind) = part_other past new (rw kind refl)
  taken_part past new exact (inr number) =
      part_none past new (ap (λ (n : ℕ). work n past) number ∙ ap (λ (l : List Act). length l) (no_acts start past exact))

  taken : (past : Log) (new : Job) → IsExact start past → new.number ≡ length (jobs past) → Stands past
      → content start past page ≡ left_on page (flat_map (done_part task past) (jobs past ++ new ∷ [])) at_first
  taken past new exact number h = h ∙ ap (λ (l : List Op). left_on page l at_first) (sym (
      flat_map-append (done_part task past) (jobs past) (new ∷ [])
      ∙ (ap (λ (l : List Op). flat_map (done_part task past) (jobs past) ++ (l ++ [])) (taken_part past new exact (inr number))
      ∙ append-nil (flat_map (done_part task past) (jobs past)))))

  -- where whoever is carried is no job of the task, its parts stay
  parts_stay : (past : Log) (caller : ℕ) → IsExact start past
      → ((j : Job) (act : Act) → next_ran start past ≡ Some (j.number, act) → Carries start past j act → is_job_of task j ≡ true → ⊥)
      → flat_map (done_part task (slot_entry start past caller ∷ past)) (jobs past) ≡ flat_map (done_part task past) (jobs past)
  parts_stay past caller exact away =
      flat_map_same (done_part task (slot_entry start past caller ∷ past)) (done_part task past) (jobs past) each
    where
      each : (i : Job) → Contains (jobs past) i → done_part task (slot_entry start past caller ∷ past) i ≡ done_part task past i
      each i is = elim (cases_Bool (is_job_of task i)) [
        | inl own ↦ by_case own (act_of i.number (next_ran start past)) refl
        | inr other ↦ part_other (slot_entry start past caller ∷ past) i other ∙ sym (part_other past i other)
      ]
        where
          by_case : is_job_of task i ≡ true → (o : Option Act) → act_of i.number (next_ran start past) ≡ o
              → done_part task (slot_entry start past caller ∷ past) i ≡ done_part task past i
          by_case own None e = ap (λ (l : List Act). cond (is_job_of task i) (take (length l) i.ops) []) (slot_stays start past caller i.number e)
          by_case own (Some act) e = absurd (away i act (own_act i.number (next_ran start past) act e)
              (carries start past (numbered_of start opens task past exact) i is act e) own)

  -- the operation of an act is on a page of the die
  op_within : (past : Log) → IsExact start past → (j : Job) → Contains (jobs past) j → (n : ℕ) (op : Op) → slice_get j.ops n ≡ Some op
      → page_of op < length (contents start past)
  op_within past exact j stands n op at =
      let limits = (keeps_limits start past exact).each j stands in
      omega (
        arith,
        limits.pages op (n, slice_get_within j.ops n op at, get_or_from_slice_get j.ops n op op at),
        contents_len start past,
        opens.pages,
      )

  -- what an act of another task's job leaves
  others_leave : (past : Log) → IsExact start past → IsOwnPage task page past → (j : Job) (act : Act) → Carries start past j act
      → is_job_of task j ≡ false → page_in (contents_after (Some (j.number, act)) (contents start past)) page ≡ content start past page
  others_leave past exact own j act c other = elim (cases_Bool j.collects) [
    | inl kind ↦ ap (λ (l : List PageData). page_in l page) (collection_leaves j.number (contents start past) start.plan (cells start past)
        (buffer_after (last_or None (acts j.number past))) (block_for start past j) act (collects_it kind))
    | inr kind ↦
        let d = does_next start past j act kind c.act_is in
        op_leaves page j.number d.op act (contents start past) d.does_it (op_within past exact j c.stands (work j.number past) d.op d.at)
        ∙ changes_nothing page d.op (content start past page) (unchanged d.op (work j.number past) d.at)
  ]
    where
      collects_it : j.collects ≡ true
          → collect_act start.plan (cells start past) (buffer_after (last_or None (acts j.number past))) (block_for start past j) ≡ Some act
      collects_it kind = sym (ap (λ (b : Bool). cond b
          (collect_act start.plan (cells start past) (buffer_after (last_or None (acts j.number past))) (block_for start past j))
          (act_of_op start past (slice_get j.ops (work j.number past)))) kind) ∙ c.act_is

      unchanged : (op : Op) (n : ℕ) → slice_get j.ops n ≡ Some op → changes page op ≡ false
      unchanged op n at = elim (cases_Bool (changes page op)) [
        | inl it ↦ absurd (true≢false (sym (any_contained (changes page) j.ops op
            (n, slice_get_within j.ops n op at, get_or_from_slice_get j.ops n op op at) it) ∙ own j c.stands other))
        | inr not_it ↦ not_it
      ]

  -- An operation of the task is carried out

  -- the parts before and after one more act of a job of the task
  module _ (past : Log) (caller : ℕ) (exact : IsExact start past) (longer : IsExact start (slot_entry start past caller ∷ past))
      (order : InOrder start opens task past) (j : Job) (act : Act) (c : Carries start past j act) (own : is_job_of task j ≡ true) where
    abbrev log : Log
    log = slot_entry start past caller ∷ past

    numbered : AreNumbered 0 (jobs past)
    numbered = numbered_of start opens task past exact

    before_done : (i : Job) → Contains (jobs past) i → is_job_of task i ≡ true → i.number < j.number → is_done start.plan past i ≡ true
    before_done i is theirs less = carries_first start opens task past caller exact longer order i j is theirs own less act c

    still_done : (i : Job) → Contains (jobs past) i → is_job_of task i ≡ true → i.number < j.number → is_done start.plan log i ≡ true
    still_done i is theirs less =
        let done = before_done i is theirs less in
        ap (are_all start.plan i) (done_rests start past numbered caller i is done) ∙ done

    after_none : (i : Job) → Contains (jobs past) i → is_job_of task i ≡ true → j.number < i.number → work i.number past ≡ 0
    after_none i is theirs more = by_work (work i.number past) refl
      where
        by_work : (n : ℕ) → work i.number past ≡ n → work i.number past ≡ 0
        by_work zero e = e
        by_work (suc n) e = absurd (true≢false (sym (in_turn start opens task past exact order j i c.stands own is theirs more (omega (arith, e)))
            ∙ waiting_undone start.plan past j c.ready))

    still_none : (i : Job) → Contains (jobs past) i → is_job_of task i ≡ true → j.number < i.number → work i.number log ≡ 0
    still_none i is theirs more = by_case (act_of i.number (next_ran start past)) refl
      where
        by_case : (o : Option Act) → act_of i.number (next_ran start past) ≡ o → work i.number log ≡ 0
        by_case None e = ap (λ (l : List Act). length l) (slot_stays start past caller i.number e) ∙ after_none i is theirs more
        by_case (Some a) e =
            let d = carries start past numbered i is a e in
            let same : i ≡ j = same_Some i j (sym d.head ∙ c.head) in
            absurd (omega (arith, more, ap (λ (x : Job). x.number) same))

    pub parts_past : flat_map (done_part task past) (jobs past) ≡ asked_before past j.number ++ take (work j.number past) j.ops
    parts_past = parts_at past numbered j c.stands own before_done after_none

    parts_log : flat_map (done_part task log) (jobs past) ≡ asked_before past j.number ++ take (work j.number log) j.ops
    parts_log = parts_at log numbered j c.stands own still_done still_none

    own_leaves : act_of j.number (next_ran start past) ≡ Some act → next_ran start past ≡ Some (j.number, act) → Stands past → Stands log
    own_leaves acts_so ran h =
        let d : DoesOp start past j (work j.number past) act = does_next start past j act (job_kind start opens task j own) c.act_is in
        let more : work j.number log ≡ work j.number past + 1 =
        ap (λ (l : List Act). length l) (slot_grows start past caller j.number act acts_so) ∙ length_push (acts j.number past) act in
        let next : take (work j.number log) j.ops ≡ take (work j.number past) j.ops ++ d.op ∷ [] =
        ap (λ (n : ℕ). take n j.ops) more ∙ take_next j.ops (work j.number past) d.op d.at in
        let had : List Op = asked_before past j.number ++ take (work j.number past) j.ops in
        let parts : flat_map (done_part task log) (jobs past) ≡ had ++ d.op ∷ [] =
        parts_log ∙ (ap (λ (l : List Op). asked_before past j.number ++ l) next
        ∙ sym (append_assoc (asked_before past j.number) (take (work j.number past) j.ops) (d.op ∷ []))) in
        ap (λ (r : Carried). page_in (contents_after r (contents start past)) page) ran
        ∙ (op_leaves page j.number d.op act (contents start past) d.does_it (op_within past exact j c.stands (work j.number past) d.op d.at)
        ∙ (ap (left_by page d.op) (h ∙ ap (λ (l : List Op). left_on page l at_first) parts_past)
        ∙ (sym (left_append page had (d.op ∷ []) at_first)
        ∙ sym (ap (λ (l : List Op). left_on page l at_first) parts))))

  pub own_before : (past : Log) (new : Job) → ((j : Job) → Contains (jobs past ++ new ∷ []) j → IsFalse (is_job_of task j)
      → IsFalse (list_any (changes page) j.ops)) → IsOwnPage task page past
  own_before past new h j js = h j (Contains-append_left (jobs past) (new ∷ []) j js)

  slot_stands : (past : Log) (caller : ℕ) → IsExact start past → IsExact start (slot_entry start past caller ∷ past)
      → InOrder start opens task past → IsOwnPage task page past → Stands past → Stands (slot_entry start past caller ∷ past)
  slot_stands past caller exact longer order own h = by_ran (next_ran start past) refl
    where
      by_ran : (o : Carried) → next_ran start past ≡ o → Stands (slot_entry start past caller ∷ past)
      by_ran None e =
          ap (λ (r : Carried). page_in (contents_after r (contents start past)) page) e
          ∙ (h ∙ ap (λ (l : List Op). left_on page l at_first) (sym (parts_stay past caller exact (λ j act ran c mine. none-some (j.number, act) (sym e ∙ ran)))))
      by_ran (Some (n, act)) e =
          let carried = carried_of start past n act e in
          let j : Job = carried.0 in
          let c : Carries start past j act = carried.2 in
          let ran : next_ran start past ≡ Some (j.number, act) = e ∙ ap (λ (k : ℕ). Some (k, act)) (sym carried.1) in
          elim (cases_Bool (is_job_of task j)) [
            | inl mine ↦ own_leaves past caller exact longer order j act c mine (ap (act_of j.number) ran ∙ act_own j.number act) ran h
            | inr other ↦
                ap (λ (r : Carried). page_in (contents_after r (contents start past)) page) ran
                ∙ (others_leave past exact own j act c other
                ∙ (h ∙ ap (λ (l : List Op). left_on page l at_first)
                (sym (parts_stay past caller exact (λ i a is d theirs. true≢false (sym theirs ∙ (ap (λ (x : Job). is_job_of task x)
                (same_Some i j (sym d.head ∙ c.head)) ∙ other)))))))
          ]

  abbrev Goal : Log → Type 0
  Goal log = IsExact start log → InOrder start opens task log → IsOwnPage task page log → Stands log

  -- the page has what the task's operations have left so far
  pub stands_as_had : (log : Log) → IsExact start log → InOrder start opens task log → IsOwnPage task page log → Stands log
  stands_as_had log exact order own = exact_induction start Goal (λ exact order own. refl) step log exact exact order own
    where
      step : (past : Log) (caller : ℕ) (event : Event) → IsExact start past → Goal past
          → AllByRecursion (λ c. c.0 ≡ false) (refusals start past event)
          → Goal (entry caller event (reply_if_accepted start past event) ∷ past)
      step past caller (events.Submit t release due ops) exact h none longer order own =
          taken past _ exact refl (h exact (order_before start opens task past _ order) (own_before past _ own))
      step past caller (events.Collect t release due) exact h none longer order own =
          taken past _ exact refl (h exact (order_before start opens task past _ order) (own_before past _ own))
      step past caller events.Slot exact h none longer order own = slot_stands past caller exact longer order own (h exact order own)
