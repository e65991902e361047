-- A quiet moment of an exact log is an opening: another log may start there.
use Rattle.std.proofs.Common.{◌≡◌, ℕ, zero, suc, ◌<◌, ◌≤◌, Bool, true, false, List, [], ◌∷◌, length, drop, cond, not, ◌&&◌, Option, Some, None, refl, ap, sym, ◌∙◌}
use Rattle.std.proofs.Common.{subst, inl, inr, arith, slice_get, get_or, set}
use Rattle.std.specs.List.{AllByRecursion}
use Rattle.std.proofs.lemmas.Bool.{true≢false, cases_eq, cases_lt, and_parts, not-true}
use Rattle.std.proofs.lemmas.Option.{none-some, same_Some}
use Rattle.std.proofs.lemmas.List.{length-set, get_or-set_same, get_or-set_other, get_or_past, set_past}
use Rattle.slot_types.specs.Places.{place_of}
use Rattle.slot_types.specs.declared.pages.Place.{Place}
use Rattle.slot_types.specs.declared.pages.PageData.{PageData}
use Rattle.slot_types.specs.declared.acts.Act.TheVariants as does
use Rattle.slot_types.specs.declared.events.Op.{Op}
use Rattle.slot_types.specs.declared.events.Event.{Event}
use Rattle.slot_types.specs.Operations.{writes}
use Rattle.die_log.specs.Model.Log.{Log, Job, Carried, jobs, job_at, acts, work, is_waived}
use Rattle.die_log.specs.Model.Flash.{Cells, cells, cells_after, block_at, contents, contents_after, cells_after_program_in, open_block, ran_by}
use Rattle.die_log.specs.Model.Start.{Start, blank_page}
use Rattle.die_log.specs.Model.Work.{is_done, owed_writes}
use Rattle.die_log.specs.Model.Answers.{IsExact, reply_if_accepted, refusals}
use Rattle.die_log.specs.Invariants.TrueAccounts.{at_task, left_of, lent_of, held_of, lent_to, is_pending, copied_of, HasTaskAndOps}
use Rattle.die_log.specs.Invariants.RunningCollections.{RunsOnBlock}
use Rattle.die_log.specs.Model.Opening.{IsOpening, IsQuiet, renewed_start}
use Rattle.die_log.proofs.Legality.{exact_induction}
use Rattle.die_log.proofs.Cells.Steps.{opens}
use Rattle.die_log.proofs.LogInvariants.CellsFromAccounts.{FindsBy}
use Rattle.die_log.proofs.LogInvariants.OneMoreEntry.{contained}
use Rattle.die_log.proofs.LogInvariants.AfterNoAct.{runs_says}
use Rattle.die_log.proofs.Legal.Exact.{StandsWell, stands_well, well_served, event_finds}
use Rattle.die_log.proofs.Tokens.Sums.{all_at}
use Rattle.die_log.proofs.Tokens.Taking.{at_none}
use Rattle.die_log.proofs.Supply.Held.{sum_zero, none_left, all_done}
use Rattle.die_log.proofs.Supply.Waived.{waives_collections}

-- Pages that lie nowhere

abbrev AreBlank : List (Option Place) → List PageData → Type 0
AreBlank places pages = (page : ℕ) → place_of places page ≡ None → get_or pages page blank_page ≡ blank_page

-- a page lies where it is put, if there is such a page
lies : (places : List (Option Place)) (page p : ℕ) (q : Place) → page < length places → p ≡ page
    → place_of (set places page (Some q)) p ≡ None → ⊥
lies places page p q lt same none = none-some q
    (sym (subst (λ k. place_of (set places page (Some q)) k ≡ None) same none) ∙ get_or-set_same places page (Some q) None lt)

nowhere_before : (places : List (Option Place)) (page p : ℕ) (o : Option Place) → (p ≡ page → ⊥)
    → place_of (set places page o) p ≡ None → place_of places p ≡ None
nowhere_before places page p o other none = sym (get_or-set_other places page p o None other) ∙ none

nowhere_past : (places : List (Option Place)) (page p : ℕ) (o : Option Place) → length places ≤ page
    → place_of (set places page o) p ≡ None → place_of places p ≡ None
nowhere_past places page p o past none = sym (ap (λ (l : List (Option Place)). get_or l p None) (set_past places page o past)) ∙ none

placed_blank : (places : List (Option Place)) (pages : List PageData) (page : ℕ) (q : Place) → AreBlank places pages
    → AreBlank (set places page (Some q)) pages
placed_blank places pages page q h p none = elim (cases_eq p page) [
  | inl same ↦ elim (cases_lt page (length places)) [
    | inl lt ↦ absurd (lies places page p q lt same none)
    | inr past ↦ h p (nowhere_past places page p (Some q) past none)
  ]
  | inr other ↦ h p (nowhere_before places page p (Some q) other none)
]

written_blank : (places : List (Option Place)) (pages : List PageData) (page : ℕ) (q : Place) (bytes : PageData)
    → length places ≡ length pages → AreBlank places pages → AreBlank (set places page (Some q)) (set pages page bytes)
written_blank places pages page q bytes same_len h p none = elim (cases_eq p page) [
  | inl same ↦ elim (cases_lt page (length places)) [
    | inl lt ↦ absurd (lies places page p q lt same none)
    | inr past ↦
        ap (λ (l : List PageData). get_or l p blank_page) (set_past pages page bytes (omega (arith, past, same_len)))
        ∙ h p (nowhere_past places page p (Some q) past none)
  ]
  | inr other ↦ get_or-set_other pages page p bytes blank_page other ∙ h p (nowhere_before places page p (Some q) other none)
]

trimmed_blank : (places : List (Option Place)) (pages : List PageData) (page : ℕ) → AreBlank places pages
    → AreBlank (set places page None) (set pages page blank_page)
trimmed_blank places pages page h p none = elim (cases_eq p page) [
  | inl same ↦ elim (cases_lt page (length pages)) [
    | inl lt ↦ ap (λ k. get_or (set pages page blank_page) k blank_page) same ∙ get_or-set_same pages page blank_page blank_page lt
    | inr past ↦
        ap (λ k. get_or (set pages page blank_page) k blank_page) same
        ∙ get_or_past (set pages page blank_page) page blank_page (omega (arith, past, length-set pages page blank_page))
  ]
  | inr other ↦ get_or-set_other pages page p blank_page blank_page other ∙ h p (nowhere_before places page p None other none)
]

programmed_blank : (page : ℕ) (o : Option ℕ) (c : Cells) (pages : List PageData) → AreBlank c.places pages
    → AreBlank (cells_after_program_in page o c).places pages
programmed_blank page None c pages h = h
programmed_blank page (Some b) c pages h = placed_blank c.places pages page _ h

-- a write goes to a block that is open
act_blank : (start : Start) (past : Log) (ran : Carried) → FindsBy start past ran
    → length (cells start past).places ≡ length (contents start past) → AreBlank (cells start past).places (contents start past)
    → AreBlank (cells_after start.plan ran (cells start past)).places (contents_after ran (contents start past))
act_blank start past None finds len h = h
act_blank start past (Some (n, does.Read page bytes)) finds len h = h
act_blank start past (Some (n, does.Write page bytes)) finds len h =
    let c : Cells = cells start past in
    let o = opens start.plan c finds in
    subst (λ x. AreBlank (cells_after_program_in page x c).places (set (contents start past) page bytes)) (sym o.1)
    (written_blank c.places (contents start past) page _ bytes len h)
act_blank start past (Some (n, does.Trim page)) finds len h = trimmed_blank (cells start past).places (contents start past) page h
act_blank start past (Some (n, does.CopyRead page)) finds len h = h
act_blank start past (Some (n, does.CopyProgram page)) finds len h = programmed_blank page (open_block start.plan (cells start past))
    (cells start past) (contents start past) h
act_blank start past (Some (n, does.Erase block)) finds len h = h

written_len : (ran : Carried) (pages : List PageData) → length (contents_after ran pages) ≡ length pages
written_len None pages = refl
written_len (Some (n, does.Read page bytes)) pages = refl
written_len (Some (n, does.Write page bytes)) pages = length-set pages page bytes
written_len (Some (n, does.Trim page)) pages = length-set pages page blank_page
written_len (Some (n, does.CopyRead page)) pages = refl
written_len (Some (n, does.CopyProgram page)) pages = refl
written_len (Some (n, does.Erase block)) pages = refl

pub contents_len : (start : Start) (log : Log) → length (contents start log) ≡ length start.contents
contents_len start [] = refl
contents_len start (e ∷ past) = written_len (ran_by e.reply) (contents start past) ∙ contents_len start past

pub stay_blank : (start : Start) → IsOpening start → (log : Log) → IsExact start log → AreBlank (cells start log).places (contents start log)
stay_blank start bound = exact_induction start (λ log. AreBlank (cells start log).places (contents start log)) bound.blank step
  where
    step : (past : Log) (caller : ℕ) (event : Event) → IsExact start past → AreBlank (cells start past).places (contents start past)
        → AllByRecursion (λ c. c.0 ≡ false) (refusals start past event)
        → AreBlank (cells_after start.plan (ran_by (reply_if_accepted start past event)) (cells start past)).places
        (contents_after (ran_by (reply_if_accepted start past event)) (contents start past))
    step past caller event exact h none =
        let both = stands_well start bound past exact in
        act_blank start past (ran_by (reply_if_accepted start past event)) (event_finds start past event bound both)
        (both.0.collects.sound.places ∙ sym (contents_len start past ∙ bound.pages)) h

-- Nothing is left to do

module _ (start : Start) (log : Log) (bound : IsOpening start) (exact : IsExact start log) (quiet : IsQuiet start log) where
  abbrev both : StandsWell start log
  both = stands_well start bound log exact

  -- a block in erase would be that of a collection that runs
  no_erase : (b n : ℕ) → (block_at (cells start log) b).erasing ≡ n → (block_at (cells start log) b).erasing ≡ 0
  no_erase b zero e = e
  no_erase b (suc n) e =
      let o = both.0.collects.owned b (omega (arith, e)) in
      let r = runs_says start.plan o.0 (acts o.0.number log) o.1.running in
      elim (quiet o.0 o.1.stands) [
        | inl done ↦ absurd (true≢false (sym done ∙ r.undone))
        | inr gone ↦ absurd (omega (arith, r.begun, ap length (both.1.true_accounts.idle_waived o.0.number gone)))
      ]

  -- no collection runs
  pub none_runs : (j : Job) (b : ℕ) → RunsOnBlock start log j b → ⊥
  none_runs j b r =
      let s = runs_says start.plan j (acts j.number log) r.running in
      elim (quiet j r.stands) [
        | inl done ↦ true≢false (sym done ∙ s.undone)
        | inr gone ↦ absurd (omega (arith, s.begun, ap length (both.1.true_accounts.idle_waived j.number gone)))
      ]

  job_done : (k : ℕ) (j : Job) → slice_get (jobs log) k ≡ Some j → j.collects ≡ false → is_done start.plan log j ≡ true
  job_done k j e kind = elim (quiet j (contained (jobs log) k j e)) [
    | inl done ↦ done
    | inr gone ↦
        let c = waives_collections start bound log exact j.number gone in
        let at : job_at log j.number ≡ Some j = ap (job_at log) ((well_served start log bound both).numbered k j e) ∙ e in
        absurd (true≢false (sym c.2 ∙ (ap (λ (i : Job). i.collects) (same_Some c.0 j (sym c.1 ∙ at)) ∙ kind)))
  ]

  -- no job has a write left
  left : (k : ℕ) (j : Job) (b : Bool) → slice_get (jobs log) k ≡ Some j → j.collects ≡ b → left_of (λ n. acts n log) j ≡ 0
  left k j true e kind =
      let ops : j.ops ≡ [] = (all_at (HasTaskAndOps start.plan) (jobs log) k j both.1.true_accounts.taken e).none kind in
      ap (λ (l : List Op). writes (drop (length (acts j.number log)) l)) ops ∙ none_left (length (acts j.number log)) [] (omega arith)
  left k j false e kind = none_left (length (acts j.number log)) j.ops
      (omega (arith, all_done start.plan j (acts j.number log) kind (job_done k j e kind)))

  -- no collection is pending
  settled : (k : ℕ) (j : Job) (b : Bool) → slice_get (jobs log) k ≡ Some j
      → is_pending start.plan (λ n. acts n log) (is_waived log) j ≡ b → is_pending start.plan (λ n. acts n log) (is_waived log) j ≡ false
  settled k j false e is = is
  settled k j true e is =
      let gone = and_parts (j.collects && not (is_done start.plan log j)) (not (is_waived log j.number)) is in
      let done = and_parts j.collects (not (is_done start.plan log j)) gone.0 in
      elim (quiet j (contained (jobs log) k j e)) [
        | inl over ↦ absurd (true≢false (sym over ∙ not-true (is_done start.plan log j) done.1))
        | inr waived ↦ absurd (true≢false (sym waived ∙ not-true (is_waived log j.number) gone.1))
      ]

  none_lent : (k : ℕ) (j : Job) → slice_get (jobs log) k ≡ Some j → lent_of start.plan (λ n. acts n log) (is_waived log) j ≡ 0
  none_lent k j e = ap (λ b. cond b (copied_of (λ n. acts n log) j) 0) (settled k j _ e refl)

  none_held : (task : ℕ) → held_of (λ n. acts n log) (jobs log) task ≡ 0
  none_held task = sum_zero (λ j. at_task j.task (left_of (λ n. acts n log) j) task) (jobs log)
      (λ k j e. ap (λ n. at_task j.task n task) (left k j j.collects e refl) ∙ at_none j.task task)

  none_lent_to : (task : ℕ) → lent_to start.plan (λ n. acts n log) (is_waived log) (jobs log) task ≡ 0
  none_lent_to task = sum_zero (λ j. at_task j.task (lent_of start.plan (λ n. acts n log) (is_waived log) j) task) (jobs log)
      (λ k j e. ap (λ n. at_task j.task n task) (none_lent k j e) ∙ at_none j.task task)

  none_owed : owed_writes log ≡ 0
  none_owed = sum_zero (λ j. writes (drop (work j.number log) j.ops)) (jobs log) (λ k j e. left k j j.collects e refl)

  pub quiet_opens : IsOpening (renewed_start start log)
  quiet_opens =
      let a = both.1.true_accounts.agree in
      record {
        bound = bound.bound;
        sound = both.0.collects.sound;
        idle = λ b. no_erase b _ refl;
        agree = record {
          plan_is = a.plan_is;
          balances_len = a.balances_len;
          holds_len = a.holds_len;
          reserves_len = a.reserves_len;
          owned = a.owned;
          holds_are = λ task lt. a.holds_are task lt ∙ none_held task;
          reserves_are = λ task lt. omega (arith, a.reserves_are task lt, none_lent_to task);
          owed_is = a.owed_is ∙ none_owed;
          total_is = a.total_is;
        };
        pages = contents_len start log ∙ bound.pages;
        blank = stay_blank start bound log exact;
      }

pub renewed_opens : (start : Start) (log : Log) → IsOpening start → IsExact start log → IsQuiet start log → IsOpening (renewed_start start log)
renewed_opens = quiet_opens
