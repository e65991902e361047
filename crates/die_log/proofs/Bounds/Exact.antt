-- Each collection of an exact log keeps to its reserve.
use Rattle.std.proofs.Common.{◌≡◌, ◌⊎◌, ℕ, zero, suc, ◌+◌, ◌*◌, ◌<◌, ◌≤◌, true, false, List, [], ◌∷◌, ◌++◌, length, count_by, Option, Some}
use Rattle.std.proofs.Common.{None, MatchOption, refl, ap, sym, subst, ◌∙◌, inl, inr, arith, get_or}
use Rattle.std.specs.Prelude.{Contains}
use Rattle.std.specs.List.{last_or}
use Rattle.std.proofs.lemmas.Bool.{cases_eq}
use Rattle.std.proofs.lemmas.Option.{none-some}
use Rattle.std.proofs.lemmas.List.Elements.{Contains-append_cases}
use Rattle.slot_types.specs.declared.plans.DiePlan.{DiePlan}
use Rattle.slot_types.specs.declared.acts.Act.{Act}
use Rattle.slot_types.specs.declared.acts.Act.TheVariants as does
use Rattle.slot_types.specs.declared.events.Event.{Event}
use Rattle.slot_types.specs.declared.events.Event.TheVariants as events
use Rattle.slot_types.specs.declared.replies.Entry.{Entry}
use Rattle.slot_types.specs.declared.replies.Reply.TheVariants as replies
use Rattle.slot_types.specs.declared.replies.Waived.{Waived}
use Rattle.die_log.specs.Model.Log.{Log, Job, jobs, acts, act_of, work, waived_collections}
use Rattle.die_log.specs.Model.Flash.{Cells, cells, cells_after, cells_after_program_in, ran_by, valid}
use Rattle.die_log.specs.Model.Work.{is_done, is_copy_program, victim_of, shown_by}
use Rattle.die_log.specs.Model.Accounts.{accounts, after_waivers}
use Rattle.die_log.specs.Model.Answers.{IsExact, reply_if_accepted, choice, is_waivable, slot_reply, reply_with, act_for}
use Rattle.die_log.specs.Results.Legal.{changed_since, FindsFree}
use Rattle.die_log.specs.Invariants.SoundCells.{MayDo}
use Rattle.die_log.specs.Invariants.TrueAccounts.{reserve_full}
use Rattle.die_log.proofs.Legality.{entry, exact_induction}
use Rattle.die_log.proofs.Collecting.{no_acts}
use Rattle.die_log.proofs.Choices.{OfSome}
use Rattle.die_log.proofs.Cells.Steps.{opens}
use Rattle.die_log.proofs.LogInvariants.CellsFromAccounts.{FindsBy}
use Rattle.die_log.proofs.LogInvariants.OneMoreEntry.{IsWaiting, waits, stands_at, same_job, act_own, act_other, acts_stay, acts_grow, victim_stays}
use Rattle.die_log.proofs.LogInvariants.HeadActs.{IsBegun, runs_from, collection_may, act_shows}
use Rattle.die_log.proofs.LogInvariants.EveryLog.{waiting_undone}
use Rattle.die_log.proofs.Legal.Exact.{StandsWell, stands_well, well_served, chosen_is, event_finds, victim_begun, has_pages, has_slots}
use Rattle.die_log.proofs.Tokens.Waivers.{Waits}
use Rattle.die_log.proofs.Tokens.Slots.{IsTurn}
use Rattle.die_log.proofs.Tokens.Few.{MayShow, still_few}
use Rattle.die_log.proofs.Bounds.Acts.{is_copy_read, in_buffer, IsBounded, idle_bounded, other_bounded, own_read, own_copy, own_erase}
use Rattle.die_log.specs.Model.Start.{Start}
use Rattle.die_log.specs.Model.Opening.{IsOpening}

-- each collection of a log
abbrev pub AreBounded : Start → Log → Type 0
AreBounded start log = (j : Job) → Contains (jobs log) j → j.collects ≡ true
    → IsBounded start.plan (cells start log) j (acts j.number log) (victim_of start j.number log)

-- Acts that are another's

-- the same acts and the same block
bounded_as : (plan : DiePlan) (c : Cells) (j : Job) (own own' : List Act) (block block' : Option ℕ) → own' ≡ own → block' ≡ block
    → IsBounded plan c j own block → IsBounded plan c j own' block'
bounded_as plan c j own own' block block' e f h =
    subst (λ l. IsBounded plan c j l block') (sym e) (subst (λ o. IsBounded plan c j own o) (sym f) h)

-- an entry that carries no act of it
unmoved : (start : Start) (e : Entry) (past : Log) (j : Job) → act_of j.number (ran_by e.reply) ≡ None
    → IsBounded start.plan (cells start (e ∷ past)) j (acts j.number past) (victim_of start j.number past)
    → IsBounded start.plan (cells start (e ∷ past)) j (acts j.number (e ∷ past)) (victim_of start j.number (e ∷ past))
unmoved start e past j none h = bounded_as start.plan (cells start (e ∷ past)) j (acts j.number past) (acts j.number (e ∷ past))
    (victim_of start j.number past) (victim_of start j.number (e ∷ past)) (acts_stay j.number e past none)
    (victim_stays start j.number e past none) h

one_contained : (x j : Job) (k : ℕ) → k < length (x ∷ []) → get_or (x ∷ []) k j ≡ j → x ≡ j
one_contained x j zero lt e = e
one_contained x j (suc k) lt e = absurd (omega (arith, lt))

-- one more is taken
taken_bounded : (start : Start) (e : Entry) (past : Log) (new : Job) → IsExact start past → jobs (e ∷ past) ≡ jobs past ++ new ∷ []
    → cells start (e ∷ past) ≡ cells start past → ran_by e.reply ≡ None → new.number ≡ length (jobs past) → AreBounded start past
    → AreBounded start (e ∷ past)
taken_bounded start e past new exact js same ran number h j stands kind =
    let none : act_of j.number (ran_by e.reply) ≡ None = ap (act_of j.number) ran in
    unmoved start e past j none (by_case (Contains-append_cases (jobs past) (new ∷ []) j (subst (λ l. Contains l j) js stands)))
  where
    here : Contains (jobs past) j → IsBounded start.plan (cells start (e ∷ past)) j (acts j.number past) (victim_of start j.number past)
    here k = subst (λ c. IsBounded start.plan c j (acts j.number past) (victim_of start j.number past)) (sym same) (h j k kind)

    by_case : Contains (jobs past) j ⊎ Contains (new ∷ []) j
        → IsBounded start.plan (cells start (e ∷ past)) j (acts j.number past) (victim_of start j.number past)
    by_case (inl k) = here k
    by_case (inr k) =
        let is : new ≡ j = one_contained new j k.0 k.1 k.2 in
        idle_bounded start.plan (cells start (e ∷ past)) j (acts j.number past) (victim_of start j.number past)
        (ap (λ n. acts n past) (ap (λ (x : Job). x.number) (sym is) ∙ number) ∙ no_acts start past exact)

-- The head's act

-- what is known of a slot in which collection j does the act
record Moves (start : Start) (past : Log) (j : Job) (act : Act) : Type 0 where
  bound : IsOpening start
  well : StandsWell start past
  waiting : IsWaiting start.plan past j
  kind : j.collects ≡ true
  does_it : act_for start past j ≡ Some act
  finds : FindsFree start past act

begun_fits : (start : Start) (past : Log) (j : Job) (b : ℕ) → j.collects ≡ true → is_done start.plan past j ≡ false
    → victim_of start j.number past ≡ Some b
    → IsBounded start.plan (cells start past) j (acts j.number past) (victim_of start j.number past)
    → count_by is_copy_read (acts j.number past) + valid (cells start past) b
    ≤ reserve_full start.plan + in_buffer (cells start past) (acts j.number past) b
begun_fits start past j b kind undone shown h =
    h.fits b (runs_from start.plan j (acts j.number past) (record
    { collects = kind; begun = victim_begun start j.number b past (acts j.number past) refl shown; undone = undone })) shown

-- the collection that acts on its block b, in which few pages are placed
own_bounded : (start : Start) (past : Log) (j : Job) (act : Act) (b : ℕ) → Moves start past j act → IsBegun start past j b
    → is_done start.plan past j ≡ false
    → MayDo start.plan (cells start past) (acts j.number past) (λ p. changed_since j.number p past) b act → valid (cells start past) b
    ≤ reserve_full start.plan
    → IsBounded start.plan (cells start past) j (acts j.number past) (victim_of start j.number past)
    → IsBounded start.plan (cells_after start.plan (Some (j.number, act)) (cells start past)) j (acts j.number past ++ act ∷ []) (Some b)
own_bounded start past j (does.Read page bytes) b m k undone may few h = absurd may
own_bounded start past j (does.Write page bytes) b m k undone may few h = absurd may
own_bounded start past j (does.Trim page) b m k undone may few h = absurd may
own_bounded start past j (does.CopyRead page) b m k undone may few h =
    own_read start.plan (cells start past) j (acts j.number past) (victim_of start j.number past) b page h may (by_case k.shown)
  where
    by_case : (victim_of start j.number past ≡ Some b) ⊎ (acts j.number past ≡ [])
        → count_by is_copy_read (acts j.number past) + valid (cells start past) b
        ≤ reserve_full start.plan + in_buffer (cells start past) (acts j.number past) b
    by_case (inl shown) = begun_fits start past j b m.kind undone shown h
    by_case (inr none) = omega (arith, few, ap (λ (l : List Act). count_by is_copy_read l) none)
own_bounded start past j (does.CopyProgram page) b m k undone may few h =
    let pages : 0 < start.plan.shape.pages = has_pages start.plan m.bound.bound in
    let sound = m.well.0.collects.sound in
    let o = opens start.plan (cells start past) m.finds in
    let copies = (well_served start past m.bound m.well).few_copies j page (stands_at (jobs past) j m.well.0.numbered m.waiting.0)
    m.waiting.1 m.does_it in
    subst (λ x. IsBounded start.plan (cells_after_program_in page x (cells start past)) j (acts j.number past ++ does.CopyProgram page ∷ []) (Some b))
    (sym o.1)
    (own_copy start.plan (cells start past) j (acts j.number past) (victim_of start j.number past) (λ p. changed_since j.number p past) b page o.0
    pages sound k.collecting.closed o.1 h may copies (by_case k.shown))
  where
    by_case : (victim_of start j.number past ≡ Some b) ⊎ (acts j.number past ≡ [])
        → count_by is_copy_read (acts j.number past) + valid (cells start past) b
        ≤ reserve_full start.plan + in_buffer (cells start past) (acts j.number past) b
    by_case (inl shown) = begun_fits start past j b m.kind undone shown h
    by_case (inr none) = absurd (none-some (does.CopyRead page) (sym (ap (λ (l : List Act). last_or None l) none) ∙ may.follows))
own_bounded start past j (does.Erase a) b m k undone may few h = own_erase start.plan (cells start past) j (acts j.number past)
    (victim_of start j.number past) j.number b a h may

-- A slot in which j acts

abbrev turn_entry : DiePlan → Log → ℕ → List Waived → Job → Act → Entry
turn_entry plan past caller ws j act = entry caller events.Slot (replies.Slot (reply_with plan past ws j (Some act)))

others_bounded : (start : Start) (past : Log) (caller : ℕ) (ws : List Waived) (j : Job) (act : Act) (i : Job) → IsOpening start
    → StandsWell start past → Contains (jobs past) i → (i.number ≡ j.number → ⊥)
    → IsBounded start.plan (cells start past) i (acts i.number past) (victim_of start i.number past)
    → IsBounded start.plan (cells start (turn_entry start.plan past caller ws j act ∷ past)) i
    (acts i.number (turn_entry start.plan past caller ws j act ∷ past))
    (victim_of start i.number (turn_entry start.plan past caller ws j act ∷ past))
others_bounded start past caller ws j act i bound well stands apart h =
    unmoved start (turn_entry start.plan past caller ws j act) past i (act_other j.number i.number act (λ e. apart (sym e)))
    (other_bounded start.plan (cells start past) i (acts i.number past) (victim_of start i.number past) j.number act (has_pages start.plan bound.bound)
    well.0.collects.sound
    (λ b runs shown. (well.0.collects.collecting i b (record { stands = stands; running = runs; victim = shown })).closed) h)

head_bounded : (start : Start) (past : Log) (caller : ℕ) (ws : List Waived) (j : Job) (act : Act) → Moves start past j act
    → IsTurn start past ws j act → MayShow start past ws j
    → IsBounded start.plan (cells start past) j (acts j.number past) (victim_of start j.number past)
    → IsBounded start.plan (cells start (turn_entry start.plan past caller ws j act ∷ past)) j
    (acts j.number (turn_entry start.plan past caller ws j act ∷ past))
    (victim_of start j.number (turn_entry start.plan past caller ws j act ∷ past))
head_bounded start past caller ws j act m turn show h =
    let e : Entry = turn_entry start.plan past caller ws j act in
    let undone : is_done start.plan past j ≡ false = waiting_undone start.plan past j m.waiting.1 in
    let k = collection_may start past j act (has_slots start.plan m.bound.bound) m.well.0.collects m.waiting.0 m.kind undone m.does_it in
    let shows = act_shows start past j k.0 act k.1 k.2 in
    let few : valid (cells start past) k.0 ≤ reserve_full start.plan = omega (arith, still_few start past ws j act k.0 turn show m.kind shows) in
    bounded_as start.plan (cells start (e ∷ past)) j (acts j.number past ++ act ∷ []) (acts j.number (e ∷ past)) (Some k.0)
    (victim_of start j.number (e ∷ past)) (acts_grow j.number e past act (act_own j.number act))
    (ap (shown_by start past (victim_of start j.number past)) (act_own j.number act) ∙ shows)
    (own_bounded start past j act k.0 m k.1 undone k.2 few h)

acted_bounded : (start : Start) (past : Log) (caller : ℕ) (j : Job) (act : Act) → IsOpening start → StandsWell start past
    → IsWaiting start.plan past j → act_for start past j ≡ Some act → FindsFree start past act
    → IsTurn start past (choice start past).waived j act → MayShow start past (choice start past).waived j → AreBounded start past
    → AreBounded start (turn_entry start.plan past caller (choice start past).waived j act ∷ past)
acted_bounded start past caller j act bound well waiting does_it finds turn show h i stands kind = elim (cases_eq i.number j.number) [
  | inl at ↦
      let same : j ≡ i = sym (same_job (jobs past) i j well.0.numbered stands waiting.0 at) in
      let of_j : j.collects ≡ true = ap (λ (x : Job). x.collects) same ∙ kind in
      let log : Log = turn_entry start.plan past caller (choice start past).waived j act ∷ past in
      subst (λ (x : Job). IsBounded start.plan (cells start log) x (acts x.number log) (victim_of start x.number log)) same
      (head_bounded start past caller (choice start past).waived j act
      (record { bound = bound; well = well; waiting = waiting; kind = of_j; does_it = does_it; finds = finds }) turn show
      (h j waiting.0 of_j))
  | inr apart ↦ others_bounded start past caller (choice start past).waived j act i bound well stands apart (h i stands kind)
]

-- Slots

idle_slot : (start : Start) (e : Entry) (past : Log) → ran_by e.reply ≡ None → jobs (e ∷ past) ≡ jobs past → cells start (e ∷ past)
    ≡ cells start past → AreBounded start past → AreBounded start (e ∷ past)
idle_slot start e past ran js same h j stands kind =
    unmoved start e past j (ap (act_of j.number) ran) (subst (λ c. IsBounded start.plan c j (acts j.number past) (victim_of start j.number past))
    (sym same) (h j (subst (λ l. Contains l j) js stands) kind))

slot_act : (start : Start) (past : Log) (caller : ℕ) (j : Job) (o : Option Act) → IsOpening start → StandsWell start past
    → IsWaiting start.plan past j → act_for start past j ≡ o → FindsBy start past (reply_with start.plan past (choice start past).waived j o).ran
    → Waits start.plan past (waived_collections past ++ (choice start past).waived) j
    → is_waivable start.plan past (after_waivers past (choice start past).waived (accounts start past)) j ≡ false
    → AreBounded start past → AreBounded start (entry caller events.Slot (replies.Slot (reply_with start.plan past (choice start past).waived j o))
    ∷ past)
slot_act start past caller j None bound well waiting e finds w unwaivable h = idle_slot start
    (entry caller events.Slot (replies.Slot (reply_with start.plan past (choice start past).waived j None))) past refl refl refl h
slot_act start past caller j (Some act) bound well waiting e finds w unwaivable h =
    let served = well_served start past bound well in
    acted_bounded start past caller j act bound well waiting e finds
    (record { true_before = well.1.true_accounts; serve = served; waivers = (chosen_is start past served).waivers; waits = w; does_it = e })
    (record { bound = bound; few_before = well.1.copies; unwaivable = unwaivable }) h

slot_head : (start : Start) (past : Log) (caller : ℕ) (o : Option Job) → IsOpening start → StandsWell start past
    → OfSome (IsWaiting start.plan past) o → FindsBy start past (slot_reply start past (choice start past).waived o).ran
    → MatchOption o (Unit {0}) (λ j. Waits start.plan past (waived_collections past ++ (choice start past).waived) j)
    → MatchOption o (Unit {0}) (λ j. is_waivable start.plan past (after_waivers past (choice start past).waived (accounts start past)) j
    ≡ false)
    → AreBounded start past → AreBounded start (entry caller events.Slot (replies.Slot (slot_reply start past (choice start past).waived o))
    ∷ past)
slot_head start past caller None bound well waiting finds w unwaivable h = idle_slot start
    (entry caller events.Slot (replies.Slot (slot_reply start past (choice start past).waived None))) past refl refl refl h
slot_head start past caller (Some j) bound well waiting finds w unwaivable h = slot_act start past caller j (act_for start past j) bound well
    waiting refl finds w unwaivable h

-- an accepted event keeps the collections bounded
keeps_bounded : (start : Start) (past : Log) (caller : ℕ) (event : Event) → IsOpening start → IsExact start past → AreBounded start past
    → AreBounded start (entry caller event (reply_if_accepted start past event) ∷ past)
keeps_bounded start past caller (events.Submit task release due ops) bound exact h = taken_bounded start
    (entry caller (events.Submit task release due ops) (reply_if_accepted start past (events.Submit task release due ops))) past _ exact refl refl
    refl refl h
keeps_bounded start past caller (events.Collect task release due) bound exact h = taken_bounded start
    (entry caller (events.Collect task release due) (reply_if_accepted start past (events.Collect task release due))) past _ exact refl refl refl refl
    h
keeps_bounded start past caller events.Slot bound exact h =
    let well = stands_well start bound past exact in
    let c = chosen_is start past (well_served start past bound well) in
    slot_head start past caller (choice start past).head bound well (waits start past).head (event_finds start past events.Slot bound well)
    c.head c.unwaivable h

pub are_bounded : (start : Start) → IsOpening start → (log : Log) → IsExact start log → AreBounded start log
are_bounded start bound = exact_induction start (AreBounded start) (λ j stands. absurd (omega (arith, stands.1)))
    (λ past caller event exact h none. keeps_bounded start past caller event bound exact h)

-- a collection copies no more than its collector's reserve
pub few_copies : (start : Start) → IsOpening start → (log : Log) → IsExact start log → (j : Job) → Contains (jobs log) j → j.collects ≡ true
    → count_by is_copy_program (acts j.number log) ≤ reserve_full start.plan
few_copies start bound log exact j stands kind = (are_bounded start bound log exact j stands kind).copies

-- and takes two slots at most for each page of it, and those of its erase
pub bounded_work : (start : Start) → IsOpening start → (log : Log) → IsExact start log → (j : Job) → Contains (jobs log) j → j.collects
    ≡ true → work j.number log ≤ 2 * reserve_full start.plan + start.plan.shape.erase_slots
bounded_work start bound log exact j stands kind =
    let h = are_bounded start bound log exact j stands kind in
    omega (arith, h.copies, h.reads, h.erases, h.total)
