-- Over all lives of a die a read tells what the last write or trim of its page left, in whichever life that was; or
-- where the power was lost since a trim, maybe what was written before; and wherever it is lost, a next life begins.
use Rattle.std.proofs.Common.{◌≡◌, ◌⊎◌, ℕ, ◌*◌, ◌<◌, ◌≤◌, Bool, true, false, List, [], ◌∷◌, length, Option, Some, None}
use Rattle.std.proofs.Common.{refl, ap, sym, ◌∙◌, subst, inl, inr}
use Rattle.std.proofs.Common.{get_or, set, arith}
use Rattle.std.specs.Prelude.{option_map, sum_by}
use Rattle.std.proofs.lemmas.Bool.{cases_eq, cases_lt}
use Rattle.std.proofs.lemmas.List.{get_or-set_same, get_or-set_other, get_or_past, length-set}
use Rattle.slot_types.specs.Places.{place_of}
use Rattle.slot_types.specs.declared.pages.PageData.{PageData}
use Rattle.slot_types.specs.declared.pages.Place.{Place}
use Rattle.slot_types.specs.declared.plans.DiePlan.{DiePlan}
use Rattle.slot_types.specs.declared.plans.Times.{Times}
use Rattle.plan_rules.specs.Bound.{MeetsBound}
use Rattle.plan_rules.specs.Times.{times_of}
use Rattle.demand_rules.specs.declared.terms.Terms.{Terms}
use Rattle.slot_types.specs.declared.acts.Act.TheVariants as does
use Rattle.slot_types.specs.declared.replies.Entry.{Entry}
use Rattle.slot_types.specs.declared.replies.SlotReply.{SlotReply}
use Rattle.die_log.specs.Model.Log.{Log, Carried}
use Rattle.die_log.specs.Model.Flash.{Cells, cells, contents, contents_after, content, free_in, ran_by}
use Rattle.die_log.specs.Model.Start.{Start, blank_page}
use Rattle.die_log.specs.Model.Lives.{Lives, HaveEnded, start_after}
use Rattle.die_log.specs.Model.Lives as die
use Rattle.die_log.specs.Model.Opening.{IsOpening, renewed_start}
use Rattle.die_log.specs.Results.Covered.{AreStocked}
use Rattle.die_log.specs.Results.Promises.{HasSlot, KeepsPromises}
use Rattle.die_log.specs.Results.Supply as timed
use Rattle.die_log.proofs.Life.Starting.{ended_opens}
use Rattle.die_log.proofs.Life.Demanding.{full_starts, balances_full}
use Rattle.die_log.proofs.Legal.Exact.{exact_legal}
use Rattle.die_log.proofs.Promises.{keeps_promises, legal_act}
use Rattle.die_log.proofs.Renewal.{contents_len, stay_blank}
use Rattle.die_log.specs.Model.Answers.{IsExact}
use Rattle.power_loss.specs.Aside.{AreUntrimmed, NothingTrimmed, IsNoTrim, StandsOnPart, MountsTo, found_pages, on_part}
use Rattle.power_loss.specs.Aside.{part_of, part_cells, renumbered}
use Rattle.power_loss.specs.Labels.{Label, Labels, Shown, label_at, labels, counts_from, IsLabelled, MayCountFrom}
use Rattle.power_loss.specs.Laws.{ShowsOnPart}
use Rattle.power_loss.specs.Losses.{Life, IsLife, AreLives, FollowsNewest, FollowsBy, FollowsLoss, contents_by}
use Rattle.power_loss.specs.Losses.{contents_left, logs, first_contents}
use Rattle.power_loss.specs.Losses.{up_to, renewed_life, renewed_lives, labels_after_all, seen_last, AreSeenSince}
use Rattle.power_loss.specs.Losses.{LeavesAlone, LeavesPage, LeavesTrimmed, TrimsPage, IsTrimmedSinceLoss}
use Rattle.power_loss.specs.Losses.{IsTrimmedAndLost}
use Rattle.power_loss.specs.Losses.{StoodAtFirst, WasWritten, AreTrimless, BeginsNext, ForAllLives, MaySeeAtEnd}
use Rattle.power_loss.specs.Losses.{MaySeeInCall, MaySeeAtLoss}
use Rattle.power_loss.specs.Losses.{MayKnow, WasUntold}
use Rattle.power_loss.specs.Mounted.{mounted_place, mounted_content, bytes_at}
use Rattle.power_loss.specs.Recovery.{IsRecoverable, labels_of, full_accounts, mounted_start, remounted_cells}
use Rattle.power_loss.specs.Recovery.{remounted_labels}
use Rattle.power_loss.proofs.Aside.ComingBack.{at_end, cut_on_part, in_call, none_known, part_bound, shows_log}
use Rattle.power_loss.proofs.Aside.ComingBack.{starts_beside}
use Rattle.power_loss.proofs.Aside.Parts.{places_at}
use Rattle.power_loss.proofs.Exact.{keeps_labels}
use Rattle.power_loss.proofs.TwoMounts.{content_at, contents_long}
use Rattle.power_loss.proofs.MountActs.{all_go_on}
use Rattle.power_loss.proofs.Knowing.{acts_next, known_still}
use Rattle.power_loss.proofs.Numbers.{some_above}
use Rattle.power_loss.proofs.Opening.{renewed_labelled}
use Rattle.power_loss.proofs.Remounting.{erased_within, remounts}
use Rattle.power_loss.proofs.Seeing.{cells_sound}
use Rattle.power_loss.proofs.Trimming.{WasTrimmed, was_trimmed}
use Rattle.power_loss.proofs.Undoing.{can_erase}
use Rattle.power_loss.proofs.Written.{AreWritten, acts_written, again_written, die_written, left_written_on}
use Rattle.power_loss.proofs.Written.{log_written, part_stands}

abbrev bytes_of : List PageData → ℕ → PageData
bytes_of pages page = get_or pages page blank_page

by_log : (start : Start) (log : Log) → contents start log ≡ contents_by start.contents log
by_log start [] = refl
by_log start (e ∷ past) = ap (contents_after (ran_by e.reply)) (by_log start past)

-- A log leaves a page as it was, or it doesn't matter what the page held

set_same : (xs ys : List PageData) (page : ℕ) (b : PageData) → length xs ≡ length ys → bytes_of (set xs page b) page ≡ bytes_of (set ys page b) page
set_same xs ys page b same = by_case (cases_lt page (length xs))
  where
    by_case : (page < length xs) ⊎ (length xs ≤ page) → bytes_of (set xs page b) page ≡ bytes_of (set ys page b) page
    by_case (inl lt) = get_or-set_same xs page b blank_page lt ∙ sym (get_or-set_same ys page b blank_page (omega (arith, same)))
    by_case (inr past) =
        get_or_past (set xs page b) page blank_page (omega (arith, length-set xs page b))
        ∙ sym (get_or_past (set ys page b) page blank_page (omega (arith, length-set ys page b, same)))

after_long : (ran : Carried) (xs : List PageData) → length (contents_after ran xs) ≡ length xs
after_long None xs = refl
after_long (Some (n, does.Read p b)) xs = refl
after_long (Some (n, does.Write p b)) xs = length-set xs p b
after_long (Some (n, does.Trim p)) xs = length-set xs p blank_page
after_long (Some (n, does.CopyRead p)) xs = refl
after_long (Some (n, does.CopyProgram p)) xs = refl
after_long (Some (n, does.Erase b)) xs = refl

by_long : (xs : List PageData) (log : Log) → length (contents_by xs log) ≡ length xs
by_long xs [] = refl
by_long xs (e ∷ past) = after_long (ran_by e.reply) (contents_by xs past) ∙ by_long xs past

-- a slot leaves the page, or sets it
abbrev SetsPage : ℕ → Carried → Type 0
SetsPage page ran = (xs ys : List PageData) → length xs ≡ length ys → bytes_of (contents_after ran xs) page ≡ bytes_of (contents_after ran ys) page

abbrev KeepsPage : ℕ → Carried → Type 0
KeepsPage page ran = LeavesPage page ran × ((xs : List PageData) → bytes_of (contents_after ran xs) page ≡ bytes_of xs page)

sets_or_keeps : (page : ℕ) (ran : Carried) → KeepsPage page ran ⊎ SetsPage page ran
sets_or_keeps page None = inl (tt, λ xs. refl)
sets_or_keeps page (Some (n, does.Read p b)) = inl (tt, λ xs. refl)
sets_or_keeps page (Some (n, does.Write p b)) = by_page (cases_eq p page)
  where
    by_page : (p ≡ page) ⊎ (p ≡ page → ⊥) → KeepsPage page (Some (n, does.Write p b)) ⊎ SetsPage page (Some (n, does.Write p b))
    by_page (inl is) = inr (λ xs ys same. subst (λ k. bytes_of (set xs p b) k ≡ bytes_of (set ys p b) k) is (set_same xs ys p b same))
    by_page (inr other) = inl (other, λ xs. get_or-set_other xs p page b blank_page (λ same. other (sym same)))
sets_or_keeps page (Some (n, does.Trim p)) = by_page (cases_eq p page)
  where
    by_page : (p ≡ page) ⊎ (p ≡ page → ⊥) → KeepsPage page (Some (n, does.Trim p)) ⊎ SetsPage page (Some (n, does.Trim p))
    by_page (inl is) =
        inr (λ xs ys same. subst (λ k. bytes_of (set xs p blank_page) k ≡ bytes_of (set ys p blank_page) k) is (set_same xs ys p blank_page same))
    by_page (inr other) = inl (other, λ xs. get_or-set_other xs p page blank_page blank_page (λ same. other (sym same)))
sets_or_keeps page (Some (n, does.CopyRead p)) = inl (tt, λ xs. refl)
sets_or_keeps page (Some (n, does.CopyProgram p)) = inl (tt, λ xs. refl)
sets_or_keeps page (Some (n, does.Erase b)) = inl (tt, λ xs. refl)

abbrev SetsIn : ℕ → Log → Type 0
SetsIn page log = (xs ys : List PageData) → length xs ≡ length ys → bytes_of (contents_by xs log) page ≡ bytes_of (contents_by ys log) page

abbrev KeepsIn : ℕ → Log → Type 0
KeepsIn page log = LeavesAlone page log × ((xs : List PageData) → bytes_of (contents_by xs log) page ≡ bytes_of xs page)

alone_or_set : (page : ℕ) (log : Log) → KeepsIn page log ⊎ SetsIn page log
alone_or_set page [] = inl (tt, λ xs. refl)
alone_or_set page (e ∷ past) = by_slot (sets_or_keeps page (ran_by e.reply)) (alone_or_set page past)
  where
    by_slot : KeepsPage page (ran_by e.reply) ⊎ SetsPage page (ran_by e.reply) → KeepsIn page past ⊎ SetsIn page past
        → KeepsIn page (e ∷ past) ⊎ SetsIn page (e ∷ past)
    by_slot (inr sets) any =
        inr (λ xs ys same. sets (contents_by xs past) (contents_by ys past) (by_long xs past ∙ (same ∙ sym (by_long ys past))))
    by_slot (inl keeps) (inl k) = inl ((k.0, keeps.0), λ xs. keeps.1 (contents_by xs past) ∙ k.1 xs)
    by_slot (inl keeps) (inr k) =
        inr (λ xs ys same. keeps.1 (contents_by xs past) ∙ (k xs ys same ∙ sym (keeps.1 (contents_by ys past))))

-- Where a life begins

-- what writes and trims left before it
abbrev left_before : Life → List Life → List PageData
left_before life earlier = contents_left (first_contents life earlier) (logs earlier)

-- each page holds that; or the power was lost since it was trimmed, and it holds what was written on it once
abbrev BeginsAs : Life → List Life → ℕ → Type 0
BeginsAs life earlier page =
    (bytes_of life.start.contents page ≡ bytes_of (left_before life earlier) page)
    ⊎ (((life.lost ≡ true) × IsTrimmedSinceLoss page earlier × WasUntold page life.from earlier) ⊎ IsTrimmedAndLost page earlier)
    × WasWritten page (bytes_of life.start.contents page) earlier

-- and so later on
abbrev HoldsAs : Life → List Life → Log → ℕ → Type 0
HoldsAs life earlier log page =
    (bytes_of (contents life.start log) page ≡ bytes_of (contents_left (first_contents life earlier) (log ∷ logs earlier)) page)
    ⊎ (IsTrimmedAndLost page (up_to log life ∷ earlier) × WasWritten page (bytes_of (contents life.start log) page) (up_to log life ∷ earlier))

-- all the lives have one plan
same_plan : (before life : Life) → (t : Bool) → FollowsBy t before life → life.start.plan ≡ before.start.plan
same_plan before life true f = ap (λ (s : Start). s.plan) f.mounts.starts.is
same_plan before life false f = f.plan

left_long : (life : Life) (earlier : List Life) → AreLives (life ∷ earlier) → length (left_before life earlier) ≡ length life.start.contents
left_long life [] h = refl
left_long life (before ∷ rest) h =
    by_long (left_before before rest) before.log
    ∙ (left_long before rest h.0
    ∙ (h.0.1.opens.pages ∙ (ap (λ (p : DiePlan). p.logical) (sym (same_plan before life life.lost h.2)) ∙ sym h.1.opens.pages)))

holds_as : (life : Life) (earlier : List Life) → AreLives (life ∷ earlier) → (page : ℕ) → BeginsAs life earlier page → (log : Log)
    → HoldsAs life earlier log page
holds_as life earlier h page begins log = by_log_of begins (alone_or_set page log)
  where
    now_is : bytes_of (contents life.start log) page ≡ bytes_of (contents_by life.start.contents log) page
    now_is = ap (λ (ps : List PageData). bytes_of ps page) (by_log life.start log)

    by_log_of : BeginsAs life earlier page → KeepsIn page log ⊎ SetsIn page log → HoldsAs life earlier log page
    by_log_of any (inr sets) = inl (now_is ∙ sets life.start.contents (left_before life earlier) (sym (left_long life earlier h)))
    by_log_of (inl same) (inl k) =
        inl (now_is ∙ (k.1 life.start.contents ∙ (same ∙ sym (k.1 (left_before life earlier)))))
    by_log_of (inr back) (inl k) = inr (
      (k.0, back.0),
      inr (inr (subst (λ (bytes : PageData). WasWritten page bytes earlier) (sym (now_is ∙ k.1 life.start.contents)) back.1)),
    )

-- Labels that a life begins with

abbrev AreWrittenFirst : Life → List Life → Type 0
AreWrittenFirst life earlier = AreWritten (λ page bytes. StoodAtFirst page bytes life earlier ⊎ WasWritten page bytes earlier) life.first.blocks

abbrev AreWrittenLast : Life → List Life → Type 0
AreWrittenLast life earlier =
    AreWritten (λ page bytes. WasWritten page bytes (life ∷ earlier)) (labels life.start life.first life.log).blocks

last_written : (life : Life) (earlier : List Life) → IsLife life → AreWrittenFirst life earlier → AreWrittenLast life earlier
last_written life earlier h k =
    log_written (λ page bytes. WasWritten page bytes (life ∷ earlier)) life.start life.first h.opens h.labelled (λ q x e. inr (k q x e)) life.log h.exact
    (λ page bytes w. inl w)

abbrev MeetsPart : DiePlan → Type 0
MeetsPart plan = MeetsBound plan × (plan.shape.blocks < 1024)

-- what is seen at a loss, and after each mount that was cut
shown : (before life : Life) → IsLife before → (f : FollowsLoss before life)
    → ShowsOnPart before.start.plan f.aside (cells before.start before.log) (contents before.start before.log)
    (labels before.start before.first before.log) life.from (counts_from before.start before.first before.log) f.seen
shown before life h f =
    shows_log before.start before.first h.opens h.labelled before.log h.exact life.from f.knows.may f.aside f.within f.seen f.sees

pub stands_since : (plan : DiePlan) (pages : List PageData) (from : ℕ → ℕ) (seen : Shown) (since : List Shown) → MeetsPart plan → StandsOnPart plan pages from seen
    → AreSeenSince plan from seen since → StandsOnPart plan pages from (seen_last seen since)
stands_since plan pages from seen [] m h k = h
stands_since plan pages from seen (last ∷ earlier) m h k =
    cut_on_part plan pages from (seen_last seen earlier) last m.0 m.1 (stands_since plan pages from seen earlier m h k.0) k.1

since_written : (W : ℕ → PageData → Type 0) (plan : DiePlan) (pages : List PageData) (from : ℕ → ℕ) (seen : Shown) (since : List Shown) → MeetsPart plan
    → StandsOnPart plan pages from seen → AreSeenSince plan from seen since → AreWritten W seen → AreWritten W (seen_last seen since)
since_written W plan pages from seen [] m h k w = w
since_written W plan pages from seen (last ∷ earlier) m h k w =
    again_written W (part_of plan) pages from (seen_last seen earlier) last (part_bound plan m.0 m.1)
    (stands_since plan pages from seen earlier m h k.0) k.1 (since_written W plan pages from seen earlier m h k.0 w)

-- the labels of the next life were seen
lost_written : (before : Life) (rest : List Life) (life : Life) → IsLife before → FollowsLoss before life → AreWrittenLast before rest
    → AreWritten (λ page bytes. WasWritten page bytes (before ∷ rest)) life.first.blocks
lost_written before rest life h f k =
    let plan = before.start.plan in
    let W : ℕ → PageData → Type 0 = λ page bytes. WasWritten page bytes (before ∷ rest) in
    let s = shown before life h f in
    let bound = h.opens.bound in
    let own = keeps_labels before.start before.first h.opens h.labelled before.log h.exact in
    let sound = cells_sound before.start h.opens before.log h.exact in
    let pages = found_pages plan life.from f.seen in
    let first_w : AreWritten W f.seen = (λ q x e.
    let r = part_stands f.aside (labels before.start before.first before.log) (omega (arith, f.within, own.blocks, sound.blocks)) q x (s.had q x e) in
    k r.0 x r.1) in
    let last : Shown = seen_last f.seen f.since in
    let there = stands_since plan pages life.from f.seen f.since (bound, f.less) s.stands f.again in
    let m = f.mounts in
    let lt = erased_within (part_of plan) pages life.from last m.erased there m.rule in
    let seen_w : AreWritten W last = since_written W plan pages life.from f.seen f.since (bound, f.less) s.stands f.again first_w in
    let left_w = left_written_on W (part_of plan) pages life.from last there m.erased m.next lt seen_w in
    let c : Cells = remounted_cells (part_of plan) life.from m.erased m.erases last in
    let l : Labels = remounted_labels m.erased last m.next in
    let r : IsRecoverable (part_of plan) c (found_pages plan life.from last) l life.from =
    subst (λ (ps : List PageData). IsRecoverable (part_of plan) c ps l life.from) (sym there.found)
    (remounts (part_of plan) pages life.from last there m.erased m.rule m.erases m.next m.above) in
    let wide = part_bound plan bound f.less in
    let end_w = acts_written W (part_of plan) c (found_pages plan life.from last) l life.from wide r m.acts m.may left_w in
    let end_r = all_go_on (part_of plan) c (found_pages plan life.from last) l life.from wide r m.acts m.may in
    subst (λ (first : Labels). AreWritten W first.blocks) (sym m.starts.labels)
    (die_written W plan.shape.blocks m.aside (labels_of (part_of plan) (found_pages plan life.from last) m.acts c l) (end_r.labelled.blocks ∙ end_r.sound.blocks) end_w)

first_written : (life : Life) (earlier : List Life) → AreLives (life ∷ earlier) → AreWrittenFirst life earlier
first_written life [] h = λ q x e. inl (q, x, e, refl, refl)
first_written life (before ∷ rest) h =
    by_begin life.lost h.2 (last_written before rest h.0.1 (first_written before rest h.0))
  where
    by_begin : (t : Bool) → FollowsBy t before life → AreWrittenLast before rest → AreWrittenFirst life (before ∷ rest)
    by_begin true f k q x e = inr (lost_written before rest life h.0.1 f k q x e)
    by_begin false f k q x e = inr (k q x (ap (λ (l : Labels). label_at l.blocks q) (sym f.labels) ∙ e))

-- A page that is placed nowhere, and has a label, was trimmed

abbrev FirstTrimmed : Life → List Life → ℕ → Type 0
FirstTrimmed life earlier page = (q : Place) (x : Label) → x.page ≡ page → place_of life.start.cells.places page ≡ None
    → label_at life.first.blocks q ≡ Some x → (x.serial < life.from page) ⊎ ((life.lost ≡ false) × IsTrimmedSinceLoss page earlier)

abbrev LastTrimmed : Life → List Life → ℕ → Type 0
LastTrimmed life earlier page = (q : Place) (x : Label) → x.page ≡ page → place_of (cells life.start life.log).places page ≡ None
    → label_at (labels life.start life.first life.log).blocks q ≡ Some x → (x.serial < life.from page) ⊎ IsTrimmedSinceLoss page (life ∷ earlier)

last_trimmed : (life : Life) (earlier : List Life) (page : ℕ) → IsLife life → FirstTrimmed life earlier page → LastTrimmed life earlier page
last_trimmed life earlier page h k q x own none stands =
    by_fate (was_trimmed life.start life.first h.opens h.labelled life.log h.exact page q x own none stands)
  where
    longer : LeavesAlone page life.log → (x.serial < life.from page) ⊎ ((life.lost ≡ false) × IsTrimmedSinceLoss page earlier)
        → (x.serial < life.from page) ⊎ IsTrimmedSinceLoss page (life ∷ earlier)
    longer alone (inl old) = inl old
    longer alone (inr t) = inr (inr (alone, t.0, t.1))

    by_fate : WasTrimmed life.start life.first life.log page x → (x.serial < life.from page) ⊎ IsTrimmedSinceLoss page (life ∷ earlier)
    by_fate (inl t) = inr (inl t)
    by_fate (inr a) = longer a.0 (k a.1.1.0 x own a.1.0 a.1.1.1)

first_trimmed : (life : Life) (earlier : List Life) → AreLives (life ∷ earlier) → (page : ℕ) → FirstTrimmed life earlier page
first_trimmed life [] h page = λ q x own none stands. inl (h.2.0.unplaced page none q x stands own)
first_trimmed life (before ∷ rest) h page =
    by_begin life.lost refl h.2 (last_trimmed before rest page h.0.1 (first_trimmed before rest h.0 page))
  where
    by_begin : (t : Bool) → life.lost ≡ t → FollowsBy t before life → LastTrimmed before rest page → FirstTrimmed life (before ∷ rest) page
    by_begin true lost f k q x own none stands = inl (f.mounts.starts.counts.unplaced page none q x stands own)
    by_begin false lost f k q x own none stands =
        renewed (k q x own (ap (λ (ps : List (Option Place)). place_of ps page) (sym f.places) ∙ none)
        (ap (λ (l : Labels). label_at l.blocks q) (sym f.labels) ∙ stands))
      where
        renewed : (x.serial < before.from page) ⊎ IsTrimmedSinceLoss page (before ∷ rest)
            → (x.serial < life.from page) ⊎ ((life.lost ≡ false) × IsTrimmedSinceLoss page (before ∷ rest))
        renewed (inl old) = inl (omega (arith, old, f.from page))
        renewed (inr t) = inr (lost, t)

-- What the next life finds

-- what the page held, or where it was trimmed since the last loss, what was written on it once
abbrev StaysAs : Life → Life → List Life → ℕ → Type 0
StaysAs life before rest page =
    (bytes_of life.start.contents page ≡ bytes_of (contents before.start before.log) page)
    ⊎ ((life.lost ≡ true) × IsTrimmedSinceLoss page (before ∷ rest) × WasUntold page life.from (before ∷ rest)
    × WasWritten page (bytes_of life.start.contents page) (before ∷ rest))

lost_stays : (before : Life) (rest : List Life) (life : Life) → AreLives (before ∷ rest) → FollowsLoss before life → life.lost ≡ true → (page : ℕ)
    → StaysAs life before rest page
lost_stays before rest life h f lost page = by_page (cases_lt page plan.logical)
  where
    plan : DiePlan
    plan = before.start.plan

    c : Cells
    c = cells before.start before.log

    l : Labels
    l = labels before.start before.first before.log

    s : ShowsOnPart before.start.plan f.aside (cells before.start before.log) (contents before.start before.log)
        (labels before.start before.first before.log) life.from (counts_from before.start before.first before.log) f.seen
    s = shown before life h.1 f

    there : StandsOnPart before.start.plan (found_pages before.start.plan life.from f.seen) life.from (seen_last f.seen f.since)
    there = stands_since before.start.plan (found_pages before.start.plan life.from f.seen) life.from f.seen f.since (h.1.opens.bound, f.less) s.stands f.again

    found : life.start.contents ≡ found_pages before.start.plan life.from f.seen
    found = ap (λ (t : Start). t.contents) f.mounts.starts.is ∙ there.found

    aside_within : f.aside ≤ length (labels before.start before.first before.log).blocks
    aside_within =
        let own = keeps_labels before.start before.first h.1.opens h.1.labelled before.log h.1.exact in
        let sound = cells_sound before.start h.1.opens before.log h.1.exact in
        omega (arith, f.within, own.blocks, sound.blocks)

    at_page : page < before.start.plan.logical → bytes_of life.start.contents page ≡ mounted_content (life.from page) page f.seen
    at_page lt = ap (λ (ps : List PageData). bytes_of ps page) found ∙ content_at life.from before.start.plan.logical f.seen page lt

    placed_there : (o : Option Place) → place_of (cells before.start before.log).places page ≡ o
        → place_of (part_cells before.start.plan.shape.blocks f.aside (cells before.start before.log)).places page
        ≡ option_map (renumbered (on_part before.start.plan.shape.blocks f.aside)) o
    placed_there o e = places_at (on_part before.start.plan.shape.blocks f.aside) (cells before.start before.log).places page
        ∙ ap (option_map (renumbered (on_part before.start.plan.shape.blocks f.aside))) e

    trimmed_then : (x : Label) → before.from page ≤ x.serial → WasUntold page life.from (before ∷ rest)
        → WasWritten page (bytes_of life.start.contents page) (before ∷ rest)
        → (x.serial < before.from page) ⊎ IsTrimmedSinceLoss page (before ∷ rest) → StaysAs life before rest page
    trimmed_then x counts untold was (inl old) = absurd (omega (arith, counts, old))
    trimmed_then x counts untold was (inr t) = inr (lost, t, untold, was)

    -- it comes back
    comes_back : place_of (cells before.start before.log).places page ≡ None → page < before.start.plan.logical → (q : Place)
        → mounted_place (life.from page) page f.seen ≡ Some q → StaysAs life before rest page
    comes_back none lt q e =
        let u = s.finds.unplaced page q (placed_there None none) e in
        let r = part_stands f.aside (labels before.start before.first before.log) aside_within q u.0 (s.had q u.0 u.1) in
        let was = last_written before rest h.1 (first_written before rest h) r.0 u.0 r.1 in
        let bytes : bytes_of life.start.contents page ≡ u.0.bytes = at_page lt ∙ u.5 in
        trimmed_then u.0 (omega (arith, u.3, f.knows.grows page)) (r.0, u.0, r.1, u.2, u.3)
        (subst (λ (b : PageData). WasWritten page b (before ∷ rest)) (sym bytes) (subst (λ n. WasWritten n u.0.bytes (before ∷ rest)) u.2 was))
        (last_trimmed before rest page h.1 (first_trimmed before rest h page) r.0 u.0 u.2 none r.1)

    by_found : place_of (cells before.start before.log).places page ≡ None → page < before.start.plan.logical → (o : Option Place)
        → mounted_place (life.from page) page f.seen ≡ o → StaysAs life before rest page
    by_found none lt None e =
        inl (at_page lt ∙ (ap (bytes_at f.seen) e ∙ sym (stay_blank before.start h.1.opens before.log h.1.exact page none)))
    by_found none lt (Some q) e = comes_back none lt q e

    by_place : page < before.start.plan.logical → (o : Option Place) → place_of (cells before.start before.log).places page ≡ o
        → StaysAs life before rest page
    by_place lt None e = by_found e lt (mounted_place (life.from page) page f.seen) refl
    by_place lt (Some q) e =
        inl (at_page lt ∙ s.finds.contents page (renumbered (on_part before.start.plan.shape.blocks f.aside) q) (placed_there (Some q) e))

    by_page : (page < before.start.plan.logical) ⊎ (before.start.plan.logical ≤ page) → StaysAs life before rest page
    by_page (inl lt) = by_place lt (place_of (cells before.start before.log).places page) refl
    by_page (inr past) =
        inl (ap (λ (ps : List PageData). bytes_of ps page) found
        ∙ (get_or_past (found_pages before.start.plan life.from f.seen) page blank_page (omega (arith, past, contents_long life.from before.start.plan.logical f.seen))
        ∙ sym (get_or_past (contents before.start before.log) page blank_page
        (omega (arith, past, contents_len before.start before.log, h.1.opens.pages)))))

pub lives_stay : (life before : Life) (rest : List Life) → AreLives (life ∷ before ∷ rest) → (page : ℕ) → StaysAs life before rest page
lives_stay life before rest h page = by_begin life.lost refl h.2
  where
    by_begin : (t : Bool) → life.lost ≡ t → FollowsBy t before life → StaysAs life before rest page
    by_begin true lost f = lost_stays before rest life h.0 f lost page
    by_begin false lost f = inl (ap (λ (ps : List PageData). bytes_of ps page) f.contents)

begins_as : (life : Life) (earlier : List Life) → AreLives (life ∷ earlier) → (page : ℕ) → BeginsAs life earlier page
begins_as life [] h page = inl refl
begins_as life (before ∷ rest) h page =
    by_end (lives_stay life before rest h page) (holds_as before rest h.0 page (begins_as before rest h.0 page) before.log)
  where
    by_end : StaysAs life before rest page → HoldsAs before rest before.log page → BeginsAs life (before ∷ rest) page
    by_end (inl same) (inl e) = inl (same ∙ e)
    by_end (inl same) (inr t) =
        inr (inr t.0, subst (λ (bytes : PageData). WasWritten page bytes (before ∷ rest)) (sym same) t.1)
    by_end (inr back) any = inr (inl (back.0, back.1, back.2), back.3)

-- Reads

pub reads_last : (life : Life) (earlier : List Life) → AreLives (life ∷ earlier) → (s : SlotReply) (past : Log) (number page : ℕ) (bytes : PageData)
    → HasSlot life.log s past → s.ran ≡ Some (number, does.Read page bytes)
    → (bytes ≡ get_or (contents_left (first_contents life earlier) (past ∷ logs earlier)) page blank_page)
    ⊎ (IsTrimmedAndLost page (up_to past life ∷ earlier) × WasWritten page bytes (up_to past life ∷ earlier))
reads_last life earlier h s past number page bytes slot ran =
    by_holds (holds_as life earlier h page (begins_as life earlier h page) past)
  where
    says : bytes ≡ get_or (contents life.start past) page blank_page
    says = (legal_act life.start life.log s past number (does.Read page bytes) (exact_legal life.start h.1.opens life.log h.1.exact) slot ran).1.says

    by_holds : HoldsAs life earlier past page → (bytes ≡ get_or (contents_left (first_contents life earlier) (past ∷ logs earlier)) page blank_page)
        ⊎ (IsTrimmedAndLost page (up_to past life ∷ earlier) × WasWritten page bytes (up_to past life ∷ earlier))
    by_holds (inl e) = inl (says ∙ e)
    by_holds (inr t) = inr (t.0, subst (λ (b : PageData). WasWritten page b (up_to past life ∷ earlier)) (sym says) t.1)

pub lives_hold : (life : Life) (earlier : List Life) → AreLives (life ∷ earlier) → (page : ℕ)
    → (content life.start life.log page ≡ get_or (contents_left (first_contents life earlier) (logs (life ∷ earlier))) page blank_page)
    ⊎ (IsTrimmedAndLost page (life ∷ earlier) × WasWritten page (content life.start life.log page) (life ∷ earlier))
lives_hold life earlier h page = holds_as life earlier h page (begins_as life earlier h page) life.log

pub labels_written : (life : Life) (earlier : List Life) → AreLives (life ∷ earlier) → (place : Place) (x : Label)
    → label_at (labels life.start life.first life.log).blocks place ≡ Some x → WasWritten x.page x.bytes (life ∷ earlier)
labels_written life earlier h place x e = last_written life earlier h.1 (first_written life earlier h) place x e

pub labels_trimmed : (life : Life) (earlier : List Life) → AreLives (life ∷ earlier) → (place : Place) (x : Label)
    → label_at (labels life.start life.first life.log).blocks place ≡ Some x → place_of (cells life.start life.log).places x.page ≡ None
    → (x.serial < life.from x.page) ⊎ IsTrimmedSinceLoss x.page (life ∷ earlier)
labels_trimmed life earlier h place x e none = last_trimmed life earlier x.page h.1 (first_trimmed life earlier h x.page) place x refl none e

-- Where nothing was trimmed

no_trim : (page : ℕ) (ran : Carried) → IsNoTrim ran → TrimsPage page ran → ⊥
no_trim page None h t = t
no_trim page (Some (n, does.Read p b)) h t = t
no_trim page (Some (n, does.Write p b)) h t = t
no_trim page (Some (n, does.Trim p)) h t = h
no_trim page (Some (n, does.CopyRead p)) h t = t
no_trim page (Some (n, does.CopyProgram p)) h t = t
no_trim page (Some (n, does.Erase b)) h t = t

log_trimless : (page : ℕ) (log : Log) → NothingTrimmed log → LeavesTrimmed page log → ⊥
log_trimless page [] h t = t
log_trimless page (e ∷ past) h (inl t) = no_trim page (ran_by e.reply) h.1 t
log_trimless page (e ∷ past) h (inr t) = log_trimless page past h.0 t.0

lives_trimless : (page : ℕ) (lives : List Life) → AreTrimless lives → IsTrimmedSinceLoss page lives → ⊥
lives_trimless page [] h t = t
lives_trimless page (life ∷ earlier) h (inl t) = log_trimless page life.log h.1 t
lives_trimless page (life ∷ earlier) h (inr t) = lives_trimless page earlier h.0 t.2

lost_trimless : (page : ℕ) (lives : List Life) → AreTrimless lives → IsTrimmedAndLost page lives → ⊥
lost_trimless page [] h t = t
lost_trimless page (life ∷ earlier) h t = by_when (lost_trimless page earlier h.0) t.1
  where
    by_when : (IsTrimmedAndLost page earlier → ⊥) → ((life.lost ≡ true) × IsTrimmedSinceLoss page earlier × WasUntold page life.from earlier) ⊎ IsTrimmedAndLost page earlier → ⊥
    by_when again (inl k) = lives_trimless page earlier h.0 k.1
    by_when again (inr k) = again k

pub reads_untrimmed : (life : Life) (earlier : List Life) → AreLives (life ∷ earlier) → AreTrimless earlier → (s : SlotReply) (past : Log)
    (number page : ℕ) (bytes : PageData) → HasSlot life.log s past → s.ran ≡ Some (number, does.Read page bytes)
    → bytes ≡ get_or (contents_left (first_contents life earlier) (past ∷ logs earlier)) page blank_page
reads_untrimmed life earlier h none s past number page bytes slot ran = by_case (reads_last life earlier h s past number page bytes slot ran)
  where
    by_when : ((life.lost ≡ true) × IsTrimmedSinceLoss page earlier × WasUntold page life.from earlier) ⊎ IsTrimmedAndLost page earlier → ⊥
    by_when (inl k) = lives_trimless page earlier none k.1
    by_when (inr k) = lost_trimless page earlier none k

    by_case : (bytes ≡ get_or (contents_left (first_contents life earlier) (past ∷ logs earlier)) page blank_page)
        ⊎ (IsTrimmedAndLost page (up_to past life ∷ earlier) × WasWritten page bytes (up_to past life ∷ earlier))
        → bytes ≡ get_or (contents_left (first_contents life earlier) (past ∷ logs earlier)) page blank_page
    by_case (inl e) = e
    by_case (inr t) = absurd (by_when t.0.1)

-- The next life

-- by a renewal
pub renewed_follows : (life : Life) (earlier : List Life) → AreLives (life ∷ earlier) → IsOpening (renewed_start life.start life.log)
    → AreLives (renewed_life life ∷ life ∷ earlier)
renewed_follows life earlier h opens = (
  h,
  record {
    opens = opens;
    labelled = renewed_labelled life.start life.first h.1.opens h.1.labelled life.log h.1.exact;
    exact = tt;
  },
  record { plan = refl; contents = refl; places = refl; labels = refl; from = λ page. refl },
)

pub keeps_all_promises : (life : Life) (earlier : List Life) → AreLives (life ∷ earlier) → KeepsPromises life.start life.log
keeps_all_promises life earlier h = keeps_promises life.start h.1.opens life.log h.1.exact

ended_labelled : (start : Start) (first : Labels) → IsOpening start → IsLabelled start first → (lives : Lives) → HaveEnded start lives
    → IsLabelled (start_after start lives) (labels_after_all start first lives)
ended_labelled start first opens labelled [] h = labelled
ended_labelled start first opens labelled (log ∷ earlier) h =
    renewed_labelled (start_after start earlier) (labels_after_all start first earlier) (ended_opens start opens earlier h.0)
    (ended_labelled start first opens labelled earlier h.0) log h.1

-- lives without a loss are lives
pub all_renewed : (start : Start) (first : Labels) → IsOpening start → IsLabelled start first → AreUntrimmed start.cells first.blocks → (lives : Lives)
    → die.AreLives start lives → AreLives (renewed_lives start first lives)
all_renewed start first opens labelled untrimmed [] h = tt
all_renewed start first opens labelled untrimmed (log ∷ []) h =
    (tt, record { opens = opens; labelled = labelled; exact = h.1 }, (untrimmed, none_known start.cells first))
all_renewed start first opens labelled untrimmed (log ∷ before ∷ earlier) h = (
  all_renewed start first opens labelled untrimmed (before ∷ earlier) (h.0.0, h.0.1),
  record {
    opens = ended_opens start opens (before ∷ earlier) h.0;
    labelled = ended_labelled start first opens labelled (before ∷ earlier) h.0;
    exact = h.1;
  },
  record { plan = refl; contents = refl; places = refl; labels = refl; from = λ page. refl },
)

-- by a mount
full_by : (plan : DiePlan) (c : Cells) (pages : List PageData) (free : ℕ) (start : Start) → start ≡ mounted_start plan c pages (full_accounts plan free)
    → start.accounts.balances ≡ plan.caps
full_by plan c pages free start is = ap (λ (t : Start). t.accounts.balances) is

next_life : (life : Life) (earlier : List Life) → AreLives (life ∷ earlier) → (aside : ℕ) → aside ≤ life.start.plan.shape.blocks
    → life.start.plan.shape.blocks < 1024 → (known : ℕ → ℕ) → MayKnow life known → (seen : Shown)
    → MaySeeAtLoss life aside seen → (since : List Shown) → AreSeenSince life.start.plan known seen since
    → (next : Life) × BeginsNext life earlier known (seen_last seen since) next
next_life life earlier h aside le less known m seen w since again =
    let plan = life.start.plan in
    let bound = h.1.opens.bound in
    let s = shows_log life.start life.first h.1.opens h.1.labelled life.log h.1.exact known m.may aside le seen w in
    let last : Shown = seen_last seen since in
    let there = stands_since plan (found_pages plan known seen) known seen since (bound, less) s.stands again in
    let own : StandsOnPart plan (found_pages plan known last) known last = subst (λ (ps : List PageData). StandsOnPart plan ps known last) (sym there.found) there in
    let e = can_erase (part_of plan) (found_pages plan known last) known last own in
    let n = some_above last known (labels life.start life.first life.log).next m.may.below in
    let k = starts_beside plan (found_pages plan known last) known last bound less own e.0 e.1 (λ b. 0) n.0 n.1 in
    let mounts : MountsTo plan known last k.start k.first = record {
      erased = e.0;
      rule = e.1;
      next = n.0;
      above = n.1;
      erases = λ b. 0;
      acts = k.acts;
      may = k.may;
      aside = k.aside;
      starts = k.starts;
    } in
    let begun : Life = record { start = k.start; first = k.first; from = known; log = []; lost = true } in (
      begun,
      record {
        lives = (
          h,
          record { opens = k.starts.opens; labelled = k.starts.labelled; exact = tt },
          record { aside = aside; within = le; less = less; seen = seen; sees = w; knows = m; since = since; again = again; mounts = mounts },
        );
        lost = refl;
        begun = refl;
        from = refl;
        full = full_by plan k.start.cells (found_pages plan known last) (sum_by (free_in plan) k.start.cells.blocks) k.start k.starts.is;
        mounts = mounts;
        few = k.few;
        rounds = k.rounds;
      },
    )

pub next_after : ForAllLives (λ life earlier aside. (known : ℕ → ℕ) → MayKnow life known → (seen : Shown) → MaySeeAtEnd life aside seen
    → (since : List Shown) → AreSeenSince life.start.plan known seen since
    → (next : Life) × BeginsNext life earlier known (seen_last seen since) next)
next_after life earlier h aside le less known m seen w since again =
    next_life life earlier h aside le less known m seen (at_end life.start life.first h.1.opens h.1.labelled life.log h.1.exact aside seen w) since again

-- what the mount before a life knew, the next one may know

begins_may : (life : Life) (earlier : List Life) → AreLives (life ∷ earlier) → MayCountFrom life.start.cells life.first life.from
begins_may life [] h = h.2.1
begins_may life (before ∷ rest) h =
    by_begin life.lost h.2
    (known_still before.start before.first h.0.1.opens h.0.1.labelled before.from (begins_may before rest h.0) before.log h.0.1.exact)
  where
    by_begin : (t : Bool) → FollowsBy t before life
        → MayCountFrom (cells before.start before.log) (labels before.start before.first before.log) before.from
        → MayCountFrom life.start.cells life.first life.from
    by_begin true f k = record { placed = f.mounts.starts.counts.placed; below = λ page. lost_below page f }
      where
        lost_below : (page : ℕ) → FollowsLoss before life → life.from page ≤ life.first.next
        lost_below page g =
            let m = g.mounts in
            omega (
              arith,
              m.above.counts page,
              acts_next (part_of before.start.plan) (found_pages before.start.plan life.from (seen_last g.seen g.since)) m.acts
                  (remounted_cells (part_of before.start.plan) life.from m.erased m.erases (seen_last g.seen g.since))
                  (remounted_labels m.erased (seen_last g.seen g.since) m.next),
              ap (λ (l : Labels). l.next) m.starts.labels,
            )
    by_begin false f k = record {
      placed = λ page q x e stands.
          let old = k.placed page q x (ap (λ (ps : List (Option Place)). place_of ps page) (sym f.places) ∙ e)
          (ap (λ (l : Labels). label_at l.blocks q) (sym f.labels) ∙ stands) in
          omega (arith, old, f.from page);
      below = λ page. omega (arith, k.below page, f.from page, ap (λ (l : Labels). l.next) f.labels);
    }

pub knows_still : (life : Life) (earlier : List Life) → AreLives (life ∷ earlier) → MayKnow life life.from
knows_still life earlier h = record {
  may = known_still life.start life.first h.1.opens h.1.labelled life.from (begins_may life earlier h) life.log h.1.exact;
  grows = λ page. omega arith;
}

-- before its last call they were lives, too
earlier_lives : (life : Life) (earlier : List Life) (e : Entry) (past : Log) → life.log ≡ e ∷ past → AreLives (life ∷ earlier)
    → AreLives (up_to past life ∷ earlier)
earlier_lives life earlier e past is h =
    let exact : IsExact life.start (e ∷ past) = subst (IsExact life.start) is h.1.exact in
    (h.0, record { opens = h.1.opens; labelled = h.1.labelled; exact = exact.0 }, follows earlier h.2)
  where
    by_begin : (before : Life) → (t : Bool) → FollowsBy t before life → FollowsBy t before (up_to past life)
    by_begin before true f = record {
      aside = f.aside;
      within = f.within;
      less = f.less;
      seen = f.seen;
      sees = f.sees;
      knows = f.knows;
      since = f.since;
      again = f.again;
      mounts = f.mounts;
    }
    by_begin before false f = record { plan = f.plan; contents = f.contents; places = f.places; labels = f.labels; from = f.from }

    follows : (xs : List Life) → FollowsNewest xs life → FollowsNewest xs (up_to past life)
    follows [] f = f
    follows (before ∷ rest) f = by_begin before life.lost f

pub next_during : ForAllLives (λ life earlier aside. (e : Entry) (past : Log) → life.log ≡ e ∷ past → (known : ℕ → ℕ)
    → MayKnow (up_to past life) known → MayKnow life known → (seen : Shown) → MaySeeInCall life e past aside seen
    → (since : List Shown) → AreSeenSince life.start.plan known seen since
    → ((next : Life) × BeginsNext (up_to past life) earlier known (seen_last seen since) next)
    ⊎ ((next : Life) × BeginsNext life earlier known (seen_last seen since) next))
next_during life earlier h aside le less e past is known m then seen w since again =
    by_case (in_call life.start life.first h.1.opens h.1.labelled e past (subst (IsExact life.start) is h.1.exact) aside seen w)
  where
    by_case : MaySeeAtLoss (up_to past life) aside seen ⊎ MaySeeAtLoss (up_to (e ∷ past) life) aside seen
        → ((next : Life) × BeginsNext (up_to past life) earlier known (seen_last seen since) next)
        ⊎ ((next : Life) × BeginsNext life earlier known (seen_last seen since) next)
    by_case (inl v) = inl (next_life (up_to past life) earlier (earlier_lives life earlier e past is h) aside le less known m seen v since again)
    by_case (inr v) =
        inr (next_life life earlier h aside le less known then seen (subst (λ (log : Log). MaySeeAtLoss (up_to log life) aside seen) (sym is) v) since again)

-- it is stocked

full_balances : (before : Life) (earlier : List Life) (known : ℕ → ℕ) (seen : Shown) (life : Life) → BeginsNext before earlier known seen life → life.start.accounts.balances ≡ life.start.plan.caps
full_balances before earlier known seen life b = b.full ∙ ap (λ (p : DiePlan). p.caps) (sym (same_plan before life life.lost b.lives.2))

pub next_terms : (before : Life) (earlier : List Life) (known : ℕ → ℕ) (seen : Shown) (life : Life) → BeginsNext before earlier known seen life → (terms : Terms) → AreStocked life.start terms
next_terms before earlier known seen life b terms = full_starts life.start terms (balances_full life.start (full_balances before earlier known seen life b))

pub next_times : (before : Life) (earlier : List Life) (known : ℕ → ℕ) (seen : Shown) (life : Life) → BeginsNext before earlier known seen life → (times : Times) → timed.AreStocked life.start times
next_times before earlier known seen life b times task lt =
    omega (arith, ap (λ (xs : List ℕ). (times_of times task).period * get_or xs task 0) (full_balances before earlier known seen life b))
