-- What a die answers, and which logs are exact.
use Rattle.std.specs.Prelude.{◌≡◌, ℕ, zero, suc, ◌&&◌, ◌||◌, ◌==◌, not, nat_lt, nat_le, Bool, true, false, if◌then◌else◌, List, [], ◌∷◌}
use Rattle.std.specs.Prelude.{◌++◌, length, Option, Some, None, slice_get, slice_index, unwrap_or, is_some, filter, find, option_map}
use Rattle.std.specs.List.{list_any, reduce, range_with_len, last_or}
use Rattle.slot_types.specs.declared.plans.DiePlan.{DiePlan}
use Rattle.slot_types.specs.declared.limits.TheConstants.{MAX_SLOT, MAX_JOBS, MAX_OPS}
use Rattle.slot_types.specs.declared.acts.Act.{Act}
use Rattle.slot_types.specs.declared.acts.Act.TheVariants as does
use Rattle.slot_types.specs.declared.events.Op.{Op}
use Rattle.slot_types.specs.declared.events.Op.TheVariants as asks
use Rattle.slot_types.specs.declared.events.Event.{Event}
use Rattle.slot_types.specs.declared.events.Event.TheVariants as events
use Rattle.slot_types.specs.declared.replies.Reply.{Reply}
use Rattle.slot_types.specs.declared.replies.Reply.TheVariants as replies
use Rattle.slot_types.specs.declared.replies.SlotReply.{SlotReply}
use Rattle.slot_types.specs.declared.replies.Waived.{Waived}
use Rattle.slot_types.specs.declared.refusals.Refusal.{Refusal}
use Rattle.slot_types.specs.declared.refusals.Refusal.TheVariants as because
use Rattle.die_log.specs.Model.Log.{Log, Job, jobs, now, acts, work}
use Rattle.die_log.specs.Model.Flash.{Cells, cells, content, block_at, is_closed, valid, valid_pages, block_of_page}
use Rattle.slot_types.specs.Operations.{page_of, writes}
use Rattle.die_log.specs.Model.Work.{are_all, is_done, ready, least, is_collecting, victim_of}
use Rattle.plan_rules.specs.Accounts.{Accounts, given_of}
use Rattle.plan_rules.specs.Accounts as moves
use Rattle.die_log.specs.Model.Accounts.{accounts}
use Rattle.die_log.specs.Model.Start.{Start}

-- Refusals

-- the first page of these operations that the die doesn't have
abbrev pub bad_page : DiePlan → List Op → Option ℕ
bad_page plan ops = option_map page_of (find (λ op. nat_le plan.logical (page_of op)) ops)

abbrev pub balance : Start → Log → ℕ → ℕ
balance start past task = slice_index (accounts start past).balances task

-- the first whose condition stands
abbrev pub first_that_holds : List (Bool × Refusal) → Option Refusal
first_that_holds [] = None
first_that_holds (c ∷ rest) = if c.0 then Some c.1 else first_that_holds rest

-- what refuses an event, in the order in which it is looked at
abbrev pub refusals : Start → Log → Event → List (Bool × Refusal)
refusals start past (events.Submit task release due ops) =
    (nat_le (length start.plan.caps) task, because.UnknownTask)
    ∷ (length ops == 0, because.EmptyJob)
    ∷ (nat_lt MAX_OPS (length ops), because.TooManyOps)
    ∷ (is_some (bad_page start.plan ops), because.BadPage (unwrap_or (bad_page start.plan ops) 0))
    ∷ (nat_lt release (now past), because.ReleasePast (now past))
    ∷ (nat_le due release || nat_lt MAX_SLOT due, because.BadDue)
    ∷ (nat_le MAX_JOBS (length (jobs past)), because.JobsFull)
    ∷ (nat_lt (balance start past task) (writes ops), because.NoTokens (balance start past task) (writes ops))
    ∷ []
refusals start past (events.Collect task release due) =
    (nat_le (length start.plan.caps) task, because.UnknownTask)
    ∷ (nat_lt release (now past), because.ReleasePast (now past))
    ∷ (nat_le due release || nat_lt MAX_SLOT due, because.BadDue)
    ∷ (is_collecting start.plan past task, because.CollectorBusy)
    ∷ (nat_le MAX_JOBS (length (jobs past)), because.JobsFull)
    ∷ []
refusals start past events.Slot = (nat_le MAX_SLOT (now past), because.ClockEnd) ∷ []

-- why the event is refused, if it is
abbrev pub refusal_of : Start → Log → Event → Option Refusal
refusal_of start past event = first_that_holds (refusals start past event)

-- The head, and the waivers before it

-- the collections that are waived, and then the head, if there is one
pub record Choice : Type 0 where
  pub waived : List Waived
  pub head : Option Job

-- a collection that has not begun, while spare is at least alpha
abbrev pub is_waivable : DiePlan → Log → Accounts → Job → Bool
is_waivable plan past a j = j.collects && (work j.number past == 0) && nat_le plan.alpha a.spare

abbrev pub without : Job → List Job → List Job
without j waiting = filter (λ i. not (i.number == j.number)) waiting

abbrev pub with_waiver : Waived → Choice → Choice
with_waiver w c = record c { waived = w ∷ c.waived }

abbrev pub nobody : Choice
nobody = record { waived = []; head = None }

-- the one with the least key is the head; or it is waived, and the rest is chosen among again
abbrev pub head_or_waiver : Accounts → List Job → (Accounts → List Job → Choice) → Job → Bool → Choice
head_or_waiver a waiting again j true =
    with_waiver (record { number = j.number; given = given_of a j.task }) (again (moves.accounts_after_waiver a j.task) (without j waiting))
head_or_waiver a waiting again j false = record { waived = []; head = Some j }

abbrev pub choice_by_head : DiePlan → Log → Accounts → List Job → (Accounts → List Job → Choice) → Option Job → Choice
choice_by_head plan past a waiting again None = nobody
choice_by_head plan past a waiting again (Some j) = head_or_waiver a waiting again j (is_waivable plan past a j)

-- there are as many rounds as jobs and collections that wait, so they don't run out
abbrev pub choice_among : DiePlan → Log → ℕ → Accounts → List Job → Choice
choice_among plan past zero a waiting = nobody
choice_among plan past (suc rounds) a waiting = choice_by_head plan past a waiting (choice_among plan past rounds) (least waiting)

abbrev pub choice : Start → Log → Choice
choice start past = let waiting = ready start.plan past in choice_among start.plan past (length waiting) (accounts start past) waiting

-- Acts

abbrev pub act_of_op : Start → Log → Option Op → Option Act
act_of_op start past None = None
act_of_op start past (Some (asks.Read page)) = Some (does.Read page (content start past page))
act_of_op start past (Some (asks.Write page bytes)) = Some (does.Write page bytes)
act_of_op start past (Some (asks.Trim page)) = Some (does.Trim page)

-- begun and not done
abbrev pub is_running : DiePlan → Log → Job → Bool
is_running plan log j = j.collects && nat_lt 0 (work j.number log) && not (is_done plan log j)

abbrev pub is_block : ℕ → Option ℕ → Bool
is_block b None = false
is_block b (Some v) = v == b

-- a running collection collects the block
abbrev pub is_collected : Start → Log → ℕ → Bool
is_collected start past b = list_any (λ j. is_running start.plan past j && is_block b (victim_of start j.number past)) (jobs past)

-- the closed blocks that nobody collects
abbrev pub candidates : Start → Log → List ℕ
candidates start past =
    let c = cells start past in
    filter (λ b. is_closed start.plan (block_at c b) && not (is_collected start past b)) (range_with_len 0 start.plan.shape.blocks)

-- fewer valid pages, or as many and fewer finished erases
abbrev pub goes_before : Cells → ℕ → ℕ → Bool
goes_before c b best =
    nat_lt (valid c b) (valid c best) || ((valid c b == valid c best) && nat_lt (block_at c b).erases (block_at c best).erases)

-- of these the one with the fewest valid pages, then with the fewest erases, then the smaller number
abbrev pub victim : Start → Log → Option ℕ
victim start past =
    let c = cells start past in
    reduce (λ best b. if goes_before c b best then b else best) (candidates start past)

-- the block of a collection that is the head
abbrev pub block_for : Start → Log → Job → Option ℕ
block_for start past j = if work j.number past == 0 then victim start past else victim_of start j.number past

-- the page in the buffer of a collection with these acts
abbrev pub buffer_after : Option Act → Option ℕ
buffer_after (Some (does.CopyRead page)) = Some page
buffer_after _ = None

abbrev pub is_placed_in : Cells → ℕ → Option ℕ → Bool
is_placed_in c b None = false
is_placed_in c b (Some page) = is_block b (block_of_page c page)

abbrev pub read_or_erase : ℕ → List ℕ → Act
read_or_erase b [] = does.Erase b
read_or_erase b (page ∷ pages) = does.CopyRead page

-- it programs the page in its buffer if that is still placed in the block; else it reads the block's first placed
-- page; else it does one slot of the erase
abbrev pub collect_act : DiePlan → Cells → Option ℕ → Option ℕ → Option Act
collect_act plan c buffer None = None
collect_act plan c buffer (Some b) =
    if is_placed_in c b buffer
    then Some (does.CopyProgram (unwrap_or buffer 0))
    else Some (read_or_erase b (valid_pages plan c b))

-- what the head does in the slot
abbrev pub act_for : Start → Log → Job → Option Act
act_for start past j =
    if j.collects
    then collect_act start.plan (cells start past) (buffer_after (last_or None (acts j.number past))) (block_for start past j)
    else act_of_op start past (slice_get j.ops (work j.number past))

-- Replies

abbrev pub reply_with : DiePlan → Log → List Waived → Job → Option Act → SlotReply
reply_with plan past waived j None = record { slot = now past; waived = waived; ran = None; finished = None }
reply_with plan past waived j (Some act) =
    let number = j.number in
    record {
      slot = now past;
      waived = waived;
      ran = Some (number, act);
      finished = if are_all plan j (acts j.number past ++ act ∷ []) then Some number else None;
    }

abbrev pub slot_reply : Start → Log → List Waived → Option Job → SlotReply
slot_reply start past waived None = record { slot = now past; waived = waived; ran = None; finished = None }
slot_reply start past waived (Some j) = reply_with start.plan past waived j (act_for start past j)

-- what an accepted event is answered
abbrev pub reply_if_accepted : Start → Log → Event → Reply
reply_if_accepted start past (events.Submit task release due ops) = replies.Taken (length (jobs past))
reply_if_accepted start past (events.Collect task release due) = replies.Taken (length (jobs past))
reply_if_accepted start past events.Slot = let c = choice start past in replies.Slot (slot_reply start past c.waived c.head)

abbrev pub answer_by : Start → Log → Event → Option Refusal → Reply
answer_by start past event None = reply_if_accepted start past event
answer_by start past event (Some refusal) = replies.Refused refusal

-- what an event is answered after these calls
unfoldable pub answer : Start → Log → Event → Reply
answer start past event = answer_by start past event (refusal_of start past event)

abbrev pub IsAccepted : Reply → Type 0
IsAccepted (replies.Refused refusal) = ⊥
IsAccepted _ = Unit {0}

-- each entry is what the die answers after the entries before it, and no refusal
abbrev pub IsExact : Start → Log → Type 0
IsExact start [] = Unit {0}
IsExact start (e ∷ past) = IsExact start past × (e.reply ≡ answer start past e.event) × IsAccepted e.reply

-- Runs

abbrev pub with_answer : ℕ → Event → Reply → Log → Log
with_answer caller event (replies.Refused refusal) past = past
with_answer caller event reply past = record { caller = caller; event = event; reply = reply } ∷ past

-- the log after one call
abbrev pub after_call : Start → Log → ℕ × Event → Log
after_call start past call = with_answer call.0 call.1 (answer start past call.1) past

-- the log after these calls, the first of which comes first
abbrev pub run : Start → Log → List (ℕ × Event) → Log
run start past [] = past
run start past (call ∷ calls) = run start (after_call start past call) calls
