-- Which logs are legal: said entry by entry, without the rules that choose the head, the victim or the waivers.
use Rattle.std.specs.Prelude.{◌≡◌, ◌≢◌, ℕ, ◌<◌, ◌≤◌, ◌==◌, ◌||◌, Bool, true, false, if◌then◌else◌, List, [], ◌∷◌, ◌++◌, length, Some, None}
use Rattle.std.specs.Prelude.{slice_get, count_by, Contains, MatchBool, MatchOption, IsTrue, IsFalse}
use Rattle.std.specs.List.{list_any, last_or}
use Rattle.slot_types.specs.declared.plans.DiePlan.{DiePlan}
use Rattle.slot_types.specs.declared.limits.TheConstants.{MAX_SLOT}
use Rattle.slot_types.specs.declared.acts.Act.{Act}
use Rattle.slot_types.specs.declared.acts.Act.TheVariants as does
use Rattle.slot_types.specs.declared.events.Op.{Op}
use Rattle.slot_types.specs.declared.events.Op.TheVariants as asks
use Rattle.slot_types.specs.declared.events.Event.{Event}
use Rattle.slot_types.specs.declared.events.Event.TheVariants as events
use Rattle.slot_types.specs.declared.replies.Reply.{Reply}
use Rattle.slot_types.specs.declared.replies.Reply.TheVariants as replies
use Rattle.slot_types.specs.declared.replies.Waived.{Waived}
use Rattle.slot_types.specs.declared.replies.Entry.{Entry}
use Rattle.die_log.specs.Model.Log.{Log, Job, Carried, jobs, job_at, now, waived_collections, acts, work}
use Rattle.die_log.specs.Model.Flash.{cells, content, block_at, block_of_page, valid, free, ran_by}
use Rattle.die_log.specs.Model.Work.{is_erase, is_done, is_ready, victim_of, shown_by, owed_writes}
use Rattle.plan_rules.specs.Accounts.{Accounts, given_of}
use Rattle.plan_rules.specs.Accounts as moves
use Rattle.die_log.specs.Model.Accounts.{accounts}
use Rattle.die_log.specs.Model.Start.{Start}

-- Numbers and arrivals

-- what was taken has the next number, and a slot is the present one
abbrev pub IsNumbered : Log → Event → Reply → Type 0
IsNumbered past (events.Submit task release due ops) (replies.Taken number) = number ≡ length (jobs past)
IsNumbered past (events.Collect task release due) (replies.Taken number) = number ≡ length (jobs past)
IsNumbered past events.Slot (replies.Slot s) = s.slot ≡ now past
IsNumbered past _ _ = ⊥

abbrev pub IsTimely : Log → ℕ → ℕ → Type 0
IsTimely past release due = (now past ≤ release) × (release < due) × (due ≤ MAX_SLOT)

-- a release is not before the present slot, and a deadline is above its release
abbrev pub ArrivesInTime : Log → Event → Type 0
ArrivesInTime past (events.Submit task release due ops) = IsTimely past release due
ArrivesInTime past (events.Collect task release due) = IsTimely past release due
ArrivesInTime past events.Slot = Unit {0}

-- Acts of jobs

abbrev pub Does : Op → Act → Type 0
Does (asks.Read page) (does.Read p bytes) = p ≡ page
Does (asks.Write page bytes) (does.Write p b) = (p ≡ page) × (b ≡ bytes)
Does (asks.Trim page) (does.Trim p) = p ≡ page
Does _ _ = ⊥

-- the act is the next of the job's operations
abbrev pub IsNextOperation : Log → Job → Act → Type 0
IsNextOperation past j act = MatchOption (slice_get j.ops (work j.number past)) ⊥ (λ op. Does op act)

-- Acts of collections

abbrev pub erases_of : ℕ → Log → ℕ
erases_of number past = count_by is_erase (acts number past)

-- a page that is placed in the block is read, each once, and none after the erase began
pub record MayCopyRead (start : Start) (past : Log) (number b page : ℕ) : Type 0 where
  pub placed : block_of_page (cells start past) page ≡ Some b
  pub once : Contains (acts number past) (does.CopyRead page) → ⊥
  pub unerased : erases_of number past ≡ 0

abbrev pub is_change_of : ℕ → Act → Bool
is_change_of page (does.Write p bytes) = p == page
is_change_of page (does.Trim p) = p == page
is_change_of page _ = false

abbrev pub changed_by : Carried → ℕ → ℕ → Bool → Bool
changed_by None number page before = before
changed_by (Some (n, act)) number page before = if n == number then false else is_change_of page act || before

-- a job wrote or trimmed the page after the last act of this number
abbrev pub changed_since : ℕ → ℕ → Log → Bool
changed_since number page [] = false
changed_since number page (e ∷ past) = changed_by (ran_by e.reply) number page (changed_since number page past)

-- the page that was just read is programmed, if no job wrote or trimmed it in between
pub record MayCopyProgram (past : Log) (number page : ℕ) : Type 0 where
  pub follows : last_or None (acts number past) ≡ Some (does.CopyRead page)
  pub unchanged : IsFalse (changed_since number page past)

-- an erase begins on a closed block in which no page is placed, and no other collection erases the block until it is
-- done
pub record MayErase (start : Start) (past : Log) (number b block : ℕ) : Type 0 where
  pub own : block ≡ b
  pub left : erases_of number past < start.plan.shape.erase_slots
  pub closed : erases_of number past ≡ 0 → (block_at (cells start past) b).filled ≡ start.plan.shape.pages
  pub unplaced : erases_of number past ≡ 0 → valid (cells start past) b ≡ 0
  pub alone : (i : Job) → Contains (jobs past) i → i.number ≢ number → Contains (acts i.number past) (does.Erase b)
      → IsTrue (is_done start.plan past i)

abbrev pub IsCollectAct : Start → Log → ℕ → ℕ → Act → Type 0
IsCollectAct start past number b (does.CopyRead page) = MayCopyRead start past number b page
IsCollectAct start past number b (does.CopyProgram page) = MayCopyProgram past number page
IsCollectAct start past number b (does.Erase block) = MayErase start past number b block
IsCollectAct start past number b _ = ⊥

-- all acts of a collection are of the block that its first act shows
abbrev pub IsNextCollectAct : Start → Log → ℕ → Act → Type 0
IsNextCollectAct start past number act =
    (b : ℕ) × (shown_by start past (victim_of start number past) (Some act) ≡ Some b) × IsCollectAct start past number b act

-- Waivers

abbrev pub is_among : ℕ → List Waived → Bool
is_among number ws = list_any (λ w. w.number == number) ws

-- a released collection without acts is waived, once, while spare is at least alpha, and gives what the rule says
pub record IsWaiver (plan : DiePlan) (past : Log) (earlier : List Waived) (a : Accounts) (j : Job) (w : Waived) : Type 0 where
  pub known : job_at past w.number ≡ Some j
  pub collects : j.collects ≡ true
  pub released : j.release ≤ now past
  pub unbegun : work j.number past ≡ 0
  pub once : IsFalse (is_among w.number earlier)
  pub spare : plan.alpha ≤ a.spare
  pub gives : w.given ≡ given_of a j.task

abbrev pub AreWaivers : DiePlan → Log → List Waived → Accounts → List Waived → Type 0
AreWaivers plan past earlier a [] = Unit {0}
AreWaivers plan past earlier a (w ∷ ws) =
    (j : Job) × IsWaiver plan past earlier a j w × AreWaivers plan past (earlier ++ w ∷ []) (moves.accounts_after_waiver a j.task) ws

-- Slots

-- a read gives the page's content
abbrev pub SaysContent : Start → Log → Act → Type 0
SaysContent start past (does.Read page bytes) = bytes ≡ content start past page
SaysContent start past _ = Unit {0}

-- a program finds a free page
abbrev pub FindsFree : Start → Log → Act → Type 0
FindsFree start past (does.Write page bytes) = 0 < free start past
FindsFree start past (does.CopyProgram page) = 0 < free start past
FindsFree start past _ = Unit {0}

-- an act of a job or collection that stands, is released, not done and not waived
pub record IsLegalAct (start : Start) (past : Log) (waived_by_now : List Waived) (j : Job) (number : ℕ) (act : Act) : Type 0 where
  pub known : job_at past number ≡ Some j
  pub released : j.release ≤ now past
  pub undone : IsFalse (is_done start.plan past j)
  pub unwaived : IsFalse (is_among number waived_by_now)
  pub next : MatchBool j.collects (IsNextCollectAct start past number act) (IsNextOperation past j act)
  pub says : SaysContent start past act
  pub finds : FindsFree start past act

-- nothing waits that was accepted before the slot, is released, not done and not waived
abbrev pub NothingWaits : DiePlan → Log → List Waived → Type 0
NothingWaits plan past ws = (j : Job) → Contains (jobs past) j → IsTrue (is_ready plan past j) → IsTrue (is_among j.number ws)

abbrev pub IsLegalRun : Start → Log → List Waived → Carried → Type 0
IsLegalRun start past ws None = NothingWaits start.plan past ws
IsLegalRun start past ws (Some (number, act)) = (j : Job) × IsLegalAct start past (waived_collections past ++ ws) j number act

abbrev pub IsLegalReply : Start → Log → Reply → Type 0
IsLegalReply start past (replies.Slot s) = AreWaivers start.plan past (waived_collections past) (accounts start past) s.waived
    × IsLegalRun start past s.waived s.ran
IsLegalReply start past _ = Unit {0}

-- Logs

pub record IsLegalEntry (start : Start) (past : Log) (e : Entry) : Type 0 where
  pub numbered : IsNumbered past e.event e.reply
  pub in_time : ArrivesInTime past e.event
  pub slot : IsLegalReply start past e.reply
  pub room : owed_writes (e ∷ past) ≤ free start (e ∷ past)

abbrev pub IsLegal : Start → Log → Type 0
IsLegal start [] = Unit {0}
IsLegal start (e ∷ past) = IsLegal start past × IsLegalEntry start past e
