-- All that is promised of the log of a die, on one page.
use Rattle.std.specs.Prelude.{◌≡◌, ◌↔◌, ◌+◌, ◌-◌, ◌*◌, ◌≤◌, ℕ, true, ◌∷◌, ◌++◌, Some, None, count_by, Contains}
use Rattle.slot_types.specs.declared.pages.PageData.{PageData}
use Rattle.slot_types.specs.declared.acts.Act.{Act}
use Rattle.slot_types.specs.declared.acts.Act.TheVariants as does
use Rattle.slot_types.specs.declared.replies.Entry.{Entry}
use Rattle.slot_types.specs.declared.replies.Reply.TheVariants as replies
use Rattle.slot_types.specs.declared.replies.SlotReply.{SlotReply}
use Rattle.late_cert.specs.declared.certificates.Certificate.{Certificate}
use Rattle.late_cert.specs.Schedule.{IsLeastLate}
use Rattle.late_cert.specs.BusyInterval.{CarriesLeastKeys}
use Rattle.die_log.specs.Model.Log.{Log, Job, jobs, waived_collections, acts, work}
use Rattle.die_log.specs.Model.Flash.{content, free}
use Rattle.die_log.specs.Model.Work.{is_copy_program, owed_writes}
use Rattle.die_log.specs.Model.Accounts.{accounts}
use Rattle.die_log.specs.Model.Answers.{IsExact}
use Rattle.die_log.specs.Results.Legal.{ArrivesInTime, AreWaivers, FindsFree, NothingWaits, IsLegal}
use Rattle.die_log.specs.Model.Rows.{rows, carried_numbers, certificate}
use Rattle.die_log.specs.Results.Certificates.{NothingDone, IsOfWorst, HoldsOver, BindsAll}
use Rattle.die_log.specs.Model.Start.{Start}
use Rattle.die_log.specs.Model.Opening.{IsOpening}

-- the log has this entry, and `past` lay after it
abbrev pub HasEntry : Log → Entry → Log → Type 0
HasEntry log e past = (later : Log) × (log ≡ later ++ e ∷ past)

-- the log has a slot with this reply, and `past` lay after it
abbrev pub HasSlot : Log → SlotReply → Log → Type 0
HasSlot log s past = (e : Entry) × (e.reply ≡ replies.Slot s) × HasEntry log e past

-- what the log was at some moment
abbrev pub HasMoment : Log → Log → Type 0
HasMoment log moment = (later : Log) × (log ≡ later ++ moment)

-- The log starts from an opening, whose plan meets its bound, and each entry is the exact answer after the entries
-- before it. The log is legal, hence: each release is not before the slot of its arrival; each read gives the last
-- finished write or trim of its page; each program finds a free page, and at every moment no more is owed than is free;
-- no slot idles while released work waits; each waiver keeps its rule. At every moment each slot so far carried a least
-- key, and the greatest lateness so far is least. Collections take no more copies and slots than the plan says. There
-- is a certificate where something is done: that of the worst job, which holds over the log's rows and binds every
-- schedule.
pub record KeepsPromises (start : Start) (log : Log) : Type 0 where
  pub opens : IsOpening start
  pub exact : IsExact start log
  pub legal : IsLegal start log
  pub arrivals : (e : Entry) (past : Log) → HasEntry log e past → ArrivesInTime past e.event
  pub reads : (s : SlotReply) (past : Log) (number page : ℕ) (bytes : PageData) → HasSlot log s past → s.ran
      ≡ Some (number, does.Read page bytes) → bytes ≡ content start past page
  pub programs : (s : SlotReply) (past : Log) (number : ℕ) (act : Act) → HasSlot log s past → s.ran ≡ Some (number, act)
      → FindsFree start past act
  pub room : (moment : Log) → HasMoment log moment → owed_writes moment ≤ free start moment
  pub never_idle : (s : SlotReply) (past : Log) → HasSlot log s past → s.ran ≡ None → NothingWaits start.plan past s.waived
  pub waivers : (s : SlotReply) (past : Log) → HasSlot log s past → AreWaivers start.plan past (waived_collections past) (accounts start past) s.waived
  pub least_keys : (moment : Log) → HasMoment log moment → CarriesLeastKeys (rows start.plan moment) (carried_numbers moment)
  pub least_late : (moment : Log) → HasMoment log moment → IsLeastLate (rows start.plan moment) (carried_numbers moment)
  pub few_copies : (j : Job) → Contains (jobs log) j → j.collects ≡ true → count_by is_copy_program (acts j.number log)
      ≤ start.plan.shape.pages - start.plan.alpha
  pub few_slots : (j : Job) → Contains (jobs log) j → j.collects ≡ true → work j.number log
      ≤ 2 * (start.plan.shape.pages - start.plan.alpha) + start.plan.shape.erase_slots
  pub uncertified : (certificate start.plan log ≡ None) ↔ NothingDone start.plan log
  pub certified : (c : Certificate) → certificate start.plan log ≡ Some c → IsOfWorst start.plan log c × HoldsOver start.plan log c × BindsAll start.plan log c
