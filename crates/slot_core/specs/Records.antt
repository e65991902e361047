-- What became of the jobs and collections of a log.
use Rattle.std.specs.Prelude.{ℕ, ◌==◌, Bool, true, false, if◌then◌else◌, List, [], ◌∷◌, length, map, Option, Some, None, find}
use Rattle.std.specs.List.{filter_map}
use Rattle.slot_types.specs.declared.plans.DiePlan.{DiePlan}
use Rattle.slot_types.specs.declared.pages.PageData.{PageData}
use Rattle.slot_types.specs.declared.acts.Act.{Act}
use Rattle.slot_types.specs.declared.acts.Act.TheVariants as does
use Rattle.slot_types.specs.declared.replies.Reply.{Reply}
use Rattle.slot_types.specs.declared.replies.Reply.TheVariants as replies
use Rattle.slot_types.specs.declared.replies.SlotReply.{SlotReply}
use Rattle.slot_types.specs.declared.replies.Waived.{Waived}
use Rattle.job_table.specs.declared.stages.Stage.{Stage}
use Rattle.job_table.specs.declared.stages.Stage.TheVariants as stages
use Rattle.job_table.specs.Jobs.{JobRecord}
use Rattle.plan_rules.specs.Accounts.{given_of}
use Rattle.die_log.specs.Model.Log.{Log, Job, jobs, job_at, acts, waived_collections}
use Rattle.die_log.specs.Model.Work.{are_all, completion}
use Rattle.die_log.specs.Model.Accounts.{accounts, after_waivers}
use Rattle.die_log.specs.Model.Start.{Start}

-- What reads gave

abbrev pub bytes_read : Act → Option PageData
bytes_read (does.Read page bytes) = Some bytes
bytes_read _ = None

-- what the reads among these acts gave, in order
abbrev pub reads_of : List Act → List PageData
reads_of own = filter_map bytes_read own

-- What collections gave

-- what a collection gives that is done in this slot, as of then; a job gives nothing
abbrev pub gift_of : Start → Log → SlotReply → Option Job → ℕ
gift_of start past s None = 0
gift_of start past s (Some j) = if j.collects then given_of (after_waivers past s.waived (accounts start past)) j.task else 0

abbrev pub gift_by : Start → Log → SlotReply → ℕ → Option ℕ → ℕ → ℕ
gift_by start past s number None earlier = earlier
gift_by start past s number (Some n) earlier = if n == number then gift_of start past s (job_at past number) else earlier

abbrev pub given_by : Start → Log → Reply → ℕ → ℕ → ℕ
given_by start past (replies.Slot s) number earlier = gift_by start past s number s.finished earlier
given_by start past _ number earlier = earlier

-- what a done collection gave its task
abbrev pub pages_given : Start → ℕ → Log → ℕ
pages_given start number [] = 0
pages_given start number (e ∷ past) = given_by start past e.reply number (pages_given start number past)

-- the waiver of a number, if it was waived
abbrev pub waiver_among : ℕ → List Waived → Option Waived
waiver_among number ws = find (λ w. w.number == number) ws

-- Records

abbrev pub stage_by : Option Waived → Bool → ℕ → ℕ → Stage
stage_by (Some w) done completion given = stages.Waived w.given
stage_by None true completion given = stages.Done completion given
stage_by None false completion given = stages.Pending

-- a job that did these acts, with its completion and what it gave, where these collections were waived
abbrev pub record_from : Start → List Act → ℕ → ℕ → List Waived → Job → JobRecord
record_from start own completion given ws j = record {
  collects = j.collects;
  task = j.task;
  release = j.release;
  due = j.due;
  ops = j.ops;
  work = length own;
  reads = reads_of own;
  stage = stage_by (waiver_among j.number ws) (are_all start.plan j own) completion given;
}

-- as it stands at the end of a log, were these waived
abbrev pub record_with : Start → Log → List Waived → Job → JobRecord
record_with start log ws j = record_from start (acts j.number log) (completion j.number log) (pages_given start j.number log) ws j

-- the jobs and collections of a log by number
abbrev pub job_records : Start → Log → List JobRecord
job_records start log = map (record_with start log (waived_collections log)) (jobs log)
