-- The certificate that is built for the worst job is that of the log.
use Rattle.std.proofs.Common.{◌≡◌, ℕ, true, List, Option, Some, None, option_map, refl, ap, sym, ◌∙◌, subst, length, take}
use Rattle.std.specs.Prelude.{Result, Ok, Err, IfOk, IfSome, ◌↔◌}
use Rattle.std.proofs.lemmas.Option.{same_Some, none-some}
use Rattle.slot_types.specs.declared.plans.DiePlan.{DiePlan}
use Rattle.late_cert.specs.declared.rows.JobRow.{JobRow}
use Rattle.late_cert.specs.declared.certificates.Certificate.{Certificate}
use Rattle.late_cert.specs.Schedule.{Slots}
use Rattle.late_cert.specs.Rows.{RowsRise, is_done, completion_of}
use Rattle.late_cert.specs.BusyInterval.{CarriesLeastKeys}
use Rattle.late_cert.specs.Build.{certificate_of, busy_interval_of, busy_interval_if_done}
use Rattle.late_cert.proofs.OneBusyInterval.{certificate_of-done}
use Rattle.job_table.specs.Jobs.{JobRecord}
use Rattle.job_table.specs.Worst.{IsWorst}
use Rattle.die_log.specs.Model.Log.{Log, Job}
use Rattle.die_log.specs.Model.Work.{worst}
use Rattle.die_log.specs.Model.Answers.{IsExact}
use Rattle.die_log.specs.Model.Rows.{rows, carried_numbers, certificate, certificate_for}
use Rattle.die_log.proofs.Least.Certificates.{nothing_done}
use Rattle.die_log.proofs.Least.Exact.{least_keys}
use Rattle.die_log.proofs.Promises.{keeps_promises}
use Rattle.slot_core.specs.declared.outcomes.Worst.{Worst}
use Rattle.slot_core.specs.Outcomes.{worst_from, worst_of}
use Rattle.die_log.specs.Results.Certificates.{NothingDone, IsOfWorst, HoldsOver, BindsAll}
use Rattle.die_log.specs.Model.Start.{Start}
use Rattle.die_log.specs.Model.Opening.{IsOpening}
use Rattle.slot_core.specs.Records.{job_records}
use Rattle.slot_core.specs.TableRows.{rows_in}
use Rattle.slot_core.specs.MarkedWorst.{MarksWorst}
use Rattle.slot_core.proofs.Worsts.{worst_record}
use Rattle.slot_core.proofs.Rowing.{rows_are, rising}
use Rattle.slot_core.proofs.Marks.{marks_is}
use Rattle.slot_core.proofs.BusyIntervals.{done_row, interval_over_more}

worst_named : (plan : DiePlan) (log : Log) (w : Worst) (o : Option Job) → Some w ≡ option_map (worst_from log) o
    → certificate_for plan log o ≡ certificate_of (rows plan log) (carried_numbers log) w.job
worst_named plan log w None e = absurd (none-some w (sym e))
worst_named plan log w (Some j) e = ap (λ (v : Worst). certificate_of (rows plan log) (carried_numbers log) v.job)
    (sym (same_Some w (worst_from log j) e))

none_by : (plan : DiePlan) (log : Log) (o : Option Job) → None ≡ option_map (worst_from log) o → None ≡ certificate_for plan log o
none_by plan log None e = refl
none_by plan log (Some j) e = absurd (none-some (worst_from log j) e)

-- where there is no worst one there is none
pub no_certificate : (plan : DiePlan) (log : Log) → None ≡ worst_of plan log → None ≡ certificate plan log
no_certificate plan log e = none_by plan log (worst plan log) e

-- where there is a worst one, something is done
pub some_done : (plan : DiePlan) (log : Log) (w : Worst) → Some w ≡ worst_of plan log → NothingDone plan log → ⊥
some_done plan log w e nothing = none-some w (sym (e ∙ ap (λ (o : Option Job). option_map (worst_from log) o)
    (nothing_done plan log nothing)))

-- The busy interval that ends at the mark

by_worst : (start : Start) (log : Log) (jobs : List JobRecord) (w : Worst) (m : ℕ) → IsOpening start → IsExact start log
    → jobs ≡ job_records start log → MarksWorst jobs m → (o : Option Job) → worst start.plan log ≡ o → Some w ≡ option_map (worst_from log) o
    → (is_done (rows_in 0 jobs) w.job ≡ true) × (completion_of (rows_in 0 jobs) w.job ≡ m)
by_worst start log jobs w m bound exact are marks None is e = absurd (none-some w (sym e))
by_worst start log jobs w m bound exact are marks (Some j) is e =
    let number : j.number ≡ w.job = ap (λ (v : Worst). v.job) (sym (same_Some w (worst_from log j) e)) in
    let found : IsWorst jobs w.job = subst (IsWorst jobs) number (subst (λ (rs : List JobRecord). IsWorst rs j.number) (sym are)
    (worst_record start log j bound exact is)) in
    let row = done_row jobs w.job found.worst found.is_at found.done in
    (row.0, row.1 ∙ marks_is jobs w.job m marks found)

-- the worst one is done, with as many slots as there were at the mark
marked_worst : (start : Start) (log : Log) (jobs : List JobRecord) (w : Worst) (m : ℕ) → IsOpening start → IsExact start log
    → jobs ≡ job_records start log → MarksWorst jobs m → Some w ≡ worst_of start.plan log
    → (is_done (rows_in 0 jobs) w.job ≡ true) × (completion_of (rows_in 0 jobs) w.job ≡ m)
marked_worst start log jobs w m bound exact are marks worst_is = by_worst start log jobs w m bound exact are marks (worst start.plan log) refl
    worst_is

pub walk_rows : (start : Start) (log : Log) (jobs : List JobRecord) → IsOpening start → IsExact start log → jobs ≡ job_records start log
    → RowsRise (rows_in 0 jobs)
walk_rows start log jobs bound exact are =
    subst RowsRise (sym (rows_are start log jobs (rows_in 0 jobs) bound exact are refl)) (rising start log bound exact)

pub walk_length : (start : Start) (log : Log) (jobs : List JobRecord) (w : Worst) (slots : Slots) (m : ℕ) → IsOpening start
    → IsExact start log → jobs ≡ job_records start log → MarksWorst jobs m → Some w ≡ worst_of start.plan log → length slots ≡ m
    → length slots ≡ completion_of (rows_in 0 jobs) w.job
walk_length start log jobs w slots m bound exact are marks worst_is len =
    len ∙ sym (marked_worst start log jobs w m bound exact are marks worst_is).1

-- its busy interval, by the slots before the mark, is the certificate of the log
pub walk_certifies : (start : Start) (log : Log) (jobs : List JobRecord) (w : Worst) (slots all : Slots) (m : ℕ) → IsOpening start
    → IsExact start log → jobs ≡ job_records start log → MarksWorst jobs m → Some w ≡ worst_of start.plan log → slots ≡ take m all
    → all ≡ carried_numbers log → busy_interval_if_done (rows_in 0 jobs) slots w.job ≡ certificate start.plan log
walk_certifies start log jobs w slots all m bound exact are marks worst_is slots_are all_are =
    let made : List JobRow = rows_in 0 jobs in
    let of_log : made ≡ rows start.plan log = rows_are start log jobs made bound exact are refl in
    let known = marked_worst start log jobs w m bound exact are marks worst_is in
    let keys : CarriesLeastKeys made all = subst (λ (rs : List JobRow). CarriesLeastKeys rs all) (sym of_log)
    (subst (λ (cs : Slots). CarriesLeastKeys (rows start.plan log) cs) (sym all_are) (least_keys start bound log exact)) in
    if_done made slots w.job known.0
    ∙ ap (λ (cs : Slots). Some (busy_interval_of made cs w.job)) slots_are
    ∙ ap Some (interval_over_more made keys.rising all w.job m known.1)
    ∙ sym (certificate_of-done made all keys w.job known.0)
    ∙ ap (λ (rs : List JobRow). certificate_of rs all w.job) of_log
    ∙ ap (λ (cs : Slots). certificate_of (rows start.plan log) cs w.job) all_are
    ∙ sym (worst_named start.plan log w (worst start.plan log) worst_is)
  where
    if_done : (rs : List JobRow) (cs : Slots) (j : ℕ) → is_done rs j ≡ true → busy_interval_if_done rs cs j ≡ Some (busy_interval_of rs cs j)
    if_done rs cs j done = rw done refl

-- What is said of it

pub none_said : (start : Start) (log : Log) (built : Option Certificate) → IsOpening start → IsExact start log → built
    ≡ certificate start.plan log → (built ≡ None) ↔ NothingDone start.plan log
none_said start log built bound exact is =
    subst (λ (o : Option Certificate). (o ≡ None) ↔ NothingDone start.plan log) (sym is) (keeps_promises start bound log exact).uncertified

pub worst_said : (start : Start) (log : Log) (built : Option Certificate) → IsOpening start → IsExact start log → built
    ≡ certificate start.plan log → IfSome built (IsOfWorst start.plan log)
worst_said start log None bound exact is = tt
worst_said start log (Some c) bound exact is = ((keeps_promises start bound log exact).certified c (sym is)).0

pub holds_said : (start : Start) (log : Log) (built : Option Certificate) → IsOpening start → IsExact start log → built
    ≡ certificate start.plan log → IfSome built (HoldsOver start.plan log)
holds_said start log None bound exact is = tt
holds_said start log (Some c) bound exact is = ((keeps_promises start bound log exact).certified c (sym is)).1

pub binds_said : (start : Start) (log : Log) (built : Option Certificate) → IsOpening start → IsExact start log → built
    ≡ certificate start.plan log → IfSome built (BindsAll start.plan log)
binds_said start log None bound exact is = tt
binds_said start log (Some c) bound exact is = ((keeps_promises start bound log exact).certified c (sym is)).2

-- what is known of an answer
pub ok_where : {A E : Type 0} (r : Result A E) (P Q : A → Type 0) → IfOk r P → ((a : A) → P a → Q a) → IfOk r Q
ok_where (Ok a) P Q h f = f a h
ok_where (Err e) P Q h f = h
