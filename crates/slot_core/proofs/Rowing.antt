-- The rows of a table's records, one by one, are the rows of the log.
use Rattle.std.proofs.Common.{◌≡◌, ℕ, zero, suc, ◌+◌, not, Bool, true, false, cond, List, [], ◌∷◌, ◌++◌, Option, Some, None, refl, ap, sym}
use Rattle.std.proofs.Common.{◌∙◌, length, map, filter, take, slice_get, arith}
use Rattle.std.specs.Prelude.{is_some}
use Rattle.std.specs.List.{cons_option}
use Rattle.std.proofs.lemmas.Bool.{true≢false}
use Rattle.std.proofs.lemmas.Option.{same_Some, none-some}
use Rattle.slot_types.specs.declared.replies.Waived.{Waived}
use Rattle.late_cert.specs.declared.rows.JobRow.{JobRow}
use Rattle.late_cert.specs.Rows.{RowsRise}
use Rattle.job_table.specs.Jobs.{JobRecord}
use Rattle.die_log.specs.Model.Log.{Log, Job, jobs, work, waived_collections, is_waived}
use Rattle.die_log.specs.Model.Work.{is_done, completion}
use Rattle.die_log.specs.Model.Answers.{IsExact}
use Rattle.die_log.specs.Invariants.RunningCollections.{AreNumbered}
use Rattle.die_log.specs.Model.Rows.{rows, row_for}
use Rattle.die_log.proofs.Legal.Exact.{stands_well}
use Rattle.die_log.proofs.Least.Lookups.{rows_rise}
use Rattle.slot_core.specs.Records.{record_with, job_records, waiver_among, stage_by, pages_given}
use Rattle.slot_core.specs.TableRows.{row_as, row_in, rows_in}
use Rattle.slot_core.proofs.Worsts.{waiver_stands}
use Rattle.die_log.specs.Model.Start.{Start}
use Rattle.die_log.specs.Model.Opening.{IsOpening}

-- One more record

cons_append : (o : Option JobRow) (rows more : List JobRow) → cons_option o (rows ++ more) ≡ cons_option o rows ++ more
cons_append None rows more = refl
cons_append (Some row) rows more = refl

rows_push : (first : ℕ) (rs : List JobRecord) (r : JobRecord) → rows_in first (rs ++ r ∷ []) ≡ rows_in first rs
    ++ cons_option (row_in (first + length rs) r) []
rows_push first [] r = ap (λ (n : ℕ). cons_option (row_in n r) []) (omega arith)
rows_push first (x ∷ rs) r =
    let next : (first + 1) + length rs ≡ first + suc (length rs) = omega arith in
    ap (cons_option (row_in first x)) (rows_push (first + 1) rs r
    ∙ ap (λ (n : ℕ). rows_in (first + 1) rs ++ cons_option (row_in n r) []) next)
    ∙ cons_append (row_in first x) (rows_in (first + 1) rs) (cons_option (row_in (first + suc (length rs)) r) [])

take_more : (rs : List JobRecord) (n : ℕ) (r : JobRecord) → slice_get rs n ≡ Some r → (take (n + 1) rs ≡ take n rs ++ r ∷ [])
    × (length (take n rs) ≡ n)
take_more [] n r at = absurd (none-some r at)
take_more (x ∷ rs) zero r at = (ap (λ (y : JobRecord). y ∷ []) (same_Some x r at), refl)
take_more (x ∷ rs) (suc n) r at =
    let more = take_more rs n r at in
    let next : suc n + 1 ≡ suc (n + 1) = omega arith in
    (ap (λ (k : ℕ). take k (x ∷ rs)) next ∙ ap (λ ys. x ∷ ys) more.0, ap suc more.1)

take_past : (rs : List JobRecord) (n : ℕ) → slice_get rs n ≡ None → take (n + 1) rs ≡ take n rs
take_past [] zero at = refl
take_past [] (suc n) at = let next : suc n + 1 ≡ suc (n + 1) = omega arith in ap (λ (k : ℕ). take k []) next
take_past (x ∷ rs) zero at = absurd (none-some x (sym at))
take_past (x ∷ rs) (suc n) at =
    let next : suc n + 1 ≡ suc (n + 1) = omega arith in
    ap (λ (k : ℕ). take k (x ∷ rs)) next ∙ ap (λ ys. x ∷ ys) (take_past rs n at)

pub rows_more : (rs : List JobRecord) (n : ℕ) (r : JobRecord) (made : List JobRow) → slice_get rs n ≡ Some r → made ≡ rows_in 0 (take n rs)
    → made ++ cons_option (row_in n r) [] ≡ rows_in 0 (take (n + 1) rs)
rows_more rs n r made at is =
    let more = take_more rs n r at in
    let here : n ≡ 0 + length (take n rs) = omega (arith, more.1) in
    ap (λ (rows : List JobRow). rows ++ cons_option (row_in n r) []) is
    ∙ (ap (λ (k : ℕ). rows_in 0 (take n rs) ++ cons_option (row_in k r) []) here ∙ sym (ap (rows_in 0) more.0 ∙ rows_push 0 (take n rs) r))

pub rows_added : (rs : List JobRecord) (n : ℕ) (r : JobRecord) (row : JobRow) (made : List JobRow) → slice_get rs n ≡ Some r → row_in n r
    ≡ Some row → made ≡ rows_in 0 (take n rs)
    → made ++ row ∷ [] ≡ rows_in 0 (take (n + 1) rs)
rows_added rs n r row made at row_is is = ap (λ (o : Option JobRow). made ++ cons_option o []) (sym row_is) ∙ rows_more rs n r made at is

append_none : (rows : List JobRow) → rows ++ [] ≡ rows
append_none [] = refl
append_none (x ∷ rows) = ap (λ ys. x ∷ ys) (append_none rows)

-- a waived one adds no row
pub rows_passed : (rs : List JobRecord) (n : ℕ) (r : JobRecord) (made : List JobRow) → slice_get rs n ≡ Some r → row_in n r ≡ None → made
    ≡ rows_in 0 (take n rs)
    → made ≡ rows_in 0 (take (n + 1) rs)
rows_passed rs n r made at row_is is = sym (append_none made)
    ∙ (ap (λ (o : Option JobRow). made ++ cons_option o []) (sym row_is) ∙ rows_more rs n r made at is)

pub rows_past : (rs : List JobRecord) (n : ℕ) (made : List JobRow) → slice_get rs n ≡ None → made ≡ rows_in 0 (take n rs) → made
    ≡ rows_in 0 (take (n + 1) rs)
rows_past rs n made at is = is ∙ ap (rows_in 0) (sym (take_past rs n at))

-- Where there is no row

some_row : {row : JobRow} {rows : List JobRow} → row ∷ rows ≡ [] → ⊥
some_row is = absurd (cc)

no_more : (o : Option JobRow) (rows : List JobRow) → cons_option o rows ≡ [] → rows ≡ []
no_more None rows is = is
no_more (Some row) rows is = absurd (some_row is)

none_from : (first : ℕ) (rs : List JobRecord) (n : ℕ) (r : JobRecord) (row : JobRow) → slice_get rs n ≡ Some r → row_in (first + n) r
    ≡ Some row → rows_in first rs ≡ [] → ⊥
none_from first [] n r row at row_is is = none-some r at
none_from first (x ∷ rs) zero r row at row_is is =
    let here : first + zero ≡ first = omega arith in
    some_row (sym (ap (λ (o : Option JobRow). cons_option o (rows_in (first + 1) rs))
    (ap (row_in first) (same_Some x r at) ∙ (ap (λ (k : ℕ). row_in k r) (sym here) ∙ row_is))) ∙ is)
none_from first (x ∷ rs) (suc n) r row at row_is is =
    let next : (first + 1) + n ≡ first + suc n = omega arith in
    none_from (first + 1) rs n r row at (ap (λ (k : ℕ). row_in k r) next ∙ row_is) (no_more (row_in first x) (rows_in (first + 1) rs) is)

-- where one record has a row, there is one
pub a_row_stands : (rs : List JobRecord) (n : ℕ) (r : JobRecord) (row : JobRow) → slice_get rs n ≡ Some r → row_in n r ≡ Some row → rows_in 0 rs
    ≡ [] → ⊥
a_row_stands rs n r row at row_is is = none_from 0 rs n r row at (ap (λ (k : ℕ). row_in k r) (here n) ∙ row_is) is
  where
    here : (k : ℕ) → 0 + k ≡ k
    here k = omega arith

-- The rows of the log

-- the row of a job, were it done or not
abbrev row_if : Log → Job → Bool → JobRow
row_if log j done = record {
  number = j.number;
  release = j.release;
  due = j.due;
  work = work j.number log;
  completion = cond done
      (Some (completion j.number log)) None;
}

first_row : (start : Start) (log : Log) (j : Job) (o : Option Waived) (done gone : Bool) (rest : List JobRow) → is_some o ≡ gone
    → cons_option (row_as (stage_by o done (completion j.number log) (pages_given start j.number log)) j.number
    (record_with start log (waived_collections log) j)) rest ≡ cond (not gone) (row_if log j done ∷ rest) rest
first_row start log j (Some w) done true rest e = refl
first_row start log j (Some w) done false rest e = absurd (true≢false e)
first_row start log j None done true rest e = absurd (true≢false (sym e))
first_row start log j None true false rest e = refl
first_row start log j None false false rest e = refl

map_cond : (f : Job → JobRow) (b : Bool) (j : Job) (js : List Job) → cond b (f j ∷ map f js) (map f js) ≡ map f (cond b (j ∷ js) js)
map_cond f true j js = refl
map_cond f false j js = refl

rows_of : (start : Start) (log : Log) (first : ℕ) (js : List Job) → AreNumbered first js
    → rows_in first (map (record_with start log (waived_collections log)) js) ≡ map (row_for start.plan log) (filter (λ j. not (is_waived log j.number)) js)
rows_of start log first [] h = refl
rows_of start log first (j ∷ js) h =
    ap (λ (n : ℕ). cons_option (row_in n (record_with start log (waived_collections log) j))
    (rows_in (first + 1) (map (record_with start log (waived_collections log)) js))) (sym h.0)
    ∙ (ap (cons_option (row_in j.number (record_with start log (waived_collections log) j))) (rows_of start log (first + 1) js h.1)
    ∙ (first_row start log j (waiver_among j.number (waived_collections log)) (is_done start.plan log j) (is_waived log j.number)
    (map (row_for start.plan log) (filter (λ i. not (is_waived log i.number)) js)) (waiver_stands j.number (waived_collections log))
    ∙ map_cond (row_for start.plan log) (not (is_waived log j.number)) j (filter (λ i. not (is_waived log i.number)) js)))

pub rows_are : (start : Start) (log : Log) (rs : List JobRecord) (made : List JobRow) → IsOpening start → IsExact start log → rs
    ≡ job_records start log → made ≡ rows_in 0 rs → made ≡ rows start.plan log
rows_are start log rs made bound exact are is = is ∙ (ap (rows_in 0) are
    ∙ rows_of start log 0 (jobs log) (stands_well start bound log exact).0.numbered)

pub rising : (start : Start) (log : Log) → IsOpening start → IsExact start log → RowsRise (rows start.plan log)
rising start log bound exact = rows_rise (row_for start.plan log) (is_waived log) (jobs log) (λ j. refl)
    (stands_well start bound log exact).0.numbered
