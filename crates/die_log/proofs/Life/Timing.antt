-- The slots of all lives, one after the other, carried least keys; so the greatest lateness over them all is least.
use Rattle.std.proofs.Common.{◌≡◌, ℕ, ◌+◌, ◌<◌, Bool, true, false, cond, [], ◌∷◌, ◌++◌, length, map, Option, Some, None, is_some}
use Rattle.std.proofs.Common.{option_map, refl, ap, sym, subst, ◌∙◌, inl, inr, arith, slice_get, length-append}
use Rattle.std.proofs.lemmas.Bool.{true≢false}
use Rattle.std.proofs.lemmas.List.{length-map}
use Rattle.std.proofs.lemmas.List.Sums.{sum_by-cons}
use Rattle.std.proofs.lemmas.Option.{slice_get_within}
use Rattle.slot_types.specs.declared.plans.DiePlan.{DiePlan}
use Rattle.late_cert.specs.declared.rows.JobRow.{JobRow}
use Rattle.late_cert.specs.Schedule.{IsLeastLate}
use Rattle.late_cert.specs.Rows.{row_of, is_known, is_done_in}
use Rattle.late_cert.specs.BusyInterval.{CarriesLeastKeys}
use Rattle.late_cert.specs.JoinedRows.{row_after, slot_after, joined_rows, AreOver}
use Rattle.late_cert.proofs.Joined.{keys-joined, over-joined, joined-first, joined-later}
use Rattle.late_cert.proofs.Least.{least-late}
use Rattle.late_cert.proofs.Moments.{nothing-carried}
use Rattle.die_log.specs.Model.Log.{Log, Job, jobs, now, carried_slots, is_waived}
use Rattle.die_log.specs.Model.Start.{Start}
use Rattle.die_log.specs.Model.Work.{is_done, completion}
use Rattle.die_log.specs.Model.Answers.{IsExact}
use Rattle.die_log.specs.Model.Opening.{IsOpening, IsQuiet}
use Rattle.die_log.specs.Model.Rows.{rows, row_for, carried_numbers}
use Rattle.die_log.specs.Model.Lives.{Lives, start_after, HaveEnded, AreLives, HasLife, all_slots, all_jobs, rows_of_all, numbers_of_all}
use Rattle.die_log.proofs.Exact.{moment_exact}
use Rattle.die_log.proofs.Least.Exact.{least_keys}
use Rattle.die_log.proofs.Least.Lookups.{row_in, row_at}
use Rattle.die_log.proofs.Legal.Exact.{stands_well}
use Rattle.die_log.proofs.LogInvariants.OneMoreEntry.{number_at, contained}
use Rattle.die_log.proofs.Life.Starting.{plan_same, ended_opens, ended_live}

-- One log that has ended

done_row : (b : Bool) (n : ℕ) → b ≡ true → is_some (cond b (Some n) None) ≡ true
done_row true n e = refl
done_row false n e = absurd cc

-- all its rows are done, and numbered below the count of its jobs
ended_over : (start : Start) (log : Log) → IsOpening start → IsExact start log → IsQuiet start log
    → AreOver (rows start.plan log) (length (jobs log))
ended_over start log bound exact quiet = record { done = λ j known. (all j known).0; below = λ j known. (all j known).1 }
  where
    by_row : (j : ℕ) (o : Option Job) (gone : Bool) → slice_get (jobs log) j ≡ o → is_waived log j ≡ gone
        → is_some (row_in (row_for start.plan log) gone o) ≡ true → (is_done_in (row_in (row_for start.plan log) gone o) ≡ true) × (j < length (jobs log))
    by_row j None gone e w known = absurd cc
    by_row j (Some i) true e w known = absurd cc
    by_row j (Some i) false e w known =
        let number : i.number ≡ j = omega (arith, number_at 0 (jobs log) j i (stands_well start bound log exact).0.numbered e) in (
          elim (quiet i (contained (jobs log) j i e)) [
            | inl done ↦ done_row (is_done start.plan log i) (completion i.number log) done
            | inr waived ↦ absurd (true≢false (sym waived ∙ (ap (is_waived log) number ∙ w)))
          ],
          slice_get_within (jobs log) j i e,
        )

    all : (j : ℕ) → is_known (rows start.plan log) j ≡ true
        → (is_done_in (row_of (rows start.plan log) j) ≡ true) × (j < length (jobs log))
    all j known =
        let at : row_of (rows start.plan log) j ≡ row_in (row_for start.plan log) (is_waived log j) (slice_get (jobs log) j) =
        row_at (row_for start.plan log) (is_waived log) (jobs log) j (λ i. refl) (stands_well start bound log exact).0.numbered in
        let q = by_row j (slice_get (jobs log) j) (is_waived log j) refl refl (sym (ap is_some at) ∙ known) in
        (ap is_done_in at ∙ q.0, q.1)

-- All lives

slots_counted : (lives : Lives) → length (numbers_of_all lives) ≡ all_slots lives
slots_counted [] = refl
slots_counted (log ∷ earlier) = omega (
  arith,
  length-append (numbers_of_all earlier) (map (slot_after (all_jobs earlier)) (carried_numbers log)),
  length-map (carried_numbers log) (slot_after (all_jobs earlier)),
  length-map (carried_slots log) (λ c. option_map (λ ran. ran.0) c),
  slots_counted earlier,
  sum_by-cons now log earlier,
)

abbrev HaveLeastKeys : DiePlan → Lives → Type 0
HaveLeastKeys plan lives = CarriesLeastKeys (rows_of_all plan lives) (numbers_of_all lives)

one_more : (first : Start) → IsOpening first → (log : Log) (earlier : Lives) → HaveEnded first earlier
    → IsExact (start_after first earlier) log → HaveLeastKeys first.plan earlier → AreOver (rows_of_all first.plan earlier) (all_jobs earlier)
    → HaveLeastKeys first.plan (log ∷ earlier)
one_more first opens log earlier ended exact keys over =
    let own : CarriesLeastKeys (rows first.plan log) (carried_numbers log) =
    subst (λ p. CarriesLeastKeys (rows p log) (carried_numbers log)) (plan_same first earlier)
    (least_keys (start_after first earlier) (ended_opens first opens earlier ended) log exact) in
    subst (λ m. CarriesLeastKeys (joined_rows (all_jobs earlier) m (rows_of_all first.plan earlier) (rows first.plan log))
    (numbers_of_all (log ∷ earlier))) (slots_counted earlier)
    (keys-joined (rows_of_all first.plan earlier) (rows first.plan log) (numbers_of_all earlier) (carried_numbers log) (all_jobs earlier)
    keys over own)

ended_keys : (first : Start) → IsOpening first → (lives : Lives) → HaveEnded first lives
    → HaveLeastKeys first.plan lives × AreOver (rows_of_all first.plan lives) (all_jobs lives)
ended_keys first opens [] h = (nothing-carried, record { done = λ j known. absurd cc; below = λ j known. absurd cc })
ended_keys first opens (log ∷ earlier) h =
    let before = ended_keys first opens earlier h.0 in
    let own : AreOver (rows first.plan log) (length (jobs log)) =
    subst (λ p. AreOver (rows p log) (length (jobs log))) (plan_same first earlier)
    (ended_over (start_after first earlier) log (ended_opens first opens earlier h.0) h.1 h.2) in (
      one_more first opens log earlier h.0 h.1 before.0 before.1,
      subst (AreOver (rows_of_all first.plan (log ∷ earlier)))
          (omega (arith, sum_by-cons (λ l. length (jobs l)) log earlier))
          (over-joined (rows_of_all first.plan earlier) (rows first.plan log) (all_jobs earlier) (all_slots earlier) (length (jobs log))
          before.1 own),
    )

pub lives_keys : (first : Start) → IsOpening first → (lives : Lives) → AreLives first lives → HaveLeastKeys first.plan lives
lives_keys first opens [] h = nothing-carried
lives_keys first opens (log ∷ earlier) h =
    let before = ended_keys first opens earlier h.0 in one_more first opens log earlier h.0 h.1 before.0 before.1

pub lives_least : (first : Start) → IsOpening first → (lives : Lives) → AreLives first lives
    → IsLeastLate (rows_of_all first.plan lives) (numbers_of_all lives)
lives_least first opens lives h = least-late (rows_of_all first.plan lives) (numbers_of_all lives) (lives_keys first opens lives h)

pub moments_least : (first : Start) → IsOpening first → (later moment : Log) (earlier : Lives)
    → AreLives first ((later ++ moment) ∷ earlier)
    → IsLeastLate (rows_of_all first.plan (moment ∷ earlier)) (numbers_of_all (moment ∷ earlier))
moments_least first opens later moment earlier h =
    lives_least first opens (moment ∷ earlier) (h.0, moment_exact (start_after first earlier) later moment h.1)

-- Each life's rows

known_later : (numbers slots : ℕ) (o : Option JobRow) → is_some (option_map (row_after numbers slots) o) ≡ is_some o
known_later numbers slots None = refl
known_later numbers slots (Some row) = refl

rows_after : (first : Start) → IsOpening first → (later : Lives) (log : Log) (earlier : Lives) → AreLives first (later ++ log ∷ earlier)
    → (j : ℕ) → is_known (rows first.plan log) j ≡ true
    → row_of (rows_of_all first.plan (later ++ log ∷ earlier)) (all_jobs earlier + j)
    ≡ option_map (row_after (all_jobs earlier) (all_slots earlier)) (row_of (rows first.plan log) j)
rows_after first opens [] log earlier h j known =
    joined-later (rows_of_all first.plan earlier) (rows first.plan log) (all_jobs earlier) (all_slots earlier) j
    (ended_keys first opens earlier h.0).1
rows_after first opens (l ∷ later) log earlier h j known =
    let lives : Lives = later ++ log ∷ earlier in
    let beyond = rows_after first opens later log earlier (ended_live first lives h.0) j known in
    let stands : is_known (rows_of_all first.plan lives) (all_jobs earlier + j) ≡ true =
    ap is_some beyond ∙ (known_later (all_jobs earlier) (all_slots earlier) (row_of (rows first.plan log) j) ∙ known) in
    joined-first (rows_of_all first.plan lives) (rows first.plan l) (all_jobs lives) (all_slots lives) (all_jobs earlier + j) stands
    ∙ beyond

pub life_rows : (first : Start) → IsOpening first → (lives : Lives) → AreLives first lives → (log : Log) (earlier : Lives)
    → HasLife lives log earlier → (j : ℕ) → is_known (rows first.plan log) j ≡ true
    → row_of (rows_of_all first.plan lives) (all_jobs earlier + j)
    ≡ option_map (row_after (all_jobs earlier) (all_slots earlier)) (row_of (rows first.plan log) j)
life_rows first opens lives h log earlier has j known =
    subst (λ l. row_of (rows_of_all first.plan l) (all_jobs earlier + j)
    ≡ option_map (row_after (all_jobs earlier) (all_slots earlier)) (row_of (rows first.plan log) j)) (sym has.1)
    (rows_after first opens has.0 log earlier (subst (AreLives first) has.1 h) j known)
