-- Each waiver of a slot takes a row away, and no other row changes.
use Rattle.std.proofs.Common.{◌≡◌, ◌⊎◌, ℕ, ◌<◌, ◌==◌, ◌||◌, Bool, true, false, cond, List, [], ◌∷◌, ◌++◌, length, Option, Some, None, refl}
use Rattle.std.proofs.Common.{ap, sym, subst, ◌∙◌, inl, inr, arith, slice_get, append_assoc, append-nil}
use Rattle.std.proofs.lemmas.Bool.{cases_eq, eq-eqb, ne_eqb, or_right, or_from}
use Rattle.std.proofs.lemmas.List.Folds.{list_any-append}
use Rattle.slot_types.specs.declared.plans.DiePlan.{DiePlan}
use Rattle.slot_types.specs.declared.acts.Act.{Act}
use Rattle.slot_types.specs.declared.replies.Waived.{Waived}
use Rattle.plan_rules.specs.Accounts.{Accounts}
use Rattle.plan_rules.specs.Accounts as moves
use Rattle.late_cert.specs.declared.rows.JobRow.{JobRow}
use Rattle.late_cert.specs.Schedule.{Slots}
use Rattle.late_cert.specs.Rows.{row_of, is_done_in, number_in}
use Rattle.late_cert.specs.BusyInterval.{CarriesLeastKeys}
use Rattle.late_cert.proofs.Moments.{waives-keeps}
use Rattle.die_log.specs.Model.Log.{Log, Job, jobs, acts, work}
use Rattle.die_log.specs.Model.Work.{are_all, completion}
use Rattle.die_log.specs.Results.Legal.{is_among, IsWaiver, AreWaivers}
use Rattle.die_log.specs.Invariants.RunningCollections.{AreNumbered}
use Rattle.die_log.specs.Model.Rows.{row_for}
use Rattle.die_log.proofs.Tokens.Slots.{empty_if}
use Rattle.die_log.proofs.Least.Lookups.{rows_by, row_in, Named, rows_rise, row_at}
use Rattle.die_log.proofs.Least.Steps.{IsGone, IsKept, waives_by}

-- one more number is among them
among_more : (ws : List Waived) (w : Waived) (k : ℕ) → is_among k (ws ++ w ∷ []) ≡ (is_among k ws || ((w.number == k) || false))
among_more ws w k = list_any-append (λ v. v.number == k) ws (w ∷ [])

among_itself : (ws : List Waived) (w : Waived) (k : ℕ) → k ≡ w.number → is_among k (ws ++ w ∷ []) ≡ true
among_itself ws w k e = among_more ws w k ∙ (ap (λ (b : Bool). is_among k ws || (b || false)) (eq-eqb w.number k (sym e))
    ∙ or_right (is_among k ws) (true || false) refl)

or_false : (b c : Bool) → c ≡ false → (b || (c || false)) ≡ b
or_false true c e = refl
or_false false c e = or_from c false e refl

among_others : (ws : List Waived) (w : Waived) (k : ℕ) → (k ≡ w.number → ⊥) → is_among k (ws ++ w ∷ []) ≡ is_among k ws
among_others ws w k apart = among_more ws w k ∙ or_false (is_among k ws) (w.number == k) (ne_eqb w.number k (λ e. apart (sym e)))

waived_row : (row : Job → JobRow) (o : Option Job) → row_in row true o ≡ None
waived_row row None = refl
waived_row row (Some j) = refl

takes_row : (row : Job → JobRow) (js : List Job) (ws : List Waived) (w : Waived) (k : ℕ) → Named row → AreNumbered 0 js
    → IsGone (rows_by row (λ n. is_among n (ws ++ w ∷ [])) js) w.number k
    ⊎ IsKept (rows_by row (λ n. is_among n ws) js) (rows_by row (λ n. is_among n (ws ++ w ∷ [])) js) w.number k
takes_row row js ws w k named numbered =
    let more : ℕ → Bool = λ n. is_among n (ws ++ w ∷ []) in
    elim (cases_eq k w.number) [
      | inl e ↦ inl (record {
        is = e;
        after = row_at row more js k named numbered ∙ (ap (λ (b : Bool). row_in row b (slice_get js k)) (among_itself ws w k e)
            ∙ waived_row row (slice_get js k));
      })
      | inr apart ↦ inr (record {
        apart = apart;
        same = row_at row more js k named numbered ∙ (ap (λ (b : Bool). row_in row b (slice_get js k)) (among_others ws w k apart)
            ∙ sym (row_at row (λ n. is_among n ws) js k named numbered));
      })
    ]

none_erased : (plan : DiePlan) (j : Job) (own : List Act) → 0 < plan.shape.erase_slots → j.collects ≡ true → own ≡ [] → are_all plan j own
    ≡ false
none_erased plan j own more is e =
    ap (are_all plan j) e ∙ (ap (λ (c : Bool). cond c (0 == plan.shape.erase_slots) (0 == length j.ops)) is
    ∙ ne_eqb 0 plan.shape.erase_slots (λ z. absurd (omega (arith, more, z))))

-- one waiver
waiver_keeps : (plan : DiePlan) (past : Log) (ws : List Waived) (a : Accounts) (j : Job) (w : Waived) (cs : Slots) → 0
    < plan.shape.erase_slots → AreNumbered 0 (jobs past) → IsWaiver plan past ws a j w
    → CarriesLeastKeys (rows_by (row_for plan past) (λ n. is_among n ws) (jobs past)) cs
    → CarriesLeastKeys (rows_by (row_for plan past) (λ n. is_among n (ws ++ w ∷ [])) (jobs past)) cs
waiver_keeps plan past ws a j w cs more numbered is keys =
    let row : Job → JobRow = row_for plan past in
    let before : List JobRow = rows_by row (λ n. is_among n ws) (jobs past) in
    let own : acts j.number past ≡ [] = empty_if (acts j.number past) is.unbegun in
    let stands : row_of before w.number ≡ Some (row j) =
    row_at row (λ n. is_among n ws) (jobs past) w.number (λ i. refl) numbered
    ∙ (ap (λ (b : Bool). row_in row b (slice_get (jobs past) w.number)) is.once ∙ ap (row_in row false) is.known) in
    let undone : are_all plan j (acts j.number past) ≡ false = none_erased plan j (acts j.number past) more is.collects own in
    waives-keeps before (rows_by row (λ n. is_among n (ws ++ w ∷ [])) (jobs past)) cs w.number keys (
    waives_by before (rows_by row (λ n. is_among n (ws ++ w ∷ [])) (jobs past)) w.number
    (rows_rise row (λ n. is_among n (ws ++ w ∷ [])) (jobs past) (λ i. refl) numbered)
    (λ k. takes_row row (jobs past) ws w k (λ i. refl) numbered)
    (ap is_done_in stands ∙ ap (λ (b : Bool). is_done_in
    (Some (record {
      number = j.number;
      release = j.release;
      due = j.due;
      work = work j.number past;
      completion = cond b
          (Some (completion j.number past)) None;
    }))) undone)
    (ap (number_in (λ r. r.work)) stands ∙ is.unbegun)
    )

-- all waivers of a slot
pub waivers_keep : (plan : DiePlan) (past : Log) (earlier ws : List Waived) (a : Accounts) (cs : Slots) → 0 < plan.shape.erase_slots
    → AreNumbered 0 (jobs past) → AreWaivers plan past earlier a ws
    → CarriesLeastKeys (rows_by (row_for plan past) (λ n. is_among n earlier) (jobs past)) cs
    → CarriesLeastKeys (rows_by (row_for plan past) (λ n. is_among n (earlier ++ ws)) (jobs past)) cs
waivers_keep plan past earlier [] a cs more numbered h keys =
    subst (λ l. CarriesLeastKeys (rows_by (row_for plan past) (λ n. is_among n l) (jobs past)) cs) (sym (append-nil earlier)) keys
waivers_keep plan past earlier (w ∷ ws) a cs more numbered (j, is, rest) keys =
    subst (λ l. CarriesLeastKeys (rows_by (row_for plan past) (λ n. is_among n l) (jobs past)) cs) (append_assoc earlier (w ∷ []) ws) (
    waivers_keep plan past (earlier ++ w ∷ []) ws (moves.accounts_after_waiver a j.task) cs more numbered rest
    (waiver_keeps plan past earlier a j w cs more numbered is keys)
    )
