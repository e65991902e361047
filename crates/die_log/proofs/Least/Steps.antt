-- How rows change from one moment to the next, by what each number's row was and is.
use Rattle.std.proofs.Common.{◌≡◌, ◌⊎◌, ℕ, ◌+◌, ◌≤◌, Bool, true, false, cond, eqb, not, ◌&&◌, ◌||◌, List, length, Option, Some, None}
use Rattle.std.proofs.Common.{is_some, unwrap_or, refl, ap, sym, subst, ◌∙◌, inl, inr, arith}
use Rattle.std.proofs.lemmas.Bool.{true≢false, eq-eqb, ne_eqb}
use Rattle.late_cert.specs.declared.rows.JobRow.{JobRow}
use Rattle.late_cert.specs.Schedule.{Slots, is_named}
use Rattle.late_cert.specs.Rows.{RowsRise, row_of, number_in, is_done_in, is_known, is_done, release_of, due_of, work_of, completion_of}
use Rattle.late_cert.specs.BusyInterval.{is_within}
use Rattle.late_cert.specs.Moments.{AcceptsJob, WaivesJob, CarriesSlot}

abbrev nothing : Option JobRow
nothing = None

-- a number without a row isn't known
none_known : (o : Option JobRow) → o ≡ None → is_some o ≡ true → ⊥
none_known o e h = true≢false (sym h ∙ ap is_some e)

none_done : (o : Option JobRow) → o ≡ None → is_done_in o ≡ true → ⊥
none_done o e h = true≢false (sym h ∙ ap is_done_in e)

-- Acceptance

-- the accepted number has this row, which it had not; the others keep theirs
pub record IsNew (rows rows' : List JobRow) (j k : ℕ) (r : JobRow) : Type 0 where
  pub is : k ≡ j
  pub before : row_of rows k ≡ None
  pub after : row_of rows' k ≡ Some r

pub record IsKept (rows rows' : List JobRow) (j k : ℕ) : Type 0 where
  pub apart : k ≡ j → ⊥
  pub same : row_of rows' k ≡ row_of rows k

pub accepts_by : (rows rows' : List JobRow) (carried : Slots) (j : ℕ) (r : JobRow) → RowsRise rows'
    → ((k : ℕ) → IsNew rows rows' j k r ⊎ IsKept rows rows' j k)
    → r.completion ≡ None → r.work ≡ 0 → length carried ≤ r.release → AcceptsJob rows rows' carried j
accepts_by rows rows' carried j r rising each undone idle later = record {
  rising = rising;
  fresh = fresh (each j);
  known = λ k. known k (each k);
  done = λ k. done k (each k);
  releases = λ k h. kept (number_in (λ row. row.release)) k (each k) h;
  deadlines = λ k h. kept (number_in (λ row. row.due)) k (each k) h;
  works = λ k h. kept (number_in (λ row. row.work)) k (each k) h;
  completions = λ k h. completes k (each k) h;
  idle = own (number_in (λ row. row.work)) (each j) ∙ idle;
  later = subst (λ n. length carried ≤ n) (sym (own (number_in (λ row. row.release)) (each j))) later;
}
  where
    fresh : IsNew rows rows' j j r ⊎ IsKept rows rows' j j → is_known rows j ≡ false
    fresh (inl n) = ap is_some n.before
    fresh (inr k) = absurd (k.apart refl)

    known : (k : ℕ) → IsNew rows rows' j k r ⊎ IsKept rows rows' j k → is_known rows' k ≡ (eqb j k || is_known rows k)
    known k (inl n) = ap is_some n.after ∙ sym (ap (λ (b : Bool). b || is_known rows k) (eq-eqb j k (sym n.is)))
    known k (inr o) = ap is_some o.same ∙ sym (ap (λ (b : Bool). b || is_known rows k) (ne_eqb j k (λ e. o.apart (sym e))))

    done : (k : ℕ) → IsNew rows rows' j k r ⊎ IsKept rows rows' j k → is_done rows' k ≡ is_done rows k
    done k (inl n) = ap is_done_in n.after ∙ (ap is_some undone ∙ sym (ap is_done_in n.before))
    done k (inr o) = ap is_done_in o.same

    kept : (field : Option JobRow → ℕ) (k : ℕ) → IsNew rows rows' j k r ⊎ IsKept rows rows' j k → is_known rows k ≡ true
        → field (row_of rows' k) ≡ field (row_of rows k)
    kept field k (inl n) h = absurd (none_known (row_of rows k) n.before h)
    kept field k (inr o) h = ap field o.same

    completes : (k : ℕ) → IsNew rows rows' j k r ⊎ IsKept rows rows' j k → is_done rows k ≡ true → completion_of rows' k
        ≡ completion_of rows k
    completes k (inl n) h = absurd (none_done (row_of rows k) n.before h)
    completes k (inr o) h = ap (number_in (λ row. unwrap_or row.completion 0)) o.same

    own : (field : Option JobRow → ℕ) → IsNew rows rows' j j r ⊎ IsKept rows rows' j j → field (row_of rows' j) ≡ field (Some r)
    own field (inl n) = ap field n.after
    own field (inr k) = absurd (k.apart refl)

-- Waivers

-- the waived number has no row any more; the others keep theirs
pub record IsGone (rows' : List JobRow) (j k : ℕ) : Type 0 where
  pub is : k ≡ j
  pub after : row_of rows' k ≡ None

pub waives_by : (rows rows' : List JobRow) (j : ℕ) → RowsRise rows' → ((k : ℕ) → IsGone rows' j k ⊎ IsKept rows rows' j k) → is_done rows j
    ≡ false → work_of rows j ≡ 0 → WaivesJob rows rows' j
waives_by rows rows' j rising each waiting idle = record {
  rising = rising;
  waiting = waiting;
  idle = idle;
  known = λ k. tested is_some refl k (each k);
  done = λ k. tested is_done_in refl k (each k);
  releases = λ k h. kept (number_in (λ row. row.release)) k (each k) h;
  deadlines = λ k h. kept (number_in (λ row. row.due)) k (each k) h;
  works = λ k h. kept (number_in (λ row. row.work)) k (each k) h;
  completions = λ k h. completes k (each k) h;
}
  where
    tested : (test : Option JobRow → Bool) → test nothing ≡ false → (k : ℕ) → IsGone rows' j k ⊎ IsKept rows rows' j k
        → test (row_of rows' k) ≡ (not (eqb j k) && test (row_of rows k))
    tested test none k (inl g) = ap test g.after ∙ (none ∙ sym (ap (λ (b : Bool). not b && test (row_of rows k)) (eq-eqb j k (sym g.is))))
    tested test none k (inr o) = ap test o.same ∙ sym (ap (λ (b : Bool). not b && test (row_of rows k)) (ne_eqb j k (λ e. o.apart (sym e))))

    kept : (field : Option JobRow → ℕ) (k : ℕ) → IsGone rows' j k ⊎ IsKept rows rows' j k → is_known rows' k ≡ true → field (row_of rows' k)
        ≡ field (row_of rows k)
    kept field k (inl g) h = absurd (none_known (row_of rows' k) g.after h)
    kept field k (inr o) h = ap field o.same

    completes : (k : ℕ) → IsGone rows' j k ⊎ IsKept rows rows' j k → is_done rows' k ≡ true → completion_of rows' k ≡ completion_of rows k
    completes k (inl g) h = absurd (none_done (row_of rows' k) g.after h)
    completes k (inr o) h = ap (number_in (λ row. unwrap_or row.completion 0)) o.same

-- Slots

-- the carried number was not done, and has one slot more; where it is done by now, this was its last one
pub record IsCarried (rows rows' : List JobRow) (now : ℕ) (slot : Option ℕ) (k : ℕ) : Type 0 where
  pub is : slot ≡ Some k
  pub old : JobRow
  pub new : JobRow
  pub before : row_of rows k ≡ Some old
  pub after : row_of rows' k ≡ Some new
  pub undone : old.completion ≡ None
  pub released : old.release ≤ now
  pub release : new.release ≡ old.release
  pub due : new.due ≡ old.due
  pub work : new.work ≡ old.work + 1
  pub ends : is_some new.completion ≡ true → unwrap_or new.completion 0 ≡ now + 1

pub record IsPassed (rows rows' : List JobRow) (slot : Option ℕ) (k : ℕ) : Type 0 where
  pub unnamed : is_named k slot ≡ false
  pub same : row_of rows' k ≡ row_of rows k

named_some : (slot : Option ℕ) (k : ℕ) → slot ≡ Some k → is_named k slot ≡ true
named_some slot k e = ap (is_named k) e ∙ eq-eqb k k refl

pub carries_by : (rows rows' : List JobRow) (carried : Slots) (slot : Option ℕ) → RowsRise rows'
    → ((k : ℕ) → IsCarried rows rows' (length carried) slot k ⊎ IsPassed rows rows' slot k)
    → ((k : ℕ) → is_known rows k ≡ true → is_done rows k ≡ false → release_of rows k ≤ length carried → is_within rows k slot ≡ true)
    → CarriesSlot rows rows' carried slot
carries_by rows rows' carried slot rising each least = record {
  rising = rising;
  head = λ j e. head j e (each j);
  least = least;
  known = λ k. known k (each k);
  releases = λ k. release k (each k);
  deadlines = λ k. due k (each k);
  works = λ k h. works k (each k);
  done = λ k h. stays k h (each k);
  finished = λ k h g. finished k h g (each k);
  completions = λ k h. completes k h (each k);
}
  where
    head : (j : ℕ) → slot ≡ Some j → IsCarried rows rows' (length carried) slot j ⊎ IsPassed rows rows' slot j → (is_known rows j ≡ true)
        × (is_done rows j ≡ false) × (release_of rows j ≤ length carried)
    head j e (inl c) = (
      ap is_some c.before,
      ap is_done_in c.before
          ∙ ap is_some c.undone,
      subst (λ n. n ≤ length carried) (sym (ap (number_in (λ row. row.release)) c.before)) c.released,
    )
    head j e (inr p) = absurd (true≢false (sym (named_some slot j e) ∙ p.unnamed))

    known : (k : ℕ) → IsCarried rows rows' (length carried) slot k ⊎ IsPassed rows rows' slot k → is_known rows' k ≡ is_known rows k
    known k (inl c) = ap is_some c.after ∙ sym (ap is_some c.before)
    known k (inr p) = ap is_some p.same

    release : (k : ℕ) → IsCarried rows rows' (length carried) slot k ⊎ IsPassed rows rows' slot k → release_of rows' k ≡ release_of rows k
    release k (inl c) = ap (number_in (λ row. row.release)) c.after ∙ (c.release ∙ sym (ap (number_in (λ row. row.release)) c.before))
    release k (inr p) = ap (number_in (λ row. row.release)) p.same

    due : (k : ℕ) → IsCarried rows rows' (length carried) slot k ⊎ IsPassed rows rows' slot k → due_of rows' k ≡ due_of rows k
    due k (inl c) = ap (number_in (λ row. row.due)) c.after ∙ (c.due ∙ sym (ap (number_in (λ row. row.due)) c.before))
    due k (inr p) = ap (number_in (λ row. row.due)) p.same

    works : (k : ℕ) → IsCarried rows rows' (length carried) slot k ⊎ IsPassed rows rows' slot k → work_of rows' k
        ≡ work_of rows k + cond (is_named k slot) 1 0
    works k (inl c) =
        let one : ◌≡◌ {A = ℕ} (cond (is_named k slot) 1 0) 1 = ap (λ (b : Bool). cond b 1 0) (named_some slot k c.is) in
        omega (arith, one, c.work, ap (number_in (λ row. row.work)) c.after, ap (number_in (λ row. row.work)) c.before)
    works k (inr p) =
        let none : ◌≡◌ {A = ℕ} (cond (is_named k slot) 1 0) 0 = ap (λ (b : Bool). cond b 1 0) p.unnamed in
        omega (arith, none, ap (number_in (λ row. row.work)) p.same)

    was_done : (k : ℕ) → is_done rows k ≡ true → IsCarried rows rows' (length carried) slot k → ⊥
    was_done k h c = true≢false (sym h ∙ (ap is_done_in c.before ∙ ap is_some c.undone))

    stays : (k : ℕ) → is_done rows k ≡ true → IsCarried rows rows' (length carried) slot k ⊎ IsPassed rows rows' slot k → is_done rows' k
        ≡ true
    stays k h (inl c) = absurd (was_done k h c)
    stays k h (inr p) = ap is_done_in p.same ∙ h

    finished : (k : ℕ) → is_done rows k ≡ false → is_done rows' k ≡ true → IsCarried rows rows' (length carried) slot k
        ⊎ IsPassed rows rows' slot k → (slot ≡ Some k) × (completion_of rows' k ≡ length carried + 1)
    finished k h g (inl c) = (c.is, ap (number_in (λ row. unwrap_or row.completion 0)) c.after ∙ c.ends (sym (ap is_done_in c.after) ∙ g))
    finished k h g (inr p) = absurd (true≢false (sym g ∙ (ap is_done_in p.same ∙ h)))

    completes : (k : ℕ) → is_done rows k ≡ true → IsCarried rows rows' (length carried) slot k ⊎ IsPassed rows rows' slot k
        → completion_of rows' k ≡ completion_of rows k
    completes k h (inl c) = absurd (was_done k h c)
    completes k h (inr p) = ap (number_in (λ row. unwrap_or row.completion 0)) p.same
