-- Slots that carried least keys go on doing so.
use Rattle.std.proofs.Common.{◌≡◌, ℕ, zero, suc, ◌+◌, ◌<◌, ◌≤◌, Bool, true, false, cond, eqb, not, ◌⊎◌, List, [], ◌∷◌, ◌++◌, length, Option}
use Rattle.std.proofs.Common.{Some, count_by, arith, refl, sym, ap, ◌∙◌, subst, inl, inr, eqb-true, ne_eqb, length-append}
use Rattle.std.proofs.lemmas.Bool.{false≢true, cases_Bool, both_ways, or_right, or_cases, and_parts, and_from, cases_lt, false_from_ne_true}
use Rattle.std.proofs.lemmas.Bool.{not_from_false}
use Rattle.std.proofs.lemmas.List.Sums.{sum_by_push, sum_by-cons}
use Rattle.std.proofs.lemmas.Option.{none-some}
use Rattle.late_cert.specs.declared.rows.JobRow.{JobRow}
use Rattle.late_cert.specs.Schedule.{Slots, slot_at, is_named, work_in, end_by, completion_in}
use Rattle.late_cert.specs.Rows.{is_known, is_done, release_of, due_of, work_of, completion_of}
use Rattle.late_cert.specs.BusyInterval.{is_within, CarriesLeastKeys}
use Rattle.late_cert.specs.Moments.{AcceptsJob, WaivesJob, CarriesSlot}
use Rattle.late_cert.proofs.Counting.{some-named}
use Rattle.late_cert.proofs.Keys.{KeyAtMost, within-true, true-within, done-known, named-some}
use Rattle.late_cert.proofs.Least.{at-length}
use Rattle.late_cert.proofs.Binds.{end-le-length}

-- the slots with one more
pub slot-before : (c : Slots) (o : Option ℕ) (t : ℕ) → t < length c → slot_at (c ++ o ∷ []) t ≡ slot_at c t
slot-before [] o t h = absurd (omega arith)
slot-before (x ∷ c) o zero h = refl
slot-before (x ∷ c) o (suc t) h = slot-before c o t (omega arith)

pub slot-last : (c : Slots) (o : Option ℕ) → slot_at (c ++ o ∷ []) (length c) ≡ o
slot-last [] o = refl
slot-last (x ∷ c) o = slot-last c o

pub end-push-yes : (p : Option ℕ → Bool) (c : Slots) (o : Option ℕ) → p o ≡ true → end_by p (c ++ o ∷ []) ≡ suc (length c)
end-push-yes p [] o h = rw h refl
end-push-yes p (x ∷ c) o h = rw (end-push-yes p c o h) refl

pub end-push-no : (p : Option ℕ → Bool) (c : Slots) (o : Option ℕ) → p o ≡ false → end_by p (c ++ o ∷ []) ≡ end_by p c
end-push-no p [] o h = rw h refl
end-push-no p (x ∷ c) o h = rw (end-push-no p c o h) refl

pub work-push : (c : Slots) (o : Option ℕ) (j : ℕ) → work_in (c ++ o ∷ []) j ≡ work_in c j + cond (is_named j o) 1 0
work-push c o j = sum_by_push (λ y. cond (is_named j y) 1 0) c o

-- a slot carries the job that it names, no other
pub within-same : (rows rows' : List JobRow) (j : ℕ) (o : Option ℕ)
    → ((k : ℕ) → o ≡ Some k → is_known rows k ≡ true → (is_known rows' k ≡ true) × (due_of rows' k ≡ due_of rows k))
    → due_of rows' j ≡ due_of rows j → is_within rows j o ≡ true → is_within rows' j o ≡ true
within-same rows rows' j o same due h =
    let w = within-true rows j o h in
    let s = same w.number w.carries w.known in
    let key : KeyAtMost (due_of rows' w.number) w.number (due_of rows' j) j =
    subst (λ (d : ℕ). KeyAtMost (due_of rows' w.number) w.number d j) (sym due)
    (subst (λ (d : ℕ). KeyAtMost d w.number (due_of rows j) j) (sym s.1) w.key) in
    true-within rows' j w.number o w.carries s.0 key

pub count-some : (p : Option ℕ → Bool) (c : Slots) (t : ℕ) → t < length c → p (slot_at c t) ≡ true → 0 < count_by p c
count-some p [] t h e = absurd (omega arith)
count-some p (x ∷ c) zero h e =
    let w : ◌≡◌ {A = ℕ} (cond (p x) 1 0) 1 = ap (λ b. cond b 1 0) e in
    omega (arith, w, sum_by-cons (λ y. cond (p y) 1 0) x c)
count-some p (x ∷ c) (suc t) h e =
    omega (arith, count-some p c t (omega arith) e, sum_by-cons (λ y. cond (p y) 1 0) x c)

pub count-zero : (p : Option ℕ → Bool) (c : Slots) → ((t : ℕ) → t < length c → p (slot_at c t) ≡ false) → count_by p c ≡ 0
count-zero p [] h = refl
count-zero p (x ∷ c) h =
    let w : ◌≡◌ {A = ℕ} (cond (p x) 1 0) 0 = ap (λ b. cond b 1 0) (h 0 (omega arith)) in
    omega (arith, w, count-zero p c (λ t l. h (suc t) (omega arith)), sum_by-cons (λ y. cond (p y) 1 0) x c)

-- a number without a row stands in no slot
pub fresh-work : (rows : List JobRow) (c : Slots) → CarriesLeastKeys rows c → (j : ℕ) → is_known rows j ≡ false → work_in c j ≡ 0
fresh-work rows c h j fresh =
    count-zero (is_named j) c (λ t l.
    false_from_ne_true (is_named j (slot_at c t)) (λ e.
    both_ways (is_known rows j) fresh (h.known t j (named-some j (slot_at c t) e))))

-- a job that worked in no slot stands in none
pub none-carried : (rows : List JobRow) (c : Slots) → CarriesLeastKeys rows c → (t j k : ℕ) → slot_at c t ≡ Some k
    → work_of rows j ≡ 0 → j ≡ k → ⊥
none-carried rows c h t j k e idle same =
    let known : is_known rows j ≡ true = ap (is_known rows) same ∙ h.known t k e in
    let w : work_of rows j ≡ work_in c j = h.works j known in
    let at : is_named j (slot_at c t) ≡ true = some-named j (slot_at c t) (e ∙ ap Some (sym same)) in
    let pos : 0 < work_in c j = count-some (is_named j) c t (at-length c t k e) at in
    omega arith

pub accepted-known : (rows rows' : List JobRow) (c : Slots) (j : ℕ) → AcceptsJob rows rows' c j → (k : ℕ) → is_known rows k ≡ true
    → is_known rows' k ≡ true
accepted-known rows rows' c j a k h = a.known k ∙ or_right (eqb j k) (is_known rows k) h

-- after a job is accepted
pub accepts-keeps : (rows rows' : List JobRow) (c : Slots) (j : ℕ) → CarriesLeastKeys rows c → AcceptsJob rows rows' c j
    → CarriesLeastKeys rows' c
accepts-keeps rows rows' c j h a = record {
  rising = a.rising;
  known = λ t k e. accepted-known rows rows' c j a k (h.known t k e);
  released = λ t k e.
      let r : release_of rows' k ≡ release_of rows k = a.releases k (h.known t k e) in
      let r' : release_of rows k ≤ t = h.released t k e in omega arith;
  works = λ k known.
      elim (or_cases (eqb j k) (is_known rows k) (sym (a.known k) ∙ known)) [
        | inl same ↦
            let e : j ≡ k = eqb-true j k same in
            let w : work_of rows' j ≡ 0 = a.idle in
            let w' : work_of rows' j ≡ work_of rows' k = ap (work_of rows') e in
            let z : work_in c j ≡ 0 = fresh-work rows c h j a.fresh in
            let z' : work_in c j ≡ work_in c k = ap (work_in c) e in
            omega arith
        | inr old ↦ a.works k old ∙ h.works k old
      ];
  begun = λ k done.
      let d : is_done rows k ≡ true = sym (a.done k) ∙ done in
      let w : work_of rows' k ≡ work_of rows k = a.works k (done-known rows k d) in
      let p : 0 < work_of rows k = h.begun k d in omega arith;
  completes = λ k done.
      let d : is_done rows k ≡ true = sym (a.done k) ∙ done in
      a.completions k d ∙ h.completes k d;
  least = λ t k below known released open_then.
      elim (or_cases (eqb j k) (is_known rows k) (sym (a.known k) ∙ known)) [
        | inl same ↦
            let e : j ≡ k = eqb-true j k same in
            let l : length c ≤ release_of rows' j = a.later in
            let q : release_of rows' j ≡ release_of rows' k = ap (release_of rows') e in
            absurd (omega arith)
        | inr old ↦
            let r : release_of rows' k ≡ release_of rows k = a.releases k old in
            within-same rows rows' k (slot_at c t)
            (λ m e m_known. (accepted-known rows rows' c j a m m_known, a.deadlines m m_known)) (a.deadlines k old)
            (h.least t k below old (omega arith) (λ d.
            let q : completion_of rows' k ≡ completion_of rows k = a.completions k d in
            let lt : t < completion_of rows' k = open_then (a.done k ∙ d) in omega arith))
      ];
}

pub carried-known : (rows rows' : List JobRow) (c : Slots) (j : ℕ) → CarriesLeastKeys rows c → WaivesJob rows rows' j
    → (t k : ℕ) → slot_at c t ≡ Some k → is_known rows' k ≡ true
carried-known rows rows' c j h w t k e =
    let other : eqb j k ≡ false = ne_eqb j k (none-carried rows c h t j k e w.idle) in
    w.known k ∙ and_from (not (eqb j k)) (is_known rows k) (not_from_false (eqb j k) other) (h.known t k e)

-- after a job is waived
pub waives-keeps : (rows rows' : List JobRow) (c : Slots) (j : ℕ) → CarriesLeastKeys rows c → WaivesJob rows rows' j
    → CarriesLeastKeys rows' c
waives-keeps rows rows' c j h w = record {
  rising = w.rising;
  known = carried-known rows rows' c j h w;
  released = λ t k e.
      let r : release_of rows' k ≡ release_of rows k = w.releases k (carried-known rows rows' c j h w t k e) in
      let r' : release_of rows k ≤ t = h.released t k e in omega arith;
  works = λ k known.
      let p = and_parts (not (eqb j k)) (is_known rows k) (sym (w.known k) ∙ known) in
      w.works k known ∙ h.works k p.1;
  begun = λ k done.
      let p = and_parts (not (eqb j k)) (is_done rows k) (sym (w.done k) ∙ done) in
      let q : work_of rows' k ≡ work_of rows k = w.works k (done-known rows' k done) in
      let r : 0 < work_of rows k = h.begun k p.1 in omega arith;
  completes = λ k done.
      let p = and_parts (not (eqb j k)) (is_done rows k) (sym (w.done k) ∙ done) in
      w.completions k done ∙ h.completes k p.1;
  least = λ t k below known released open_then.
      let p = and_parts (not (eqb j k)) (is_known rows k) (sym (w.known k) ∙ known) in
      let r : release_of rows' k ≡ release_of rows k = w.releases k known in
      within-same rows rows' k (slot_at c t)
      (λ m e m_known.
      let m' : is_known rows' m ≡ true = carried-known rows rows' c j h w t m e in
      (m', w.deadlines m m'))
      (w.deadlines k known)
      (h.least t k below p.1 (omega arith) (λ d.
      let d' : is_done rows' k ≡ true = w.done k ∙ and_from (not (eqb j k)) (is_done rows k) p.0 d in
      let q : completion_of rows' k ≡ completion_of rows k = w.completions k d' in
      let lt : t < completion_of rows' k = open_then d' in omega arith));
}

-- a slot of the longer list is an old one or the new one
pub slot-cases : (c : Slots) (o : Option ℕ) (t k : ℕ) → slot_at (c ++ o ∷ []) t ≡ Some k
    → ((t < length c) × (slot_at c t ≡ Some k)) ⊎ ((t ≡ length c) × (o ≡ Some k))
slot-cases c o t k e =
    let l : t < length (c ++ o ∷ []) = at-length (c ++ o ∷ []) t k e in
    let n : length (c ++ o ∷ []) ≡ length c + 1 = length-append c (o ∷ []) in
    elim (cases_lt t (length c)) [
      | inl old ↦ inl (old, sym (slot-before c o t old) ∙ e)
      | inr new ↦
          let is : t ≡ length c = omega arith in
          inr (is, sym (slot-last c o) ∙ ap (slot_at (c ++ o ∷ [])) (sym is) ∙ e)
    ]

-- after a slot
pub slot-keeps : (rows rows' : List JobRow) (c : Slots) (o : Option ℕ) → CarriesLeastKeys rows c → CarriesSlot rows rows' c o
    → CarriesLeastKeys rows' (c ++ o ∷ [])
slot-keeps rows rows' c o h s = record {
  rising = s.rising;
  known = λ t k e.
      elim (slot-cases c o t k e) [
        | inl old ↦ s.known k ∙ h.known t k old.1
        | inr new ↦ s.known k ∙ (s.head k new.1).0
      ];
  released = λ t k e.
      let r : release_of rows' k ≡ release_of rows k = s.releases k in
      elim (slot-cases c o t k e) [
        | inl old ↦ let r' : release_of rows k ≤ t = h.released t k old.1 in omega arith
        | inr new ↦ let is : t ≡ length c = new.0 in let r' : release_of rows k ≤ length c = (s.head k new.1).2 in omega arith
      ];
  works = λ k known.
      let old : is_known rows k ≡ true = sym (s.known k) ∙ known in
      let a : work_of rows' k ≡ work_of rows k + cond (is_named k o) 1 0 = s.works k old in
      let b : work_of rows k ≡ work_in c k = h.works k old in
      omega (arith, a, b, work-push c o k);
  begun = λ k done.
      let known : is_known rows k ≡ true = sym (s.known k) ∙ done-known rows' k done in
      let a : work_of rows' k ≡ work_of rows k + cond (is_named k o) 1 0 = s.works k known in
      elim (cases_Bool (is_done rows k)) [
        | inl old ↦ let p : 0 < work_of rows k = h.begun k old in omega (arith, a)
        | inr new ↦
            let f = s.finished k new done in
            let w : ◌≡◌ {A = ℕ} (cond (is_named k o) 1 0) 1 = ap (λ b. cond b 1 0) (some-named k o f.0) in
            omega (arith, a, w)
      ];
  completes = λ k done.
      elim (cases_Bool (is_done rows k)) [
        | inl old ↦
            let no_name : is_named k o ≡ false =
            false_from_ne_true (is_named k o) (λ e. both_ways (is_done rows k) (s.head k (named-some k o e)).1 old) in
            s.completions k old ∙ h.completes k old ∙ sym (end-push-no (is_named k) c o no_name)
        | inr new ↦
            let f = s.finished k new done in
            let e : completion_in (c ++ o ∷ []) k ≡ suc (length c) = end-push-yes (is_named k) c o (some-named k o f.0) in
            let e' : completion_of rows' k ≡ length c + 1 = f.1 in
            omega arith
      ];
  least = λ t k below known released open_then.
      let old : is_known rows k ≡ true = sym (s.known k) ∙ known in
      let r : release_of rows' k ≡ release_of rows k = s.releases k in
      let n : length (c ++ o ∷ []) ≡ length c + 1 = length-append c (o ∷ []) in
      elim (cases_lt t (length c)) [
        | inl before ↦
            rw (slot-before c o t before)
            (within-same rows rows' k (slot_at c t) (λ m e m_known. (s.known m ∙ m_known, s.deadlines m)) (s.deadlines k)
            (h.least t k before old (omega arith) (λ d.
            let q : completion_of rows' k ≡ completion_of rows k = s.completions k d in
            let lt : t < completion_of rows' k = open_then (s.done k d) in omega arith)))
        | inr now ↦
            let is : t ≡ length c = omega arith in
            let at : slot_at (c ++ o ∷ []) t ≡ o = ap (slot_at (c ++ o ∷ [])) is ∙ slot-last c o in
            rw at
            (within-same rows rows' k o (λ m e m_known. (s.known m ∙ m_known, s.deadlines m)) (s.deadlines k)
            (elim (cases_Bool (is_done rows k)) [
              | inl d ↦
                  let q : completion_of rows' k ≡ completion_of rows k = s.completions k d in
                  let q' : completion_of rows k ≡ completion_in c k = h.completes k d in
                  let lt : t < completion_of rows' k = open_then (s.done k d) in
                  let le : completion_in c k ≤ length c = end-le-length (is_named k) c in
                  absurd (omega arith)
              | inr open_job ↦ s.least k old open_job (omega arith)
            ]))
      ];
}

-- before the first event
pub nothing-carried : CarriesLeastKeys [] []
nothing-carried = record {
  rising = λ k l. absurd (omega arith);
  known = λ t j e. absurd (none-some j e);
  released = λ t j e. absurd (none-some j e);
  works = λ j k. absurd (false≢true k);
  begun = λ j k. absurd (false≢true k);
  completes = λ j k. absurd (false≢true k);
  least = λ t j l. absurd (omega arith);
}
