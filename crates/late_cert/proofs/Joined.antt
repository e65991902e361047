-- Where each slot of two logs carried a least key, and all jobs of the first are done, so it is of both, one after the other.
use Rattle.std.proofs.Common.{◌≡◌, ℕ, zero, suc, ◌+◌, ◌-◌, ◌<◌, ◌≤◌, Bool, true, false, cond, eqb, List, [], ◌∷◌, ◌++◌, length, map, Option}
use Rattle.std.proofs.Common.{Some, None, is_some, option_map, arith, refl, sym, ap, ◌∙◌, subst, inl, inr, eqb-true, eq-eqb, ne_eqb}
use Rattle.std.proofs.Common.{get_or, length-append, unwrap_or}
use Rattle.std.proofs.lemmas.Bool.{cases_Bool, both_ways, cases_lt, false_from_ne_true, or_left, or_right}
use Rattle.std.proofs.lemmas.List.{get_or_append_left, get_or-append-add, map-append, length-map}
use Rattle.std.proofs.lemmas.List.Sums.{sum_by-append, sum_by-cons}
use Rattle.std.proofs.lemmas.Option.{none-some, same_Some}
use Rattle.std.specs.List.Sorted.{IsStrictlyIncreasing}
use Rattle.late_cert.specs.declared.rows.JobRow.{JobRow}
use Rattle.late_cert.specs.Schedule.{Slots, slot_at, is_named, work_in, end_step, end_by, completion_in}
use Rattle.late_cert.specs.Rows.{RowsRise, row_of, number_in, is_done_in, is_known, is_done, release_of, due_of, work_of, completion_of}
use Rattle.late_cert.specs.Bound.{is_listed}
use Rattle.late_cert.specs.BusyInterval.{is_within, CarriesLeastKeys}
use Rattle.late_cert.specs.JoinedRows.{row_after, slot_after, joined_rows, joined_slots, AreOver}
use Rattle.late_cert.proofs.Binds.{end-le-length}
use Rattle.late_cert.proofs.Keys.{KeyAtMost, within-true, true-within, done-known, known-listed}
use Rattle.late_cert.proofs.Least.{count-map, end-map, count-pos}
use Rattle.late_cert.proofs.Moments.{within-same, fresh-work}

-- Rising

abbrev number : JobRow → ℕ
number row = row.number

listed-here : (xs : List ℕ) (k : ℕ) → k < length xs → is_listed xs (get_or xs k 0) ≡ true
listed-here [] k lt = absurd (omega (arith, lt))
listed-here (x ∷ xs) zero lt = or_left (eqb x x) (is_listed xs x) (eq-eqb x x refl)
listed-here (x ∷ xs) (suc k) lt = or_right (eqb x (get_or xs k 0)) (is_listed xs (get_or xs k 0)) (listed-here xs k (omega (arith, lt)))

rises-append : (xs ys : List ℕ) (n : ℕ) → IsStrictlyIncreasing xs → IsStrictlyIncreasing ys
    → ((k : ℕ) → k < length xs → get_or xs k 0 < n) → ((k : ℕ) → k < length ys → n ≤ get_or ys k 0) → IsStrictlyIncreasing (xs ++ ys)
rises-append xs ys n first later below above k lt = elim (cases_lt (k + 1) (length xs)) [
  | inl inside ↦ omega (
    arith,
    first k inside,
    get_or_append_left xs ys 0 k (omega (arith, inside)),
    get_or_append_left xs ys 0 (k + 1) inside,
  )
  | inr past ↦ elim (cases_lt k (length xs)) [
    | inl last ↦
        let seam : k + 1 ≡ length xs + 0 = omega (arith, last, past) in
        let next : get_or (xs ++ ys) (k + 1) 0 ≡ get_or ys 0 0 = ap (λ i. get_or (xs ++ ys) i 0) seam ∙ get_or-append-add xs ys 0 0 in
        omega (
          arith,
          next,
          get_or_append_left xs ys 0 k last,
          below k last,
          above 0 (omega (arith, lt, length-append xs ys, seam)),
        )
    | inr beyond ↦
        let u : ℕ = k - length xs in
        let place : k ≡ length xs + u = omega (arith, beyond) in
        let next : k + 1 ≡ length xs + (u + 1) = omega (arith, place) in
        omega (
          arith,
          later u (omega (arith, lt, length-append xs ys, next)),
          ap (λ i. get_or (xs ++ ys) i 0) place,
          get_or-append-add xs ys u 0,
          ap (λ i. get_or (xs ++ ys) i 0) next,
          get_or-append-add xs ys (u + 1) 0,
        )
  ]
]

later-number : (n m : ℕ) (rows : List JobRow) (k : ℕ) → k < length (map number rows)
    → get_or (map number (map (row_after n m) rows)) k 0 ≡ n + get_or (map number rows) k 0
later-number n m [] k lt = absurd (omega (arith, lt))
later-number n m (row ∷ rows) zero lt = refl
later-number n m (row ∷ rows) (suc k) lt = later-number n m rows k (omega (arith, lt))

same-length : (n m : ℕ) (rows : List JobRow) → length (map number (map (row_after n m) rows)) ≡ length (map number rows)
same-length n m [] = refl
same-length n m (row ∷ rows) = ap suc (same-length n m rows)

later-rises : (n m : ℕ) (rows : List JobRow) → RowsRise rows → RowsRise (map (row_after n m) rows)
later-rises n m rows h k lt =
    let inside : k + 1 < length (map number rows) = omega (arith, lt, same-length n m rows) in
    omega (
      arith,
      h k inside,
      later-number n m rows k (omega (arith, inside)),
      later-number n m rows (k + 1) inside,
    )

joined-rise : (rows later : List JobRow) (n m : ℕ) → RowsRise rows → AreOver rows n → RowsRise later → RowsRise (joined_rows n m rows later)
joined-rise rows later n m first over second =
    subst IsStrictlyIncreasing (sym (map-append number rows (map (row_after n m) later))) (
    rises-append (map number rows) (map number (map (row_after n m) later)) n first (later-rises n m later second)
    (λ k lt. over.below (get_or (map number rows) k 0) (known-listed rows (get_or (map number rows) k 0) ∙ listed-here (map number rows) k lt))
    (λ k lt. omega (arith, later-number n m later k (omega (arith, lt, same-length n m later))))
    )

-- Looking up

unknown-none : (o : Option JobRow) → is_some o ≡ false → o ≡ None
unknown-none None e = refl
unknown-none (Some row) e = absurd cc

row-left : (rows ys : List JobRow) (j : ℕ) → is_known rows j ≡ true → row_of (rows ++ ys) j ≡ row_of rows j
row-left [] ys j known = absurd cc
row-left (row ∷ rows) ys j known = elim (cases_Bool (eqb row.number j)) [
  | inl here ↦ rw here refl
  | inr other ↦ rw other (row-left rows ys j (rw other at known))
]

row-right : (rows ys : List JobRow) (j : ℕ) → is_known rows j ≡ false → row_of (rows ++ ys) j ≡ row_of ys j
row-right [] ys j unknown = refl
row-right (row ∷ rows) ys j unknown = elim (cases_Bool (eqb row.number j)) [
  | inl here ↦ absurd (known-here here)
  | inr other ↦ rw other (row-right rows ys j (rw other at unknown))
]
  where
    known-here : eqb row.number j ≡ true → ⊥
    known-here here = both_ways (is_known (row ∷ rows) j) unknown (rw here refl)

row-low : (n m : ℕ) (rows : List JobRow) (j : ℕ) → j < n → row_of (map (row_after n m) rows) j ≡ None
row-low n m [] j lt = refl
row-low n m (row ∷ rows) j lt = rw (ne_eqb (n + row.number) j (λ e. absurd (omega (arith, e, lt)))) (row-low n m rows j lt)

row-high : (n m : ℕ) (rows : List JobRow) (k : ℕ) → row_of (map (row_after n m) rows) (n + k) ≡ option_map (row_after n m) (row_of rows k)
row-high n m [] k = refl
row-high n m (row ∷ rows) k = elim (cases_Bool (eqb row.number k)) [
  | inl here ↦ rw (here, eq-eqb (n + row.number) (n + k) (ap (λ i. n + i) (eqb-true row.number k here))) refl
  | inr other ↦ rw (other, ne_eqb (n + row.number) (n + k) (λ e. apart other (omega (arith, e)))) (row-high n m rows k)
]
  where
    apart : eqb row.number k ≡ false → row.number ≡ k → ⊥
    apart other e = both_ways (eqb row.number k) other (eq-eqb row.number k e)

-- Slots

not-low : (n j : ℕ) (o : Option ℕ) → j < n → is_named j (slot_after n o) ≡ false
not-low n j None lt = refl
not-low n j (Some k) lt = ne_eqb j (n + k) (λ e. absurd (omega (arith, e, lt)))

count-low : (n j : ℕ) (d : Slots) → j < n → work_in (map (slot_after n) d) j ≡ 0
count-low n j [] lt = refl
count-low n j (o ∷ d) lt = omega (
  arith,
  sum_by-cons (λ x. cond (is_named j x) 1 0) (slot_after n o) (map (slot_after n) d),
  ap {B = ℕ} (λ b. cond b 1 0) (not-low n j o lt),
  count-low n j d lt,
)

end-low : (n j : ℕ) (d : Slots) → j < n → end_by (is_named j) (map (slot_after n) d) ≡ 0
end-low n j [] lt = refl
end-low n j (o ∷ d) lt = rw (not-low n j o lt, end-low n j d lt) refl

named-high : (n k : ℕ) (o : Option ℕ) → is_named (n + k) (slot_after n o) ≡ is_named k o
named-high n k None = refl
named-high n k (Some i) = elim (cases_Bool (eqb k i)) [
  | inl same ↦ eq-eqb (n + k) (n + i) (ap (λ x. n + x) (eqb-true k i same)) ∙ sym same
  | inr other ↦ ne_eqb (n + k) (n + i) (λ e. both_ways (eqb k i) other (eq-eqb k i (omega (arith, e)))) ∙ sym other
]

end-none : (p : Option ℕ → Bool) (c ys : Slots) → end_by p ys ≡ 0 → end_by p (c ++ ys) ≡ end_by p c
end-none p [] ys e = e
end-none p (x ∷ c) ys e = ap (end_step (p x)) (end-none p c ys e)

end-some : (p : Option ℕ → Bool) (c ys : Slots) (e : ℕ) → end_by p ys ≡ suc e → end_by p (c ++ ys) ≡ suc (length c + e)
end-some p [] ys e is = is ∙ omega arith
end-some p (x ∷ c) ys e is = ap (end_step (p x)) (end-some p c ys e is) ∙ omega arith

carried-high : (n : ℕ) (d : Slots) (u : ℕ) → slot_at (map (slot_after n) d) u ≡ slot_after n (slot_at d u)
carried-high n [] u = refl
carried-high n (o ∷ d) zero = refl
carried-high n (o ∷ d) (suc u) = carried-high n d u

named-after : (n j : ℕ) (o : Option ℕ) → slot_after n o ≡ Some j → (k : ℕ) × (o ≡ Some k) × (n + k ≡ j)
named-after n j None e = absurd (none-some j e)
named-after n j (Some k) e = (k, refl, same_Some (n + k) j e)

-- Both logs

module _ (rows later : List JobRow) (c d : Slots) (n : ℕ)
    (first : CarriesLeastKeys rows c) (over : AreOver rows n) (second : CarriesLeastKeys later d) where
  abbrev m : ℕ
  m = length c

  abbrev both : List JobRow
  both = joined_rows n m rows later

  abbrev slots : Slots
  slots = joined_slots n c d

  low : (j : ℕ) → j < n → row_of both j ≡ row_of rows j
  low j lt = elim (cases_Bool (is_known rows j)) [
    | inl known ↦ row-left rows (map (row_after n m) later) j known
    | inr unknown ↦
        row-right rows (map (row_after n m) later) j unknown
        ∙ (row-low n m later j lt ∙ sym (unknown-none (row_of rows j) unknown))
  ]

  unknown-high : (k : ℕ) → is_known rows (n + k) ≡ false
  unknown-high k = false_from_ne_true (is_known rows (n + k)) (λ known. absurd (omega (arith, over.below (n + k) known)))

  high : (k : ℕ) → row_of both (n + k) ≡ option_map (row_after n m) (row_of later k)
  high k = row-right rows (map (row_after n m) later) (n + k) (unknown-high k) ∙ row-high n m later k

  -- what the row of a later job says
  known-of : (o : Option JobRow) → is_some (option_map (row_after n m) o) ≡ is_some o
  known-of None = refl
  known-of (Some row) = refl

  done-of : (o : Option JobRow) → is_done_in (option_map (row_after n m) o) ≡ is_done_in o
  done-of None = refl
  done-of (Some row) = ended row.completion
    where
      ended : (t : Option ℕ) → is_some (option_map (λ x. m + x) t) ≡ is_some t
      ended None = refl
      ended (Some x) = refl

  known-high : (k : ℕ) → is_known both (n + k) ≡ is_known later k
  known-high k = ap is_some (high k) ∙ known-of (row_of later k)

  done-high : (k : ℕ) → is_done both (n + k) ≡ is_done later k
  done-high k = ap is_done_in (high k) ∙ done-of (row_of later k)

  release-of : (o : Option JobRow) → is_some o ≡ true
      → number_in (λ row. row.release) (option_map (row_after n m) o) ≡ m + number_in (λ row. row.release) o
  release-of None known = absurd cc
  release-of (Some row) known = refl

  due-of : (o : Option JobRow) → is_some o ≡ true
      → number_in (λ row. row.due) (option_map (row_after n m) o) ≡ m + number_in (λ row. row.due) o
  due-of None known = absurd cc
  due-of (Some row) known = refl

  work-of : (o : Option JobRow) → number_in (λ row. row.work) (option_map (row_after n m) o) ≡ number_in (λ row. row.work) o
  work-of None = refl
  work-of (Some row) = refl

  completion-of : (o : Option JobRow) → is_done_in o ≡ true
      → number_in (λ row. unwrap_or row.completion 0) (option_map (row_after n m) o) ≡ m + number_in (λ row. unwrap_or row.completion 0) o
  completion-of None done = absurd cc
  completion-of (Some row) done = ended row.completion done
    where
      ended : (t : Option ℕ) → is_some t ≡ true → unwrap_or (option_map (λ x. m + x) t) 0 ≡ m + unwrap_or t 0
      ended None h = absurd cc
      ended (Some x) h = refl

  known-low : (j : ℕ) → j < n → is_known both j ≡ is_known rows j
  known-low j lt = ap is_some (low j lt)

  release-high : (k : ℕ) → is_known later k ≡ true → release_of both (n + k) ≡ m + release_of later k
  release-high k known = ap (number_in (λ row. row.release)) (high k) ∙ release-of (row_of later k) known

  due-high : (k : ℕ) → is_known later k ≡ true → due_of both (n + k) ≡ m + due_of later k
  due-high k known = ap (number_in (λ row. row.due)) (high k) ∙ due-of (row_of later k) known

  work-high : (k : ℕ) → work_of both (n + k) ≡ work_of later k
  work-high k = ap (number_in (λ row. row.work)) (high k) ∙ work-of (row_of later k)

  completion-high : (k : ℕ) → is_done later k ≡ true → completion_of both (n + k) ≡ m + completion_of later k
  completion-high k done = ap (number_in (λ row. unwrap_or row.completion 0)) (high k) ∙ completion-of (row_of later k) done

  -- each number is of the first log or of the later one, and so is each slot
  by-number : (P : ℕ → Type 0) → ((j : ℕ) → j < n → P j) → ((k : ℕ) → P (n + k)) → (j : ℕ) → P j
  by-number P below above j = elim (cases_lt j n) [
    | inl lt ↦ below j lt
    | inr le ↦ subst P (omega (arith, le)) (above (j - n))
  ]

  by-slot : (P : ℕ → Type 0) → ((t : ℕ) → t < m → P t) → ((u : ℕ) → P (m + u)) → (t : ℕ) → P t
  by-slot P before after t = elim (cases_lt t m) [
    | inl lt ↦ before t lt
    | inr le ↦ subst P (omega (arith, le)) (after (t - m))
  ]

  slot-low : (t : ℕ) → t < m → slot_at slots t ≡ slot_at c t
  slot-low t lt = get_or_append_left c (map (slot_after n) d) None t lt

  slot-high : (u : ℕ) → slot_at slots (m + u) ≡ slot_after n (slot_at d u)
  slot-high u = get_or-append-add c (map (slot_after n) d) u None ∙ carried-high n d u

  -- a slot of the first log carries a number of it, and one of the later log a later one
  known-before : (t : ℕ) → t < m → (j : ℕ) → slot_at slots t ≡ Some j → is_known rows j ≡ true
  known-before t lt j e = first.known t j (sym (slot-low t lt) ∙ e)

  carried-known : (t j : ℕ) → slot_at slots t ≡ Some j → is_known both j ≡ true
  carried-known = by-slot (λ t. (j : ℕ) → slot_at slots t ≡ Some j → is_known both j ≡ true)
      (λ t lt j e. let known = known-before t lt j e in known-low j (over.below j known) ∙ known)
      (λ u j e. let k = named-after n j (slot_at d u) (sym (slot-high u) ∙ e) in
      subst (λ i. is_known both i ≡ true) k.2 (known-high k.0 ∙ second.known u k.0 k.1))

  carried-released : (t j : ℕ) → slot_at slots t ≡ Some j → release_of both j ≤ t
  carried-released = by-slot (λ t. (j : ℕ) → slot_at slots t ≡ Some j → release_of both j ≤ t)
      (λ t lt j e.
      let known = known-before t lt j e in
      omega (
        arith,
        ap (number_in (λ row. row.release)) (low j (over.below j known)),
        first.released t j (sym (slot-low t lt) ∙ e),
      ))
      (λ u j e.
      let k = named-after n j (slot_at d u) (sym (slot-high u) ∙ e) in
      subst (λ i. release_of both i ≤ m + u) k.2
      (omega (arith, release-high k.0 (second.known u k.0 k.1), second.released u k.0 k.1)))

  work-split : (j : ℕ) → work_in slots j ≡ work_in c j + work_in (map (slot_after n) d) j
  work-split j = sum_by-append (λ o. cond (is_named j o) 1 0) c (map (slot_after n) d)

  works-all : (j : ℕ) → is_known both j ≡ true → work_of both j ≡ work_in slots j
  works-all = by-number (λ j. is_known both j ≡ true → work_of both j ≡ work_in slots j)
      (λ j lt known. omega (
        arith,
        ap (number_in (λ row. row.work)) (low j lt),
        first.works j (sym (known-low j lt) ∙ known),
        work-split j,
        count-low n j d lt,
      ))
      (λ k known. omega (
        arith,
        work-high k,
        second.works k (sym (known-high k) ∙ known),
        work-split (n + k),
        fresh-work rows c first (n + k) (unknown-high k),
        count-map (is_named (n + k)) (is_named k) (slot_after n) (named-high n k) d,
      ))

  begun-all : (j : ℕ) → is_done both j ≡ true → 0 < work_of both j
  begun-all = by-number (λ j. is_done both j ≡ true → 0 < work_of both j)
      (λ j lt done. omega (
        arith,
        ap (number_in (λ row. row.work)) (low j lt),
        first.begun j (sym (ap is_done_in (low j lt)) ∙ done),
      ))
      (λ k done. omega (arith, work-high k, second.begun k (sym (done-high k) ∙ done)))

  completes-all : (j : ℕ) → is_done both j ≡ true → completion_of both j ≡ completion_in slots j
  completes-all = by-number (λ j. is_done both j ≡ true → completion_of both j ≡ completion_in slots j)
      (λ j lt done. omega (
        arith,
        ap (number_in (λ row. unwrap_or row.completion 0)) (low j lt),
        first.completes j (sym (ap is_done_in (low j lt)) ∙ done),
        end-none (is_named j) c (map (slot_after n) d) (end-low n j d lt),
      ))
      (λ k done.
      let ended : is_done later k ≡ true = sym (done-high k) ∙ done in
      let some : 0 < completion_in d k = count-pos d k (omega (
        arith,
        second.begun k ended,
        second.works k (done-known later k ended),
      )) in
      let e : ℕ = completion_in d k - 1 in
      let last : completion_in d k ≡ suc e = omega (arith, some) in
      let is : end_by (is_named (n + k)) (map (slot_after n) d) ≡ suc e =
      end-map (is_named (n + k)) (is_named k) (slot_after n) (named-high n k) d ∙ last in
      omega (
        arith,
        completion-high k ended,
        second.completes k ended,
        last,
        end-some (is_named (n + k)) c (map (slot_after n) d) e is,
      ))

  -- a job of the first log is done within it
  done-before : (j : ℕ) → is_known rows j ≡ true → completion_of rows j ≤ m
  done-before j known = omega (arith, first.completes j (over.done j known), end-le-length (is_named j) c)

  within-low : (j t : ℕ) → j < n → t < m → is_within rows j (slot_at c t) ≡ true → is_within both j (slot_at slots t) ≡ true
  within-low j t lt inside within =
      subst (λ o. is_within both j o ≡ true) (sym (slot-low t inside)) (
      within-same rows both j (slot_at c t)
      (λ k e known. (known-low k (over.below k known) ∙ known, ap (number_in (λ row. row.due)) (low k (over.below k known))))
      (ap (number_in (λ row. row.due)) (low j lt)) within
      )

  within-high : (k u : ℕ) → is_known later k ≡ true → is_within later k (slot_at d u) ≡ true
      → is_within both (n + k) (slot_at slots (m + u)) ≡ true
  within-high k u known within =
      let w = within-true later k (slot_at d u) within in
      let i : ℕ = w.number in
      let due_i : due_of both (n + i) ≡ m + due_of later i = due-high i w.known in
      let due_k : due_of both (n + k) ≡ m + due_of later k = due-high k known in
      let deadlines : due_of later i ≤ due_of later k = w.key.deadlines in
      let key : KeyAtMost (due_of both (n + i)) (n + i) (due_of both (n + k)) (n + k) = record {
        deadlines = omega (arith, due_i, due_k, deadlines);
        numbers = λ e. omega (arith, w.key.numbers (omega (arith, e, due_i, due_k)));
      } in
      true-within both (n + k) (n + i) (slot_at slots (m + u)) (slot-high u ∙ ap (slot_after n) w.carries) (known-high i ∙ w.known) key

  abbrev AreLeastAt : ℕ → ℕ → Type 0
  AreLeastAt t j = t < length slots → is_known both j ≡ true → release_of both j ≤ t
      → (is_done both j ≡ true → t < completion_of both j) → is_within both j (slot_at slots t) ≡ true

  least-low : (j : ℕ) → j < n → (t : ℕ) → AreLeastAt t j
  least-low j lt = by-slot (λ t. AreLeastAt t j)
      (λ t inside end known released open_then.
      let known_first : is_known rows j ≡ true = sym (known-low j lt) ∙ known in
      within-low j t lt inside (first.least t j inside known_first
      (omega (arith, released, ap (number_in (λ row. row.release)) (low j lt)))
      (λ done. omega (
        arith,
        open_then (ap is_done_in (low j lt) ∙ done),
        ap (number_in (λ row. unwrap_or row.completion 0)) (low j lt),
      ))))
      (λ u end known released open_then.
      let known_first : is_known rows j ≡ true = sym (known-low j lt) ∙ known in
      let done : is_done both j ≡ true = ap is_done_in (low j lt) ∙ over.done j known_first in
      absurd (omega (
        arith,
        open_then done,
        ap (number_in (λ row. unwrap_or row.completion 0)) (low j lt),
        done-before j known_first,
      )))

  least-high : (k t : ℕ) → AreLeastAt t (n + k)
  least-high k = by-slot (λ t. AreLeastAt t (n + k))
      (λ t inside end known released open_then.
      absurd (omega (arith, released, inside, release-high k (sym (known-high k) ∙ known))))
      (λ u end known released open_then.
      let known_later : is_known later k ≡ true = sym (known-high k) ∙ known in
      within-high k u known_later (second.least u k
      (omega (arith, end, length-append c (map (slot_after n) d), length-map d (slot_after n)))
      known_later
      (omega (arith, released, release-high k known_later))
      (λ done. omega (arith, open_then (done-high k ∙ done), completion-high k done))))

  pub joined-keys : CarriesLeastKeys both slots
  joined-keys = record {
    rising = joined-rise rows later n m first.rising over second.rising;
    known = carried-known;
    released = carried-released;
    works = works-all;
    begun = begun-all;
    completes = completes-all;
    least = λ t j. by-number (AreLeastAt t) (λ i lt. least-low i lt t) (λ k. least-high k t) j;
  }

pub keys-joined : (rows later : List JobRow) (c d : Slots) (n : ℕ) → CarriesLeastKeys rows c → AreOver rows n → CarriesLeastKeys later d
    → CarriesLeastKeys (joined_rows n (length c) rows later) (joined_slots n c d)
keys-joined = joined-keys

-- where all jobs of the later log are done, too, all of both are
pub over-joined : (rows later : List JobRow) (n m k : ℕ) → AreOver rows n → AreOver later k → AreOver (joined_rows n m rows later) (n + k)
over-joined rows later n m k over second = record { done = λ j known. (all j known).0; below = λ j known. (all j known).1 }
  where
    ended : (t : Option ℕ) → is_some (option_map (λ x. m + x) t) ≡ is_some t
    ended None = refl
    ended (Some x) = refl

    known_of : (o : Option JobRow) → is_some (option_map (row_after n m) o) ≡ is_some o
    known_of None = refl
    known_of (Some row) = refl

    done_of : (o : Option JobRow) → is_done_in (option_map (row_after n m) o) ≡ is_done_in o
    done_of None = refl
    done_of (Some row) = ended row.completion

    in_later : (j : ℕ) → is_some (row_of (map (row_after n m) later) j) ≡ true
        → (is_done_in (row_of (map (row_after n m) later) j) ≡ true) × (j < n + k)
    in_later j known = elim (cases_lt j n) [
      | inl lt ↦ absurd (both_ways (is_some (row_of (map (row_after n m) later) j)) (ap is_some (row-low n m later j lt)) known)
      | inr le ↦
          let i : ℕ = j - n in
          let place : j ≡ n + i = omega (arith, le) in
          let row : row_of (map (row_after n m) later) j ≡ option_map (row_after n m) (row_of later i) =
          ap (row_of (map (row_after n m) later)) place ∙ row-high n m later i in
          let known_i : is_known later i ≡ true = sym (known_of (row_of later i)) ∙ (sym (ap is_some row) ∙ known) in (
            ap is_done_in row ∙ (done_of (row_of later i) ∙ second.done i known_i),
            omega (arith, place, second.below i known_i),
          )
    ]

    all : (j : ℕ) → is_known (joined_rows n m rows later) j ≡ true → (is_done (joined_rows n m rows later) j ≡ true) × (j < n + k)
    all j known = elim (cases_Bool (is_known rows j)) [
      | inl first ↦ (
        ap is_done_in (row-left rows (map (row_after n m) later) j first) ∙ over.done j first,
        omega (arith, over.below j first),
      )
      | inr unknown ↦
          let same = row-right rows (map (row_after n m) later) j unknown in
          let q = in_later j (sym (ap is_some same) ∙ known) in
          (ap is_done_in same ∙ q.0, q.1)
    ]

-- what the rows of both say of a number of the first log, and of one of the later log
pub joined-first : (rows later : List JobRow) (n m j : ℕ) → is_known rows j ≡ true → row_of (joined_rows n m rows later) j ≡ row_of rows j
joined-first rows later n m j known = row-left rows (map (row_after n m) later) j known

pub joined-later : (rows later : List JobRow) (n m k : ℕ) → AreOver rows n
    → row_of (joined_rows n m rows later) (n + k) ≡ option_map (row_after n m) (row_of later k)
joined-later rows later n m k over =
    row-right rows (map (row_after n m) later) (n + k)
    (false_from_ne_true (is_known rows (n + k)) (λ known. absurd (omega (arith, over.below (n + k) known))))
    ∙ row-high n m later k
