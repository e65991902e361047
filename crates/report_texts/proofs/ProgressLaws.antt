-- A row that may come next brings the rows further, within their limits.
use Rattle.std.proofs.Common.{◌≡◌, ℕ, ◌+◌, ◌*◌, ◌<◌, ◌≤◌, ◌==◌, List, [], ◌∷◌, ◌++◌, true, Option, Some, None, length, length-append, refl, sym, inl, inr}
use Rattle.std.proofs.Common.{arith}
use Rattle.std.specs.Prelude.{◌&&◌, nat_lt}
use Rattle.std.proofs.lemmas.Bool.{and_parts, cases_Bool, ltb-true}
use Rattle.report_texts.specs.ReportOf.{Gathered, all_dies, gathered_with, if_follows, may_follow, report_on, with_last, with_row}
use Rattle.report_texts.specs.ReportRows.{◌>>=◌, has_outcome, if_sound, is_placed, is_sound, is_timed, row_in, sound_row}
use Rattle.report_texts.specs.declared.report_rows.DieRow.{DieRow}

sound-of : (o : Option DieRow) (x : DieRow) → (o >>= if_sound) ≡ Some x → is_sound x ≡ true
sound-of None x e = absurd (cc e)
sound-of (Some y) x e = elim (cases_Bool (is_sound y)) [
  | inl sound ↦
      let is : y ≡ x = cc (rw sound at e) in
      rw (← is) sound
  | inr other ↦ absurd (cc (rw other at e))
]

-- a record's row is sound
row-sound : (fields : List (List ℕ)) (x : DieRow) → sound_row fields ≡ Some x → is_sound x ≡ true
row-sound fields x e = elim (cases_Bool (length fields == 11)) [
  | inl whole ↦ sound-of (row_in fields) x (rw whole at e)
  | inr other ↦ absurd (cc (rw other at e))
]

-- its numbers are within their limits
sound-place : (x : DieRow) → is_sound x ≡ true → (x.die < 8) × (x.row.job < 65536)
sound-place x sound =
    let placed = (and_parts (is_placed x) (is_timed x.row && has_outcome x.row x.row.row x.row.completion) sound).0 in
    let parts = and_parts (nat_lt x.die 8) (nat_lt x.row.task 16 && nat_lt x.row.job 65536) placed in
    let rest = and_parts (nat_lt x.row.task 16) (nat_lt x.row.job 65536) parts.1 in
    (ltb-true x.die 8 parts.0, ltb-true x.row.job 65536 rest.1)

-- how far the rows have come: at most 65,536 on each of eight dies
abbrev pub progress : ℕ → ℕ → ℕ
progress die rows = die * 65536 + rows

-- the rows come further, within their limits
pub record IsFurther (g more : Gathered) : Type 0 where
  pub few : length more.rows ≤ 65536
  pub low : more.die < 8
  pub dies : length g.done ≤ g.die → length more.done ≤ more.die
  pub grows : progress g.die (length g.rows) < progress more.die (length more.rows)
  pub bound : progress more.die (length more.rows) ≤ 524288

-- the last die is one more
pub length-last : {D : Type 0} (done : List D) (rows : ℕ) (last : D) → length (with_last done rows last) ≤ length done + 1
length-last done rows last = elim (cases_Bool (rows == 0)) [
  | inl none ↦ rw none (omega (arith, length-append done []))
  | inr some ↦ rw some (omega (arith, length-append done (last ∷ [])))
]

row-further : (g : Gathered) (x : DieRow) → length g.rows ≤ 65536 → is_sound x ≡ true → may_follow g x ≡ true
    → IsFurther g (with_row g x)
row-further g x few sound follows =
    let place = sound-place x sound in
    elim (cases_Bool (x.die == g.die)) [
      | inl same ↦
          let is : x.row.job ≡ length g.rows = grind (arith, rw same at follows) in
          let of_die : x.die ≡ g.die = grind (arith, same) in
          let longer : length (g.rows ++ x.row ∷ []) ≡ length g.rows + 1 = length-append g.rows (x.row ∷ []) in
          rw same (record {
            few = omega (arith, place);
            low = omega (arith, place, of_die);
            dies = λ dies. omega (arith, of_die);
            grows = omega arith;
            bound = omega (arith, place);
          })
      | inr later ↦
          let after : g.die < x.die = ltb-true g.die x.die (and_parts (nat_lt g.die x.die) (x.row.job == 0) (rw later at follows)).0 in
          let longer : length (all_dies g) ≤ length g.done + 1 = length-last g.done (length g.rows) (report_on g.die g.rows) in
          rw later (record {
            few = omega arith;
            low = place.0;
            dies = λ dies. omega (arith, longer, after);
            grows = omega arith;
            bound = omega (arith, place);
          })
    ]

row-of : (g more : Gathered) (o : Option DieRow) → (o >>= if_follows g) ≡ Some more
    → (x : DieRow) × (o ≡ Some x) × (may_follow g x ≡ true) × (more ≡ with_row g x)
row-of g more None e = absurd (cc e)
row-of g more (Some x) e = elim (cases_Bool (may_follow g x)) [
  | inl follows ↦
      let is : with_row g x ≡ more = cc (rw follows at e) in
      (x, refl, follows, sym is)
  | inr other ↦ absurd (cc (rw other at e))
]

-- a record that may come next says a row
pub gathered-row : (g more : Gathered) (fields : List (List ℕ)) → gathered_with g fields ≡ Some more
    → (x : DieRow) × (sound_row fields ≡ Some x) × (may_follow g x ≡ true) × (more ≡ with_row g x)
gathered-row g more fields e = row-of g more (sound_row fields) e

-- and brings the rows further
pub further : (g more : Gathered) (fields : List (List ℕ)) → length g.rows ≤ 65536 → gathered_with g fields ≡ Some more
    → IsFurther g more
further g more fields few e =
    let (x, says, follows, is) = gathered-row g more fields e in
    rw is (row-further g x few (row-sound fields x says) follows)
