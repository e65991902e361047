-- One run further back.
use Rattle.std.proofs.Common.{◌≡◌, ◌≢◌, ℕ, zero, suc, ◌+◌, ◌-◌, ◌<◌, ◌≤◌, Bool, true, false, List, length, Option, Some, None, get_or, set}
use Rattle.std.proofs.Common.{take, arith, refl, sym, ap, ◌∙◌, inl, inr, get_or-set_same, get_or-set_other, length-set}
use Rattle.std.proofs.lemmas.Bool.{true≢false, cases_Bool, cases_order, cases_lt, false_from_ne_true}
use Rattle.std.proofs.lemmas.Option.{same_Some}
use Rattle.std.specs.Prelude.{IfSome}
use Rattle.late_cert.specs.declared.carried.Run.{Run}
use Rattle.late_cert.specs.declared.rows.JobRow.{JobRow}
use Rattle.late_cert.specs.Schedule.{Slots, slot_at}
use Rattle.late_cert.specs.Rows.{RowsRise, IsNamedAt}
use Rattle.late_cert.specs.BusyInterval.{is_within, start_of, is_carried}
use Rattle.late_cert.specs.Build.{AreMarks}
use Rattle.late_cert.specs.Runs.{slots_of}
use Rattle.late_cert.proofs.Runs.{run-slot, prefix-more}
use Rattle.late_cert.proofs.RowSearch.{rows-rise-lt}
use Rattle.late_cert.proofs.Window.{carried-true, true-carried}

-- slots that each carry the number
abbrev pub AllCarry : Slots → ℕ → ℕ → Option ℕ → Type 0
AllCarry c b s o = (t : ℕ) → b ≤ t → t < s → slot_at c t ≡ o

-- the busy interval goes on over slots that are all within
pub start-run : (rows : List JobRow) (c : Slots) (j b s : ℕ) (o : Option ℕ) → b ≤ s → AllCarry c b s o → is_within rows j o ≡ true
    → start_of rows c j s ≡ start_of rows c j b
start-run rows c j b zero o h all w = let e : b ≡ 0 = omega arith in rw e refl
start-run rows c j b (suc s) o h all w =
    elim (cases_order b (suc s)) [
      | inl e ↦ rw e refl
      | inr (inl lt) ↦
          let here : is_within rows j (slot_at c s) ≡ true = ap (is_within rows j) (all s (omega arith) (omega arith)) ∙ w in
          rw here (start-run rows c j b s o (omega arith) (λ t x y. all t x (omega arith)) w)
      | inr (inr gt) ↦ absurd (omega arith)
    ]

-- and ends at one that is not
pub start-stays : (rows : List JobRow) (c : Slots) (j s t : ℕ) (o : Option ℕ) → s ≡ suc t → slot_at c t ≡ o → is_within rows j o ≡ false
    → start_of rows c j s ≡ s
start-stays rows c j s t o e at w =
    let here : is_within rows j (slot_at c t) ≡ false = ap (is_within rows j) at ∙ w in
    rw (e, here) refl

-- slots of one number more mark no row of another
pub carried-further : (c : Slots) (b s n j k : ℕ) → b ≤ s → s ≤ n → AllCarry c b s (Some k) → (j ≡ k → ⊥)
    → is_carried c s n j ≡ is_carried c b n j
carried-further c b s n j k h l all other =
    elim (cases_Bool (is_carried c b n j)) [
      | inl carried ↦
          let q = carried-true c b n j carried in
          let q2 : q.0 < n = q.2 in
          elim (cases_lt q.0 s) [
            | inl lt ↦ absurd (other (same_Some j k (sym q.3 ∙ all q.0 q.1 lt)))
            | inr ge ↦ true-carried c s n j q.0 ge q2 q.3 ∙ sym carried
          ]
      | inr not_carried ↦
          false_from_ne_true (is_carried c s n j) (λ e.
          let q = carried-true c s n j e in
          let q1 : s ≤ q.0 = q.1 in
          true≢false (sym (true-carried c b n j q.0 (omega arith) q.2 q.3) ∙ not_carried))
          ∙ sym not_carried
    ]

-- they mark the row of theirs
pub marks-run : (rows : List JobRow) → RowsRise rows → (c : Slots) (b s n k p : ℕ) (marks : List Bool) → AreMarks rows c s n marks
    → b < s → s ≤ n → AllCarry c b s (Some k) → p < length rows → IsNamedAt rows p k → AreMarks rows c b n (set marks p true)
marks-run rows r c b s n k p marks m h l all in_rows named = record {
  as_many = length-set marks p true ∙ m.as_many;
  each = λ i d in_i.
      elim (cases_order i p) [
        | inl same ↦
            let name : (get_or rows i d).number ≡ k = rw same (named d) in
            let at : get_or (set marks p true) i false ≡ true =
            (rw same (get_or-set_same marks p true false (let q : length marks ≡ length rows = m.as_many in omega arith))) in
            at ∙ sym (true-carried c b n (get_or rows i d).number b (omega arith) (omega arith) (all b (omega arith) h
            ∙ ap Some (sym name)))
        | inr (inl lt) ↦
            let ne : i ≢ p = omega arith in
            let below : (get_or rows i d).number < (get_or rows p d).number = rows-rise-lt rows r i p d lt in_rows in
            let name : (get_or rows p d).number ≡ k = named d in
            get_or-set_other marks p i true false ne ∙ m.each i d in_i
            ∙ carried-further c b s n (get_or rows i d).number k (omega arith) l all (λ q. absurd (omega arith))
        | inr (inr gt) ↦
            let ne : i ≢ p = omega arith in
            let below : (get_or rows p d).number < (get_or rows i d).number = rows-rise-lt rows r p i d gt in_i in
            let name : (get_or rows p d).number ≡ k = named d in
            get_or-set_other marks p i true false ne ∙ m.each i d in_i
            ∙ carried-further c b s n (get_or rows i d).number k (omega arith) l all (λ q. absurd (omega arith))
      ];
}

pub marks-step : (rows : List JobRow) → RowsRise rows → (c : Slots) (j b s n : ℕ) (o : Option ℕ) (p : ℕ) (marks : List Bool)
    → AreMarks rows c s n marks → b < s → s ≤ n → AllCarry c b s o → is_within rows j o ≡ true → p < length rows
    → IfSome o (λ k. IsNamedAt rows p k) → AreMarks rows c b n (set marks p true)
marks-step rows r c j b s n None p marks m h l all within in_rows named = absurd (true≢false (sym within))
marks-step rows r c j b s n (Some k) p marks m h l all within in_rows named = marks-run rows r c b s n k p marks m h l all in_rows named

-- the last of the first i runs ends where they do, and begins where those before it end
pub record IsLastRun (runs : List Run) (c : Slots) (i : ℕ) (run : Run) (end : ℕ) : Type 0 where
  pub fits : run.length ≤ end
  pub begins : end - run.length ≡ length (slots_of (take (i - 1) runs))
  pub carries : AllCarry c (end - run.length) end run.number

pub last-run : (runs : List Run) (c : Slots) (i : ℕ) (run : Run) (end : ℕ) → slots_of runs ≡ c → 0 < i → i ≤ length runs
    → end ≡ length (slots_of (take i runs)) → run ≡ get_or runs (i - 1) run → IsLastRun runs c i run end
last-run runs c i run end is h k e at =
    let l : run.length ≡ (get_or runs (i - 1) run).length = ap (λ (q : Run). q.length) at in
    let m : end ≡ length (slots_of (take (i - 1) runs)) + (get_or runs (i - 1) run).length = prefix-more runs i run end h k e in
    record {
      fits = omega arith;
      begins = omega arith;
      carries = λ t a b.
          ap (λ (f : Slots). slot_at f t) (sym is)
          ∙ run-slot runs (i - 1) run t (omega arith) (omega arith) (omega arith)
          ∙ ap (λ (q : Run). q.number) (sym at);
    }
