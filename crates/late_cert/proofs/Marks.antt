-- The marks of the rows that a busy interval carries.
use Rattle.std.proofs.Common.{◌≡◌, ℕ, zero, suc, ◌+◌, ◌<◌, ◌≤◌, Bool, true, false, cond, List, [], ◌∷◌, length, map, None, get_or, filter}
use Rattle.std.proofs.Common.{take, ◌++◌, append-nil, replicate, arith, refl, sym, ap, ◌∙◌}
use Rattle.std.proofs.lemmas.Bool.{lt-leb}
use Rattle.std.proofs.lemmas.List.Elements.{filter_more}
use Rattle.late_cert.specs.declared.rows.JobRow.{JobRow}
use Rattle.late_cert.specs.Schedule.{Slots}
use Rattle.late_cert.specs.BusyInterval.{is_carried}
use Rattle.late_cert.specs.Build.{AreMarks}
use Rattle.late_cert.proofs.RowSearch.{map-length, map-get}

pub carried-none : (c : Slots) (s n k : ℕ) → n ≤ s → is_carried c s n k ≡ false
carried-none c s zero k h = refl
carried-none c s (suc n) k h = rw (lt-leb s n (omega arith)) (carried-none c s n k (omega arith))

pub replicate-false : (n i : ℕ) → get_or (replicate n false) i false ≡ false
replicate-false zero i = refl
replicate-false (suc n) zero = refl
replicate-false (suc n) (suc i) = replicate-false n i

pub length-replicate : (n : ℕ) (b : Bool) → length (replicate n b) ≡ n
length-replicate zero b = refl
length-replicate (suc n) b = ap suc (length-replicate n b)

-- no slot yet
pub marks-start : (rows : List JobRow) (c : Slots) (s : ℕ) (marks : List Bool) → marks ≡ replicate (length rows) false
    → AreMarks rows c s s marks
marks-start rows c s marks e = record {
  as_many = ap length e ∙ length-replicate (length rows) false;
  each = λ i d l.
      ap (λ (m : List Bool). get_or m i false) e ∙ replicate-false (length rows) i
      ∙ sym (carried-none c s s (get_or rows i d).number (omega arith));
}

-- one row more
pub marked-more : (rows : List JobRow) (c : Slots) (s n : ℕ) (marks : List Bool) → AreMarks rows c s n marks
    → (i : ℕ) (d : JobRow) (b : Bool) → i < length rows → get_or marks i false ≡ b
    → filter (is_carried c s n) (take (i + 1) (map (λ (r : JobRow). r.number) rows))
    ≡ filter (is_carried c s n) (take i (map (λ (r : JobRow). r.number) rows)) ++ cond b ((get_or rows i d).number ∷ []) []
marked-more rows c s n marks m i d b h mark =
    let p : ℕ → Bool = is_carried c s n in
    let xs : List ℕ = map (λ (r : JobRow). r.number) rows in
    let l : length xs ≡ length rows = map-length rows in
    let at : get_or xs i 0 ≡ (get_or rows i d).number = map-get rows i d 0 h in
    let q : p (get_or rows i d).number ≡ b = sym (m.each i d h) ∙ mark in
    filter_more p xs i 0 (omega arith) ∙ rw (at, q) refl

pub marked-yes : (rows : List JobRow) (c : Slots) (s n : ℕ) (marks : List Bool) → AreMarks rows c s n marks
    → (i : ℕ) (d : JobRow) (jobs : List ℕ) → i < length rows → get_or marks i false ≡ true
    → jobs ≡ filter (is_carried c s n) (take i (map (λ (r : JobRow). r.number) rows))
    → jobs ++ (get_or rows i d).number ∷ [] ≡ filter (is_carried c s n) (take (i + 1) (map (λ (r : JobRow). r.number) rows))
marked-yes rows c s n marks m i d jobs h mark e =
    ap (λ (js : List ℕ). js ++ (get_or rows i d).number ∷ []) e ∙ sym (marked-more rows c s n marks m i d true h mark)

pub marked-no : (rows : List JobRow) (c : Slots) (s n : ℕ) (marks : List Bool) → AreMarks rows c s n marks
    → (i : ℕ) (jobs : List ℕ) → i < length rows → get_or marks i false ≡ false
    → jobs ≡ filter (is_carried c s n) (take i (map (λ (r : JobRow). r.number) rows))
    → jobs ≡ filter (is_carried c s n) (take (i + 1) (map (λ (r : JobRow). r.number) rows))
marked-no rows c s n marks m i jobs h mark e =
    let d : JobRow = record { number = 0; release = 0; due = 0; work = 0; completion = None } in
    e ∙ sym (append-nil _) ∙ sym (marked-more rows c s n marks m i d false h mark)
