-- Rows over arenas, when one of them changes, or one is added.
use Rattle.std.proofs.Common.{◌≡◌, ◌≢◌, ℕ, zero, suc, ◌+◌, ◌-◌, ◌^◌, ◌<◌, ◌≤◌, Bool, true, false, refl, sym, ap, ◌∙◌, arith, List, [], ◌∷◌, ◌++◌}
use Rattle.std.proofs.Common.{length, take, drop, set, map, get_or, slice_get, Option, Some, option_map, count_by, length-append, ◌⊎◌, inl}
use Rattle.std.proofs.Common.{inr, cond}
use Rattle.std.proofs.Common.{subst, ◌==◌, eqb-true}
use Rattle.std.proofs.lemmas.Bool.{cases_Bool}
use Rattle.std.proofs.lemmas.Bool.Decides.{nat_tests}
use Rattle.std.proofs.Math.Seq.{take-append_seam, drop-append_seam}
use Rattle.std.proofs.lemmas.List.{length-map, length-drop, take_all, take-append-le, drop-append-le, take-set-le, take_more_set}
use Rattle.std.proofs.lemmas.List.{drop-set-lt, drop-set-add, map-append, length-set}
use Rattle.std.proofs.lemmas.List.Sums.{sum_by-append, sum_by-set, sum_by_push, get_or-le-sum_by}
use Rattle.std.proofs.lemmas.Option.{slice_get_within, slice_get_read, slice_get-map, get_or_from_slice_get}
use Rattle.slot_types.specs.declared.events.Op.{Op}
use Rattle.slot_types.specs.declared.pages.PageData.{PageData}
use Rattle.slot_types.specs.Operations.{is_write, writes}
use Rattle.job_table.specs.declared.rows.Row.{Row}
use Rattle.job_table.specs.Jobs.{JobRecord, is_read, is_some_read, new_record, with_one_more_slot, with_read}
use Rattle.job_table.specs.Table.{changed_at, reads_next_at, reads_next_of}
use Rattle.job_table.specs.Flat.{ops_at, reads_at, job_at, jobs_at, place_count, places_lacking, place_from, places_unfilled, with_page, IsRowOf, IsRowIn, AreLaid}
use Rattle.job_table.specs.Flat.{HasFewOps, HaveRoom}
use Rattle.slot_types.specs.Operations.{is_some_write}
use Rattle.job_table.proofs.Reading.{one_if, read_of, write_of, no_write, done_more, has_read, lacks_all, lacks_none, done_placed}
use Rattle.job_table.proofs.Reading.{next_of_all}

-- Lists of rows

map_same : (f g : Row → JobRecord) (rows : List Row) → ((n : ℕ) (row : Row) → slice_get rows n ≡ Some row → g row ≡ f row) → map g rows
    ≡ map f rows
map_same f g [] same = refl
map_same f g (row ∷ rows) same = ap (λ (job : JobRecord). job ∷ map g rows) (same 0 row refl)
    ∙ ap (λ (jobs : List JobRecord). f row ∷ jobs) (map_same f g rows (λ n other e. same (suc n) other e))

-- one row changed, and what stands for the others is the same
pub map_changed : (f g : Row → JobRecord) (rows : List Row) (n : ℕ) (row next : Row) (change : JobRecord → JobRecord) → slice_get rows n
    ≡ Some row → g next ≡ change (f row)
    → ((m : ℕ) (other : Row) → m ≢ n → slice_get rows m ≡ Some other → g other ≡ f other) → map g (set rows n next)
    ≡ changed_at (map f rows) n change
map_changed f g [] n row next change e is same = absurd cc
map_changed f g (r ∷ rows) zero row next change e is same =
    let here : row ≡ r = cc in
    ap (λ (job : JobRecord). job ∷ map g rows) (is ∙ ap (λ (x : Row). change (f x)) here)
    ∙ ap (λ (jobs : List JobRecord). change (f r) ∷ jobs)
    (map_same f g rows (λ m other at_m. same (suc m) other (λ x. absurd (omega arith)) at_m))
map_changed f g (r ∷ rows) (suc n) row next change e is same =
    ap (λ (job : JobRecord). job ∷ map g (set rows n next)) (same 0 r (λ x. absurd (omega arith)) refl)
    ∙ ap (λ (jobs : List JobRecord). f r ∷ jobs) (map_changed f g rows n row next change e is
    (λ m other differs at_m. same (suc m) other (λ x. differs (omega arith)) at_m))

-- where a row of the changed list comes from
set_cases : (rows : List Row) (n : ℕ) (next : Row) (m : ℕ) (other : Row) → slice_get (set rows n next) m ≡ Some other
    → ((m ≡ n) × (next ≡ other)) ⊎ (slice_get rows m ≡ Some other)
set_cases [] n next m other e = absurd cc
set_cases (r ∷ rows) zero next zero other e = inl (refl, cc)
set_cases (r ∷ rows) zero next (suc m) other e = inr e
set_cases (r ∷ rows) (suc n) next zero other e = inr e
set_cases (r ∷ rows) (suc n) next (suc m) other e = elim (set_cases rows n next m other e) [ inl h ↦ inl (ap suc h.0, h.1) | inr h ↦ inr h ]

-- a row with the same operations stood there before
record HasSpan (rows : List Row) (m : ℕ) (other : Row) : Type 0 where
  old : Row
  is_at : slice_get rows m ≡ Some old
  first_is : other.first_op ≡ old.first_op
  count_is : other.op_count ≡ old.op_count

span_kept : (rows : List Row) (n : ℕ) (row next : Row) → slice_get rows n ≡ Some row → next.first_op ≡ row.first_op → next.op_count
    ≡ row.op_count
    → (m : ℕ) (other : Row) → slice_get (set rows n next) m ≡ Some other → HasSpan rows m other
span_kept rows n row next e first count m other at_m =
    elim (set_cases rows n next m other at_m) [
      | inl h ↦ record {
        old = row;
        is_at = ap (slice_get rows) h.0 ∙ e;
        first_is = ap (λ (r : Row). r.first_op) (sym h.1)
            ∙ first;
        count_is = ap (λ (r : Row). r.op_count) (sym h.1) ∙ count;
      }
      | inr h ↦ record { old = other; is_at = h; first_is = refl; count_is = refl }
    ]

push_cases : (rows : List Row) (next : Row) (n : ℕ) (other : Row) → slice_get (rows ++ next ∷ []) n ≡ Some other
    → (slice_get rows n ≡ Some other) ⊎ ((n ≡ length rows) × (next ≡ other))
push_cases [] next zero other e = inr (refl, cc)
push_cases [] next (suc n) other e = absurd cc
push_cases (r ∷ rows) next zero other e = inl e
push_cases (r ∷ rows) next (suc n) other e = elim (push_cases rows next n other e) [ inl h ↦ inl h | inr h ↦ inr (ap suc h.0, h.1) ]

-- A row by its number

pub number_within : (rows : List Row) (ops : List Op) (reads : List PageData) (jobs : List JobRecord) (n number : ℕ)
    → jobs_at ops reads rows ≡ jobs → n ≡ number → number < length jobs → n < length rows
number_within rows ops reads jobs n number view number_is within = omega (arith, ap length view, length-map rows (job_at ops reads))

pub row_read : (rows : List Row) (ops : List Op) (reads : List PageData) (jobs : List JobRecord) (n number : ℕ) (row : Row)
    → jobs_at ops reads rows ≡ jobs → n ≡ number → number < length jobs → row ≡ get_or rows n row
    → slice_get rows n ≡ Some row
row_read rows ops reads jobs n number row view number_is within read = slice_get_read rows (length rows) n row refl
    (number_within rows ops reads jobs n number view number_is within) read

-- what stands for it
pub job_there : (rows : List Row) (ops : List Op) (reads : List PageData) (jobs : List JobRecord) (n number : ℕ) (found : Option Row)
    → jobs_at ops reads rows ≡ jobs → n ≡ number → slice_get rows n ≡ found
    → slice_get jobs number ≡ option_map (job_at ops reads) found
job_there rows ops reads jobs n number found view number_is at_n =
    ap (slice_get jobs) (sym number_is) ∙ ap (λ (l : List JobRecord). slice_get l n) (sym view) ∙ slice_get-map (job_at ops reads) rows n
    ∙ ap (option_map (job_at ops reads)) at_n

-- the row of a number whose next operation is a read
pub record IsReading (rows : List Row) (ops : List Op) (n : ℕ) (row : Row) : Type 0 where
  pub there : slice_get rows n ≡ Some row
  pub next : is_some_read (slice_get (ops_at ops row) row.work) ≡ true

pub row_reading : (rows : List Row) (ops : List Op) (reads : List PageData) (jobs : List JobRecord) (n number : ℕ) (row : Row)
    → jobs_at ops reads rows ≡ jobs → n ≡ number → number < length jobs → row ≡ get_or rows n row → reads_next_at jobs number ≡ true
    → IsReading rows ops n row
row_reading rows ops reads jobs n number row view number_is within read reads_next =
    let at_n = row_read rows ops reads jobs n number row view number_is within read in
    record {
      there = at_n;
      next = sym (ap reads_next_of (job_there rows ops reads jobs n number (Some row) view number_is at_n)) ∙ reads_next;
    }

-- A row that changes

-- a row that took a slot in which it read, and whose places begin there
abbrev pub after_read : Row → ℕ → Row
after_read row from = record row { first_place = from; reads_done = row.reads_done + 1; work = row.work + 1 }

-- one that took a slot more, and no read of its own
pub row_carried : (ops : List Op) (row : Row) (count : ℕ) → is_some_read (slice_get (ops_at ops row) row.work) ≡ false
    → count ≡ cond (is_some_write (slice_get (ops_at ops row) row.work)) 1 0 → IsRowOf ops row
    → IsRowOf ops (record row { writes_done = row.writes_done + count; work = row.work + 1 })
row_carried ops row count next is fits = record {
  ops_there = fits.ops_there;
  ops_few = fits.ops_few;
  first_write_is = fits.first_write_is;
  read_count_is = fits.read_count_is;
  reads_done_is =
      let more = done_more is_read ops row row.reads_done false (read_of (slice_get (ops_at ops row) row.work) ∙ next) fits.reads_done_is in
      omega (arith, more);
  writes_done_is =
      let more = done_more is_write ops row row.writes_done (is_some_write (slice_get (ops_at ops row) row.work))
      (write_of (slice_get (ops_at ops row) row.work)) fits.writes_done_is in
      omega (arith, more, is);
}

-- one that took a slot more, in which it read
row_read_more : (ops : List Op) (row : Row) (from : ℕ) → is_some_read (slice_get (ops_at ops row) row.work) ≡ true → IsRowOf ops row
    → IsRowOf ops (after_read row from)
row_read_more ops row from next fits = record {
  ops_there = fits.ops_there;
  ops_few = fits.ops_few;
  first_write_is = fits.first_write_is;
  read_count_is = fits.read_count_is;
  reads_done_is = done_more is_read ops row row.reads_done true (read_of (slice_get (ops_at ops row) row.work) ∙ next) fits.reads_done_is;
  writes_done_is =
      let more = done_more is_write ops row row.writes_done false (no_write (slice_get (ops_at ops row) row.work) next) fits.writes_done_is in
      omega (arith, more);
}

-- the jobs after a row changed beside its reads
pub jobs_set : (rows : List Row) (ops : List Op) (reads : List PageData) (n : ℕ) (row next : Row) (change : JobRecord → JobRecord)
    → slice_get rows n ≡ Some row → job_at ops reads next ≡ change (job_at ops reads row)
    → jobs_at ops reads (set rows n next) ≡ changed_at (jobs_at ops reads rows) n change
jobs_set rows ops reads n row next change at_n is = map_changed (job_at ops reads) (job_at ops reads) rows n row next change at_n is
    (λ m other differs at_m. refl)

-- the rows stay laid where one keeps its operations, and its places are still there and apart from those of all others
laid_set : (rows : List Row) (ops : List Op) (reads reads' : List PageData) (placed placed' n : ℕ) (row next : Row)
    → slice_get rows n ≡ Some row → next.first_op ≡ row.first_op → next.op_count ≡ row.op_count → IsRowIn ops reads' next
    → next.first_place + place_count next ≤ placed' → length reads ≤ length reads' → placed ≤ placed'
    → ((m : ℕ) (other : Row) → slice_get rows m ≡ Some other → m ≢ n
    → (next.first_place + place_count next ≤ other.first_place) ⊎ (other.first_place + place_count other ≤ next.first_place))
    → AreLaid rows ops reads placed → AreLaid (set rows n next) ops reads' placed'
laid_set rows ops reads reads' placed placed' n row next e first count fits within longer more free laid = record {
  each = λ m other at_m. elim (set_cases rows n next m other at_m) [
    | inl h ↦ rw (sym h.1) fits
    | inr h ↦ let old = laid.each m other h in record
        { fits = old.fits; reads_there = let there = old.reads_there in omega (arith, there, longer) }
  ];
  ops_apart = λ m k one other at_m at_k before.
      let a = span_kept rows n row next e first count m one at_m in
      let b = span_kept rows n row next e first count k other at_k in
      let apart = laid.ops_apart m k a.old b.old a.is_at b.is_at before in
      let a_first = a.first_is in
      let a_count = a.count_is in
      let b_first = b.first_is in
      omega arith;
  places_within = λ m other at_m. elim (set_cases rows n next m other at_m) [
    | inl h ↦ rw (sym h.1) within
    | inr h ↦ let there = laid.places_within m other h in omega (arith, there, more)
  ];
  places_apart = λ m k one other at_m at_k differs. elim (set_cases rows n next m one at_m) [
    | inl h ↦ elim (set_cases rows n next k other at_k) [
      | inl g ↦ absurd (differs (h.0 ∙ sym g.0))
      | inr g ↦ rw (sym h.1) (free k other g (λ x. differs (h.0 ∙ sym x)))
    ]
    | inr h ↦ elim (set_cases rows n next k other at_k) [
      | inl g ↦ rw (sym g.1) (either (free m one h (λ x. differs (x ∙ sym g.0))))
      | inr g ↦ laid.places_apart m k one other h g differs
    ]
  ];
}
  where
    either : {A B : Type 0} → A ⊎ B → B ⊎ A
    either (inl a) = inr a
    either (inr b) = inl b

-- .. where it keeps its places as well
pub laid_kept : (rows : List Row) (ops : List Op) (reads : List PageData) (placed n : ℕ) (row next : Row) → slice_get rows n ≡ Some row
    → next.first_op ≡ row.first_op → next.op_count ≡ row.op_count → next.first_place ≡ row.first_place
    → next.reads_done ≡ row.reads_done → place_count next ≡ place_count row
    → IsRowOf ops next → AreLaid rows ops reads placed → AreLaid (set rows n next) ops reads placed
laid_kept rows ops reads placed n row next e first count place done same fits laid =
    laid_set rows ops reads reads placed placed n row next e first count
    (record { fits = fits; reads_there = let there = (laid.each n row e).reads_there in omega (arith, there, place, done) })
    (let there = laid.places_within n row e in omega (arith, there, place, same)) (omega arith) (omega arith)
    (λ m other at_m differs. elim (laid.places_apart n m row other e at_m (λ x. differs (sym x)))
    [ inl h ↦ inl (omega arith) | inr h ↦ inr (omega arith) ]) laid

-- there is room as before where the places that a row lacks no longer have been given to it
room_set : (rows : List Row) (ops : List Op) (reads reads' : List PageData) (all placed placed' capacity n : ℕ) (row next : Row)
    → slice_get rows n ≡ Some row → placed' + places_lacking next ≡ placed + places_lacking row → length reads' ≤ placed'
    → HaveRoom rows ops reads all placed capacity → HaveRoom (set rows n next) ops reads' all placed' capacity
room_set rows ops reads reads' all placed placed' capacity n row next e made filled room = record {
  all_is = room.all_is;
  places =
      let sum = sum_by-set places_lacking rows n next row (slice_get_within rows n row e) in
      let old = ap places_lacking (get_or_from_slice_get rows n row row e) in
      let before = room.places in
      omega arith;
  filled = filled;
  room = room.room;
}

-- .. where it lacks as many as before
pub room_kept : (rows : List Row) (ops : List Op) (reads : List PageData) (all placed capacity n : ℕ) (row next : Row)
    → slice_get rows n ≡ Some row → places_lacking next ≡ places_lacking row
    → HaveRoom rows ops reads all placed capacity → HaveRoom (set rows n next) ops reads all placed capacity
room_kept rows ops reads all placed capacity n row next e same room =
    room_set rows ops reads reads all placed placed capacity n row next e (ap (λ (k : ℕ). placed + k) same) room.filled room

-- a row has as much room as it lacks places
pub row_room : (rows : List Row) (ops : List Op) (reads : List PageData) (all placed capacity n : ℕ) (row : Row)
    → slice_get rows n ≡ Some row → HaveRoom rows ops reads all placed capacity → placed + places_lacking row ≤ all
row_room rows ops reads all placed capacity n row e room =
    let one = get_or-le-sum_by places_lacking rows n row (slice_get_within rows n row e) in
    let same = ap places_lacking (get_or_from_slice_get rows n row row e) in
    let places = room.places in
    omega arith

-- The places of a row that reads

-- what stands in the first of two lists
cut : {A : Type 0} (xs ys : List A) (from count : ℕ) → from + count ≤ length xs → take count (drop from (xs ++ ys))
    ≡ take count (drop from xs)
cut xs ys from count within =
    ap (take count) (drop-append-le from xs ys (omega arith))
    ∙ take-append-le count (drop from xs) ys (omega (arith, length-drop from xs))

-- from here on it has one for each of its reads, with the bytes of those that it carried, and apart from those of all others
pub record IsMade (rows : List Row) (ops : List Op) (reads more : List PageData) (placed n : ℕ) (row : Row) (from : ℕ) : Type 0 where
  pub within : from + row.read_count ≤ placed
  pub here : from + row.reads_done ≤ length (reads ++ more)
  pub filled : length (reads ++ more) ≤ placed
  pub own : take row.reads_done (drop from (reads ++ more)) ≡ reads_at reads row
  pub apart : (m : ℕ) (other : Row) → slice_get rows m ≡ Some other → m ≢ n
      → (from + row.read_count ≤ other.first_place) ⊎ (other.first_place + place_count other ≤ from)

-- .. where those that it lacks are given to it after all others, which are filled up
pub made : (rows : List Row) (ops : List Op) (reads more : List PageData) (placed len n : ℕ) (row : Row) → slice_get rows n ≡ Some row
    → len ≡ length reads → len ≤ placed → length more ≡ places_unfilled placed len row → AreLaid rows ops reads placed
    → IsMade rows ops reads more (placed + places_lacking row) n row (place_from placed row)
made rows ops reads more placed len n row e is end count laid = elim (has_read row) [
  | inl none ↦
      let lacks = lacks_all row none in
      let all = lacks.lacks in
      let from = lacks.from placed in
      let gap = lacks.unfilled placed len in
      record {
        within = omega arith;
        here = omega (arith, length-append reads more, none, from, gap, count, end, is);
        filled = omega (arith, length-append reads more, gap, count, end, is);
        own = ap (λ (k : ℕ). take k (drop (place_from placed row) (reads ++ more))) none
            ∙ sym (ap (λ (k : ℕ). take k (drop row.first_place reads)) none);
        apart = λ m other at_m differs. inr (let there = laid.places_within m other at_m in omega arith);
      }
  | inr some ↦
      let lacks = lacks_none row some in
      let placed_is = lacks.placed in
      let all = lacks.lacks in
      let from = lacks.from placed in
      let gap = lacks.unfilled placed len in
      let in_table = laid.each n row e in
      let there = in_table.reads_there in
      let within = laid.places_within n row e in
      record {
        within = omega (arith, within, placed_is, from);
        here = omega (arith, length-append reads more, there, from);
        filled = omega (arith, length-append reads more, gap, count, end, is);
        own = ap (λ (k : ℕ). take row.reads_done (drop k (reads ++ more))) from
            ∙ cut reads more row.first_place row.reads_done there;
        apart = λ m other at_m differs. elim (laid.places_apart n m row other e at_m (λ x. differs (sym x)))
            [ inl h ↦ inl (omega arith) | inr h ↦ inr (omega arith) ];
      }
]

-- a page at a place, or after all others
record IsPut (reads : List PageData) (place : ℕ) (bytes : PageData) (after : List PageData) : Type 0 where
  longer : length reads ≤ length after
  there : place < length after
  most : (placed : ℕ) → length reads ≤ placed → place < placed → length after ≤ placed
  own : (from done : ℕ) → from + done ≡ place → take (done + 1) (drop from after) ≡ take done (drop from reads) ++ bytes ∷ []
  others : (from count : ℕ) → from + count ≤ length reads → (from + count ≤ place) ⊎ (place < from)
      → take count (drop from after) ≡ take count (drop from reads)

put_set : (reads : List PageData) (place : ℕ) (bytes : PageData) → place < length reads → IsPut reads place bytes (set reads place bytes)
put_set reads place bytes within = record {
  longer = omega (arith, length-set reads place bytes);
  there = omega (arith, length-set reads place bytes);
  most = λ placed few less. omega (arith, length-set reads place bytes);
  own = λ from done is. rw (sym is) (
      ap (take (done + 1)) (drop-set-add from reads done bytes)
      ∙ take_more_set (drop from reads) done bytes (omega (arith, length-drop from reads)));
  others = λ from count there beside. stay from count beside;
}
  where
    stay : (from count : ℕ) → (from + count ≤ place) ⊎ (place < from)
        → take count (drop from (set reads place bytes)) ≡ take count (drop from reads)
    stay from count (inl before) =
        let split : place ≡ from + (place - from) = omega arith in
        ap (λ (p : ℕ). take count (drop from (set reads p bytes))) split
        ∙ ap (take count) (drop-set-add from reads (place - from) bytes)
        ∙ take-set-le count (drop from reads) (place - from) bytes (omega arith)
    stay from count (inr beyond) = ap (take count) (drop-set-lt from reads place bytes beyond)

put_push : (reads : List PageData) (place : ℕ) (bytes : PageData) → place ≡ length reads → IsPut reads place bytes (reads ++ bytes ∷ [])
put_push reads place bytes end = record {
  longer = omega (arith, length-append reads (bytes ∷ []));
  there = omega (arith, end, length-append reads (bytes ∷ []));
  most = λ placed few less. omega (arith, end, length-append reads (bytes ∷ []));
  own = λ from done is.
      ap (take (done + 1)) (drop-append-le from reads (bytes ∷ []) (omega (arith, is, end)))
      ∙ take_all (done + 1) (drop from reads ++ bytes ∷ [])
      (omega (arith, is, end, length-append (drop from reads) (bytes ∷ []), length-drop from reads))
      ∙ ap (λ (l : List PageData). l ++ bytes ∷ []) (sym (take_all done (drop from reads) (omega (arith, is, end, length-drop from reads))));
  others = λ from count there beside. cut reads (bytes ∷ []) from count there;
}

put : (reads : List PageData) (place : ℕ) (bytes : PageData) → place ≤ length reads → IsPut reads place bytes (with_page reads place bytes)
put reads place bytes within =
    elim (cases_Bool (place == length reads)) [
      | inl end ↦ subst (λ (v : Bool). IsPut reads place bytes (cond v (reads ++ bytes ∷ []) (set reads place bytes))) (sym end)
          (put_push reads place bytes (eqb-true place (length reads) end))
      | inr before ↦ subst (λ (v : Bool). IsPut reads place bytes (cond v (reads ++ bytes ∷ []) (set reads place bytes))) (sym before)
          (put_set reads place bytes (under place (length reads) within before))
    ]
  where
    under : (n m : ℕ) → n ≤ m → (n == m) ≡ false → n < m
    under n m within isnt = grind (arith, nat_tests)

-- its next read has a place of its own
next_within : (rows : List Row) (ops : List Op) (reads more : List PageData) (placed placed' n : ℕ) (row : Row) (from : ℕ)
    → IsReading rows ops n row → AreLaid rows ops reads placed → IsMade rows ops reads more placed' n row from
    → from + row.reads_done < placed'
next_within rows ops reads more placed placed' n row from reading laid made =
    let few = next_of_all ops row (laid.each n row reading.there).fits reading.next in
    let within = made.within in
    omega arith

pub laid_read : (rows : List Row) (ops : List Op) (reads more : List PageData) (placed placed' n : ℕ) (row : Row) (from : ℕ)
    (bytes : PageData)
    → IsReading rows ops n row → placed ≤ placed' → AreLaid rows ops reads placed → IsMade rows ops reads more placed' n row from
    → AreLaid (set rows n (after_read row from)) ops (with_page (reads ++ more) (from + row.reads_done) bytes) placed'
laid_read rows ops reads more placed placed' n row from bytes reading grows laid made =
    let after = put (reads ++ more) (from + row.reads_done) bytes made.here in
    laid_set rows ops reads (with_page (reads ++ more) (from + row.reads_done) bytes) placed placed' n row (after_read row from)
    reading.there refl refl
    (record {
      fits = row_read_more ops row from reading.next (laid.each n row reading.there).fits;
      reads_there = let there = after.there in omega (arith, there);
    })
    (let within = made.within in omega (arith, placed_is, within))
    (let longer = after.longer in omega (arith, longer, length-append reads more)) grows
    (λ m other at_m differs. elim (made.apart m other at_m differs)
    [ inl h ↦ inl (omega (arith, placed_is)) | inr h ↦ inr (omega arith) ]) laid
  where
    placed_is : place_count (after_read row from) ≡ row.read_count
    placed_is = (lacks_none (after_read row from) (omega arith)).placed

pub room_read : (rows : List Row) (ops : List Op) (reads more : List PageData) (all placed capacity n : ℕ) (row : Row) (from : ℕ)
    (bytes : PageData)
    → IsReading rows ops n row → AreLaid rows ops reads placed → IsMade rows ops reads more (placed + places_lacking row) n row from
    → HaveRoom rows ops reads all placed capacity
    → HaveRoom (set rows n (after_read row from)) ops (with_page (reads ++ more) (from + row.reads_done) bytes) all
    (placed + places_lacking row) capacity
room_read rows ops reads more all placed capacity n row from bytes reading laid made room =
    let after = put (reads ++ more) (from + row.reads_done) bytes made.here in
    let none = (lacks_none (after_read row from) (omega arith)).lacks in
    room_set rows ops reads (with_page (reads ++ more) (from + row.reads_done) bytes) all placed (placed + places_lacking row) capacity n
    row (after_read row from) reading.there (omega (arith, none))
    (after.most (placed + places_lacking row) made.filled
    (next_within rows ops reads more placed (placed + places_lacking row) n row from reading laid made)) room

-- there is room for its next read
pub read_room : (rows : List Row) (ops : List Op) (reads more : List PageData) (all placed capacity n : ℕ) (row : Row) (from : ℕ)
    → IsReading rows ops n row → AreLaid rows ops reads placed → IsMade rows ops reads more (placed + places_lacking row) n row from
    → HaveRoom rows ops reads all placed capacity → from + row.reads_done < capacity
read_room rows ops reads more all placed capacity n row from reading laid made room =
    let within = next_within rows ops reads more placed (placed + places_lacking row) n row from reading laid made in
    let mine = row_room rows ops reads all placed capacity n row reading.there room in
    let most = room.room in
    omega arith

-- the jobs after a read of one of them gave its bytes
pub jobs_read : (rows : List Row) (ops : List Op) (reads more : List PageData) (placed placed' n : ℕ) (row : Row) (from : ℕ)
    (bytes : PageData)
    → IsReading rows ops n row → AreLaid rows ops reads placed → IsMade rows ops reads more placed' n row from
    → jobs_at ops (with_page (reads ++ more) (from + row.reads_done) bytes) (set rows n (after_read row from))
    ≡ changed_at (jobs_at ops reads rows) n (λ (job : JobRecord). with_read bytes (with_one_more_slot job))
jobs_read rows ops reads more placed placed' n row from bytes reading laid made =
    map_changed (job_at ops reads) (job_at ops after) rows n row (after_read row from) (λ (job : JobRecord). with_read bytes (with_one_more_slot job))
    reading.there
    (ap (λ (l : List PageData). record (job_at ops reads row) { reads = l; work = row.work + 1 })
    (is_put.own from row.reads_done refl ∙ ap (λ (l : List PageData). l ++ bytes ∷ []) made.own))
    (λ m other differs at_m.
    let there = (laid.each m other at_m).reads_there in
    ap (λ (l : List PageData). record (job_at ops reads other) { reads = l })
    (is_put.others other.first_place other.reads_done (omega (arith, there, length-append reads more)) (beside m other at_m differs)
    ∙ cut reads more other.first_place other.reads_done there))
  where
    after : List PageData
    after = with_page (reads ++ more) (from + row.reads_done) bytes

    is_put : IsPut (reads ++ more) (from + row.reads_done) bytes after
    is_put = put (reads ++ more) (from + row.reads_done) bytes made.here

    beside : (m : ℕ) (other : Row) → slice_get rows m ≡ Some other → m ≢ n
        → (other.first_place + other.reads_done ≤ from + row.reads_done) ⊎ (from + row.reads_done < other.first_place)
    beside m other at_m differs =
        let few = next_of_all ops row (laid.each n row reading.there).fits reading.next in
        let done = done_placed ops other (laid.each m other at_m).fits in
        elim (made.apart m other at_m differs) [ inl h ↦ inr (omega arith) | inr h ↦ inl (omega arith) ]

-- A row that is added

ops_stay : (ops more : List Op) (row : Row) → row.first_op + row.op_count ≤ length ops → ops_at (ops ++ more) row ≡ ops_at ops row
ops_stay ops more row there = cut ops more row.first_op row.op_count there

row_stays : (ops more : List Op) (row : Row) → IsRowOf ops row → IsRowOf (ops ++ more) row
row_stays ops more row fits = record {
  ops_there = let h = fits.ops_there in omega (arith, length-append ops more);
  ops_few = fits.ops_few;
  first_write_is = fits.first_write_is ∙ sym (ap writes
      (take-append-le row.first_op ops more (let h = fits.ops_there in omega arith)));
  read_count_is = fits.read_count_is ∙ sym (ap (count_by is_read) stay);
  reads_done_is = fits.reads_done_is ∙ sym (ap (λ (l : List Op). count_by is_read (take row.work l)) stay);
  writes_done_is = fits.writes_done_is ∙ sym (ap (λ (l : List Op). writes (take row.work l)) stay);
}
  where
    stay : ops_at (ops ++ more) row ≡ ops_at ops row
    stay = ops_stay ops more row fits.ops_there

-- a row that begins after all others
pub record IsBegun (row : Row) (ops more : List Op) : Type 0 where
  pub first_op_is : row.first_op ≡ length ops
  pub op_count_is : row.op_count ≡ length more
  pub op_count_few : row.op_count < 2 ^ 8
  pub first_write_is : row.first_write ≡ writes ops
  pub first_place_is : row.first_place ≡ 0
  pub read_count_is : row.read_count ≡ count_by is_read more
  pub reads_done_is : row.reads_done ≡ 0
  pub writes_done_is : row.writes_done ≡ 0
  pub work_is : row.work ≡ 0

begun_ops : (ops more : List Op) (row : Row) → IsBegun row ops more → ops_at (ops ++ more) row ≡ more
begun_ops ops more row begun =
    ap (λ (n : ℕ). take row.op_count (drop n (ops ++ more))) begun.first_op_is
    ∙ ap (take row.op_count) (drop-append_seam ops more)
    ∙ take_all row.op_count more (let h = begun.op_count_is in omega arith)

pub laid_push : (rows : List Row) (ops more : List Op) (reads : List PageData) (placed : ℕ) (row : Row) → IsBegun row ops more
    → AreLaid rows ops reads placed → AreLaid (rows ++ row ∷ []) (ops ++ more) reads placed
laid_push rows ops more reads placed row begun laid = record {
  each = λ n other at_n. elim (push_cases rows row n other at_n) [ inl h ↦ old_row n other h | inr h ↦ rw (sym h.1) new_row ];
  ops_apart = λ n m one other at_n at_m before. elim (push_cases rows row m other at_m) [
    | inl h ↦ elim (push_cases rows row n one at_n) [
      | inl g ↦ laid.ops_apart n m one other g h before
      | inr g ↦ absurd
          (let within = slice_get_within rows m other h in let at_end = g.0 in omega arith)
    ]
    | inr h ↦ elim (push_cases rows row n one at_n) [
      | inl g ↦ let there = (laid.each n one g).fits.ops_there in let first = begun.first_op_is in let is : other.first_op
          ≡ row.first_op = ap (λ (r : Row). r.first_op) (sym h.1) in omega arith
      | inr g ↦ absurd (let a = h.0 in let b = g.0 in omega arith)
    ]
  ];
  places_within = λ n other at_n. elim (push_cases rows row n other at_n) [
    | inl h ↦ laid.places_within n other h
    | inr h ↦ rw (sym h.1) (omega (arith, new_ends))
  ];
  places_apart = λ n m one other at_n at_m differs. elim (push_cases rows row n one at_n) [
    | inl h ↦ elim (push_cases rows row m other at_m) [
      | inl g ↦ laid.places_apart n m one other h g differs
      | inr g ↦ rw (sym g.1) (inr (omega (arith, new_ends)))
    ]
    | inr h ↦ rw (sym h.1) (inl (omega (arith, new_ends)))
  ];
}
  where
    new_ends : row.first_place + place_count row ≡ 0
    new_ends =
        let placed = (lacks_all row begun.reads_done_is).placed in
        let first = begun.first_place_is in
        omega arith

    -- it carried nothing yet
    none : (p : Op → Bool) → count_by p (take row.work (ops_at (ops ++ more) row)) ≡ 0
    none p = ap (λ (n : ℕ). count_by p (take n (ops_at (ops ++ more) row))) begun.work_is

    new_row : IsRowIn (ops ++ more) reads row
    new_row = record {
      fits = record {
        ops_there = let a = begun.first_op_is in let b = begun.op_count_is in omega (arith, length-append ops more);
        ops_few = begun.op_count_few;
        first_write_is = begun.first_write_is
            ∙ sym (ap (λ (n : ℕ). writes (take n (ops ++ more))) begun.first_op_is
            ∙ ap writes (take-append_seam ops more));
        read_count_is = begun.read_count_is ∙ sym (ap (count_by is_read) (begun_ops ops more row begun));
        reads_done_is = begun.reads_done_is ∙ sym (none is_read);
        writes_done_is = begun.writes_done_is ∙ sym (none is_write);
      };
      reads_there = let first = begun.first_place_is in let done = begun.reads_done_is in omega (arith, first, done);
    }

    old_row : (n : ℕ) (other : Row) → slice_get rows n ≡ Some other → IsRowIn (ops ++ more) reads other
    old_row n other at_n =
        let old = laid.each n other at_n in
        record { fits = row_stays ops more other old.fits; reads_there = old.reads_there }

-- room for the reads of all jobs and for its own
pub room_push : (rows : List Row) (ops more : List Op) (reads : List PageData) (all all' placed capacity capacity' : ℕ) (row : Row)
    → IsBegun row ops more → all' ≡ all + count_by is_read more → all' ≤ capacity'
    → HaveRoom rows ops reads all placed capacity → HaveRoom (rows ++ row ∷ []) (ops ++ more) reads all' placed capacity'
room_push rows ops more reads all all' placed capacity capacity' row begun count_is fits room = record {
  all_is = let old = room.all_is in omega (arith, count_is, sum_by-append (one_if is_read) ops more);
  places =
      let new = (lacks_all row begun.reads_done_is).lacks ∙ begun.read_count_is in
      let before = room.places in
      omega (arith, count_is, sum_by_push places_lacking rows row);
  filled = room.filled;
  room = fits;
}

-- the jobs with it
pub jobs_pushed : (rows : List Row) (ops more : List Op) (reads : List PageData) (placed : ℕ) (row : Row) → IsBegun row ops more
    → AreLaid rows ops reads placed
    → jobs_at (ops ++ more) reads (rows ++ row ∷ []) ≡ jobs_at ops reads rows
    ++ record (new_record row.collects row.task row.release row.due more) { stage = row.stage } ∷ []
jobs_pushed rows ops more reads placed row begun laid =
    map-append (job_at (ops ++ more) reads) rows (row ∷ [])
    ∙ ap (λ (l : List JobRecord). l ++ job_at (ops ++ more) reads row ∷ [])
    (map_same (job_at ops reads) (job_at (ops ++ more) reads) rows stays)
    ∙ ap (λ (job : JobRecord). jobs_at ops reads rows ++ job ∷ []) new_job
  where
    stays : (n : ℕ) (other : Row) → slice_get rows n ≡ Some other → job_at (ops ++ more) reads other ≡ job_at ops reads other
    stays n other at_n = ap (λ (l : List Op). record (job_at ops reads other) { ops = l })
        (ops_stay ops more other (laid.each n other at_n).fits.ops_there)

    no_reads : reads_at reads row ≡ []
    no_reads = ap (λ (n : ℕ). take n (drop row.first_place reads)) begun.reads_done_is

    new_job : job_at (ops ++ more) reads row
        ≡ record (new_record row.collects row.task row.release row.due more) { stage = row.stage }
    new_job =
        ap (λ (l : List Op). record (job_at (ops ++ more) reads row) { ops = l }) (begun_ops ops more row begun)
        ∙ ap (λ (l : List PageData). record (job_at (ops ++ more) reads row) { ops = more; reads = l }) no_reads
        ∙ ap (λ (n : ℕ). record (new_record row.collects row.task row.release row.due more) { work = n; stage = row.stage }) begun.work_is

-- a job that changes has as many operations as before
pub few_set : (rows : List Row) (ops : List Op) (n : ℕ) (row : Row) → HasFewOps rows ops → HasFewOps (set rows n row) ops
few_set rows ops n row few = omega (arith, few, length-set rows n row)
