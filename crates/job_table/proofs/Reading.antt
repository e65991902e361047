-- How many reads stand before a place.
use Rattle.std.proofs.Common.{◌≡◌, ℕ, zero, suc, ◌+◌, ◌-◌, ◌^◌, ◌<◌, ◌≤◌, Bool, true, cond, refl, sym, ap, ◌∙◌, arith, List, [], ◌∷◌, length}
use Rattle.std.proofs.Common.{Option, None, Some, take, drop, slice_get, count_by, ◌==◌, ◌⊎◌, inl, inr, false, eq-eqb}
use Rattle.std.proofs.lemmas.Bool.Decides.{nat_tests}
use Rattle.std.proofs.Math.Seq.{take-add}
use Rattle.std.proofs.lemmas.List.{take-take, length-take, length-drop}
use Rattle.std.proofs.lemmas.List.Sums.{sum_by-cons, sum_by-append, sum_by-take-le, count_by-le-length}
use Rattle.slot_types.specs.declared.events.Op.{Op}
use Rattle.slot_types.specs.declared.events.Op.TheVariants as asks
use Rattle.slot_types.specs.declared.pages.PageData.{PageData}
use Rattle.slot_types.specs.Operations.{is_write, writes}
use Rattle.job_table.specs.declared.rows.Row.{Row}
use Rattle.job_table.specs.Jobs.{is_read, is_some_read}
use Rattle.slot_types.specs.Operations.{is_some_write}
use Rattle.job_table.specs.Flat.{ops_at, reads_at, place_count, places_lacking, place_from, places_unfilled, IsRowOf, IsRowIn}

-- Operations of one kind

abbrev pub one_if : (Op → Bool) → Op → ℕ
one_if p op = cond (p op) 1 0

abbrev pub is_some_of : (Op → Bool) → Option Op → Bool
is_some_of p None = false
is_some_of p (Some op) = p op

pub read_of : (op : Option Op) → is_some_of is_read op ≡ is_some_read op
read_of None = refl
read_of (Some op) = refl

pub write_of : (op : Option Op) → is_some_of is_write op ≡ is_some_write op
write_of None = refl
write_of (Some op) = refl

-- a read is no write
pub no_write : (op : Option Op) → is_some_read op ≡ true → is_some_of is_write op ≡ false
no_write None is = refl
no_write (Some (asks.Read page)) is = refl
no_write (Some (asks.Write page bytes)) is = absurd cc
no_write (Some (asks.Trim page)) is = absurd cc

none_taken : (p : Op → Bool) (n : ℕ) → count_by p (take n []) ≡ 0
none_taken p zero = refl
none_taken p (suc n) = refl

-- one more place
pub one_more : (p : Op → Bool) (ops : List Op) (work : ℕ) (b : Bool) → is_some_of p (slice_get ops work) ≡ b
    → count_by p (take (suc work) ops) ≡ count_by p (take work ops) + cond b 1 0
one_more p [] work b e = rw (sym e) (omega (arith, none_taken p work, none_taken p (suc work)))
one_more p (op ∷ ops) zero b e = sum_by-cons (one_if p) op [] ∙ ap (λ (v : Bool). cond v 1 0 + 0) e ∙ (omega arith)
one_more p (op ∷ ops) (suc work) b e =
    let h = one_more p ops work b e in
    omega (arith, h, sum_by-cons (one_if p) op (take (suc work) ops), sum_by-cons (one_if p) op (take work ops))

-- .. of a row that took one more slot
pub done_more : (p : Op → Bool) (ops : List Op) (row : Row) (done : ℕ) (b : Bool) → is_some_of p (slice_get (ops_at ops row) row.work) ≡ b
    → done ≡ count_by p (take row.work (ops_at ops row))
    → done + cond b 1 0 ≡ count_by p (take (row.work + 1) (ops_at ops row))
done_more p ops row done b next is =
    let more = one_more p (ops_at ops row) row.work b next in
    let on : suc row.work ≡ row.work + 1 = omega arith in
    let same = ap (λ (n : ℕ). count_by p (take n (ops_at ops row))) on in
    omega (arith, more, same, is)

pub counted_on : (p : Op → Bool) (ops : List Op) (from more : ℕ) → count_by p (take from ops) + count_by p (take more (drop from ops))
    ≡ count_by p (take (from + more) ops)
counted_on p ops from more = sym (ap (count_by p) (take-add from more ops)
    ∙ sum_by-append (one_if p) (take from ops) (take more (drop from ops)))

-- What a row has of places

pub has_read : (row : Row) → (row.reads_done ≡ 0) ⊎ (0 < row.reads_done)
has_read row = by_count row.reads_done
  where
    by_count : (n : ℕ) → (n ≡ 0) ⊎ (0 < n)
    by_count zero = inl refl
    by_count (suc n) = inr (omega arith)

-- nothing as long as it has not read
pub record LacksAll (row : Row) : Type 0 where
  pub placed : place_count row ≡ 0
  pub lacks : places_lacking row ≡ row.read_count
  pub from : (placed : ℕ) → place_from placed row ≡ placed
  pub unfilled : (placed len : ℕ) → places_unfilled placed len row ≡ placed - len

pub lacks_all : (row : Row) → row.reads_done ≡ 0 → LacksAll row
lacks_all row none =
    let is = eq-eqb row.reads_done 0 none in
    record {
      placed = ap (λ (v : Bool). cond v 0 row.read_count) is;
      lacks = ap (λ (v : Bool). cond v row.read_count 0) is;
      from = λ placed. ap (λ (v : Bool). cond v placed row.first_place) is;
      unfilled = λ placed len. ap (λ (v : Bool). cond v (placed - len) 0) is;
    }

-- and all once it has
pub record LacksNone (row : Row) : Type 0 where
  pub placed : place_count row ≡ row.read_count
  pub lacks : places_lacking row ≡ 0
  pub from : (placed : ℕ) → place_from placed row ≡ row.first_place
  pub unfilled : (placed len : ℕ) → places_unfilled placed len row ≡ 0

pub lacks_none : (row : Row) → 0 < row.reads_done → LacksNone row
lacks_none row some =
    let isnt : (row.reads_done == 0) ≡ false = grind (arith, nat_tests) in
    record {
      placed = ap (λ (v : Bool). cond v 0 row.read_count) isnt;
      lacks = ap (λ (v : Bool). cond v row.read_count 0) isnt;
      from = λ placed. ap (λ (v : Bool). cond v placed row.first_place) isnt;
      unfilled = λ placed len. ap (λ (v : Bool). cond v (placed - len) 0) isnt;
    }

-- what it has read is in its places
pub done_placed : (ops : List Op) (row : Row) → IsRowOf ops row → row.reads_done ≤ place_count row
done_placed ops row fits = elim (has_read row) [
  | inl none ↦ omega arith
  | inr some ↦
      let placed = (lacks_none row some).placed in
      let done = fits.reads_done_is in
      let count = fits.read_count_is in
      let all = sum_by-take-le (one_if is_read) (ops_at ops row) row.work in
      omega arith
]

pub reads_count : (ops : List Op) (reads : List PageData) (row : Row) → IsRowIn ops reads row → length (reads_at reads row)
    ≡ count_by is_read (take row.work (ops_at ops row))
reads_count ops reads row in_table =
    let there = in_table.reads_there in
    let done = in_table.fits.reads_done_is in
    omega (arith, length-take row.reads_done (drop row.first_place reads), length-drop row.first_place reads)

-- where an operation of one kind is next, it did fewer so far than it has in all, and so 8 bits count one more
pub next_few : (p : Op → Bool) (ops : List Op) (row : Row) (done : ℕ) (b : Bool) → IsRowOf ops row
    → is_some_of p (slice_get (ops_at ops row) row.work) ≡ b → done ≡ count_by p (take row.work (ops_at ops row))
    → (done + cond b 1 0 ≤ count_by p (ops_at ops row)) × (done + cond b 1 0 < 2 ^ 8)
next_few p ops row done b fits next is = (omega (arith, more, all), omega (arith, more, all, few, some, len))
  where
    more : done + cond b 1 0 ≡ count_by p (take (row.work + 1) (ops_at ops row))
    more = done_more p ops row done b next is

    all : count_by p (take (row.work + 1) (ops_at ops row)) ≤ count_by p (ops_at ops row)
    all = sum_by-take-le (one_if p) (ops_at ops row) (row.work + 1)

    few : row.op_count < 2 ^ 8
    few = fits.ops_few

    some : count_by p (ops_at ops row) ≤ length (ops_at ops row)
    some = count_by-le-length p (ops_at ops row)

    len : length (ops_at ops row) ≤ row.op_count
    len = omega (arith, length-take row.op_count (drop row.first_op ops))

-- where a read is next, it has fewer so far than in all
pub next_of_all : (ops : List Op) (row : Row) → IsRowOf ops row → is_some_read (slice_get (ops_at ops row) row.work) ≡ true
    → row.reads_done < row.read_count
next_of_all ops row fits next =
    let count = fits.read_count_is in
    let within = (next_few is_read ops row row.reads_done true fits (read_of (slice_get (ops_at ops row) row.work) ∙ next) fits.reads_done_is).0 in
    omega (arith, count, within)

-- The operation at a place of a row

get_taken : (ops : List Op) (count n : ℕ) → n < count → slice_get (take count ops) n ≡ slice_get ops n
get_taken ops zero n within = absurd (omega arith)
get_taken [] (suc count) n within = refl
get_taken (op ∷ ops) (suc count) zero within = refl
get_taken (op ∷ ops) (suc count) (suc n) within = get_taken ops count n (omega arith)

get_dropped : (ops : List Op) (from n : ℕ) → slice_get (drop from ops) n ≡ slice_get ops (from + n)
get_dropped ops zero n = ap (slice_get ops) (omega arith)
get_dropped [] (suc from) n = refl
get_dropped (op ∷ ops) (suc from) n =
    let up : suc (from + n) ≡ suc from + n = omega arith in
    get_dropped ops from n ∙ ap (slice_get (op ∷ ops)) up

pub op_in_row : (ops : List Op) (row : Row) (place : ℕ) → place < row.op_count → slice_get (ops_at ops row) place
    ≡ slice_get ops (row.first_op + place)
op_in_row ops row place within = get_taken (drop row.first_op ops) row.op_count place within ∙ get_dropped ops row.first_op place

get_none : (ops : List Op) (count n : ℕ) → count ≤ n → slice_get (take count ops) n ≡ None
get_none ops zero n past = none ops n
  where
    none : (ops : List Op) (n : ℕ) → slice_get (take 0 ops) n ≡ None
    none ops n = refl
get_none [] (suc count) n past = refl
get_none (op ∷ ops) (suc count) zero past = absurd (omega arith)
get_none (op ∷ ops) (suc count) (suc n) past = get_none ops count n (omega arith)

-- the writes before the next operation of a row
pub writes_before_next : (ops : List Op) (row : Row) → IsRowOf ops row → row.work ≤ row.op_count → row.first_write + row.writes_done
    ≡ writes (take (row.first_op + row.work) ops)
writes_before_next ops row fits within =
    let first = fits.first_write_is in
    let done = fits.writes_done_is in
    let cut = ap writes (take-take row.work row.op_count (drop row.first_op ops) within) in
    let on = counted_on is_write ops row.first_op row.work in
    omega arith
