-- Counts of rows: row by row, and one after the other.
use Rattle.std.proofs.Common.{◌≡◌, ℕ, suc, ◌+◌, ◌<◌, nat_lt, Bool, true, false, cond, List, [], ◌∷◌, ◌++◌, refl, ap, sym, ◌∙◌}
use Rattle.std.proofs.Common.{length, zero-add, arith, append_assoc, Option, Some, None, ◌==◌}
use Rattle.std.specs.Prelude.{count_by, get_or, if◌then◌else◌, is_none, is_some}
use Rattle.std.proofs.lemmas.List.{append-nil}
use Rattle.std.proofs.lemmas.List.FromFn.{fill_by_all, get_or-map-range_with_len, length-map-range_with_len}
use Rattle.std.proofs.lemmas.Bool.{ltb-true, ltb-false, lt-ltb, le-ltb}
use Rattle.std.proofs.lemmas.List.Sums.{sum_by-append, sum_by-cons}
use Rattle.slot_types.specs.Refusal.{number_of}
use Rattle.slot_types.specs.declared.refusals.Refusal.{Refusal}
use Rattle.die_service.specs.declared.ends.RefusedEvent.{RefusedEvent}
use Rattle.task_script.specs.RowEnds.{ends_from, row_end, taken_at}
use Rattle.task_script.specs.RunCounts.{count_of, counted_with, counted_after, first_after, first_by, first_refused, sum_of_counts, joined_first}
use Rattle.task_script.specs.RunCounts.{by_number, capped, has_number, kind_with, or_earlier, refused_with, rows_in, was_accepted, was_refused}
use Rattle.task_script.specs.declared.run_counts.RowEnd.{RowEnd}
use Rattle.task_script.specs.declared.run_counts.RunCount.{RunCount}

-- Row by row

-- what each refusal has is known by its numbers
pub by_numbers : (kinds : List ℕ) (f : ℕ → ℕ) → length kinds ≡ 25 → ((number : ℕ) → number < 25 → get_or kinds number 0 ≡ f number)
    → kinds ≡ by_number f
unfolding by_number
by_numbers kinds f long are = fill_by_all f kinds 25 0 long are

numbered : (f : ℕ → ℕ) (number : ℕ) → number < 25 → get_or (by_number f) number 0 ≡ f number
unfolding by_number
numbered f number below = get_or-map-range_with_len f 0 25 number number 0 below (zero-add number)

long : (f : ℕ → ℕ) → length (by_number f) ≡ 25
unfolding by_number
long f = length-map-range_with_len f 0 25

same_by_number : (f g : ℕ → ℕ) → ((number : ℕ) → number < 25 → f number ≡ g number) → by_number f ≡ by_number g
same_by_number f g same = by_numbers (by_number f) g (long f)
    (λ number below. numbered f number below ∙ same number below)

one_more : (b : Bool) (n : ℕ) → (if b then capped (capped n + 1) else capped n) ≡ capped (n + (if b then 1 else 0))
one_more true n = omega arith
one_more false n = omega arith

both_capped : (n m : ℕ) → capped (capped n + capped m) ≡ capped (n + m)
both_capped n m = omega arith

counts_after : (p : RowEnd → Bool) (xs ys : List RowEnd) → count_by p (xs ++ ys) ≡ count_by p xs + count_by p ys
counts_after p xs ys = sum_by-append (λ (e : RowEnd). if p e then 1 else 0) xs ys

one_counted : (p : RowEnd → Bool) (end : RowEnd) → count_by p (end ∷ []) ≡ (if p end then 1 else 0)
one_counted p end =
    let c : count_by p (end ∷ []) ≡ (if p end then 1 else 0) + count_by p [] = sum_by-cons (λ (e : RowEnd). if p e then 1 else 0) end [] in
    omega (arith, c)

one_behind : (p : RowEnd → Bool) (xs : List RowEnd) (end : RowEnd) → count_by p xs + (if p end then 1 else 0) ≡ count_by p (xs ++ end ∷ [])
one_behind p xs end = ap (λ (n : ℕ). count_by p xs + n) (sym (one_counted p end)) ∙ sym (counts_after p xs (end ∷ []))

first_behind : (first : Option (ℕ × ℕ)) (xs : List RowEnd) (end : RowEnd)
    → first_by end.line end.refusal (first_after first xs) ≡ first_after first (xs ++ end ∷ [])
first_behind first [] end = refl
first_behind first (x ∷ xs) end = first_behind (first_by x.line x.refusal first) xs end

kind_behind : (xs : List RowEnd) (end : RowEnd) (number : ℕ) → number < 25
    → kind_with end.refusal (by_number (refused_with xs)) number ≡ refused_with (xs ++ end ∷ []) number
kind_behind xs end number below =
    let p : RowEnd → Bool = λ (e : RowEnd). has_number number e.refusal in
    ap (λ (n : ℕ). if p end then capped (n + 1) else n) (numbered (refused_with xs) number below)
    ∙ one_more (p end) (count_by p xs) ∙ ap capped (one_behind p xs end)

-- the counts of rows, with one row more
count_with : (xs : List RowEnd) (end : RowEnd) → counted_with (count_of xs) end ≡ count_of (xs ++ end ∷ [])
count_with xs end = λ i. record {
  accepted = one_behind was_accepted xs end i;
  refused = one_behind was_refused xs end i;
  first = first_behind None xs end i;
  kinds = same_by_number (kind_with end.refusal (by_number (refused_with xs))) (refused_with (xs ++ end ∷ []))
      (kind_behind xs end) i;
}

-- rows are counted after others
pub counts_more : (xs ys : List RowEnd) → counted_after (count_of xs) ys ≡ count_of (xs ++ ys)
counts_more xs [] = ap count_of (sym (append-nil xs))
counts_more xs (y ∷ ys) = ap (λ (c : RunCount). counted_after c ys) (count_with xs y)
    ∙ (counts_more (xs ++ y ∷ []) ys ∙ ap count_of (append_assoc xs (y ∷ []) ys))

-- rows that are counted one by one are counted
pub counted_is : (ends : List RowEnd) → counted_after (count_of []) ends ≡ count_of ends
counted_is ends = counts_more [] ends

-- one row more
taken_is : (place line : ℕ) (lines : List ℕ) (refused : List RefusedEvent)
    → ends_from place (line ∷ lines) refused ≡ row_end line (taken_at place refused).0
    ∷ ends_from (place + 1) lines (taken_at place refused).1
taken_is place line lines [] = refl
taken_is place line lines (r ∷ refused) = by (r.place == place)
  where
    by : (b : Bool) → cond b (row_end line (Some r.refused.refusal) ∷ ends_from (place + 1) lines refused) (row_end line None
        ∷ ends_from (place + 1) lines (r ∷ refused))
        ≡ row_end line (cond {A = Option Refusal × List RefusedEvent} b (Some r.refused.refusal, refused) (None, r ∷ refused)).0
        ∷ ends_from (place + 1) lines (cond {A = Option Refusal × List RefusedEvent} b (Some r.refused.refusal, refused) (
          None,
          r
              ∷ refused,
        )).1
    by true = refl
    by false = refl

-- Rows after others

earlier_joined : (line : ℕ) (refusal : Refusal) (first : Option (ℕ × ℕ)) → or_earlier line refusal first
    ≡ joined_first first (Some (line, number_of refusal))
earlier_joined line refusal None = refl
earlier_joined line refusal (Some first) = refl

none_joined : (r : Option (ℕ × ℕ)) → joined_first None r ≡ r
none_joined None = refl
none_joined (Some c) = refl

abbrev sooner : Bool → ℕ × ℕ → ℕ × ℕ → Option (ℕ × ℕ)
sooner b x y = cond b (Some x) (Some y)

three : (a b c : ℕ × ℕ) (ba cb : Bool) → nat_lt b.0 a.0 ≡ ba → nat_lt c.0 b.0 ≡ cb
    → joined_first (sooner ba b a) (Some c) ≡ joined_first (Some a) (sooner cb c b)
three a b c true true p q = ap (λ (t : Bool). sooner t c b) q
    ∙ ap (λ (t : Bool). sooner t c a) (sym (lt-ltb c.0 a.0 (omega (arith, ltb-true b.0 a.0 p, ltb-true c.0 b.0 q))))
three a b c true false p q = ap (λ (t : Bool). sooner t c b) q ∙ ap (λ (t : Bool). sooner t b a) (sym p)
three a b c false true p q = refl
three a b c false false p q =
    ap (λ (t : Bool). sooner t c a) (le-ltb c.0 a.0 (omega (arith, ltb-false b.0 a.0 p, ltb-false c.0 b.0 q)))
    ∙ ap (λ (t : Bool). sooner t b a) (sym p)

joined_thrice : (f : Option (ℕ × ℕ)) (b : ℕ × ℕ) (r : Option (ℕ × ℕ)) → joined_first (joined_first f (Some b)) r
    ≡ joined_first f (joined_first (Some b) r)
joined_thrice f b None = refl
joined_thrice None b (Some c) = sym (none_joined (joined_first (Some b) (Some c)))
joined_thrice (Some a) b (Some c) =
    ap (λ (x : Option (ℕ × ℕ)). joined_first x (Some c)) refl
    ∙ three a b c (nat_lt b.0 a.0) (nat_lt c.0 b.0) refl refl

first_joins : (line : ℕ) (refusal : Option Refusal) (f r : Option (ℕ × ℕ)) → joined_first (first_by line refusal f) r
    ≡ joined_first f (joined_first (first_by line refusal None) r)
first_joins line None f r = ap (joined_first f) (sym (none_joined r))
first_joins line (Some refusal) f r = ap (λ (x : Option (ℕ × ℕ)). joined_first x r) (earlier_joined line refusal f)
    ∙ joined_thrice f (line, number_of refusal) r

first_joined : (f : Option (ℕ × ℕ)) (ys : List RowEnd) → first_after f ys ≡ joined_first f (first_after None ys)
first_joined f [] = refl
first_joined f (y ∷ ys) = first_joined (first_by y.line y.refusal f) ys
    ∙ (first_joins y.line y.refusal f (first_after None ys)
    ∙ ap (joined_first f) (sym (first_joined (first_by y.line y.refusal None) ys)))

first_in_parts : (first : Option (ℕ × ℕ)) (xs ys : List RowEnd) → first_after first (xs ++ ys) ≡ first_after (first_after first xs) ys
first_in_parts first [] ys = refl
first_in_parts first (x ∷ xs) ys = first_in_parts (first_by x.line x.refusal first) xs ys

kinds_joined : (xs ys : List RowEnd) (number : ℕ) → number < 25
    → capped (get_or (by_number (refused_with xs)) number 0 + get_or (by_number (refused_with ys)) number 0) ≡ refused_with (xs ++ ys) number
kinds_joined xs ys number below =
    let p : RowEnd → Bool = λ (e : RowEnd). has_number number e.refusal in
    ap (λ (n : ℕ). capped (n + get_or (by_number (refused_with ys)) number 0)) (numbered (refused_with xs) number below)
    ∙ ap (λ (n : ℕ). capped (refused_with xs number + n)) (numbered (refused_with ys) number below)
    ∙ both_capped (count_by p xs) (count_by p ys) ∙ ap capped (sym (counts_after p xs ys))

-- the counts of rows and of those after them
pub counts_join : (xs ys : List RowEnd) → sum_of_counts (count_of xs) (count_of ys) ≡ count_of (xs ++ ys)
counts_join xs ys = λ i. record {
  accepted = sym (counts_after was_accepted xs ys) i;
  refused = sym (counts_after was_refused xs ys) i;
  first = (sym (first_joined (first_refused xs) ys) ∙ sym (first_in_parts None xs ys)) i;
  kinds = same_by_number (λ number. capped (get_or (count_of xs).kinds number 0 + get_or (count_of ys).kinds number 0)) (refused_with (xs ++ ys))
      (kinds_joined xs ys) i;
}

-- How many rows are counted

one_of_both : (refusal : Option Refusal) → (if is_none refusal then 1 else 0) + (if is_some refusal then 1 else 0) ≡ 1
one_of_both None = refl
one_of_both (Some r) = refl

with_one : (count : RunCount) (end : RowEnd) → rows_in (counted_with count end) ≡ rows_in count + 1
with_one count end = omega (arith, one_of_both end.refusal)

rows_after : (count : RunCount) (ends : List RowEnd) → rows_in (counted_after count ends) ≡ rows_in count + length ends
rows_after count [] = omega arith
rows_after count (end ∷ ends) = omega (arith, rows_after (counted_with count end) ends, with_one count end)

length-ends : (place : ℕ) (lines : List ℕ) (refused : List RefusedEvent) → length (ends_from place lines refused) ≡ length lines
length-ends place [] refused = refl
length-ends place (line ∷ lines) refused =
    ap length (taken_is place line lines refused) ∙ ap suc (length-ends (place + 1) lines (taken_at place refused).1)

-- the rows of a batch are counted
pub rows_of_batch : (count : RunCount) (lines : List ℕ) (refused : List RefusedEvent)
    → rows_in (counted_after count (ends_from 0 lines refused)) ≡ rows_in count + length lines
rows_of_batch count lines refused = omega (arith, rows_after count (ends_from 0 lines refused), length-ends 0 lines refused)
