-- Runs and the slots that they stand for.
use Rattle.std.proofs.Common.{◌≡◌, ℕ, zero, suc, ◌+◌, ◌-◌, ◌<◌, ◌≤◌, true, eqb, List, [], ◌∷◌, ◌++◌, length, Option, Some, None, get_or}
use Rattle.std.proofs.Common.{set, take, drop, slice_get, arith, refl, sym, ap, ◌∙◌, append_assoc, append-nil, add-one, length-append}
use Rattle.std.proofs.Common.{eqb-true}
use Rattle.std.specs.Prelude.{replicate}
use Rattle.std.specs.Option.{option_eq}
use Rattle.std.proofs.lemmas.Bool.{false≢true}
use Rattle.std.proofs.lemmas.List.{length-replicate, replicate-append-replicate, get_or-replicate, get_or_append_left, get_or-append_right}
use Rattle.late_cert.specs.declared.carried.Run.{Run}
use Rattle.late_cert.specs.Schedule.{Slots, slot_at}
use Rattle.late_cert.specs.Runs.{slots_of}

-- one more run
pub slots-push : (runs : List Run) (run : Run) → slots_of (runs ++ run ∷ []) ≡ slots_of runs ++ replicate run.length run.number
slots-push [] run = append-nil (replicate run.length run.number)
slots-push (q ∷ qs) run =
    ap (λ xs. replicate q.length q.number ++ xs) (slots-push qs run)
    ∙ sym (append_assoc (replicate q.length q.number) (slots_of qs) (replicate run.length run.number))

-- the last run is longer
pub slots-longer : (runs : List Run) (i : ℕ) (last : Run) (number : Option ℕ) (m n : ℕ) → i + 1 ≡ length runs
    → last ≡ get_or runs i last → last.number ≡ number → m ≡ last.length + n
    → slots_of (set runs i (record { number = last.number; length = m })) ≡ slots_of runs ++ replicate n number
slots-longer [] i last number m n h e same sum = absurd (omega arith)
slots-longer (q ∷ []) zero last number m n h e same sum =
    rw (append-nil (replicate m last.number), append-nil (replicate q.length q.number), ← e, sum, ← same)
    (sym (replicate-append-replicate last.length n last.number))
slots-longer (q ∷ []) (suc i) last number m n h e same sum = absurd (omega arith)
slots-longer (q ∷ (p ∷ ps)) zero last number m n h e same sum = absurd (omega arith)
slots-longer (q ∷ (p ∷ ps)) (suc i) last number m n h e same sum =
    ap (λ xs. replicate q.length q.number ++ xs) (slots-longer (p ∷ ps) i last number m n (omega arith) e same sum)
    ∙ sym (append_assoc (replicate q.length q.number) (slots_of (p ∷ ps)) (replicate n number))

-- the slots of a run are those after the runs before it
pub run-slot : (runs : List Run) (i : ℕ) (d : Run) (t : ℕ) → i < length runs → length (slots_of (take i runs)) ≤ t
    → t < length (slots_of (take i runs)) + (get_or runs i d).length → slot_at (slots_of runs) t ≡ (get_or runs i d).number
run-slot [] i d t h a b = absurd (omega arith)
run-slot (q ∷ qs) zero d t h a b =
    get_or_append_left (replicate q.length q.number) (slots_of qs) None t (omega (arith, length-replicate q.length q.number))
    ∙ get_or-replicate q.length t q.number None (omega arith)
run-slot (q ∷ qs) (suc i) d t h a b =
    let l : length (slots_of (take (suc i) (q ∷ qs))) ≡ q.length + length (slots_of (take i qs)) =
    length-append (replicate q.length q.number) (slots_of (take i qs))
    ∙ ap (λ (n : ℕ). n + length (slots_of (take i qs))) (length-replicate q.length q.number) in
    get_or-append_right (replicate q.length q.number) (slots_of qs) q.length t None (length-replicate q.length q.number) (omega (arith, l))
    ∙ run-slot qs i d (t - q.length) (omega arith) (omega (arith, l)) (omega (arith, l))

-- one run more has its slots more
pub prefix-length : (runs : List Run) (i : ℕ) (d : Run) → i < length runs
    → length (slots_of (take (suc i) runs)) ≡ length (slots_of (take i runs)) + (get_or runs i d).length
prefix-length [] i d h = absurd (omega arith)
prefix-length (q ∷ qs) zero d h =
    length-append (replicate q.length q.number) [] ∙ omega (arith, length-replicate q.length q.number)
prefix-length (q ∷ qs) (suc i) d h =
    let ih = prefix-length qs i d (omega arith) in
    let a : length (slots_of (take (suc (suc i)) (q ∷ qs))) ≡ length (replicate q.length q.number) + length (slots_of (take (suc i) qs)) =
    length-append (replicate q.length q.number) (slots_of (take (suc i) qs)) in
    let b : length (slots_of (take (suc i) (q ∷ qs))) ≡ length (replicate q.length q.number) + length (slots_of (take i qs)) =
    length-append (replicate q.length q.number) (slots_of (take i qs)) in
    omega (arith, a, b, ih)

pub prefix-whole : (runs : List Run) → length (slots_of (take (length runs) runs)) ≡ length (slots_of runs)
prefix-whole [] = refl
prefix-whole (q ∷ qs) =
    length-append (replicate q.length q.number) (slots_of (take (length qs) qs))
    ∙ ap (λ (n : ℕ). length (replicate q.length q.number) + n) (prefix-whole qs)
    ∙ sym (length-append (replicate q.length q.number) (slots_of qs))

-- a slot is in the first run, of `n` slots, or at place `t - n` of the rest
pub get-first : (n : ℕ) (o : Option ℕ) (rest : Slots) (t : ℕ) → t < n → slice_get (replicate n o ++ rest) t ≡ Some o
get-first zero o rest t h = absurd (omega arith)
get-first (suc n) o rest zero h = refl
get-first (suc n) o rest (suc t) h = get-first n o rest t (omega arith)

pub get-beyond : (n : ℕ) (o : Option ℕ) (rest : Slots) (t u : ℕ) → n + u ≡ t → slice_get (replicate n o ++ rest) t ≡ slice_get rest u
get-beyond zero o rest t u h = let e : t ≡ u = omega arith in rw e refl
get-beyond (suc n) o rest zero u h = absurd (omega arith)
get-beyond (suc n) o rest (suc t) u h = get-beyond n o rest t u (omega arith)

pub get-here : (runs : List Run) (i : ℕ) (d : Run) (t : ℕ) → i < length runs → t < (get_or runs i d).length
    → slice_get (slots_of (drop i runs)) t ≡ Some (get_or runs i d).number
get-here [] i d t h lt = absurd (omega arith)
get-here (q ∷ qs) zero d t h lt = get-first q.length q.number (slots_of qs) t lt
get-here (q ∷ qs) (suc i) d t h lt = get-here qs i d t (omega arith) lt

pub get-next : (runs : List Run) (i : ℕ) (d : Run) (t u : ℕ) → i < length runs → (get_or runs i d).length + u ≡ t
    → slice_get (slots_of (drop i runs)) t ≡ slice_get (slots_of (drop (suc i) runs)) u
get-next [] i d t u h e = absurd (omega arith)
get-next (q ∷ qs) zero d t u h e = get-beyond q.length q.number (slots_of qs) t u e
get-next (q ∷ qs) (suc i) d t u h e = get-next qs i d t u (omega arith) e

pub get-more : (runs : List Run) (i : ℕ) (d : Run) (t u : ℕ) → i < length runs → (get_or runs i d).length + u ≡ t
    → slice_get (slots_of (drop i runs)) t ≡ slice_get (slots_of (drop (i + 1) runs)) u
get-more runs i d t u h e = rw add-one (get-next runs i d t u h e)

pub prefix-more : (runs : List Run) (i : ℕ) (d : Run) (n : ℕ) → 0 < i → i ≤ length runs → n ≡ length (slots_of (take i runs))
    → n ≡ length (slots_of (take (i - 1) runs)) + (get_or runs (i - 1) d).length
prefix-more runs zero d n h k e = absurd (omega arith)
prefix-more runs (suc i) d n h k e =
    let is : suc i - 1 ≡ i = omega arith in
    rw is (e ∙ prefix-length runs i d (omega arith))

-- a slot past the last one carries nothing
pub slot-past : (c : Slots) (t : ℕ) → length c ≤ t → slot_at c t ≡ None
slot-past [] t h = refl
slot-past (x ∷ xs) zero h = absurd (omega arith)
slot-past (x ∷ xs) (suc t) h = slot-past xs t (omega arith)

pub same-carried : (a b : Option ℕ) → option_eq eqb a b ≡ true → a ≡ b
same-carried None None h = refl
same-carried None (Some y) h = absurd (false≢true h)
same-carried (Some x) None h = absurd (false≢true h)
same-carried (Some x) (Some y) h = ap Some (eqb-true x y h)
