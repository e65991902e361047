-- The notes of a log from one of them on, the oldest first.
use Rattle.std.proofs.Common.{◌≡◌, ℕ, zero, suc, ◌+◌, ◌-◌, ◌<◌, ◌≤◌, ◌==◌, true, List, [], ◌∷◌, ◌++◌, refl, ap, sym, ◌∙◌, subst}
use Rattle.std.proofs.Common.{length, map, take, drop, get_or, reverse, append-nil, arith}
use Rattle.std.specs.Prelude.{replicate}
use Rattle.std.proofs.lemmas.List.{reverse-append, reverse-reverse, length-reverse}
use Rattle.std.proofs.lemmas.List.Elements.{filter_map-append}
use Rattle.event_log.specs.declared.deeds.Deed.{Deed}
use Rattle.event_log.specs.declared.waivers.Waiver.{Waiver}
use Rattle.event_log.specs.Waivers.{waived_in, waived_at}
use Rattle.event_log.specs.Notes.{Note, notes_of}
use Rattle.event_log.specs.SoundLog.{AreBefore, AreFrom, AreInOrder, notes_in}
use Rattle.event_log.specs.NotesFrom.{notes_on}
use Rattle.event_log.proofs.Pushing.{before_later, none_before, another_later, the_same}

-- Items of runs

-- all items of a run are passed over
pub run_passed : {T : Type 0} (n k : ℕ) (x : T) (xs : List T) → n ≤ k → drop (k - n) xs ≡ drop k (replicate n x ++ xs)
run_passed zero k x xs h = ap (λ i. drop i xs) (omega arith)
run_passed (suc n) zero x xs h = absurd (omega arith)
run_passed (suc n) (suc k) x xs h = let e : suc k - suc n ≡ k - n = omega arith in rw e (run_passed n k x xs (omega arith))

-- some items of a run are passed over
pub run_begun : {T : Type 0} (n k : ℕ) (x : T) (xs : List T) → k ≤ n → replicate (n - k) x ++ xs ≡ drop k (replicate n x ++ xs)
run_begun n zero x xs h = ap (λ i. replicate i x ++ xs) (omega arith)
run_begun zero (suc k) x xs h = absurd (omega arith)
run_begun (suc n) (suc k) x xs h = let e : suc n - suc k ≡ n - k = omega arith in rw e (run_begun n k x xs (omega arith))

-- Waivers

-- the waivers before this place go on to where a later event's stands
pub more_before : (place k : ℕ) (ws : List Waiver) (w : Waiver) → AreBefore place (take k ws) → k < length ws → w ≡ get_or ws k w
    → w.event < place → AreBefore place (take (k + 1) ws)
more_before place k [] w b h e lt = absurd (omega arith)
more_before place zero (v ∷ vs) w b h e lt = (subst (λ (u : Waiver). u.event < place) e lt, tt)
more_before place (suc k) (v ∷ vs) w b h e lt =
    let n : suc k + 1 ≡ suc (k + 1) = omega arith in rw n (b.0, more_before place k vs w b.1 (omega arith) e lt)

pub from_later : (k n : ℕ) (ws : List Waiver) → n ≤ k → AreFrom k ws → AreFrom n ws
from_later k n [] h f = tt
from_later k n (w ∷ ws) h f = (omega (arith, f.0), from_later k n ws h f.1)

-- none stands before a place where there is one that doesn't
pub from_here : (place k : ℕ) (ws : List Waiver) (w : Waiver) → AreInOrder ws → k < length ws → w ≡ get_or ws k w → place ≤ w.event
    → AreFrom place (drop k ws)
from_here place k [] w o h e le = absurd (omega arith)
from_here place zero (v ∷ vs) w o h e le =
    let here : place ≤ v.event = subst (λ (u : Waiver). place ≤ u.event) e le in (here, from_later v.event place vs here o.0)
from_here place (suc k) (v ∷ vs) w o h e le = from_here place k vs w o.1 (omega arith) e le

-- past the last waiver there is none
pub none_past : (place k : ℕ) (ws : List Waiver) → length ws ≤ k → AreFrom place (drop k ws)
none_past place zero [] h = tt
none_past place (suc k) [] h = tt
none_past place zero (w ∷ ws) h = absurd (omega arith)
none_past place (suc k) (w ∷ ws) h = none_past place k ws (omega arith)

pub in_order-drop : (k : ℕ) (ws : List Waiver) → AreInOrder ws → AreInOrder (drop k ws)
in_order-drop zero ws o = o
in_order-drop (suc k) [] o = tt
in_order-drop (suc k) (w ∷ ws) o = in_order-drop k ws o.1

from_front : (place : ℕ) (now later : List Waiver) → AreFrom place (now ++ later) → AreFrom place now
from_front place [] later f = tt
from_front place (w ∷ ws) later f = (f.0, from_front place ws later f.1)

none_after : (place : ℕ) (ws : List Waiver) → AreFrom (place + 1) ws → waived_at place ws ≡ []
none_after place [] f = refl
none_after place (w ∷ ws) f = rw (another_later place w.event (omega (arith, f.0))) (none_after place ws f.1)

all_here : (place : ℕ) (ws : List Waiver) → AreFrom place ws → AreBefore (place + 1) ws
    → waived_at place ws ≡ map (λ (w : Waiver). w.waived) ws
all_here place [] f b = refl
all_here place (w ∷ ws) f b =
    let e : w.event ≡ place = omega (arith, f.0, b.0) in
    let same : (w.event == place) ≡ true = rw e (the_same place) in
    rw same (ap (λ vs. w.waived ∷ vs) (all_here place ws f.1 b.1))

-- Notes

-- the waivers of earlier events are of none of these
later_notes : (p q : ℕ) (ds : List Deed) (cs : List ℕ) (before later : List Waiver) → AreBefore p before → p ≤ q
    → notes_on q ds cs (before ++ later) ≡ notes_on q ds cs later
later_notes p q [] cs before later b h = refl
later_notes p q (d ∷ ds) [] before later b h = refl
later_notes p q (d ∷ ds) (c ∷ cs) before later b h =
    let now : waived_at q (before ++ later) ≡ waived_at q later =
    filter_map-append (λ w. waived_in q w) before later ∙ rw (none_before q before (before_later p q before h b)) refl in
    rw now (ap (λ ns. record { caller = c; deed = d; waived = waived_at q later } ∷ ns)
    (later_notes p (q + 1) ds cs before later b (omega arith)))

notes_dropped : (k p q : ℕ) (ds : List Deed) (cs : List ℕ) (ws : List Waiver) → q ≡ p + k → length cs ≡ length ds
    → drop k (notes_on p ds cs ws) ≡ notes_on q (drop k ds) (drop k cs) ws
notes_dropped zero p q ds cs ws e n = ap (λ i. notes_on i ds cs ws) (omega arith)
notes_dropped (suc k) p q [] cs ws e n = refl
notes_dropped (suc k) p q (d ∷ ds) [] ws e n = absurd (omega arith)
notes_dropped (suc k) p q (d ∷ ds) (c ∷ cs) ws e n = notes_dropped k (p + 1) q ds cs ws (omega arith) (omega arith)

one_more_note : (p q : ℕ) (ds : List Deed) (cs : List ℕ) (d : Deed) (c : ℕ) (ws : List Waiver) → q ≡ p + length ds
    → length cs ≡ length ds
    → notes_on p (ds ++ d ∷ []) (cs ++ c ∷ []) ws ≡ notes_on p ds cs ws ++ record { caller = c; deed = d; waived = waived_at q ws } ∷ []
one_more_note p q [] [] d c ws e n = ap (λ i. record { caller = c; deed = d; waived = waived_at i ws } ∷ []) (omega arith)
one_more_note p q [] (b ∷ bs) d c ws e n = absurd (omega arith)
one_more_note p q (a ∷ ds) [] d c ws e n = absurd (omega arith)
one_more_note p q (a ∷ ds) (b ∷ cs) d c ws e n =
    ap (λ ns. record { caller = b; deed = a; waived = waived_at p ws } ∷ ns)
    (one_more_note (p + 1) q ds cs d c ws (omega arith) (omega arith))

oldest_first : (ds : List Deed) (cs : List ℕ) (ws : List Waiver) → length cs ≡ length ds
    → reverse (notes_of ds cs ws) ≡ notes_on 0 (reverse ds) (reverse cs) ws
oldest_first [] cs ws n = refl
oldest_first (d ∷ ds) [] ws n = absurd (omega arith)
oldest_first (d ∷ ds) (c ∷ cs) ws n =
    let newest : Note = record { caller = c; deed = d; waived = waived_at (length ds) ws } in
    reverse-append (newest ∷ []) (notes_of ds cs ws)
    ∙ ap (λ ns. ns ++ newest ∷ []) (oldest_first ds cs ws (omega arith))
    ∙ sym (rw (reverse-append (d ∷ []) ds, reverse-append (c ∷ []) cs)
    (one_more_note 0 (length ds) (reverse ds) (reverse cs) d c ws (omega (arith, length-reverse ds))
    (omega (arith, length-reverse ds, length-reverse cs))))

-- the notes from a place on, of which no waiver before it is
pub notes_from : (place : ℕ) (deeds : List Deed) (callers : List ℕ) (waivers before later : List Waiver) → length callers ≡ length deeds
    → waivers ≡ before ++ later → AreBefore place before
    → notes_on place (drop place deeds) (drop place callers) later ≡ drop place (reverse (notes_in deeds callers waivers))
notes_from place deeds callers waivers before later n is b =
    sym (ap (drop place) (oldest_first (reverse deeds) (reverse callers) waivers
    (length-reverse callers ∙ n ∙ sym (length-reverse deeds)))
    ∙ rw (reverse-reverse deeds, reverse-reverse callers, is)
    (notes_dropped place 0 place deeds callers (before ++ later) (omega arith) n
    ∙ later_notes place place (drop place deeds) (drop place callers) before later b (omega arith)))

-- the first note, and those after it
pub first_note : (p : ℕ) (ds : List Deed) (cs : List ℕ) (d : Deed) (c : ℕ) (waivers now later : List Waiver) → waivers ≡ now ++ later
    → AreFrom p waivers → AreBefore (p + 1) now → AreFrom (p + 1) later
    → notes_on p (d ∷ ds) (c ∷ cs) waivers ≡ record { caller = c; deed = d; waived = map (λ (w : Waiver). w.waived) now }
    ∷ notes_on (p + 1) ds cs later
first_note p ds cs d c waivers now later is f b g =
    let all_now : waived_at p (now ++ later) ≡ map (λ (w : Waiver). w.waived) now =
    filter_map-append (λ w. waived_in p w) now later
    ∙ rw (all_here p now (from_front p now later (rw is at f)) b, none_after p later g)
    (append-nil (map (λ (w : Waiver). w.waived) now)) in
    rw (is, all_now) (ap (λ ns. record { caller = c; deed = d; waived = map (λ (w : Waiver). w.waived) now } ∷ ns)
    (later_notes (p + 1) (p + 1) ds cs now later b (omega arith)))
