-- What one more event makes of the parts of a log.
use Rattle.std.proofs.Common.{◌≡◌, ℕ, suc, ◌+◌, ◌<◌, ◌≤◌, ◌==◌, ◌&&◌, not, Bool, true, false, List, [], ◌∷◌, ◌++◌}
use Rattle.std.proofs.Common.{Option, Some, None, refl, ap, sym, ◌∙◌, length, map, reverse, append-nil, arith}
use Rattle.std.proofs.lemmas.Bool.{false≢true}
use Rattle.std.proofs.lemmas.Bool.Decides.{nat_tests}
use Rattle.std.proofs.lemmas.List.{reverse-append, length-reverse}
use Rattle.std.proofs.lemmas.List.Elements.{filter_map-append}
use Rattle.slot_types.specs.declared.replies.Waived.{Waived}
use Rattle.event_log.specs.declared.deeds.Deed.{Deed}
use Rattle.event_log.specs.declared.deeds.Deed.TheVariants.{Submit, Collect, Idle, Operation, LastOperation, CopyRead, CopyProgram}
use Rattle.event_log.specs.declared.deeds.Deed.TheVariants.{EraseSlot, LastEraseSlot}
use Rattle.event_log.specs.declared.waivers.Waiver.{Waiver}
use Rattle.event_log.specs.Spread.{last_of}
use Rattle.event_log.specs.Waivers.{waiver_of}
use Rattle.event_log.specs.Waivers.{waived_in, waived_at}
use Rattle.event_log.specs.Notes.{Note, is_none, notes_of, waives_newest}
use Rattle.event_log.specs.NoteRecords.{is_idle, alike_deeds, goes_on, has_same_caller, new_records, records, is_some_number}
use Rattle.event_log.specs.NoteRecords.{stands_alone, newest_stands_alone}
use Rattle.event_log.specs.SoundLog.{AreBefore, AreFrom, AreInOrder, notes_in}

-- The waivers of an event

another : (k n : ℕ) → n < k → (n == k) ≡ false
another k n h = grind (arith, nat_tests)

pub another_later : (k n : ℕ) → k < n → (n == k) ≡ false
another_later k n h = grind (arith, nat_tests)

pub the_same : (n : ℕ) → (n == n) ≡ true
the_same n = grind (arith, nat_tests)

-- those of earlier events are of no later one
pub none_before : (k : ℕ) (waivers : List Waiver) → AreBefore k waivers → waived_at k waivers ≡ []
none_before k [] h = refl
none_before k (w ∷ ws) h = rw (another k w.event h.0) (none_before k ws h.1)

all_now : (n : ℕ) (ws : List Waived) → waived_at n (map (waiver_of n) ws) ≡ ws
all_now n [] = refl
all_now n (w ∷ ws) = rw (the_same n) (ap (λ vs. w ∷ vs) (all_now n ws))

none_earlier : (k n : ℕ) (ws : List Waived) → k < n → waived_at k (map (waiver_of n) ws) ≡ []
none_earlier k n [] h = refl
none_earlier k n (w ∷ ws) h = rw (another_later k n h) (none_earlier k n ws h)

waived_now : (n : ℕ) (waivers : List Waiver) (ws : List Waived) → AreBefore n waivers → waived_at n (waivers ++ map (waiver_of n) ws) ≡ ws
waived_now n waivers ws h =
    filter_map-append (λ w. waived_in n w) waivers (map (waiver_of n) ws) ∙ rw (none_before n waivers h) (all_now n ws)

waived_before : (k n : ℕ) (waivers : List Waiver) (ws : List Waived) → k < n
    → waived_at k (waivers ++ map (waiver_of n) ws) ≡ waived_at k waivers
waived_before k n waivers ws h =
    filter_map-append (λ w. waived_in k w) waivers (map (waiver_of n) ws) ∙ rw (none_earlier k n ws h) (append-nil (waived_at k waivers))

pub before_later : (k n : ℕ) (waivers : List Waiver) → k ≤ n → AreBefore k waivers → AreBefore n waivers
before_later k n [] h b = tt
before_later k n (w ∷ ws) h b = (omega (arith, b.0), before_later k n ws h b.1)

before_noted : (n : ℕ) (ws : List Waived) → AreBefore (n + 1) (map (waiver_of n) ws)
before_noted n [] = tt
before_noted n (w ∷ ws) = (omega arith, before_noted n ws)

pub before_push : (n : ℕ) (waivers : List Waiver) (ws : List Waived) → AreBefore n waivers
    → AreBefore (n + 1) (waivers ++ map (waiver_of n) ws)
before_push n [] ws b = before_noted n ws
before_push n (w ∷ rest) ws b = (omega (arith, b.0), before_push n rest ws b.1)

from_now : (n : ℕ) (ws : List Waived) → AreFrom n (map (waiver_of n) ws)
from_now n [] = tt
from_now n (w ∷ ws) = (omega arith, from_now n ws)

now_in_order : (n : ℕ) (ws : List Waived) → AreInOrder (map (waiver_of n) ws)
now_in_order n [] = tt
now_in_order n (w ∷ ws) = (from_now n ws, now_in_order n ws)

from_push : (k n : ℕ) (waivers : List Waiver) (ws : List Waived) → k < n → AreFrom k waivers → AreFrom k (waivers ++ map (waiver_of n) ws)
from_push k n [] [] h f = tt
from_push k n [] (w ∷ ws) h f = (omega arith, from_push k n [] ws h tt)
from_push k n (w ∷ rest) ws h f = (f.0, from_push k n rest ws h f.1)

pub in_order-push : (n : ℕ) (waivers : List Waiver) (ws : List Waived) → AreBefore n waivers → AreInOrder waivers
    → AreInOrder (waivers ++ map (waiver_of n) ws)
in_order-push n [] ws b o = now_in_order n ws
in_order-push n (w ∷ rest) ws b o = (from_push w.event n rest ws b.0 o.0, in_order-push n rest ws b.1 o.1)

-- The events

notes_stay : (ds : List Deed) (cs : List ℕ) (n : ℕ) (waivers : List Waiver) (ws : List Waived) → length ds ≤ n
    → notes_of ds cs (waivers ++ map (waiver_of n) ws) ≡ notes_of ds cs waivers
notes_stay [] cs n waivers ws h = refl
notes_stay (d ∷ ds) [] n waivers ws h = refl
notes_stay (d ∷ ds) (c ∷ cs) n waivers ws h =
    rw (waived_before (length ds) n waivers ws (omega arith)) (ap (λ past. record
    { caller = c; deed = d; waived = waived_at (length ds) waivers } ∷ past) (notes_stay ds cs n waivers ws (omega arith)))

-- one more event
pub notes_push : (deeds : List Deed) (callers : List ℕ) (n : ℕ) (waivers : List Waiver) (c : ℕ) (d : Deed) (ws : List Waived)
    → n ≡ length deeds → AreBefore n waivers
    → notes_in (deeds ++ d ∷ []) (callers ++ c ∷ []) (waivers ++ map (waiver_of n) ws) ≡ record { caller = c; deed = d; waived = ws } ∷
    notes_in deeds callers waivers
notes_push deeds callers n waivers c d ws e b =
    rw (reverse-append deeds (d ∷ []), reverse-append callers (c ∷ []), length-reverse deeds, ← e, waived_now n waivers ws b)
    (ap (λ past. record { caller = c; deed = d; waived = ws } ∷ past) (notes_stay (reverse deeds) (reverse callers) n waivers ws
    (omega (arith, length-reverse deeds))))

length_notes : (ds : List Deed) (cs : List ℕ) (waivers : List Waiver) → length cs ≡ length ds → length (notes_of ds cs waivers) ≡ length ds
length_notes [] cs waivers e = refl
length_notes (d ∷ ds) [] waivers e = absurd (omega arith)
length_notes (d ∷ ds) (c ∷ cs) waivers e = ap suc (length_notes ds cs waivers (omega arith))

pub length_of : (deeds : List Deed) (callers : List ℕ) (waivers : List Waiver) → length callers ≡ length deeds
    → length (notes_in deeds callers waivers) ≡ length deeds
length_of deeds callers waivers e =
    length_notes (reverse deeds) (reverse callers) waivers (length-reverse callers ∙ e ∙ sym (length-reverse deeds)) ∙ length-reverse deeds

-- Records

pub records_push : (s : Note) (past : List Note) → records (s ∷ past) ≡ new_records (goes_on s past) + records past
records_push s [] = refl
records_push s (t ∷ past) = refl

one_at_most : (b : Bool) → new_records b ≤ 1
one_at_most true = omega arith
one_at_most false = omega arith

-- there are no more records than events
pub few_records : (notes : List Note) → records notes ≤ length notes
few_records [] = omega arith
few_records (s ∷ past) = rw (records_push s past) (omega (arith, one_at_most (goes_on s past), few_records past))

-- The newest

last_split : {T : Type 0} (xs : List T) (x : T) → last_of xs ≡ Some x → (front : List T) × (xs ≡ front ++ x ∷ [])
last_split [] x e = absurd (cc)
last_split (y ∷ []) x e = ([], cc)
last_split (y ∷ (z ∷ zs)) x e = let rest = last_split (z ∷ zs) x e in (y ∷ rest.0, ap (λ ys. y ∷ ys) rest.1)

last_none : {T : Type 0} (xs : List T) → last_of xs ≡ None → xs ≡ []
last_none [] e = refl
last_none (y ∷ []) e = absurd (cc)
last_none (y ∷ (z ∷ zs)) e = let h : z ∷ zs ≡ [] = last_none (z ∷ zs) e in absurd (cc)

both : (b x y a : Bool) → x ≡ true → y ≡ true → (b && x && y && a) ≡ (b && a)
both b x y a h k = rw (h, k) (elim b as (λ v. (v && true && true && a) ≡ (v && a)) [ true ↦ refl | false ↦ refl ])

is_not : (b : Bool) → not b ≡ false → b ≡ true
is_not true e = refl
is_not false e = absurd (cc)

newest_shown : (deeds front : List Deed) (callers before : List ℕ) (waivers : List Waiver) (c : ℕ) (d : Deed) → deeds ≡ front ++ d ∷ []
    → callers ≡ before ++ c ∷ []
    → notes_in deeds callers waivers ≡ record { caller = c; deed = d; waived = waived_at (length (reverse front)) waivers } ∷ notes_in front
    before waivers
newest_shown deeds front callers before waivers c d ds cs = rw (ds, cs, reverse-append front (d ∷ []), reverse-append before (c ∷ [])) refl

goes_on_by : (s t : Note) (past notes : List Note) → notes ≡ t ∷ past → is_none s.waived ≡ true → waives_newest notes ≡ false
    → goes_on s notes ≡ ((s.caller == t.caller) && alike_deeds s.deed t.deed)
goes_on_by s t past notes e none quiet =
    rw e (both (s.caller == t.caller) (is_none s.waived) (is_none t.waived) (alike_deeds s.deed t.deed) none (is_not _ (rw e at quiet)))

-- whether an event that waives none goes on with the newest, which waives none
pub goes_on_is : (deeds : List Deed) (callers : List ℕ) (waivers : List Waiver) (s : Note) (c : ℕ) (d : Deed) → last_of callers ≡ Some c
    → last_of deeds ≡ Some d
    → is_none s.waived ≡ true → waives_newest (notes_in deeds callers waivers) ≡ false
    → goes_on s (notes_in deeds callers waivers) ≡ ((s.caller == c) && alike_deeds s.deed d)
goes_on_is deeds callers waivers s c d last_c last_d none quiet =
    let cs = last_split callers c last_c in
    let ds = last_split deeds d last_d in
    goes_on_by s _ _ (notes_in deeds callers waivers) (newest_shown deeds ds.0 callers cs.0 waivers c d ds.1 cs.1) none quiet

pub goes_on_first : (deeds : List Deed) (callers : List ℕ) (waivers : List Waiver) (s : Note) → last_of deeds ≡ None
    → goes_on s (notes_in deeds callers waivers) ≡ false
goes_on_first deeds callers waivers s e = rw (last_none deeds e) refl

-- each event has its caller
last_with : (deeds : List Deed) (callers : List ℕ) (d : Deed) → length callers ≡ length deeds → last_of deeds ≡ Some d
    → (c : ℕ) × (last_of callers ≡ Some c)
last_with [] callers d n e = absurd (cc)
last_with (x ∷ xs) [] d n e = absurd (omega arith)
last_with (x ∷ []) (c ∷ []) d n e = (c, refl)
last_with (x ∷ []) (c ∷ (b ∷ bs)) d n e = absurd (omega arith)
last_with (x ∷ (y ∷ ys)) (c ∷ []) d n e = absurd (omega arith)
last_with (x ∷ (y ∷ ys)) (c ∷ (b ∷ bs)) d n e = last_with (y ∷ ys) (b ∷ bs) d (omega arith) e

pub goes_on_said : (deeds : List Deed) (callers : List ℕ) (waivers : List Waiver) (s : Note) (d : Deed) (same : Bool)
    → length callers ≡ length deeds → last_of deeds ≡ Some d
    → same ≡ is_some_number (last_of callers) s.caller → is_none s.waived ≡ true → waives_newest (notes_in deeds callers waivers) ≡ false
    → (same && alike_deeds s.deed d) ≡ goes_on s (notes_in deeds callers waivers)
goes_on_said deeds callers waivers s d same n last_d said none quiet =
    let c = last_with deeds callers d n last_d in
    rw (said, c.1) (sym (goes_on_is deeds callers waivers s c.0 d c.1 last_d none quiet))

pub none_of_none : {T : Type 0} (xs : List T) → (length xs == 0) ≡ true → is_none xs ≡ true
none_of_none [] e = refl
none_of_none (x ∷ xs) e = absurd (grind (arith, nat_tests))

pub is_none_is : {T : Type 0} (xs : List T) → (length xs == 0) ≡ is_none xs
is_none_is [] = refl
is_none_is (x ∷ xs) = grind (arith, nat_tests)

pub same_some : (last : Option ℕ) (number : ℕ) → is_some_number last number ≡ true → last ≡ Some number
same_some None number e = absurd (cc)
same_some (Some n) number e = ap Some (sym (grind (arith, nat_tests)))

pub first_of : (a b : Bool) → (a && b) ≡ true → a ≡ true
first_of true b e = refl
first_of false b e = absurd (cc)

pub second_of : (a b : Bool) → (a && b) ≡ true → b ≡ true
second_of true b e = e
second_of false b e = absurd (cc)

-- What an event goes on with

all_four : (a b c d : Bool) → (a && b && c && d) ≡ true → (a ≡ true) × (b ≡ true) × (c ≡ true) × (d ≡ true)
all_four true true true true h = (refl, refl, refl, refl)
all_four false b c d h = absurd (cc)
all_four true false c d h = absurd (cc)
all_four true true false d h = absurd (cc)
all_four true true true false h = absurd (cc)

goes_on_alike_by : (deeds : List Deed) (callers : List ℕ) (waivers : List Waiver) (s : Note) (last : Option Deed) → last_of deeds ≡ last
    → length callers ≡ length deeds → goes_on s (notes_in deeds callers waivers) ≡ true
    → (d : Deed) × (last_of deeds ≡ Some d) × (alike_deeds s.deed d ≡ true)
goes_on_alike_by deeds callers waivers s None last n on = absurd (false≢true (sym (goes_on_first deeds callers waivers s last) ∙ on))
goes_on_alike_by deeds callers waivers s (Some d) last n on =
    let who = last_with deeds callers d n last in
    let ds = last_split deeds d last in
    let cs = last_split callers who.0 who.1 in
    let shown = newest_shown deeds ds.0 callers cs.0 waivers who.0 d ds.1 cs.1 in (
      d,
      last,
      (all_four (s.caller == who.0) (is_none s.waived) (is_none (waived_at (length (reverse ds.0)) waivers)) (alike_deeds s.deed d)
          (rw shown at on)).3,
    )

-- the newest deed is alike to that of an event that goes on with it
pub goes_on_alike : (deeds : List Deed) (callers : List ℕ) (waivers : List Waiver) (s : Note) → length callers ≡ length deeds
    → goes_on s (notes_in deeds callers waivers) ≡ true → (d : Deed) × (last_of deeds ≡ Some d) × (alike_deeds s.deed d ≡ true)
goes_on_alike deeds callers waivers s n on = goes_on_alike_by deeds callers waivers s (last_of deeds) refl n on

-- the newest event did the last deed
pub newest_alone : (deeds : List Deed) (callers : List ℕ) (waivers : List Waiver) (d : Deed) → length callers ≡ length deeds
    → last_of deeds ≡ Some d → newest_stands_alone (notes_in deeds callers waivers) ≡ true → stands_alone d ≡ true
newest_alone deeds callers waivers d n last alone =
    let who = last_with deeds callers d n last in
    let ds = last_split deeds d last in
    let cs = last_split callers who.0 who.1 in
    rw (newest_shown deeds ds.0 callers cs.0 waivers who.0 d ds.1 cs.1) at alone

-- An idle slot that goes on with the newest record

idle_is : (d : Deed) → is_idle d ≡ true → d ≡ Idle
idle_is Idle h = refl
idle_is (Submit n) h = absurd (cc)
idle_is (Collect n) h = absurd (cc)
idle_is (Operation n p) h = absurd (cc)
idle_is (LastOperation n p) h = absurd (cc)
idle_is (CopyRead n p) h = absurd (cc)
idle_is (CopyProgram n p) h = absurd (cc)
idle_is (EraseSlot n b) h = absurd (cc)
idle_is (LastEraseSlot n b) h = absurd (cc)

nothing_is : {T : Type 0} (xs : List T) → is_none xs ≡ true → xs ≡ []
nothing_is [] h = refl
nothing_is (x ∷ xs) h = absurd (cc)

the_number : (m n : ℕ) → (m == n) ≡ true → m ≡ n
the_number m n h = grind (arith, nat_tests)

-- the newest event was an idle slot of the same caller, and neither waives a collection
pub record GoesOnIdle (deeds : List Deed) (callers : List ℕ) (waivers : List Waiver) (caller : ℕ) (waived : List Waived) : Type 0 where
  pub deed : last_of deeds ≡ Some Idle
  pub same : last_of callers ≡ Some caller
  pub none : waived ≡ []
  pub quiet : waives_newest (notes_in deeds callers waivers) ≡ false

goes_on_by_last : (deeds : List Deed) (callers : List ℕ) (waivers : List Waiver) (c : ℕ) (ws : List Waived) (last : Option Deed)
    → last_of deeds ≡ last → length callers ≡ length deeds
    → goes_on (record { caller = c; deed = Idle; waived = ws }) (notes_in deeds callers waivers) ≡ true
    → GoesOnIdle deeds callers waivers c ws
goes_on_by_last deeds callers waivers c ws None last n on =
    let no : goes_on (record { caller = c; deed = Idle; waived = ws }) (notes_in deeds callers waivers) ≡ false =
    goes_on_first deeds callers waivers (record { caller = c; deed = Idle; waived = ws }) last in
    absurd (cc)
goes_on_by_last deeds callers waivers c ws (Some d) last n on =
    let who = last_with deeds callers d n last in
    let ds = last_split deeds d last in
    let cs = last_split callers who.0 who.1 in
    let shown = newest_shown deeds ds.0 callers cs.0 waivers who.0 d ds.1 cs.1 in
    let parts = all_four (c == who.0) (is_none ws) (is_none (waived_at (length (reverse ds.0)) waivers)) (is_idle d) (rw shown at on) in
    record {
      deed = last ∙ ap Some (idle_is d parts.3);
      same = who.1 ∙ ap Some (sym (the_number c who.0 parts.0));
      none = nothing_is ws parts.1;
      quiet = rw shown (ap not parts.2);
    }

pub idle_goes_on : (deeds : List Deed) (callers : List ℕ) (waivers : List Waiver) (c : ℕ) (ws : List Waived) → length callers ≡ length deeds
    → goes_on (record { caller = c; deed = Idle; waived = ws }) (notes_in deeds callers waivers) ≡ true
    → GoesOnIdle deeds callers waivers c ws
idle_goes_on deeds callers waivers c ws n on = goes_on_by_last deeds callers waivers c ws (last_of deeds) refl n on

-- one more idle slot
pub idle_push : (deeds : List Deed) (callers : List ℕ) (n : ℕ) (waivers : List Waiver) (c : ℕ) → n ≡ length deeds → AreBefore n waivers
    → notes_in (deeds ++ Idle ∷ []) (callers ++ c ∷ []) waivers ≡ record { caller = c; deed = Idle; waived = [] }
    ∷ notes_in deeds callers waivers
idle_push deeds callers n waivers c e b =
    ap (λ (ws : List Waiver). notes_in (deeds ++ Idle ∷ []) (callers ++ c ∷ []) ws) (sym (append-nil waivers))
    ∙ notes_push deeds callers n waivers c Idle [] e b

-- What is kept once

-- alike deeds are one deed
one_deed : (d e : Deed) → alike_deeds d e ≡ true → e ≡ d
one_deed (Submit n) e h = absurd (cc)
one_deed (Collect n) e h = absurd (cc)
one_deed Idle e h = idle_is e h
one_deed (Operation n p) e h = absurd (cc)
one_deed (LastOperation n p) e h = absurd (cc)
one_deed (CopyRead n p) e h = absurd (cc)
one_deed (CopyProgram n p) e h = absurd (cc)
one_deed (EraseSlot n b) (Submit m) h = absurd (cc)
one_deed (EraseSlot n b) (Collect m) h = absurd (cc)
one_deed (EraseSlot n b) Idle h = absurd (cc)
one_deed (EraseSlot n b) (Operation m q) h = absurd (cc)
one_deed (EraseSlot n b) (LastOperation m q) h = absurd (cc)
one_deed (EraseSlot n b) (CopyRead m q) h = absurd (cc)
one_deed (EraseSlot n b) (CopyProgram m q) h = absurd (cc)
one_deed (EraseSlot n b) (EraseSlot m o) h =
    rw (the_number n m (first_of (n == m) (b == o) h), the_number b o (second_of (n == m) (b == o) h)) refl
one_deed (EraseSlot n b) (LastEraseSlot m o) h = absurd (cc)
one_deed (LastEraseSlot n b) e h = absurd (cc)

-- the newest deed is that of an event that goes on with it
pub goes_on_same : (deeds : List Deed) (callers : List ℕ) (waivers : List Waiver) (s : Note) → length callers ≡ length deeds
    → goes_on s (notes_in deeds callers waivers) ≡ true → last_of deeds ≡ Some s.deed
goes_on_same deeds callers waivers s n on =
    let newest = goes_on_alike deeds callers waivers s n on in newest.1 ∙ ap Some (one_deed s.deed newest.0 newest.2)

no_callers : (callers : List ℕ) → length callers ≡ 0 → callers ≡ []
no_callers [] n = refl
no_callers (c ∷ cs) n = absurd (omega arith)

caller_is_by : (deeds : List Deed) (callers : List ℕ) (waivers : List Waiver) (s : Note) (last : Option Deed) → last_of deeds ≡ last
    → length callers ≡ length deeds
    → is_some_number (last_of callers) s.caller ≡ has_same_caller s (notes_in deeds callers waivers)
caller_is_by deeds callers waivers s None last n =
    let none = last_none deeds last in rw (none, no_callers callers (n ∙ ap length none)) refl
caller_is_by deeds callers waivers s (Some d) last n =
    let who = last_with deeds callers d n last in
    let ds = last_split deeds d last in
    let cs = last_split callers who.0 who.1 in
    rw (newest_shown deeds ds.0 callers cs.0 waivers who.0 d ds.1 cs.1, who.1) refl

-- the last caller is that of the newest event
pub caller_is : (deeds : List Deed) (callers : List ℕ) (waivers : List Waiver) (s : Note) → length callers ≡ length deeds
    → is_some_number (last_of callers) s.caller ≡ has_same_caller s (notes_in deeds callers waivers)
caller_is deeds callers waivers s n = caller_is_by deeds callers waivers s (last_of deeds) refl n

pub same_caller : (deeds : List Deed) (callers : List ℕ) (waivers : List Waiver) (s : Note) → length callers ≡ length deeds
    → last_of callers ≡ Some s.caller → has_same_caller s (notes_in deeds callers waivers) ≡ true
same_caller deeds callers waivers s n last = sym (caller_is deeds callers waivers s n) ∙ rw last (the_same s.caller)
