-- What stood before a log was marked, and that later events leave it.
use Rattle.std.proofs.Common.{◌≡◌, ℕ, zero, suc, ◌<◌, ◌≤◌, true, List, [], ◌∷◌, ◌++◌, Some, refl, ap, sym, ◌∙◌}
use Rattle.std.proofs.Common.{length, take, drop, append_assoc, arith, length-append, inl, inr}
use Rattle.std.specs.Prelude.{replicate}
use Rattle.std.specs.List.{filter_map}
use Rattle.std.proofs.Math.ListN.{set}
use Rattle.std.proofs.Math.Seq.{take-append_seam}
use Rattle.std.proofs.lemmas.Bool.{false≢true, cases_order}
use Rattle.std.proofs.lemmas.List.{take-append-le, take-append-drop, take_all}
use Rattle.std.proofs.lemmas.List.Elements.{filter_map-append}
use Rattle.event_log.specs.declared.deeds.Deed.{Deed}
use Rattle.event_log.specs.declared.deeds.Deed.TheVariants.{Submit, Collect, Idle, Operation, LastOperation, CopyRead, CopyProgram}
use Rattle.event_log.specs.declared.deeds.Deed.TheVariants.{EraseSlot, LastEraseSlot}
use Rattle.event_log.specs.declared.waivers.Waiver.{Waiver}
use Rattle.event_log.specs.declared.runs.Run.{Run}
use Rattle.event_log.specs.Spread.{spread, AreSome, last_of}
use Rattle.event_log.specs.Notes.{Note}
use Rattle.event_log.specs.Slots.{slot_by, carried_in}
use Rattle.event_log.specs.NoteRecords.{alike_deeds, goes_on, stands_alone, newest_stands_alone}
use Rattle.event_log.specs.SoundLog.{notes_in, slots_before, IsMarked}
use Rattle.event_log.proofs.Pushing.{goes_on_alike, newest_alone}
use Rattle.event_log.proofs.Carrying.{carried_is}

-- Runs

spread-split : {T : Type 0} (rs : List (Run T)) (m : ℕ) → spread rs ≡ spread (take m rs) ++ spread (drop m rs)
spread-split rs zero = refl
spread-split [] (suc m) = refl
spread-split (r ∷ rs) (suc m) =
    ap (λ xs. replicate r.count r.item ++ xs) (spread-split rs m)
    ∙ sym (append_assoc (replicate r.count r.item) (spread (take m rs)) (spread (drop m rs)))

-- the items of the first runs are the first items
pub spread-first : {T : Type 0} (rs : List (Run T)) (m : ℕ) → spread (take m rs) ≡ take (length (spread (take m rs))) (spread rs)
spread-first rs m = sym (ap (take (length (spread (take m rs)))) (spread-split rs m)
    ∙ take-append_seam (spread (take m rs)) (spread (drop m rs)))

pub some-take : {T : Type 0} (rs : List (Run T)) (m : ℕ) → AreSome rs → AreSome (take m rs)
some-take rs zero some = tt
some-take [] (suc m) some = tt
some-take (r ∷ rs) (suc m) some = (some.0, some-take rs m some.1)

-- all runs
pub spread-whole : {T : Type 0} (rs : List (Run T)) (m : ℕ) → length rs ≤ m → spread (take m rs) ≡ spread rs
spread-whole rs m h = ap spread (take_all m rs h)

-- where fewer items were marked than there are, the last run is unmarked
pub unmarked : {T : Type 0} (rs : List (Run T)) (m : ℕ) → m ≤ length rs → length (spread (take m rs)) < length (spread rs) → m < length rs
unmarked rs m h fewer =
    elim (cases_order m (length rs)) [
      | inl same ↦ absurd (omega (arith, ap length (spread-whole rs m (omega (arith, same)))))
      | inr (inl lt) ↦ lt
      | inr (inr gt) ↦ absurd (omega arith)
    ]

take-set_later : {T : Type 0} (rs : List (Run T)) (m i : ℕ) (r : Run T) → m ≤ i → take m (set rs i r) ≡ take m rs
take-set_later rs zero i r h = refl
take-set_later [] (suc m) i r h = refl
take-set_later (q ∷ qs) (suc m) zero r h = absurd (omega arith)
take-set_later (q ∷ qs) (suc m) (suc i) r h = ap (λ ps. q ∷ ps) (take-set_later qs m i r (omega arith))

-- Deeds

-- the first slots are those of the first deeds
pub slots-first : (m : ℕ) (ds : List Deed) → filter_map slot_by (take m ds) ≡ take (slots_before m ds) (filter_map slot_by ds)
slots-first m ds =
    sym (ap (λ (es : List Deed). take (slots_before m ds) (filter_map slot_by es)) (sym (take-append-drop m ds))
    ∙ ap (take (slots_before m ds)) (filter_map-append slot_by (take m ds) (drop m ds))
    ∙ take-append_seam (filter_map slot_by (take m ds)) (filter_map slot_by (drop m ds)))

-- one more deed leaves the marked ones
pub slots-push : (m : ℕ) (ds : List Deed) (d : Deed) → m ≤ length ds → slots_before m (ds ++ d ∷ []) ≡ slots_before m ds
slots-push m ds d h = ap (λ (es : List Deed). length (filter_map slot_by es)) (take-append-le m ds (d ∷ []) h)

pub still_marked : (ds : List Deed) (m n : ℕ) (d : Deed) → IsMarked ds m n → IsMarked (ds ++ d ∷ []) m n
still_marked ds m n d is = record {
  within = omega (arith, is.within, length-append ds (d ∷ []));
  alone = λ e same last. absurd (omega (arith, is.within, length-append ds (d ∷ []), same));
  no_callers = is.no_callers;
}

-- The mark and the newest event

not_alike : (s d : Deed) → alike_deeds s d ≡ true → stands_alone d ≡ true → ⊥
not_alike (Submit n) d e f = false≢true e
not_alike (Collect n) d e f = false≢true e
not_alike Idle (Submit m) e f = false≢true e
not_alike Idle (Collect m) e f = false≢true e
not_alike Idle Idle e f = false≢true f
not_alike Idle (Operation m q) e f = false≢true e
not_alike Idle (LastOperation m q) e f = false≢true e
not_alike Idle (CopyRead m q) e f = false≢true e
not_alike Idle (CopyProgram m q) e f = false≢true e
not_alike Idle (EraseSlot m q) e f = false≢true e
not_alike Idle (LastEraseSlot m q) e f = false≢true e
not_alike (Operation n p) d e f = false≢true e
not_alike (LastOperation n p) d e f = false≢true e
not_alike (CopyRead n p) d e f = false≢true e
not_alike (CopyProgram n p) d e f = false≢true e
not_alike (EraseSlot n b) (Submit m) e f = false≢true e
not_alike (EraseSlot n b) (Collect m) e f = false≢true e
not_alike (EraseSlot n b) Idle e f = false≢true e
not_alike (EraseSlot n b) (Operation m q) e f = false≢true e
not_alike (EraseSlot n b) (LastOperation m q) e f = false≢true e
not_alike (EraseSlot n b) (CopyRead m q) e f = false≢true e
not_alike (EraseSlot n b) (CopyProgram m q) e f = false≢true e
not_alike (EraseSlot n b) (EraseSlot m q) e f = false≢true f
not_alike (EraseSlot n b) (LastEraseSlot m q) e f = false≢true e
not_alike (LastEraseSlot n b) d e f = false≢true e

-- an event that goes on with the newest comes after one that isn't marked
pub goes_on_unmarked : (deeds : List Deed) (callers : List ℕ) (waivers : List Waiver) (s : Note) (m n : ℕ) → length callers ≡ length deeds
    → IsMarked deeds m n → goes_on s (notes_in deeds callers waivers) ≡ true → m < length deeds
goes_on_unmarked deeds callers waivers s m n as_many is on =
    let last = goes_on_alike deeds callers waivers s as_many on in
    elim (cases_order m (length deeds)) [
      | inl same ↦ absurd (not_alike s.deed last.0 last.2 (is.alone last.0 same last.1))
      | inr (inl lt) ↦ lt
      | inr (inr gt) ↦ absurd (omega (arith, is.within))
    ]

pub marked_now : (deeds : List Deed) (callers : List ℕ) (waivers : List Waiver) (m n : ℕ) → length callers ≡ length deeds
    → IsMarked deeds m n → newest_stands_alone (notes_in deeds callers waivers) ≡ true → IsMarked deeds (length deeds) n
marked_now deeds callers waivers m n as_many is alone = record {
  within = omega arith;
  alone = λ d same last. newest_alone deeds callers waivers d as_many last alone;
  no_callers = is.no_callers;
}

-- then there were as many slots as there are
pub slots_now : (deeds : List Deed) (callers : List ℕ) (waivers : List Waiver) → length callers ≡ length deeds
    → slots_before (length deeds) deeds ≡ length (carried_in (notes_in deeds callers waivers))
slots_now deeds callers waivers as_many =
    ap (λ (ds : List Deed). length (filter_map slot_by ds)) (take_all (length deeds) deeds (omega arith))
    ∙ ap length (carried_is deeds callers waivers as_many)

-- a caller who is the last one is one
pub some_caller : (callers : List ℕ) (caller m : ℕ) → m ≡ 0 → last_of callers ≡ Some caller → m < length callers
some_caller [] caller m none last = absurd (cc)
some_caller (c ∷ cs) caller m none last = omega arith
