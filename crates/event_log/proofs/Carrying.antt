-- What the runs of deeds of a log carried is what its notes carried.
use Rattle.std.proofs.Common.{◌≡◌, ℕ, zero, suc, List, [], ◌∷◌, ◌++◌, Option, Some, None, refl, ap, sym, ◌∙◌, subst, length}
use Rattle.std.proofs.Common.{reverse, append-nil, arith}
use Rattle.std.specs.Prelude.{◌<◌, replicate}
use Rattle.std.specs.List.{filter_map}
use Rattle.std.proofs.lemmas.List.{reverse-append, reverse-reverse, length-reverse}
use Rattle.std.proofs.lemmas.List.Elements.{filter_map-append}
use Rattle.late_cert.specs.Schedule.{Slots}
use Rattle.event_log.specs.declared.deeds.Deed.{Deed}
use Rattle.event_log.specs.declared.runs.Run.{Run}
use Rattle.event_log.specs.declared.waivers.Waiver.{Waiver}
use Rattle.event_log.specs.Spread.{spread, AreSome}
use Rattle.event_log.specs.Notes.{notes_of}
use Rattle.event_log.specs.SoundLog.{notes_in}
use Rattle.event_log.specs.Slots.{slot_by, with_carried, carried_in}
use Rattle.event_log.proofs.Spreading.{spread-push}

-- Equal deeds

pub arrivals_pass : (n : ℕ) (d : Deed) → slot_by d ≡ None → filter_map slot_by (replicate n d) ≡ []
arrivals_pass zero d e = refl
arrivals_pass (suc n) d e = rw e (arrivals_pass n d e)

pub slots_repeat : (n : ℕ) (d : Deed) (k : Option ℕ) → slot_by d ≡ Some k → filter_map slot_by (replicate n d) ≡ replicate n k
slots_repeat zero d k e = refl
slots_repeat (suc n) d k e = rw e (ap (λ ks. k ∷ ks) (slots_repeat n d k e))

-- The notes

with_one : (slots : Slots) (d : Deed) (o : Option (Option ℕ)) → slot_by d ≡ o → with_carried slots o ≡ slots ++ filter_map slot_by (d ∷ [])
with_one slots d None e = rw e (sym (append-nil slots))
with_one slots d (Some k) e = rw e refl

carried_back : (ds : List Deed) (cs : List ℕ) (waivers : List Waiver) → length cs ≡ length ds
    → carried_in (notes_of ds cs waivers) ≡ filter_map slot_by (reverse ds)
carried_back [] cs waivers e = refl
carried_back (d ∷ ds) [] waivers e = absurd (omega arith)
carried_back (d ∷ ds) (c ∷ cs) waivers e =
    with_one (carried_in (notes_of ds cs waivers)) d (slot_by d) refl
    ∙ ap (λ ks. ks ++ filter_map slot_by (d ∷ [])) (carried_back ds cs waivers (omega arith))
    ∙ sym (ap (λ (es : List Deed). filter_map slot_by es) (reverse-append (d ∷ []) ds) ∙ filter_map-append slot_by (reverse ds) (d ∷ []))

pub carried_is : (deeds : List Deed) (callers : List ℕ) (waivers : List Waiver) → length callers ≡ length deeds
    → filter_map slot_by deeds ≡ carried_in (notes_in deeds callers waivers)
carried_is deeds callers waivers e =
    sym (carried_back (reverse deeds) (reverse callers) waivers (length-reverse callers ∙ e ∙ sym (length-reverse deeds))
    ∙ ap (λ (ds : List Deed). filter_map slot_by ds) (reverse-reverse deeds))

-- The last run

slots_before_last : (rs before : List (Run Deed)) (r : Run Deed) → rs ≡ before ++ r ∷ []
    → filter_map slot_by (spread rs) ≡ filter_map slot_by (spread before) ++ filter_map slot_by (replicate r.count r.item)
slots_before_last rs before r is =
    ap (λ (qs : List (Run Deed)). filter_map slot_by (spread qs)) is
    ∙ ap (λ (ds : List Deed). filter_map slot_by ds) (spread-push before r)
    ∙ filter_map-append slot_by (spread before) (replicate r.count r.item)

-- the last run is of slots
pub slots_popped : (rs before : List (Run Deed)) (r : Run Deed) (k : Option ℕ) → rs ≡ before ++ r ∷ [] → slot_by r.item ≡ Some k
    → filter_map slot_by (spread rs) ≡ filter_map slot_by (spread before) ++ replicate r.count k
slots_popped rs before r k is some =
    slots_before_last rs before r is
    ∙ ap (λ ks. filter_map slot_by (spread before) ++ ks) (slots_repeat r.count r.item k some)

-- the last run is of arrivals
pub arrivals_popped : (rs before : List (Run Deed)) (r : Run Deed) → rs ≡ before ++ r ∷ [] → slot_by r.item ≡ None
    → filter_map slot_by (spread before) ≡ filter_map slot_by (spread rs)
arrivals_popped rs before r is none =
    sym (slots_before_last rs before r is
    ∙ ap (λ ks. filter_map slot_by (spread before) ++ ks) (arrivals_pass r.count r.item none)
    ∙ append-nil (filter_map slot_by (spread before)))

pub some_popped : (rs before : List (Run Deed)) (r : Run Deed) → rs ≡ before ++ r ∷ [] → AreSome rs → AreSome before × (0 < r.count)
some_popped rs before r is some = split before (subst AreSome is some)
  where
    split : (qs : List (Run Deed)) → AreSome (qs ++ r ∷ []) → AreSome qs × (0 < r.count)
    split [] h = (tt, h.0)
    split (q ∷ qs) h = let rest = split qs h.1 in ((h.0, rest.0), rest.1)
