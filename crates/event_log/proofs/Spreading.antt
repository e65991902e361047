-- The last run, and what a longer one or one more run makes of the list.
use Rattle.std.proofs.Common.{◌≡◌, ℕ, zero, suc, ◌+◌, ◌<◌, ◌≤◌, List, [], ◌∷◌, ◌++◌, Some, refl, ap, sym, ◌∙◌, length}
use Rattle.std.proofs.Common.{get_or, append_assoc, append-nil, arith, length-append}
use Rattle.std.specs.Prelude.{replicate}
use Rattle.std.proofs.Math.ListN.{set}
use Rattle.std.proofs.lemmas.List.{length-replicate, replicate_more}
use Rattle.event_log.specs.declared.runs.Run.{Run}
use Rattle.event_log.specs.Spread.{spread, AreSome, last_of}

last_of-replicate : {T : Type 0} (n : ℕ) (x : T) → 0 < n → last_of (replicate n x) ≡ Some x
last_of-replicate zero x h = absurd (omega arith)
last_of-replicate (suc zero) x h = refl
last_of-replicate (suc (suc n)) x h = last_of-replicate (suc n) x (omega arith)

last_of-append : {T : Type 0} (xs ys : List T) (z : T) → last_of ys ≡ Some z → last_of (xs ++ ys) ≡ Some z
last_of-append [] ys z e = e
last_of-append (x ∷ []) [] z e = absurd (cc)
last_of-append (x ∷ []) (y ∷ ys) z e = e
last_of-append (x ∷ (w ∷ ws)) ys z e = last_of-append (w ∷ ws) ys z e

pub some_run : {T : Type 0} (rs : List (Run T)) (x : T) → last_of (spread rs) ≡ Some x → 0 < length rs
some_run [] x e = absurd (cc)
some_run (r ∷ rs) x e = omega arith

-- the last run's item is the last of the list
pub last_run : {T : Type 0} (rs : List (Run T)) (i : ℕ) (r : Run T) → i + 1 ≡ length rs → AreSome rs → r ≡ get_or rs i r
    → last_of (spread rs) ≡ Some r.item
last_run [] i r n some e = absurd (omega arith)
last_run (q ∷ []) zero r n some e = rw (append-nil (replicate q.count q.item), e) (last_of-replicate q.count q.item some.0)
last_run (q ∷ []) (suc i) r n some e = absurd (omega arith)
last_run (q ∷ (p ∷ ps)) zero r n some e = absurd (omega arith)
last_run (q ∷ (p ∷ ps)) (suc i) r n some e =
    last_of-append (replicate q.count q.item) (spread (p ∷ ps)) r.item (last_run (p ∷ ps) i r (omega arith) some.1 e)

-- no run is longer than the list
pub run_fits : {T : Type 0} (rs : List (Run T)) (i : ℕ) (r : Run T) → i < length rs → r ≡ get_or rs i r → r.count ≤ length (spread rs)
run_fits [] i r h e = absurd (omega arith)
run_fits (q ∷ qs) zero r h e =
    omega (arith, length-append (replicate q.count q.item) (spread qs), length-replicate q.count q.item, ap (λ (s : Run _). s.count) e)
run_fits (q ∷ qs) (suc i) r h e = omega (arith, length-append (replicate q.count q.item) (spread qs), run_fits qs i r (omega arith) e)

-- one more run
pub spread-push : {T : Type 0} (rs : List (Run T)) (r : Run T) → spread (rs ++ r ∷ []) ≡ spread rs ++ replicate r.count r.item
spread-push [] r = append-nil (replicate r.count r.item)
spread-push (q ∷ qs) r =
    ap (λ xs. replicate q.count q.item ++ xs) (spread-push qs r) ∙ sym
    (append_assoc (replicate q.count q.item) (spread qs) (replicate r.count r.item))

-- the last run is longer by one
pub spread-longer : {T : Type 0} (rs : List (Run T)) (i : ℕ) (r : Run T) → i + 1 ≡ length rs → r ≡ get_or rs i r
    → spread (set rs i (record { item = r.item; count = r.count + 1 })) ≡ spread rs ++ r.item ∷ []
spread-longer [] i r n e = absurd (omega arith)
spread-longer (q ∷ []) zero r n e =
    rw (append-nil (replicate (r.count + 1) r.item), append-nil (replicate q.count q.item), ← e) (sym (replicate_more r.count r.item))
spread-longer (q ∷ []) (suc i) r n e = absurd (omega arith)
spread-longer (q ∷ (p ∷ ps)) zero r n e = absurd (omega arith)
spread-longer (q ∷ (p ∷ ps)) (suc i) r n e =
    ap (λ xs. replicate q.count q.item ++ xs) (spread-longer (p ∷ ps) i r (omega arith) e)
    ∙ sym (append_assoc (replicate q.count q.item) (spread (p ∷ ps)) (r.item ∷ []))

-- Runs stay some

pub some-push : {T : Type 0} (rs : List (Run T)) (r : Run T) → AreSome rs → 0 < r.count → AreSome (rs ++ r ∷ [])
some-push [] r some h = (h, tt)
some-push (q ∷ qs) r some h = (some.0, some-push qs r some.1 h)

pub some-set : {T : Type 0} (rs : List (Run T)) (i : ℕ) (r : Run T) → AreSome rs → 0 < r.count → AreSome (set rs i r)
some-set [] i r some h = tt
some-set (q ∷ qs) zero r some h = (h, some.1)
some-set (q ∷ qs) (suc i) r some h = (some.0, some-set qs i r some.1 h)
