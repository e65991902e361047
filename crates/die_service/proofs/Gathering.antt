-- The dies of a store, each with its pass and its feed, before a run and after it.
use Rattle.std.proofs.Common.{◌≡◌, ℕ, suc, ◌+◌, ◌<◌, ◌≤◌, Bool, List, [], ◌∷◌, ◌++◌, length, map, get_or, Option, Some, None, refl, ap, sym, ◌∙◌}
use Rattle.std.proofs.Common.{subst, arith, append_assoc, append-nil, IsSome}
use Rattle.std.specs.List.{AllByRecursion}
use Rattle.std.proofs.lemmas.List.{length-map}
use Rattle.die_service.specs.declared.ends.DieEnd.{DieEnd}
use Rattle.die_service.specs.declared.feeds.Arrival.{Arrival}
use Rattle.atomic_table.specs.Seated.{TableId}
use Rattle.turn_lock.specs.Views.{IsLive, IsSamePass}
use Rattle.die_service.specs.Runs.{Batch, HasRun, HaveRun, whole_batch}
use Rattle.die_service.specs.Stores.{DiePass}
use Rattle.die_service.specs.Drives.{Course, WorkerState, first_state, whole_course, end_at}
use Rattle.die_service.specs.PassWorks.{AreReady, AreWaiting, HaveEnded, IsFit, MayCall}
use Rattle.die_service.specs.Work.{WorkCall, EndsAs, EndAs}
use Rattle.die_service.proofs.PassRuns.{has_run}

module _ {W : Type 0} (does : W → WorkCall → W → Type 0) where
  abbrev Worked : Type 0
  Worked = Option (WorkerState W) × Option (DieEnd × W)

  -- what each worker of a list does, they all do
  pub all_end : (die slots : ℕ) (xs ys : List Worked) → length ys ≡ length xs
      → ((i : ℕ) (d : Worked) → i < length xs → EndsAs does (die + i) slots (get_or xs i d) (get_or ys i d)) → EndAs does die slots xs ys
  all_end die slots [] [] same each = tt
  all_end die slots [] (y ∷ ys) same each = absurd (omega (arith, same))
  all_end die slots (x ∷ xs) [] same each = absurd (omega (arith, same))
  all_end die slots (x ∷ xs) (y ∷ ys) same each = (
    subst (λ (n : ℕ). EndsAs does n slots x y) (omega arith) (each 0 x (omega arith)),
    all_end (suc die) slots xs ys (omega (arith, same))
        (λ i d below. subst (λ (n : ℕ). EndsAs does n slots (get_or xs i d) (get_or ys i d)) (omega arith)
        (each (suc i) d (omega (arith, below)))),
  )

  pub end_length : (die slots : ℕ) (xs ys : List Worked) → EndAs does die slots xs ys → length ys ≡ length xs
  end_length die slots [] [] off = refl
  end_length die slots [] (y ∷ ys) off = absurd off
  end_length die slots (x ∷ xs) [] off = absurd off
  end_length die slots (x ∷ xs) (y ∷ ys) off = ap suc (end_length (suc die) slots xs ys off.1)

abbrev pub PassState : Type 0
PassState = Option (WorkerState DiePass) × Option (DieEnd × DiePass)

-- Those that wait

-- all wait, once these do, too
abbrev pub WaitOn : List DiePass → List Course → List PassState → List DiePass → List Course → Type 0
WaitOn passes courses made ps cs = (xs : List PassState) → AreWaiting ps cs xs → AreWaiting passes courses (made ++ xs)

pub waits_one : (passes ps : List DiePass) (courses cs : List Course) (made news : List PassState) (p : DiePass) (c : Course)
    (x : PassState) → WaitOn passes courses made (p ∷ ps) (c ∷ cs) → news ≡ made ++ x ∷ [] → x ≡ (Some (first_state p c), None)
    → WaitOn passes courses news ps cs
waits_one passes ps courses cs made news p c x on is here xs rest =
    subst (AreWaiting passes courses) (sym (ap (λ l. l ++ xs) is ∙ append_assoc made (x ∷ []) xs)) (on (x ∷ xs) (here, rest))

pub waits_all : (passes : List DiePass) (courses : List Course) (made : List PassState) → WaitOn passes courses made [] []
    → AreWaiting passes courses made
waits_all passes courses made on = subst (AreWaiting passes courses) (append-nil made) (on [] tt)

pub waits_long : (ps : List DiePass) (cs : List Course) (xs : List PassState) → AreWaiting ps cs xs → length xs ≡ length ps
waits_long [] [] [] waits = refl
waits_long [] [] (x ∷ xs) waits = absurd waits
waits_long [] (c ∷ cs) xs waits = absurd waits
waits_long (p ∷ ps) [] xs waits = absurd waits
waits_long (p ∷ ps) (c ∷ cs) [] waits = absurd waits
waits_long (p ∷ ps) (c ∷ cs) (x ∷ xs) waits = ap suc (waits_long ps cs xs waits.1)

pub few_wait : (locks : List TableId) (passes taken : List DiePass) (cs : List Course) (xs first : List PassState)
    → map (λ (p : DiePass). p.lock) passes ≡ locks → taken ≡ passes → AreWaiting taken cs xs → first ≡ xs → length locks ≤ 8
    → length first ≤ 8
few_wait locks passes taken cs xs first own same waits are few =
    omega (arith, few, waits_long taken cs xs waits, ap length same, ap length are, ap length own, length-map passes (λ (p : DiePass). p.lock))

pub ready_more : (ps : List DiePass) (p : DiePass) → AreReady ps → IsLive p.view → IsFit p.view → AreReady (ps ++ p ∷ [])
ready_more [] p ready live fit = (live, fit, tt)
ready_more (q ∷ ps) p ready live fit = (ready.0, ready.1, ready_more ps p ready.2 live fit)

-- Those that were run

-- all that waited were run
pub all_ran : (never : Bool) (die slots : ℕ) (ps : List DiePass) (cs : List Course) (xs ys : List PassState) → AreWaiting ps cs xs
    → EndAs (MayCall never) die slots xs ys → AllByRecursion (λ (y : PassState). IsSome y.1) ys
all_ran never die slots [] [] [] [] waits off = tt
all_ran never die slots [] [] [] (y ∷ ys) waits off = absurd off
all_ran never die slots [] [] (x ∷ xs) ys waits off = absurd waits
all_ran never die slots [] (c ∷ cs) xs ys waits off = absurd waits
all_ran never die slots (p ∷ ps) [] xs ys waits off = absurd waits
all_ran never die slots (p ∷ ps) (c ∷ cs) [] ys waits off = absurd waits
all_ran never die slots (p ∷ ps) (c ∷ cs) (x ∷ xs) [] waits off = absurd off
all_ran never die slots (p ∷ ps) (c ∷ cs) (x ∷ xs) (y ∷ ys) waits off =
    let went = subst (λ (s : PassState). EndsAs (MayCall never) die slots s y) waits.0 off.0 in (
      subst (λ (s : PassState). IsSome s.1) (sym went.2) refl,
      all_ran never (suc die) slots ps cs xs ys waits.1 off.1,
    )

pub ended_more : (xs : List PassState) (ends : List DieEnd) (qs : List DiePass) (x : PassState) (end : DieEnd) (q : DiePass)
    → HaveEnded xs ends qs → x.1 ≡ Some (end, q) → HaveEnded (xs ++ x ∷ []) (ends ++ end ∷ []) (qs ++ q ∷ [])
ended_more [] [] [] x end q ended is = (is, tt)
ended_more [] [] (r ∷ qs) x end q ended is = absurd ended
ended_more [] (e ∷ ends) qs x end q ended is = absurd ended
ended_more (y ∷ xs) [] qs x end q ended is = absurd ended
ended_more (y ∷ xs) (e ∷ ends) [] x end q ended is = absurd ended
ended_more (y ∷ xs) (e ∷ ends) (r ∷ qs) x end q ended is = (ended.0, ended_more xs ends qs x end q ended.1 is)

pub ended_long : (xs : List PassState) (ends : List DieEnd) (qs : List DiePass) → HaveEnded xs ends qs
    → (length ends ≡ length xs) × (length qs ≡ length xs)
ended_long [] [] [] ended = (refl, refl)
ended_long [] [] (r ∷ qs) ended = absurd ended
ended_long [] (e ∷ ends) qs ended = absurd ended
ended_long (y ∷ xs) [] qs ended = absurd ended
ended_long (y ∷ xs) (e ∷ ends) [] ended = absurd ended
ended_long (y ∷ xs) (e ∷ ends) (r ∷ qs) ended = let rest = ended_long xs ends qs ended.1 in (ap suc rest.0, ap suc rest.1)

-- each die was run with its pass and its feed: these are the ends, and the passes
pub all_run : (never : Bool) (die slots : ℕ) (ps : List DiePass) (feeds : List (List Arrival)) (xs ys : List PassState) (ends : List DieEnd)
    (qs : List DiePass) → AreReady ps → AreWaiting ps (map whole_course feeds) xs → EndAs (MayCall never) die slots xs ys
    → HaveEnded ys ends qs → HaveRun never (map (whole_batch slots) feeds) ps ends qs
all_run never die slots [] [] [] [] [] [] ready waits off ended = tt
all_run never die slots [] [] [] [] [] (q ∷ qs) ready waits off ended = absurd ended
all_run never die slots [] [] [] [] (end ∷ ends) qs ready waits off ended = absurd ended
all_run never die slots [] [] [] (y ∷ ys) ends qs ready waits off ended = absurd off
all_run never die slots [] [] (x ∷ xs) ys ends qs ready waits off ended = absurd waits
all_run never die slots [] (feed ∷ feeds) xs ys ends qs ready waits off ended = absurd waits
all_run never die slots (p ∷ ps) [] xs ys ends qs ready waits off ended = absurd waits
all_run never die slots (p ∷ ps) (feed ∷ feeds) [] ys ends qs ready waits off ended = absurd waits
all_run never die slots (p ∷ ps) (feed ∷ feeds) (x ∷ xs) [] ends qs ready waits off ended = absurd off
all_run never die slots (p ∷ ps) (feed ∷ feeds) (x ∷ xs) (y ∷ ys) [] qs ready waits off ended = absurd ended
all_run never die slots (p ∷ ps) (feed ∷ feeds) (x ∷ xs) (y ∷ ys) (end ∷ ends) [] ready waits off ended = absurd ended
all_run never die slots (p ∷ ps) (feed ∷ feeds) (x ∷ xs) (y ∷ ys) (end ∷ ends) (q ∷ qs) ready waits off ended =
    let went = subst (λ (s : PassState). EndsAs (MayCall never) die slots s y) waits.0 off.0 in
    let one = has_run never die slots p feed went.0 ready.0 ready.1 went.1 in
    let same : (end_at went.0, went.0.work) ≡ (end, q) = came (ap (λ (s : PassState). s.1) (sym went.2) ∙ ended.0) in (
      subst (λ (x : DieEnd × DiePass). IsSamePass p x.1) same one.0,
      subst (λ (x : DieEnd × DiePass). HasRun never (whole_batch slots feed) p.view x.0 x.1.view) same one.1,
      all_run never (suc die) slots ps feeds xs ys ends qs ready.2 waits.1 off.1 ended.1,
    )
  where
    came : {a b : DieEnd × DiePass} → Some a ≡ Some b → a ≡ b
    came {a} {b} e = cc

-- a run leaves the passes with their dies
pub same_locks : (never : Bool) (batches : List Batch) (ps : List DiePass) (ends : List DieEnd) (qs : List DiePass)
    → HaveRun never batches ps ends qs
    → map (λ (p : DiePass). p.lock) qs ≡ map (λ (p : DiePass). p.lock) ps
same_locks never [] [] [] [] ran = refl
same_locks never (b ∷ batches) (p ∷ ps) (end ∷ ends) (q ∷ qs) ran = rw (ran.0.0, same_locks never batches ps ends qs ran.2) refl
same_locks never [] [] [] (q ∷ qs) ran = absurd ran
same_locks never [] [] (end ∷ ends) qs ran = absurd ran
same_locks never [] (p ∷ ps) ends qs ran = absurd ran
same_locks never (b ∷ batches) [] ends qs ran = absurd ran
same_locks never (b ∷ batches) (p ∷ ps) [] qs ran = absurd ran
same_locks never (b ∷ batches) (p ∷ ps) (end ∷ ends) [] ran = absurd ran
