-- Life after life a task finds the same, where it sees the same.
use Rattle.std.proofs.Common.{◌≡◌, ℕ, ◌+◌, ◌==◌, nat_lt, Bool, true, false, cond, List, [], ◌∷◌, map, Option}
use Rattle.std.proofs.Common.{refl, ap, sym, ◌∙◌, arith}
use Rattle.std.proofs.lemmas.Bool.{eqb-true}
use Rattle.std.proofs.lemmas.List.Sums.{sum_by-cons}
use Rattle.slot_types.specs.declared.plans.DiePlan.{DiePlan}
use Rattle.demand_rules.specs.declared.terms.Terms.{Terms}
use Rattle.die_log.specs.Model.Log.{Log, now}
use Rattle.die_log.specs.Model.Flash.{content}
use Rattle.die_log.specs.Model.Start.{Start}
use Rattle.die_log.specs.Model.Lives.{Lives, all_slots, start_after}
use Rattle.die_log.proofs.Life.Starting.{plan_same}
use Rattle.planned_log.specs.declared.refusals.AskRefusal.{AskRefusal}
use Rattle.planned_log.specs.Asks.{Asked, asked_by}
use Rattle.planned_log.specs.AskKinds.{refusal_as, jobs_as}
use Rattle.planned_log.specs.Laws.{IsKept, Seen, Asks, Slots, seen_by}
use Rattle.planned_log.specs.Moves.{Move, Ask, Slot, after_move, after_moves, lives_after}
use Rattle.planned_log.proofs.Answered.{then_asked, refused_now, other_ask, own_ask, a_slot}
use Rattle.planned_log.proofs.Kept.{begun}
use Rattle.planned_log.proofs.Moving.{move_keeps, lives_go_on}
use Rattle.task_reads.specs.Runs.{AreSeenAlike}
use Rattle.task_reads.specs.Lives.{IsOwnInLives, AreLivesSeenAlike}
use Rattle.task_reads.proofs.Alike.{ended_alike}
use Rattle.task_reads.proofs.Running.{asked_alike}

-- what the task has asked for in the end, by what it sees
abbrev seen_asked : (plan : DiePlan) (terms : Terms) (life first task : ℕ) → ℕ → List Asked → List Seen → List Asked
seen_asked plan terms life first task slot asked [] = asked
seen_asked plan terms life first task slot asked (Asks kind ops ∷ rest) =
    seen_asked plan terms life first task slot
    (then_asked (first + slot) (jobs_as kind ops) asked (refused_now plan terms life first task kind slot asked ops)) rest
seen_asked plan terms life first task slot asked (Slots ∷ rest) =
    seen_asked plan terms life first task (cond (nat_lt slot life) (slot + 1) slot) asked rest

module _ (start : Start) (terms : Terms) (earlier : Lives) (life task : ℕ) where
  abbrev told : ℕ → List Asked → List Move → List Asked
  told slot asked moves = seen_asked start.plan terms life (all_slots earlier) task slot asked (seen_by task moves)

  abbrev asked_after : Log → List Move → List Asked
  asked_after log moves = asked_by task (after_moves start terms earlier life log moves ∷ earlier)

  asked_told : (moves : List Move) (log : Log) → IsKept start terms earlier life 0 log
      → asked_after log moves ≡ told (now log) (asked_by task (log ∷ earlier)) moves
  asked_told [] log k = refl
  asked_told (Slot caller ∷ moves) log k =
      let s = a_slot start terms earlier life task log k caller (nat_lt (now log) life) refl in
      asked_told moves (after_move start terms earlier life log (Slot caller)) (move_keeps start terms earlier life log (Slot caller) k)
      ∙ (ap (λ n. told n (asked_by task (after_move start terms earlier life log (Slot caller) ∷ earlier)) moves) s.0
      ∙ ap (λ (l : List Asked). told (cond (nat_lt (now log) life) (now log + 1) (now log)) l moves) s.1)
  asked_told (Ask kind caller other ops ∷ moves) log k = by_test
      (asked_told moves (after_move start terms earlier life log (Ask kind caller other ops))
      (move_keeps start terms earlier life log (Ask kind caller other ops) k))
      (other == task) refl
    where
      next : Log
      next = after_move start terms earlier life log (Ask kind caller other ops)

      by_test : asked_after next moves ≡ told (now next) (asked_by task (next ∷ earlier)) moves → (b : Bool) → (other == task) ≡ b
          → asked_after next moves ≡ seen_asked start.plan terms life (all_slots earlier) task (now log) (asked_by task (log ∷ earlier))
          (cond b (Asks kind ops ∷ seen_by task moves) (seen_by task moves))
      by_test rest false e =
          let o = other_ask start terms earlier life task log k kind caller other ops e
          (refusal_as kind start.plan terms life earlier log other ops) refl in
          rest ∙ (ap (λ n. told n (asked_by task (next ∷ earlier)) moves) o.0 ∙ ap (λ (l : List Asked). told (now log) l moves) o.1)
      by_test rest true e =
          let o = own_ask start terms earlier life task log k kind caller other ops e
          (refusal_as kind start.plan terms life earlier log other ops) refl in
          rest
          ∙ (ap (λ n. told n (asked_by task (next ∷ earlier)) moves) o.0
          ∙ (ap (λ (l : List Asked). told (now log) l moves) o.1
          ∙ ap (λ (r : Option AskRefusal). told (now log)
          (then_asked (all_slots earlier + now log) (jobs_as kind ops) (asked_by task (log ∷ earlier)) r) moves)
          (ap (λ i. refusal_as kind start.plan terms life earlier log i ops) (eqb-true other task e))))

-- so two runs that a task sees alike leave it with the same asked for
same_asked : (task life : ℕ) (terms : Terms) (first : Start) (earlier : Lives) (moves : List Move) (other : Start) (before : Lives)
    (others : List Move) → AreSeenAlike task life terms first earlier moves other before others
    → asked_by task (after_moves first terms earlier life [] moves ∷ earlier) ≡ asked_by task (after_moves other terms before life [] others ∷ before)
same_asked task life terms first earlier moves other before others h =
    asked_told first terms earlier life task moves [] h.kept_one
    ∙ (ap (λ (p : DiePlan). seen_asked p terms life (all_slots earlier) task 0 (asked_by task ([] ∷ earlier)) (seen_by task moves)) h.plan
    ∙ (ap (λ n. seen_asked other.plan terms life n task 0 (asked_by task ([] ∷ earlier)) (seen_by task moves)) h.clock
    ∙ (ap (λ (l : List Asked). seen_asked other.plan terms life (all_slots before) task 0 l (seen_by task moves)) h.asked
    ∙ (ap (λ (l : List Seen). seen_asked other.plan terms life (all_slots before) task 0 (asked_by task ([] ∷ before)) l) h.seen
    ∙ sym (asked_told other terms before life task others [] h.kept_two)))))

-- Lives

module _ (task life : ℕ) (terms : Terms) (first other : Start) where
  abbrev one : List (List Move) → Lives
  one all = lives_after first terms life all

  abbrev two : List (List Move) → Lives
  two others = lives_after other terms life others

  abbrev AreAlike : List (List Move) → List (List Move) → Type 0
  AreAlike all others = AreLivesSeenAlike task life terms first all other others

  record AreFoundAlike (all others : List (List Move)) : Type 0 where
    clock : all_slots (one all) ≡ all_slots (two others)
    asked : asked_by task (one all) ≡ asked_by task (two others)

  begins : (all others : List (List Move)) → AreAlike all others → AreFoundAlike all others → (moves more : List Move)
      → seen_by task moves ≡ seen_by task more
      → AreSeenAlike task life terms (start_after first (one all)) (one all) moves (start_after other (two others)) (two others) more
  begins all others h found moves more seen = record {
    kept_one = (lives_go_on first terms life (begun first terms life h.full_one) all h.ends_one).begins;
    kept_two = (lives_go_on other terms life (begun other terms life h.full_two) others h.ends_two).begins;
    plan = plan_same first (one all) ∙ (h.plan ∙ sym (plan_same other (two others)));
    clock = found.clock;
    asked = found.asked;
    seen = seen;
  }

  -- what is seen of the lives before the newest, and of the newest
  heads : (moves more : List Move) (all others : List (List Move)) → map (seen_by task) (moves ∷ all) ≡ map (seen_by task) (more ∷ others)
      → (seen_by task moves ≡ seen_by task more) × (map (seen_by task) all ≡ map (seen_by task) others)
  heads moves more all others e = (head_is e, tail_is e)
    where
      head_is : {x y : List Seen} {xs ys : List (List Seen)} → x ∷ xs ≡ y ∷ ys → x ≡ y
      head_is e = cc

      tail_is : {x y : List Seen} {xs ys : List (List Seen)} → x ∷ xs ≡ y ∷ ys → xs ≡ ys
      tail_is e = cc

  before_newest : (moves more : List Move) (all others : List (List Move)) → AreAlike (moves ∷ all) (more ∷ others) → AreAlike all others
  before_newest moves more all others h = record {
    full_one = h.full_one;
    full_two = h.full_two;
    plan = h.plan;
    ends_one = h.ends_one.0;
    ends_two = h.ends_two.0;
    seen = (heads moves more all others h.seen).1;
  }

  found_alike : (all others : List (List Move)) → AreAlike all others → AreFoundAlike all others
  found_alike [] [] h = record { clock = refl; asked = refl }
  found_alike [] (more ∷ others) h = let e : map (seen_by task) [] ≡ map (seen_by task) (more ∷ others) = h.seen in absurd cc
  found_alike (moves ∷ all) [] h = let e : map (seen_by task) (moves ∷ all) ≡ map (seen_by task) [] = h.seen in absurd cc
  found_alike (moves ∷ all) (more ∷ others) h =
      let earlier = found_alike all others (before_newest moves more all others h) in
      let seen = heads moves more all others h.seen in
      let b = begins all others (before_newest moves more all others h) earlier moves more seen.0 in
      let log : Log = after_moves (start_after first (one all)) terms (one all) life [] moves in
      let twin : Log = after_moves (start_after other (two others)) terms (two others) life [] more in
      record {
        clock = omega (arith, sum_by-cons now log (one all), sum_by-cons now twin (two others), earlier.clock, h.ends_one.1, h.ends_two.1);
        asked = same_asked task life terms (start_after first (one all)) (one all) moves (start_after other (two others)) (two others) more b;
      }

  -- the next life begins alike for the task
  pub next_alike : (all others : List (List Move)) → AreAlike all others → (moves more : List Move) → seen_by task moves ≡ seen_by task more
      → AreSeenAlike task life terms (start_after first (one all)) (one all) moves (start_after other (two others)) (two others) more
  next_alike all others h = begins all others h (found_alike all others h)

  -- with the same on each page that was its own so far
  pub pages_alike : (all others : List (List Move)) → AreAlike all others → (page : ℕ) → content first [] page ≡ content other [] page
      → IsOwnInLives task page (one all) → IsOwnInLives task page (two others)
      → content (start_after first (one all)) [] page ≡ content (start_after other (two others)) [] page
  pages_alike [] [] h page same own_one own_two = same
  pages_alike [] (more ∷ others) h page same own_one own_two =
      let e : map (seen_by task) [] ≡ map (seen_by task) (more ∷ others) = h.seen in absurd cc
  pages_alike (moves ∷ all) [] h page same own_one own_two =
      let e : map (seen_by task) (moves ∷ all) ≡ map (seen_by task) [] = h.seen in absurd cc
  pages_alike (moves ∷ all) (more ∷ others) h page same own_one own_two =
      let earlier = before_newest moves more all others h in
      let log : Log = after_moves (start_after first (one all)) terms (one all) life [] moves in
      let twin : Log = after_moves (start_after other (two others)) terms (two others) life [] more in
      let b = next_alike all others earlier moves more (heads moves more all others h.seen).0 in
      ended_alike task (start_after first (one all)) log (start_after other (two others)) twin
      (asked_alike task life terms (start_after first (one all)) (one all) moves (start_after other (two others)) (two others) more b) page
      (record { own_one = own_one.1; own_two = own_two.1; same = pages_alike all others earlier page same own_one.0 own_two.0 })
      (lives_go_on first terms life (begun first terms life h.full_one) (moves ∷ all) h.ends_one).ended.2
      (lives_go_on other terms life (begun other terms life h.full_two) (more ∷ others) h.ends_two).ended.2
