-- The lives of a die since it began: they are lives of a die, in each of which each task's jobs come in order.
use Rattle.std.proofs.Common.{◌≡◌, ℕ, ◌-◌, ◌==◌, nat_lt, Bool, true, false, cond, List, [], ◌∷◌, ◌++◌, length, map, take, Option}
use Rattle.std.proofs.Common.{ap, sym, subst, ◌∙◌, arith}
use Rattle.std.proofs.lemmas.List.{length-append}
use Rattle.std.proofs.Math.Seq.{take-append_seam}
use Rattle.slot_types.specs.declared.events.Op.{Op}
use Rattle.demand_rules.specs.declared.terms.Terms.{Terms}
use Rattle.die_log.specs.Model.Log.{Log, now}
use Rattle.die_log.specs.Model.Start.{Start}
use Rattle.die_log.specs.Model.Opening.{IsOpening, IsQuiet}
use Rattle.die_log.specs.Model.Answers.{IsExact}
use Rattle.die_log.specs.Model.Lives.{Lives, start_after, HaveEnded, AreLives}
use Rattle.planned_log.specs.declared.ask_kinds.AskKind.{AskKind}
use Rattle.planned_log.specs.AskKinds.{jobs_as}
use Rattle.planned_log.specs.Moves.{Ask, Slot}
use Rattle.ongoing_log.specs.PastLives.{PastLife, Renewed, starts_after, counted, HavePassed}
use Rattle.ongoing_log.specs.Ongoing.{WaitingAsk, Ongoing, start_of, clock_of, Answer, Refused, Enters, Waits, WaitsAlready, Past, TooFarAhead}
use Rattle.ongoing_log.specs.Ongoing.{answer_to, after_answer, asks_of, due_at, let_in, next_life, living_on, carried, AreLongEnough, IsOngoing}
use Rattle.ongoing_log.specs.Ahead.{answer_at, AheadMove, Now, AskAt, ahead_after_move, ahead_after}
use Rattle.ongoing_log.proofs.GoingOn.{slot_begins, ahead_goes_on}
use Rattle.task_reads.specs.GoingOn.{lives_since}
use Rattle.task_reads.proofs.Calls.{IsOrdered}
use Rattle.task_reads.proofs.Running.{jobs_ordered, slot_if, moves_ordered, none_ordered}
use Rattle.task_reads.proofs.Told.{since_move, since_moves}

abbrev pub logs_of : List PastLife → Lives
logs_of past = map (λ (p : PastLife). p.log) past

-- the log starts at an opening, and the task's jobs come in order
pub record IsServed (start : Start) (terms : Terms) (task : ℕ) (log : Log) : Type 0 where
  pub opens : IsOpening start
  pub ordered : IsOrdered start terms task log

abbrev pub AreServed : Start → Terms → ℕ → Lives → Type 0
AreServed first terms task [] = Unit {0}
AreServed first terms task (log ∷ earlier) = AreServed first terms task earlier × IsServed (start_after first earlier) terms task log

module _ (first : Start) (terms : Terms) (life task : ℕ) (past : List PastLife) where
  abbrev began : Start
  began = starts_after first past

  -- what holds of the lives that ended since it began, and of the present one
  pub record HaveGone (since : List PastLife) (d : Ongoing) : Type 0 where
    pub earlier_is : d.earlier ≡ since ++ past
    pub ended : HaveEnded began (logs_of since)
    pub starts : start_after began (logs_of since) ≡ start_of first d
    pub served : AreServed began terms task (logs_of since)
    pub ordered : IsOrdered (start_of first d) terms task d.log

  with_log : (since : List PastLife) (d : Ongoing) → HaveGone since d → (log : Log) → IsOrdered (start_of first d) terms task log
      → (waiting : List (Option WaitingAsk)) → HaveGone since (record { earlier = d.earlier; log = log; waiting = waiting })
  with_log since d h log ordered waiting = record { earlier_is = h.earlier_is; ended = h.ended; starts = h.starts; served = h.served; ordered = ordered }

  answer_gone : (since : List PastLife) (d : Ongoing) → HaveGone since d → (kind : AskKind) (caller other : ℕ) (ops : List Op) (a : Answer)
      → HaveGone since (after_answer first terms d kind caller other ops a)
  answer_gone since d h kind caller other ops (Enters release due) =
      with_log since d h _ (jobs_ordered (start_of first d) terms (counted d.earlier) life task d.log caller other (jobs_as kind ops) h.ordered) d.waiting
  answer_gone since d h kind caller other ops (Waits release due) = with_log since d h d.log h.ordered _
  answer_gone since d h kind caller other ops (Refused refusal) = h
  answer_gone since d h kind caller other ops WaitsAlready = h
  answer_gone since d h kind caller other ops Past = h
  answer_gone since d h kind caller other ops (TooFarAhead last) = h

  enters_gone : (since : List PastLife) (n : Ongoing) → HaveGone since n → HaveGone since (let_in first terms life n)
  enters_gone since n h = with_log since n h _
      (moves_ordered (start_of first n) terms (counted n.earlier) life task (asks_of 0 (map (due_at (clock_of n)) n.waiting)) n.log h.ordered) _

  carried_gone : (since : List PastLife) (d : Ongoing) → HaveGone since d → (caller : ℕ) → HaveGone since (carried first terms life d caller)
  carried_gone since d h caller = with_log since d h _
      (slot_if (start_of first d) terms (counted d.earlier) life task d.log caller (nat_lt (now d.log) life) h.ordered) d.waiting

  -- where a life ends it is one more
  begun_gone : (since : List PastLife) (c : Ongoing) → HaveGone since c → IsOpening (start_of first c) → (b : Bool)
      → HavePassed first life (cond b (next_life c) c).earlier
      → HaveGone (cond b (record { log = c.log; ended = Renewed } ∷ since) since) (cond b (next_life c) c)
  begun_gone since c h opens false passed = h
  begun_gone since c h opens true passed =
      let here : start_of first c ≡ start_after began (logs_of since) = sym h.starts in
      let renewed : start_after began (c.log ∷ logs_of since) ≡ start_of first (next_life c) = ap (λ (s : Start). start_after s (c.log ∷ [])) h.starts in
      record {
        earlier_is = ap (λ (l : List PastLife). record { log = c.log; ended = Renewed } ∷ l) h.earlier_is;
        ended = subst (λ (s : Start). HaveEnded began (logs_of since) × IsExact s c.log × IsQuiet s c.log) here (h.ended, passed.1.exact, passed.1.may_end.1);
        starts = renewed;
        served = (h.served, subst (λ (s : Start). IsServed s terms task c.log) here (record { opens = opens; ordered = h.ordered }));
        ordered = none_ordered (start_of first (next_life c)) terms task;
      }

  module _ (long : AreLongEnough terms life) where
    move_gone : (move : AheadMove) (since : List PastLife) (d : Ongoing) → IsOngoing first terms life d → HaveGone since d
        → HaveGone (since_move first terms life d move since) (ahead_after_move first terms life d move)
    move_gone (Now (Ask kind caller other ops)) since d k h = answer_gone since d h kind caller other ops (answer_to first terms life d kind other ops)
    move_gone (AskAt kind caller other ops at) since d k h = answer_gone since d h kind caller other ops (answer_at first terms life d kind other ops at)
    move_gone (Now (Slot caller)) since d k h =
        let c : Ongoing = carried first terms life d caller in
        enters_gone _ (living_on life c) (begun_gone since c (carried_gone since d h caller) k.kept.opens (now c.log == life)
        (slot_begins first terms life d k long caller).passed)

    pub moves_gone : (moves : List AheadMove) (since : List PastLife) (d : Ongoing) → IsOngoing first terms life d → HaveGone since d
        → HaveGone (since_moves first terms life d moves since) (ahead_after first terms life d moves)
    moves_gone [] since d k h = h
    moves_gone (move ∷ moves) since d k h = moves_gone moves (since_move first terms life d move since) (ahead_after_move first terms life d move)
        (ahead_goes_on first terms life long d k move) (move_gone move since d k h)

  module _ (since : List PastLife) (d : Ongoing) (h : HaveGone since d) where
    -- the lives since it began are these
    pub lives_are : lives_since past d ≡ d.log ∷ logs_of since
    lives_are = ap (λ (l : List PastLife). d.log ∷ logs_of l) (ap (λ (l : List PastLife). take (length l - length past) l) h.earlier_is
        ∙ (ap (λ n. take n (since ++ past)) many ∙ take-append_seam since past))
      where
        many : length (since ++ past) - length past ≡ length since
        many = omega (arith, length-append since past)

    pub are_lives : AreLives began (d.log ∷ logs_of since)
    are_lives = (h.ended, subst (λ (s : Start). IsExact s d.log) (sym h.starts) h.ordered.exact)

    pub all_served : IsOpening (start_of first d) → AreServed began terms task (d.log ∷ logs_of since)
    all_served opens = (h.served, subst (λ (s : Start). IsServed s terms task d.log) (sym h.starts) (record { opens = opens; ordered = h.ordered }))
