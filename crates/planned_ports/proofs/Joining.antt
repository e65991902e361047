-- Passes that are joined into the clock's.
use Rattle.std.proofs.Common.{◌≡◌, ℕ, ◌+◌, ◌<◌, ◌==◌, Bool, true, false, List, [], ◌∷◌, ◌++◌, Some, refl, ap, sym, subst, ◌∙◌, if◌then◌else◌, arith}
use Rattle.std.proofs.lemmas.Bool.Decides.{nat_tests}
use Rattle.std.proofs.lemmas.List.{append-nil, append_assoc}
use Rattle.std.specs.List.{AllByRecursion}
use Rattle.turn_lock.specs.Log.{times, calls_by, StartsWith}
use Rattle.std.proofs.lemmas.List.Elements.{All-from_recursion}
use Rattle.turn_lock.specs.Passes.{SeesMore, IsJoined, IsOut}
use Rattle.turn_lock.specs.Views.{IsSamePass}
use Rattle.planned_ports.specs.Calls.{PortCall}
use Rattle.planned_ports.specs.Replies.{IsSharedLog}
use Rattle.planned_ports.specs.Shared.{SharedDie, IsSharedDie}
use Rattle.planned_ports.specs.Ports.{PortView, PortPass, TaskParts, IsSlotRequest, HasOwnSlots}
use Rattle.planned_ports.specs.Closing.{HaveJoined, IsGivenBack}
use Rattle.planned_ports.proofs.Passing.{all_push}

pub starts_through : {A : Type 0} (all more some : List A) → StartsWith all more → StartsWith more some → StartsWith all some
starts_through all more some one two =
    (two.0 ++ one.0, one.1 ∙ (ap (λ l. l ++ one.0) two.1 ∙ append_assoc some two.0 one.0))

own_once : (n : ℕ) (others : List ℕ) → 0 < times n (n ∷ others)
own_once n others = by
  where
    same : (n == n) ≡ true
    same = grind (arith, nat_tests)

    by : 0 < (if n == n then 1 else 0) + times n others
    by = rw same (omega arith)

calls_append : (n : ℕ) (xs ys : List PortCall) → calls_by n (xs ++ ys) ≡ calls_by n xs ++ calls_by n ys
calls_append n [] ys = refl
calls_append n (x ∷ xs) ys = either (x.caller == n) refl (calls_append n xs ys)
  where
    either : (b : Bool) → (x.caller == n) ≡ b → calls_by n (xs ++ ys) ≡ calls_by n xs ++ calls_by n ys
        → calls_by n (x ∷ (xs ++ ys)) ≡ calls_by n (x ∷ xs) ++ calls_by n ys
    either true e rest = rw e (ap (λ (l : List PortCall). x ∷ l) rest)
    either false e rest = rw e rest

module _ {N : Type 0} where
  pub joined_none : (v : PortPass N) → HaveJoined v [] v
  joined_none v = record {
    lock = refl;
    number = refl;
    about = refl;
    own = refl;
    saw = ([], sym (append-nil v.view.seen));
    tasks_saw = tt;
  }

  pub joined_one_more : (v mid w : PortPass N) (ports : List (TaskParts N)) (port : TaskParts N) → mid.lock ≡ v.lock → IsJoined v.view port.view mid.view
      → HaveJoined mid ports w → HaveJoined v (ports ++ port ∷ []) w
  joined_one_more v mid w ports port lock j h = record {
    lock = h.lock ∙ lock;
    number = h.number ∙ number;
    about = h.about ∙ ap (λ (x : PortView N). x.about) j.view_is;
    own = ap (λ n. calls_by n w.view.seen) (sym number) ∙ (h.own ∙ (ap (λ n. calls_by n mid.view.seen) number
        ∙ j.own v.view.number (own_once v.view.number v.view.joined)));
    saw = starts_through w.view.seen mid.view.seen v.view.seen h.saw j.first;
    tasks_saw = all_push (λ (p : TaskParts N). StartsWith w.view.seen p.view.seen) ports port h.tasks_saw
        (starts_through w.view.seen mid.view.seen port.view.seen h.saw j.second);
  }
    where
      number : mid.view.number ≡ v.view.number
      number = ap (λ (x : PortView N). x.number) j.view_is

  -- the die that is given back, after a look at how many passes are out, and once all are joined
  pub given_back : (clock mid w : PortPass N) (tasks : List (TaskParts N)) (out : ℕ) (book : SharedDie N) → IsSamePass clock mid
      → IsOut (IsSharedLog {N = N}) clock.view out mid.view → HaveJoined mid tasks w → book.calls ≡ w.view.seen → w.view.about ≡ Some book.opened
      → IsSharedDie book → IsGivenBack clock.view tasks book.die
  given_back clock mid w tasks out book same o h calls about is = record {
    opened = book.opened;
    calls = book.calls;
    about = sym same.3 ∙ (sym h.about ∙ about);
    shared = is.log;
    moved = is.moved;
    plan = is.plan;
    clock_saw = subst (λ l. StartsWith l clock.view.seen) (sym calls)
        (starts_through w.view.seen mid.view.seen clock.view.seen h.saw (o.0.more, ap (λ (x : PortView N). x.seen) o.0.view_is));
    tasks_saw = All-from_recursion (λ (p : TaskParts N). StartsWith book.calls p.view.seen) tasks
        (subst (λ l. AllByRecursion (λ (p : TaskParts N). StartsWith l p.view.seen) tasks) (sym calls) h.tasks_saw);
  }

  -- what others were granted since is none of the port's own
  pub grown_own : (v w : PortView N) → v.live ≡ true → SeesMore (IsSharedLog {N = N}) v w → calls_by v.number w.seen ≡ calls_by v.number v.seen
  grown_own v w live g =
      ap (λ (x : PortView N). calls_by v.number x.seen) g.view_is
      ∙ (calls_append v.number v.seen g.more
      ∙ (ap (λ (l : List PortCall). calls_by v.number v.seen ++ l) (g.none v.number (rw live (own_once v.number v.joined)))
      ∙ append-nil (calls_by v.number v.seen)))

  -- the clock's port with what its pass has seen since
  pub clock_out : (clock mid : PortPass N) (out : ℕ) → IsSamePass clock mid → IsOut (IsSharedLog {N = N}) clock.view out mid.view → clock.view.live ≡ true
      → HasOwnSlots {N = N} (record { lock = clock.lock; view = clock.view }) → HasOwnSlots {N = N} (record { lock = mid.lock; view = mid.view })
  clock_out clock mid out same o live slots = rw (same.1, grown_own clock.view mid.view live o.0) slots

  -- and once the others are joined into it, and the lock isn't closed
  pub joined_out : (clock mid w kept : PortPass N) (tasks : List (TaskParts N)) (out still : ℕ) → IsSamePass clock mid
      → IsOut (IsSharedLog {N = N}) clock.view out mid.view → clock.view.live ≡ true → HaveJoined mid tasks w → w.view.live ≡ true → IsSamePass w kept
      → IsOut (IsSharedLog {N = N}) w.view still kept.view → HasOwnSlots {N = N} (record { lock = clock.lock; view = clock.view })
      → HasOwnSlots {N = N} (record { lock = kept.lock; view = kept.view })
  joined_out clock mid w kept tasks out still same o live h lives back b slots = subst (λ (l : List PortCall). AllByRecursion (λ call. IsSlotRequest call.event) l)
      (sym all) (clock_out clock mid out same o live slots)
    where
      all : calls_by kept.view.number kept.view.seen ≡ calls_by mid.view.number mid.view.seen
      all = ap (λ n. calls_by n kept.view.seen) back.1
          ∙ (grown_own w.view kept.view lives b.0 ∙ (ap (λ n. calls_by n w.view.seen) h.number ∙ h.own))
