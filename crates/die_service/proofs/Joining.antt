-- Entries with a number that was joined into a pass are those that it had seen.
use Rattle.std.proofs.Common.{◌≡◌, ◌≢◌, ℕ, ◌+◌, ◌<◌, ◌≤◌, Bool, true, List, [], ◌∷◌, ◌++◌, Result, Ok, cond, eqb, ne_eqb, refl, ap, sym}
use Rattle.std.proofs.Common.{◌∙◌, subst, arith}
use Rattle.std.proofs.lemmas.List.{append-nil}
use Rattle.slot_types.specs.declared.events.Event.{Event}
use Rattle.slot_types.specs.declared.replies.Reply.{Reply}
use Rattle.turn_lock.specs.Log.{times, entry, calls_by}
use Rattle.turn_lock.specs.Views.{numbers_of, IsLive}
use Rattle.turn_lock.proofs.Counts.{calls_append}
use Rattle.die_service.specs.declared.refused.RefusedAt.{RefusedAt}
use Rattle.die_service.specs.Logs.{DieCall}
use Rattle.die_service.specs.Passes.{DieView, HasGrown, AddsEntry}

-- the pass is as live as before, and knows of no fewer passes made
pub still_live : (v w : DieView) (g : HasGrown v w) → w.live ≡ v.live
still_live v w g = ap (λ (u : DieView). u.live) g.view_is

pub made_later : (v w : DieView) (g : HasGrown v w) → v.made ≤ w.made
made_later v w g = subst (λ (n : ℕ). v.made ≤ n) (sym (ap (λ (u : DieView). u.made) g.view_is)) g.later

pub live_after : (v w : DieView) → IsLive v → w.live ≡ v.live → w.number ≡ v.number → w.joined ≡ v.joined → v.made ≤ w.made → IsLive w
live_after v w live same number joined later = (
  same ∙ live.0,
  λ p stands. let below = live.1 p (subst (λ (x : ℕ × List ℕ). 0 < times p (x.0 ∷ x.1)) (λ i. (number i, joined i)) stands) in omega
      (arith, below, later),
)

module _ (v : DieView) (p : ℕ) (live : v.live ≡ true) (mine : 0 < times p v.joined) (other : p ≢ v.number) where
  pub grown_joined : (w : DieView) → HasGrown v w → calls_by p w.seen ≡ calls_by p v.seen
  grown_joined w g =
      let numbers : numbers_of v ≡ v.number ∷ v.joined = ap (λ (b : Bool). cond b (v.number ∷ v.joined) []) live in
      let one : 0 < cond (eqb v.number p) 1 0 + times p v.joined = omega (arith, mine) in
      let none : calls_by p g.more ≡ [] = g.none p (subst (λ (l : List ℕ). 0 < times p l) (sym numbers) one) in
      ap (λ (u : DieView). calls_by p u.seen) g.view_is
      ∙ (calls_append p v.seen g.more ∙ (ap (λ (l : List DieCall). calls_by p v.seen ++ l) none ∙ append-nil (calls_by p v.seen)))

  -- a call of the pass is of another number
  not_own : (event : Event) (reply : Reply) → calls_by {E = Event} {R = Result Reply RefusedAt} p (entry v.number event (Ok reply) ∷ [])
      ≡ []
  not_own event reply = rw (ne_eqb v.number p (λ e. other (sym e))) refl

  pub added_joined : (event : Event) (reply : Reply) (w : DieView) → AddsEntry v event reply w → calls_by p w.seen ≡ calls_by p v.seen
  added_joined event reply w a =
      ap (λ (u : DieView). calls_by p u.seen) a.view_is
      ∙ (calls_append p a.before.seen (entry v.number event (Ok reply) ∷ [])
      ∙ (ap (λ (l : List DieCall). calls_by p a.before.seen ++ l) (not_own event reply)
      ∙ (append-nil (calls_by p a.before.seen) ∙ grown_joined a.before a.grown)))
