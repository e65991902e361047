-- One call more of a shared die.
use Rattle.std.proofs.Common.{◌≡◌, ℕ, List, [], ◌∷◌, ◌++◌, refl}
use Rattle.demand_rules.specs.declared.terms.Terms.{Terms}
use Rattle.die_log.specs.Model.Start.{Start}
use Rattle.task_outcomes.specs.OutcomeMoves.{Told, told_after_move}
use Rattle.planned_ports.specs.Calls.{PortCall, move_of, after_calls}
use Rattle.planned_ports.specs.Replies.{WasGranted, WereGranted}

module _ (first : Start) (terms : Terms) (life : ℕ) where
  pub after_one_more : (t : Told) (calls : List PortCall) (call : PortCall)
      → after_calls first terms life t (calls ++ call ∷ []) ≡ told_after_move first terms life (after_calls first terms life t calls) (move_of call)
  after_one_more t [] call = refl
  after_one_more t (c ∷ calls) call = after_one_more (told_after_move first terms life t (move_of c)) calls call

  pub granted_one_more : (t : Told) (calls : List PortCall) (call : PortCall) → WereGranted first terms life t calls
      → WasGranted first terms life (after_calls first terms life t calls) call.caller call.event call.reply
      → WereGranted first terms life t (calls ++ call ∷ [])
  granted_one_more t [] call all one = (one, tt)
  granted_one_more t (c ∷ calls) call all one =
      (all.0, granted_one_more (told_after_move first terms life t (move_of c)) calls call all.1 one)
