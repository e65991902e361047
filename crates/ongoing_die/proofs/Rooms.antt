-- Memory for what waits stays.
use Rattle.std.proofs.Common.{◌≡◌, ℕ, ◌≤◌, List, length, get_or, vec_capacity, sym, subst, arith}
use Rattle.demand_rules.specs.declared.terms.Terms.{Terms}
use Rattle.demand_rules.specs.Demand.{terms_of}
use Rattle.ongoing_die.specs.declared.waiting.Waiting.{Waiting}
use Rattle.ongoing_die.specs.Standing.{HaveRoom}

pub have_room : (before after : Terms) (old new : List Waiting) → after ≡ before → length new ≡ length old
    → ((task : ℕ) (d : Waiting) → vec_capacity (get_or new task d).ops ≡ vec_capacity (get_or old task d).ops) → HaveRoom before old → HaveRoom after new
have_room before after old new is count same h task d lt =
    subst (λ (t : Terms). (terms_of t task).work ≤ vec_capacity (get_or new task d).ops) (sym is)
    (omega (arith, same task d, h task d (omega (arith, lt, count))))
