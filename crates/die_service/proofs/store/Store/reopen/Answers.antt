use Rattle.std.proofs.Common.{◌≡◌, ℕ, ◌∙◌, length, sym, subst, inl, inr, refl}
use Rattle.std.proofs.lemmas.List.Elements.{All-from_recursion}
use Rattle.turn_lock.specs.Views.{IsLive}
use Rattle.die_service.specs.Stores.{DiePass, IsDieCount}
use Rattle.die_service.proofs.Making.{first_live, first_views}
use Rattle.die_service.proofs.store.Store.reopen.Goals as goal

pub returns-then-not-may_have_dies-clause-bad_shape : goal.returns-then-not-may_have_dies-clause-bad_shape
returns-then-not-may_have_dies-clause-bad_shape g c =
    let same : c.len.result ≡ length c.args.dies.items = c.len.ensures ∙ c.args.dies.ok.0 in
    (λ is few. cc (c.if-not-may_have_dies.ensures.1 (subst (λ (n : ℕ). IsDieCount n) (sym same) few)), λ no. refl)

pub returns-then-not-may_have_dies-clause-refused : goal.returns-then-not-may_have_dies-clause-refused
returns-then-not-may_have_dies-clause-refused g c = inl refl

pub open_all-requires-clause-start : goal.open_all-requires-clause-start
open_all-requires-clause-start g c = c.requires.start

pub open_all-requires-clause-few : goal.open_all-requires-clause-few
open_all-requires-clause-few g c =
    let same : c.len.result ≡ length c.args.dies.items = c.len.ensures ∙ c.args.dies.ok.0 in
    (subst (λ (n : ℕ). IsDieCount n) same (c.if-not-may_have_dies.ensures.0 refl)).1

pub returns-in-Ok-clause-own : goal.returns-in-Ok-clause-own
returns-in-Ok-clause-own g c = c.in-Ok.ensures.own

pub returns-in-Ok-clause-first : goal.returns-in-Ok-clause-first
returns-in-Ok-clause-first g c = c.in-Ok.ensures.first

pub returns-in-Ok-clause-live : goal.returns-in-Ok-clause-live
returns-in-Ok-clause-live g c = All-from_recursion (λ (p : DiePass). IsLive p.view) _
    (first_live _ _ (c.in-Ok.ensures.first ∙ first_views c.args.dies.items))

pub returns-in-Ok-clause-count : goal.returns-in-Ok-clause-count
returns-in-Ok-clause-count g c =
    let same : c.len.result ≡ length c.args.dies.items = c.len.ensures ∙ c.args.dies.ok.0 in
    subst (λ (n : ℕ). IsDieCount n) same (c.if-not-may_have_dies.ensures.0 refl)

pub returns-in-Err-clause-bad_shape : goal.returns-in-Err-clause-bad_shape
returns-in-Err-clause-bad_shape g c =
    let same : c.len.result ≡ length c.args.dies.items = c.len.ensures ∙ c.args.dies.ok.0 in
    let memory = c.in-Err.ensures.refused in (
      λ bad few. cc (bad, memory),
      λ none. absurd (none (subst (λ (n : ℕ). IsDieCount n) same (c.if-not-may_have_dies.ensures.0 refl))),
    )

pub returns-in-Err-clause-refused : goal.returns-in-Err-clause-refused
returns-in-Err-clause-refused g c = inr c.in-Err.ensures.refused

pub returns-in-Err-clause-back : goal.returns-in-Err-clause-back
returns-in-Err-clause-back g c = c.in-Err.ensures.back
