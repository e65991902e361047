use Rattle.std.proofs.Common.{◌≡◌, ℕ, true, false, List, sym, ◌∙◌, subst, ap, map, arith}
use Rattle.std.proofs.lemmas.Grind.{common_steps}
use Rattle.std.proofs.lemmas.List.Elements.{All-from_recursion, recursion_from_All}
use Rattle.std.specs.List.{AllZip}
use Rattle.slot_core.specs.Core.{Core}
use Rattle.die_service.specs.Stores.{DiePass, AreReported, HasLogOf}
use Rattle.die_service.proofs.LastPasses.{reported_length, reported_locks, reported_sole, sole_none_out, written, closed_each, none_stopped}
use Rattle.die_service.proofs.closing.close.Goals as goal

pub close_each-requires-clause-own : goal.close_each-requires-clause-own
close_each-requires-clause-own g c =
    let ps = c.args.passes.items in
    let qs = c.first_out-out.new.passes in
    let zero : c.first_out-out.result ≡ 0 = omega (arith, c.if-out-gt0.false) in
    let said : AreReported ps 0 qs = subst (λ (n : ℕ). AreReported ps n qs) zero
    (subst (λ (xs : List DiePass). AreReported xs c.first_out-out.result qs) c.as_mut_slice.ensures.value c.first_out-out.ensures.said) in
    let whole = written c.args.passes.len ps qs (reported_length ps 0 qs said) c.args.passes.ok.0 in
    rw whole (reported_locks ps 0 qs said ∙ (c.requires.own ∙ sym c.store.view_is))

pub close_each-requires-clause-sole : goal.close_each-requires-clause-sole
close_each-requires-clause-sole g c =
    let ps = c.args.passes.items in
    let qs = c.first_out-out.new.passes in
    let zero : c.first_out-out.result ≡ 0 = omega (arith, c.if-out-gt0.false) in
    let said : AreReported ps 0 qs = subst (λ (n : ℕ). AreReported ps n qs) zero
    (subst (λ (xs : List DiePass). AreReported xs c.first_out-out.result qs) c.as_mut_slice.ensures.value c.first_out-out.ensures.said) in
    let whole = written c.args.passes.len ps qs (reported_length ps 0 qs said) c.args.passes.ok.0 in
    All-from_recursion (λ (p : DiePass). p.view.sole ≡ true) _ (rw whole (reported_sole ps qs said))

pub returns-clause-closed : goal.returns-clause-closed
returns-clause-closed g c =
    let ps = c.args.passes.items in
    let qs = c.first_out-out.new.passes in
    let zero : c.first_out-out.result ≡ 0 = omega (arith, c.if-out-gt0.false) in
    let said : AreReported ps 0 qs = subst (λ (n : ℕ). AreReported ps n qs) zero
    (subst (λ (xs : List DiePass). AreReported xs c.first_out-out.result qs) c.as_mut_slice.ensures.value c.first_out-out.ensures.said) in
    let whole = written c.args.passes.len ps qs (reported_length ps 0 qs said) c.args.passes.ok.0 in
    closed_each g.N.Nand.never_fails ps qs c.close_each.result.items said
    (subst (λ (xs : List DiePass). AllZip (HasLogOf g.N.Nand.never_fails) xs c.close_each.result.items) whole c.close_each.ensures)

pub returns-clause-runs : goal.returns-clause-runs
returns-clause-runs g c = λ never. All-from_recursion (λ (die : Core g.row.N.Denot). die.stopped ≡ false) _
    (none_stopped g.N.Nand.never_fails _ _ never c.close_each.ensures)

pub returns-then-out-gt0-clause-own : goal.returns-then-out-gt0-clause-own
returns-then-out-gt0-clause-own g c =
    let ps = c.args.passes.items in
    let qs = c.first_out-out.new.passes in
    let out = c.first_out-out.result in
    let said : AreReported ps out qs = subst (λ (xs : List DiePass). AreReported xs out qs) c.as_mut_slice.ensures.value
    c.first_out-out.ensures.said in
    let whole = written c.args.passes.len ps qs (reported_length ps out qs said) c.args.passes.ok.0 in
    rw whole (reported_locks ps out qs said ∙ c.requires.own)

pub returns-then-out-gt0-clause-sole : goal.returns-then-out-gt0-clause-sole
returns-then-out-gt0-clause-sole g c = λ sole.
    let ps = c.args.passes.items in
    let qs = c.first_out-out.new.passes in
    let out = c.first_out-out.result in
    let said : AreReported ps out qs = subst (λ (xs : List DiePass). AreReported xs out qs) c.as_mut_slice.ensures.value
    c.first_out-out.ensures.said in
    let zero = sole_none_out ps out qs said (recursion_from_All (λ (p : DiePass). p.view.sole ≡ true) ps sole) in
    absurd (omega (arith, zero, c.if-out-gt0.true))

pub returns-in-Err-clause-own : goal.returns-in-Err-clause-own
returns-in-Err-clause-own g c =
    let ps = c.args.passes.items in
    let qs = c.first_out-out.new.passes in
    let out = c.first_out-out.result in
    let said : AreReported ps out qs = subst (λ (xs : List DiePass). AreReported xs out qs) c.as_mut_slice.ensures.value
    c.first_out-out.ensures.said in
    let whole = written c.args.passes.len ps qs (reported_length ps out qs said) c.args.passes.ok.0 in
    rw whole (reported_locks ps out qs said ∙ c.requires.own)

pub returns-then-out-gt0-clause-closed : goal.returns-then-out-gt0-clause-closed
returns-then-out-gt0-clause-closed g c = grind (arith, common_steps)

pub returns-then-out-gt0-clause-runs : goal.returns-then-out-gt0-clause-runs
returns-then-out-gt0-clause-runs g c = grind (arith, common_steps)

pub returns-then-out-gt0-clause-refused : goal.returns-then-out-gt0-clause-refused
returns-then-out-gt0-clause-refused g c = grind (arith, common_steps)

pub returns-then-out-gt0-clause-back : goal.returns-then-out-gt0-clause-back
returns-then-out-gt0-clause-back g c = grind (arith, common_steps)

pub returns-in-Err-clause-closed : goal.returns-in-Err-clause-closed
returns-in-Err-clause-closed g c = grind (arith, common_steps)

pub returns-in-Err-clause-runs : goal.returns-in-Err-clause-runs
returns-in-Err-clause-runs g c = grind (arith, common_steps)

pub returns-in-Err-clause-refused : goal.returns-in-Err-clause-refused
returns-in-Err-clause-refused g c = grind (arith, common_steps)

pub returns-in-Err-clause-back : goal.returns-in-Err-clause-back
returns-in-Err-clause-back g c = grind (arith, common_steps)

pub returns-in-Err-clause-sole : goal.returns-in-Err-clause-sole
returns-in-Err-clause-sole g c = grind (arith, common_steps)

pub returns-clause-refused : goal.returns-clause-refused
returns-clause-refused g c = grind (arith, common_steps)

pub returns-clause-back : goal.returns-clause-back
returns-clause-back g c = grind (arith, common_steps)

pub returns-clause-own : goal.returns-clause-own
returns-clause-own g c = grind (arith, common_steps)

pub returns-clause-sole : goal.returns-clause-sole
returns-clause-sole g c = grind (arith, common_steps)

pub first_out-out-requires : goal.first_out-out-requires
first_out-out-requires g c = record {
  own = ap (map (λ (p : DiePass). p.lock)) c.as_mut_slice.ensures.value ∙ (c.requires.own ∙ sym c.store.view_is) ∙ sym c.as_slice.ensures.value;
}

pub close_each-requires-clause-none : goal.close_each-requires-clause-none
close_each-requires-clause-none g c = c.in-Ok.ensures.items

pub close_each-requires-clause-room : goal.close_each-requires-clause-room
close_each-requires-clause-room g c =
    let ps = c.args.passes.items in
    let qs = c.first_out-out.new.passes in
    let zero : c.first_out-out.result ≡ 0 = omega (arith, c.if-out-gt0.false) in
    let said : AreReported ps 0 qs = subst (λ (n : ℕ). AreReported ps n qs) zero
    (subst (λ (xs : List DiePass). AreReported xs c.first_out-out.result qs) c.as_mut_slice.ensures.value c.first_out-out.ensures.said) in
    let same = reported_length ps 0 qs said in
    let whole = written c.args.passes.len ps qs same c.args.passes.ok.0 in
    rw whole (omega (arith, same, c.args.passes.ok.0, c.len.ensures, c.in-Ok.ensures.capacity))
