use Rattle.std.proofs.Common.{rules, ◌≡◌, Bool, IfSome, Ok, subst, sym, take}
use Rattle.flashplan_commands.specs.Acts.{SaysOf}
use Rattle.flashplan_commands.proofs.EndedSo.{says_of}
use Rattle.flashplan_commands.proofs.explaining.explained_from.Goals as goal

pub returns : goal.returns
returns g c =
    let plan = g.P.Read.remaining c.args.plan in
    let explained = c.in_ok-explained.explained in
    let read : IfSome plan (λ bytes. c.in_ok-text.text.items ≡ take 1048577 bytes) = search rules in
    let said = says_of c.args.asked.slot_us plan c.in_ok-text.text.items c.deref.result.now (Ok explained) read c.deref.ensures.value c.in_ok-explained.ensures.said in
    record {
      said = (
        explained.text.items,
        c.deref-3.result.now,
        subst (λ (yes : Bool). SaysOf c.args.asked.slot_us plan yes explained.text.items) (sym c.in_ok-with_more.ensures.verdict) said,
        c.in_ok-with_more.ensures.text,
      );
    }
