use Rattle.std.proofs.Common.{length, drop, ◌∙◌, ◌≡◌, List, ℕ, subst, take}
use Rattle.std.specs.Cmp.Lexicographic.{pointwise}
use Rattle.std.specs.Prelude.{nat_eq}
use Rattle.std.proofs.lemmas.Bool.Decides.{Decides-eqb}
use Rattle.std.proofs.lemmas.Slice.Eq.{starts_is}
use Rattle.flashplan_slot_times.specs.Comments.{slot_line}
use Rattle.flashplan_slot_times.proofs.comments.says_slot.Goals as goal

pub returns-clause-says : goal.returns-clause-says
returns-clause-says c =
    let line : List ℕ = slot_line c.args.slot_us in
    let made : c.deref.result.now ≡ line = c.deref.ensures.value ∙ c.in_ok-line.ensures.line in
    let both = starts_is Decides-eqb c.args.text.now line c.starts_with.result
    (subst (λ l. c.starts_with.result ≡ pointwise nat_eq l (take (length l) c.args.text.now)) made c.starts_with.ensures.value) in
    (λ is. (drop (length line) c.args.text.now, both.0 is), λ says. both.1 says.0 says.1)
