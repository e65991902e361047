-- What is said of one page more; and the die that begins where a mount has ended, by what was read of it.
use Rattle.std.proofs.Common.{◌≡◌, ℕ, ◌+◌, List, [], ◌∷◌, ◌++◌, map, ap, ◌∙◌, sym, subst, zero-add, Some, false}
use Rattle.std.specs.Prelude.{All}
use Rattle.std.specs.List.{range_with_len}
use Rattle.std.proofs.lemmas.List.{map-id, map_push}
use Rattle.std.proofs.lemmas.List.Elements.{All-push}
use Rattle.std.proofs.lemmas.List.FromFn.{map-range_with_len_more}
use Rattle.slot_types.specs.declared.pages.PageData.{PageData}
use Rattle.slot_types.specs.declared.plans.DiePlan.{DiePlan}
use Rattle.die_checkpoint.specs.declared.checkpoint.Checkpoint.{Checkpoint}
use Rattle.stepped_die.specs.Names.{GoesOn}
use Rattle.stepped_die.specs.Stepped.{Stepped}
use Rattle.flashplan_labelled_parts.specs.declared.part_calls.PartCall.{PartCall}
use Rattle.flashplan_power_cuts.specs.CutDies.{Cutting}
use Rattle.flashplan_power_cuts.specs.Said.{SaysOf}
use Rattle.flashplan_power_cuts.specs.declared.cut_dies.Ended.TheVariants as ends
use Rattle.flashplan_power_cuts.specs.declared.page_writes.PageWrite.{PageWrite}
use Rattle.flashplan_power_cuts.specs.declared.said.PageSaid.{PageSaid}

numbers_more : (n : ℕ) → range_with_len 0 (n + 1) ≡ range_with_len 0 n ++ n ∷ []
numbers_more n =
    sym (map-id (range_with_len 0 (n + 1))) ∙ (map-range_with_len_more (λ (k : ℕ). k) 0 n n (zero-add n)
    ∙ ap (λ (ns : List ℕ). ns ++ n ∷ []) (map-id (range_with_len 0 n)))

pub pages_more : (said : List PageSaid) (one : PageSaid) (page : ℕ) → map (λ (p : PageSaid). p.page) said ≡ range_with_len 0 page
    → one.page ≡ page → map (λ (p : PageSaid). p.page) (said ++ one ∷ []) ≡ range_with_len 0 (page + 1)
pages_more said one page are is =
    map_push (λ (p : PageSaid). p.page) said one ∙ (ap (λ (ns : List ℕ). ns ++ one.page ∷ []) are
    ∙ (ap (λ (n : ℕ). range_with_len 0 page ++ n ∷ []) is ∙ sym (numbers_more page)))

pub says_more : (die : Stepped) (earlier writes : List PageWrite) (mounted : Stepped) (said : List PageSaid) (one : PageSaid)
    → All (SaysOf die earlier writes mounted) said → SaysOf die earlier writes mounted one
    → All (SaysOf die earlier writes mounted) (said ++ one ∷ [])
says_more die earlier writes mounted said one each is = All-push (SaysOf die earlier writes mounted) said one each is

pub goes_on_as : (plan own : DiePlan) (c : Checkpoint) (names given : List PageData) (die : Stepped) → own ≡ plan → given ≡ names
    → GoesOn own c given die → GoesOn plan c names die
goes_on_as plan own c names given die same_plan same_names on =
    subst (λ (p : DiePlan). GoesOn p c names die) same_plan (subst (λ (ns : List PageData). GoesOn own c ns die) same_names on)

-- a die whose power went isn't stopped
pub still_runs : (d : Cutting) (call : PartCall) → d.ended ≡ Some (ends.Cut call)
    → ((d.ended ≡ Some ends.Misread → ⊥) → d.die.core.stopped ≡ false) → d.die.core.stopped ≡ false
still_runs d call cut runs = runs (λ other. absurd cc)
