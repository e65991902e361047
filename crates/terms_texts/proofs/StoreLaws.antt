-- What holds of the dies of a store.
use Rattle.std.proofs.Common.{◌<◌, ◌≤◌, List, Result, Ok, Err, IfOk, length, sym, subst, arith, ap}
use Rattle.std.specs.Prelude.{All}
use Rattle.std.proofs.lemmas.List.FromFn.{get_or-map-range_with_len, length-map-range_with_len}
use Rattle.terms_texts.specs.Stores.{IsStore, IsUsable, die_of}
use Rattle.terms_texts.specs.declared.faults.TermsRefusal.{TermsRefusal}
use Rattle.terms_texts.specs.declared.numbers.TermsNumbers.{TermsNumbers}
use Rattle.terms_texts.specs.declared.stores.DieTerms.{DieTerms}

few_dies : (plan : TermsNumbers) (store : List DieTerms) → IsStore plan store → length store ≤ 8
few_dies plan store is = omega (arith, ap length is.dies, length-map-range_with_len (die_of plan) 0 plan.top.dies, is.shaped.few_dies)

all_usable : (plan : TermsNumbers) (store : List DieTerms) → IsStore plan store → All IsUsable store
all_usable plan store is = subst (λ s. All IsUsable s) (sym is.dies) (λ k d below.
    let within : k < plan.top.dies = omega (arith, below, length-map-range_with_len (die_of plan) 0 plan.top.dies) in
    subst IsUsable (sym (get_or-map-range_with_len (die_of plan) 0 plan.top.dies k k d within (omega arith)))
    (is.usable k within))

pub store_few : (plan : TermsNumbers) (r : Result (List DieTerms) TermsRefusal) → IfOk r (IsStore plan) → IfOk r (λ store. length store ≤ 8)
store_few plan (Ok store) h = few_dies plan store h
store_few plan (Err e) h = tt

pub store_usable : (plan : TermsNumbers) (r : Result (List DieTerms) TermsRefusal) → IfOk r (IsStore plan) → IfOk r (All IsUsable)
store_usable plan (Ok store) h = all_usable plan store h
store_usable plan (Err e) h = tt

some_dies : (plan : TermsNumbers) (store : List DieTerms) → IsStore plan store → 1 ≤ length store
some_dies plan store is = omega (arith, ap length is.dies, length-map-range_with_len (die_of plan) 0 plan.top.dies, is.shaped.some_dies)

pub store_some : (plan : TermsNumbers) (r : Result (List DieTerms) TermsRefusal) → IfOk r (IsStore plan) → IfOk r (λ store. 1 ≤ length store)
store_some plan (Ok store) h = some_dies plan store h
store_some plan (Err e) h = tt
