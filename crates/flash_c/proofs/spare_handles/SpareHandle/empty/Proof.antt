-- `empty` owns nothing.
use Rattle.std.proofs.Common.{◌≡◌, [], ◌∷◌, refl, None, Option}
use base.Logic.{emp}
use base.Fml.{ftrue}
use types.Kit.{‵, raw, ◌$◌, ◌∵◌, !, qed, by, move, keep, fjoin, use0}
use types.Run.{no_more, and_then, returns, enter}
use types.ByLocal.{alloc_all, pass_all, free_all, look_at, get, sets}
use types.Part.{agg}
use contract.Monad.{fact, fact_i}
use denote.Exit.{yes}
use denote.Builtin.{RawPtr}
use denote.RawPtr.{ptr_val, rawptr_vals, rawptr_Tells, rawptr_Lawful}
use denote.Signature.{plain}
use denote.Steps.{nothing}
use denote.Triple.Entry.{on_entry}
use denote.Triple.Walked.{Stays, stay_dropped, walk_of, Goes-dropped}
use Rattle.std.proofs.raw_atomic.Walks.{proved, leaves}
use Rattle.flash_c.specs.declared.spare_tables.Spares.{Spares}
use Rattle.flash_c.proofs.SpareHandleSteps.{one, ptr_good, handle_in}
use Rattle.flash_c.specs.contracts.spare_handles.SpareHandle.empty.{signature, ended, clauses}
use Rattle.flash_c.specs.contracts.spare_handles.SpareHandle.empty.Key.{name as #self}
use Rattle.flash_c.proofs.spare_handles.SpareHandle.empty.Statement.{statement}
use Rattle.flash_c.proofs.spare_handles.SpareHandle.empty.Code as code

pub empty_spec : {M : Type 1} → statement M
empty_spec 𝓤 𝓛 𝓜 𝓡 wired =
    let H = 𝓛.H in let c = clauses 𝓛 𝓜.mem 𝓡.returns in
    let hs : Stays ended.signature.params ended.kept = (stay_dropped (plain (λ _. RawPtr)) yes, tt) in
    let nothing_held : Option Spares = None in
    proved 𝓛 ended hs c 𝓜 𝓡 (Goes-dropped 𝓛 0 (plain (λ _. RawPtr)) yes (λ κs x f. refl), tt) #self code.function (code.unfolded 𝓤 H 𝓜 𝓡 wired)
    (λ κs. (rawptr_vals, tt)) (λ κs. (rawptr_Tells, tt)) (λ κs qs bounds a g are.
    let p = a.0 in let z : (walk_of 𝓛 ended hs c).Ghost = ((κs, qs, bounds, a, (rawptr_vals p, tt)), g) in
    qed 𝓛 (raw (on_entry 𝓛 signature κs qs a (rawptr_vals p, tt)) ∷ ‵ ftrue ∷ []) ∵
    enter ! _ _ _ _ _ $ alloc_all ! (λ l. pass_all ! refl ((rawptr_Lawful 𝓛).typed p _ refl) $
    sets ! (agg ! (and_then ! (get ! refl) (no_more !))) refl (ptr_good p) $ returns ! (look_at ! 0 refl) $ free_all ! refl $
    -- [what was passed; nothing]
    move ! (1 ∷ []) $ handle_in ! p nothing_held $
    use0 𝓛 (raw (fact 𝓤 (nothing_held ≡ None))) (fact_i 𝓤 (nothing_held ≡ None) (emp 𝓤) refl) $ nothing ! $ nothing ! $ fjoin ! $ nothing ! $ keep ! (0 ∷ 1 ∷ 3 ∷ 2 ∷ []) $
    by ! (leaves 𝓛 ended hs c z (one (ptr_val p)) (record { at = p; value = nothing_held }) (tt, tt) (tt, tt))))
