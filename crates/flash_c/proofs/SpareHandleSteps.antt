-- The machine values of the handle of a table of spare blocks. Assumes `Logic`.
use Rattle.std.proofs.Common.{◌≡◌, ℕ, List, [], ◌∷◌, ◌++◌, refl, sym, subst, Option, Some, None, true, ◌&&◌, true≢false}
use lib.Dec.{T, lit<}
use seplogic.Ra.Ura.{Ura}
use mir.Syntax.{ty_ptr, impl, tnil, dnil}
use mir.Raw.{raw as bare}
use mir.Val.{Val, vptr, vstruct, vcons, vnil, of_list, has_ty_of, WT}
use base.Logic.{never, fst∗}
use types.Logic.{Logic, sem}
use types.Kit.{Item, Goal, Seq, Step, step, ‵, ◌$◌, drop, fsplit, fjoin, fpick, fpack, rewrite, feq_i, feq_l}
use denote.RattleType.{RattleType, Valss}
use denote.Builtin.{RawPtr}
use denote.Memory.{lone}
use denote.RawPtr.{Ptr, block_ptr, null_ptr, ptr_val, in_a_block}
use denote.Steps.{nothing}
use denote.Param.Laws.{Laws}
use denote.Struct.Struct.{within}
use denote.Struct.Owning.{shape}
use Rattle.std.specs.Prelude.{IsSome}
use Rattle.core.proofs.alloc.Calls.{Al}
use Rattle.std_alloc.specs.Box.Ownership.{box_owns}
use Rattle.std.specs.contracts.alloc.Global as global
use Rattle.std.proofs.alloc.Global.TheLaws as global_laws
use Rattle.std.specs.contracts.impls.GlobalAllocator.TheImpl as heap
use Rattle.flash_c.specs.declared.spare_tables.Spares.{Spares}
use Rattle.flash_c.specs.contracts.spare_tables.Spares as spares
use Rattle.flash_c.specs.contracts.spare_handles.SpareHandle as handle
use Rattle.flash_c.specs.Handles.{heap_token, block_or_null}

abbrev pub X : RattleType
X = spares.the_row

abbrev pub Z : RattleType
Z = global.the_row

abbrev pub LZ : Laws Z
LZ = global_laws.the_row_laws

abbrev pub Row : RattleType
Row = handle.the_row

abbrev pub al : Al
al = record { row = Z; laws = LZ; g = heap.ghosts; d = impl [] tnil dnil; drops = impl [] tnil dnil }

abbrev pub one : Val → Val
one v = vstruct (vcons v vnil)

pub ptr_good : (p : Ptr) → T (has_ty_of ty_ptr (ptr_val p) && true) × (WT (ptr_val p) × Unit {0})
ptr_good (block_ptr b o) = (tt, (tt, tt))
ptr_good null_ptr = (tt, (record { fits = lit< tt }, tt))

pub some_of : (o : Option Spares) → IsSome o → (x : Spares) × (o ≡ Some x)
some_of (Some x) e = (x, refl)
some_of None e = absurd (true≢false (sym e))

module _ {M : Type 1} {𝓤 : Ura M} {𝓛 : Logic 𝓤} {K : Type 0} {Γ : List (Item 𝓤)} {G : Goal 𝓤 𝓛.H} where
  pub handle_in : K → (p : Ptr) (o : Option Spares)
      → Step K 𝓛 (‵ (Row.own_val (record { at = p; value = o }) (one (ptr_val p) ∷ [])) ∷ Γ) G (‵ (block_or_null X p o) ∷ Γ) G
  handle_in t p o = step (λ s. let v : Val = one (ptr_val p) in
      nothing t $ feq_i t (List Val) (ptr_val p ∷ []) (ptr_val p ∷ []) refl $ fjoin t $ feq_i t (List Val) (v ∷ []) (v ∷ []) refl $ fjoin t $
      fpack t (Valss (RawPtr ∷ [])) (within (shape handle.the_type) (p, tt) (v ∷ [])) (ptr_val p ∷ [], tt) $ fjoin t $ s)

  pub handle_out : K → (d : Row.Denot) (x : Spares) (vs : List Val) → d.value ≡ Some x
      → ((b o : ℕ) → d.at ≡ block_ptr b o → vs ≡ one (vptr b o) ∷ [] → Seq K 𝓛 (‵ (box_owns heap_token X (block_ptr b o) x) ∷ Γ) G)
      → Seq K 𝓛 (‵ (Row.own_val d vs) ∷ Γ) G
  handle_out t d x vs some k =
      fsplit t $ fpick t (λ vss. fsplit t $ feq_l t (λ ev. fsplit t $ feq_l t (λ ep. drop t $
      rewrite t 0 (λ (o : Option Spares). ‵ (block_or_null X d.at o)) some refl $
      in_a_block t d.at (λ p. box_owns heap_token X p x) (fst∗ 𝓤 (never 𝓤) (sem 𝓛 (heap_token (bare (lone X.mir)) null_ptr))) (λ b o e. k b o e
      (subst (λ (p : Ptr). vs ≡ vstruct (of_list (ptr_val p ∷ [])) ∷ []) e (subst (λ (ps : List Val). vs ≡ vstruct (of_list (ps ++ [])) ∷ []) ep ev))))))
