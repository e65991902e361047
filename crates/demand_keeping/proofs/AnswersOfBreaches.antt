-- What is known of an answer that is there, and of one that isn't.
use Rattle.std.proofs.Common.{◌≡◌, Option, Some, None, refl, sym, subst}
use Rattle.std.specs.Prelude.{IfSome, IsNone}

pub some_is : {X : Type 0} (P : X → Type 0) (o : Option X) (x : X) → o ≡ Some x → IfSome o P → P x
some_is {X} P o x is h = subst (λ (o : Option X). IfSome o P) is h

pub none_is : {X : Type 0} (o : Option X) → o ≡ None → IsNone o
none_is {X} o is = subst (λ (o : Option X). IsNone o) (sym is) refl
