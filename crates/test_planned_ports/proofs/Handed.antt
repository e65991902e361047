-- What is known of an answer is known of what it hands over.
use Rattle.std.proofs.Common.{◌≡◌, Result, Ok, Err, Option, Some, None, IfOk, IfErr, subst}
use Rattle.std.specs.Prelude.{IfSome}

module _ {T E : Type 0} where
  pub ok_of : (P : T → Type 0) (answer : Result T E) (value : T) → answer ≡ Ok value → IfOk answer P → P value
  ok_of P answer value is h = subst (λ (r : Result T E). IfOk r P) is h

  pub refusal_of : (P : E → Type 0) (answer : Result T E) (o : Option E) → IfSome o (λ e. answer ≡ Err e) → IfErr answer P → IfSome o P
  refusal_of P answer None is h = tt
  refusal_of P answer (Some e) is h = subst (λ (r : Result T E). IfErr r P) is h

  pub both : (P Q R : E → Type 0) (answer : Result T E) → ((e : E) → P e → Q e → R e) → IfErr answer P → IfErr answer Q → IfErr answer R
  both P Q R (Ok value) f p q = tt
  both P Q R (Err e) f p q = f e p q
