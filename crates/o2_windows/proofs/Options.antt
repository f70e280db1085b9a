-- What holds where there is something, and what where there is nothing.
use Rattle.std.proofs.Common.{◌≡◌, Option, Some, None, subst}
use Rattle.std.specs.Option.{IfNone, IfSome}

module _ {A : Type 0} where
  pub there_is_none : {P : Type 0} (o : Option A) → o ≡ None → IfNone o P → P
  there_is_none {P} o is told = subst (λ p. IfNone p P) is told

  pub there_is : (P : A → Type 0) (o : Option A) (x : A) → o ≡ Some x → IfSome o P → P x
  there_is P o x is told = subst (λ p. IfSome p P) is told

  pub none_also : {P Q : Type 0} (o : Option A) → (P → Q) → IfNone o P → IfNone o Q
  none_also (Some x) so told = tt
  none_also None so told = so told

  pub some_also : {P Q : A → Type 0} (o : Option A) → ((x : A) → P x → Q x) → IfSome o P → IfSome o Q
  some_also (Some x) so told = so x told
  some_also None so told = tt
