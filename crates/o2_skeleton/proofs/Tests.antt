-- Tests of which one part decides, lists with nothing in them, and options with no value.
use Rattle.std.proofs.Common.{◌≡◌, Bool, true, false, ◌&&◌, List, [], ◌∷◌, ◌++◌, refl}
use Rattle.std.specs.Prelude.{Option, Some, None}
use Rattle.std.specs.Option.{IfNone}
use Rattle.o2_model.specs.Orders.{is_none_of}

pub and_true : (a : Bool) → (a && true) ≡ a
and_true true = refl
and_true false = refl

pub and_false : (a : Bool) → (a && false) ≡ false
and_false true = refl
and_false false = refl

pub true_and : (a b : Bool) → a ≡ true → (a && b) ≡ b
true_and a b is = rw is refl

pub none_of_two : {A : Type 0} (xs ys : List A) → is_none_of (xs ++ ys) ≡ (is_none_of xs && is_none_of ys)
none_of_two [] ys = refl
none_of_two (x ∷ xs) ys = refl

-- what follows from what is said where there is no value
pub none_then : {X P Q : Type 0} (r : Option X) → (P → Q) → IfNone r P → IfNone r Q
none_then None so h = so h
none_then (Some x) so h = tt
