-- Lists that grow by one.
use Rattle.std.proofs.Common.{◌≡◌, ℕ, ◌+◌, List, [], ◌∷◌, ◌++◌, map, sym, ap, arith}
use Rattle.std.specs.List.{range_with_len}
use Rattle.std.proofs.lemmas.List.{append_assoc}
use Rattle.std.proofs.lemmas.List.FromFn.{map-range_with_len_more}
use Rattle.o2_model.specs.Words.{push}

pub next_in_range : {A : Type 0} (f : ℕ → A) (a k : ℕ) → map f (range_with_len a k) ++ f (a + k) ∷ [] ≡ map f (range_with_len a (k + 1))
next_in_range f a k = sym (map-range_with_len_more f a k (a + k) (omega arith))

pub one_more : {A : Type 0} (f : ℕ → A) (a k : ℕ) (us : List A) → push (us ++ map f (range_with_len a k)) (f (a + k)) ≡ us ++ map f (range_with_len a (k + 1))
one_more f a k us = rw append_assoc (ap (λ ws. us ++ ws) (next_in_range f a k))
