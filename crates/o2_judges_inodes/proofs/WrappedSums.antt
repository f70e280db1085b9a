-- A sum that wraps.
use Rattle.std.proofs.Common.{◌≡◌, ℕ, suc, ◌+◌, ◌%◌, ◌<◌, ◌≤◌, List, sum_by, length, drop, get_or, sym, ◌∙◌, ap, add-one, arith}
use Rattle.std.proofs.Math.Nat.{mod-add-mod, mod-eq_of_lt}
use Rattle.std.proofs.Math.Seq.{drop-cons}
use Rattle.std.proofs.lemmas.List.{drop_all}
use Rattle.std.proofs.lemmas.List.Sums.{sum_by-cons}

-- one item more
pub wraps : {A : Type 0} (f : A → ℕ) (xs : List A) (i n m all : ℕ) (d : A) → i < length xs → (n + sum_by f (drop i xs)) % m ≡ all
    → ((n + f (get_or xs i d)) % m + sum_by f (drop (i + 1) xs)) % m ≡ all
wraps f xs i n m all d low is =
    mod-add-mod (n + f (get_or xs i d)) m (sum_by f (drop (i + 1) xs))
    ∙ (ap (λ k. k % m) (moved n (f (get_or xs i d)) (sum_by f (drop (i + 1) xs)) (sum_by f (drop i xs)) first) ∙ is)
  where
    first : sum_by f (drop i xs) ≡ f (get_or xs i d) + sum_by f (drop (i + 1) xs)
    first = rw add-one (ap (sum_by f) (drop-cons xs i d low) ∙ sum_by-cons f (get_or xs i d) (drop (suc i) xs))

    moved : (n x rest all : ℕ) → all ≡ x + rest → n + x + rest ≡ n + all
    moved n x rest all e = omega (arith, e)

-- none is left
pub wrapped : {A : Type 0} (f : A → ℕ) (xs : List A) (i n m all : ℕ) → length xs ≤ i → n < m → (n + sum_by f (drop i xs)) % m ≡ all → n ≡ all
wrapped f xs i n m all past fits is =
    sym (mod-eq_of_lt fits) ∙ (ap (λ k. k % m) (nothing n) ∙ (ap (λ ys. (n + sum_by f ys) % m) (sym (drop_all i xs past)) ∙ is))
  where
    nothing : (n : ℕ) → n ≡ n + 0
    nothing n = omega arith
