-- The clusters of the superblock's backups.
use Rattle.std.proofs.Common.{◌≡◌, ℕ, suc, ◌+◌, ◌-◌, ◌*◌, ◌%◌, ◌^◌, ◌<◌, ◌≤◌, Bool, false, ◌||◌, ◌==◌, map, refl, ◌∙◌, ap, arith}
use Rattle.std.specs.List.{range_with_len}
use Rattle.std.proofs.Math.Pow.{pow_mono}
use Rattle.std.proofs.lemmas.Bool.Decides.{nat_tests}
use Rattle.o2_model.specs.Words.{among}

-- the cluster of the k-th one
abbrev pub place : ℕ → ℕ → ℕ
place bits k = 2 ^ (30 + 2 * k - bits)

-- the cluster is that of one of the later ones, from the k-th on
abbrev pub is_later : ℕ → ℕ → ℕ → Bool
is_later bits c k = among (map (λ (j : ℕ). place bits j) (range_with_len k (6 - k))) c

pub shifted : (bits k : ℕ) → bits ≤ 20 → k < 6 → 1 * place bits k % 18446744073709551616 ≡ place bits k
shifted bits k most low =
    let few : place bits k ≤ 2 ^ 40 = pow_mono {i = 30 + 2 * k - bits} {j = 40} (omega (arith, low)) in
    omega (arith, few)

one_more : (bits c k : ℕ) → k < 6 → is_later bits c k ≡ (c == place bits k || is_later bits c (k + 1))
one_more bits c k low =
    let some : 6 - k ≡ suc (5 - k) = omega (arith, low) in
    let left : 6 - (k + 1) ≡ 5 - k = omega (arith, low) in
    rw (some, left) refl

differ : (n m : ℕ) → (n ≡ m → ⊥) → (n == m) ≡ false
differ n m h = grind (arith, nat_tests)

pub not_here : (bits c k : ℕ) → k < 6 → (c ≡ place bits k → ⊥) → is_later bits c k ≡ is_later bits c (k + 1)
not_here bits c k low other = one_more bits c k low ∙ ap (λ (b : Bool). b || is_later bits c (k + 1)) (differ c (place bits k) other)
