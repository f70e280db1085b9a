-- The clusters of the superblock's backups among some clusters in a row.
use Rattle.std.proofs.Common.{◌≡◌, inl, inr, ℕ, zero, suc, ◌+◌, ◌-◌, ◌*◌, ◌^◌, ◌<◌, ◌≤◌, Bool, true, false, ◌||◌, eqb, List, [], ◌∷◌, map, refl, sym, ◌∙◌, ap, subst, arith}
use Rattle.std.specs.Prelude.{filter, nat_lt, bit_and, ◌≢◌}
use Rattle.std.specs.List.{range_with_len}
use Rattle.std.proofs.lemmas.Bool.{cases_Bool, cases_lt, eqb-true, false≢true}
use Rattle.std.proofs.lemmas.Bool.Decides.{nat_tests}
use Rattle.o2_ondisk.specs.Bits.{has_bits, backup_super_feature}
use Rattle.o2_model.specs.Words.{among}
use Rattle.o2_model.specs.Volume.{Volume}
use Rattle.o2_model.specs.ClusterGroups.{backup_clusters}
use Rattle.o2_model.specs.declared.geo.Geo.{Geo}

-- the cluster of the k-th one, be the volume that long or not
abbrev pub place : ℕ → ℕ → ℕ
place bits k = 2 ^ (30 + 2 * k - bits)

same_number : (n : ℕ) → eqb n n ≡ true
same_number n = grind (arith, nat_tests)

-- ---- numbers of a range
in_range : (f : ℕ → ℕ) (a n k : ℕ) → a ≤ k → k < a + n → among (map f (range_with_len a n)) (f k) ≡ true
in_range f a zero k low high = absurd (omega (arith, low, high))
in_range f a (suc n) k low high = elim (cases_lt a k) [
  | inl later ↦ or_later (eqb (f k) (f a)) (in_range f (a + 1) n k (omega (arith, later)) (omega (arith, high)))
  | inr same ↦ let is : k ≡ a = omega (arith, same, low) in rw (is, same_number (f a)) refl
]
  where
    or_later : (b : Bool) {c : Bool} → c ≡ true → (b || c) ≡ true
    or_later true h = refl
    or_later false h = h

-- a number that the function gives at none of the range
not_in_range : (f : ℕ → ℕ) (a n c : ℕ) → ((k : ℕ) → a ≤ k → k < a + n → c ≢ f k) → among (map f (range_with_len a n)) c ≡ false
not_in_range f a zero c none = refl
not_in_range f a (suc n) c none =
    let here : eqb c (f a) ≡ false = differ c (f a) (none a (omega arith) (omega arith)) in
    rw here (not_in_range f (a + 1) n c (λ k low high. none k (omega (arith, low)) (omega (arith, high))))
  where
    differ : (n m : ℕ) → n ≢ m → eqb n m ≡ false
    differ n m h = grind (arith, nat_tests)

-- ---- numbers that pass a test
kept : (p : ℕ → Bool) (xs : List ℕ) (c : ℕ) → p c ≡ true → among xs c ≡ true → among (filter p xs) c ≡ true
kept p [] c good is = is
kept p (x ∷ xs) c good is = elim (cases_Bool (eqb c x)) [
  | inl same ↦ let e = eqb-true c x same in let passes : p x ≡ true = rw e at good in rw (passes, same) refl
  | inr other ↦
      let later = kept p xs c good (rw other at is) in
      elim (cases_Bool (p x)) [
        | inl passes ↦ rw (passes, other) later
        | inr fails ↦ rw fails later
      ]
]

not_kept : (p : ℕ → Bool) (xs : List ℕ) (c : ℕ) → among xs c ≡ false → among (filter p xs) c ≡ false
not_kept p [] c none = refl
not_kept p (x ∷ xs) c none = elim (cases_Bool (eqb c x)) [
  | inl same ↦ absurd (false≢true (sym none ∙ rw same refl))
  | inr other ↦
      let later = not_kept p xs c (rw other at none) in
      elim (cases_Bool (p x)) [
        | inl passes ↦ rw (passes, other) later
        | inr fails ↦ rw fails later
      ]
]

failing : (p : ℕ → Bool) (xs : List ℕ) (c : ℕ) → p c ≡ false → among (filter p xs) c ≡ false
failing p [] c bad = refl
failing p (x ∷ xs) c bad = elim (cases_Bool (p x)) [
  | inl passes ↦ elim (cases_Bool (eqb c x)) [
    | inl same ↦ absurd (false≢true (sym bad ∙ (ap p (eqb-true c x same) ∙ passes)))
    | inr other ↦ rw (passes, other) (failing p xs c bad)
  ]
  | inr fails ↦ rw fails (failing p xs c bad)
]

-- ---- backups
module _ (v : Volume) where
  pub is_backup : (k : ℕ) → k < 6 → has_bits v.geo.compat backup_super_feature ≡ true → place v.geo.cluster_bits k < v.geo.clusters → among (backup_clusters v) (place v.geo.cluster_bits k) ≡ true
  is_backup k low has few =
      let below : nat_lt (place v.geo.cluster_bits k) v.geo.clusters ≡ true = grind (arith, nat_tests) in
      rw has (kept (λ c. nat_lt c v.geo.clusters) (map (place v.geo.cluster_bits) (range_with_len 0 6)) (place v.geo.cluster_bits k) below (in_range (place v.geo.cluster_bits) 0 6 k (omega arith) low))

  pub no_backup : (c : ℕ) → ((k : ℕ) → k < 6 → place v.geo.cluster_bits k < v.geo.clusters → c ≢ place v.geo.cluster_bits k) → among (backup_clusters v) c ≡ false
  no_backup c none = elim (cases_Bool (has_bits v.geo.compat backup_super_feature)) [
    | inr without ↦ rw without refl
    | inl has ↦ elim (cases_lt c v.geo.clusters) [
      | inl below ↦ rw has (not_kept (λ c. nat_lt c v.geo.clusters) (map (place v.geo.cluster_bits) (range_with_len 0 6)) c (not_in_range (place v.geo.cluster_bits) 0 6 c (λ k low high same. none k high (omega (arith, below, same)) same)))
      | inr past ↦ let out : nat_lt c v.geo.clusters ≡ false = grind (arith, nat_tests) in rw has (failing (λ c. nat_lt c v.geo.clusters) (map (place v.geo.cluster_bits) (range_with_len 0 6)) c out)
    ]
  ]

  pub without_backups : (c : ℕ) → has_bits v.geo.compat backup_super_feature ≡ false → among (backup_clusters v) c ≡ false
  without_backups c without = rw without refl

-- the same by the numbers of the volume
pub is_backup_of : (v : Volume) (geo : Geo) → v.geo ≡ geo → (k : ℕ) → k < 6 → bit_and geo.compat 1 ≢ 0 → place geo.cluster_bits k < geo.clusters → among (backup_clusters v) (place geo.cluster_bits k) ≡ true
is_backup_of v geo same k low has few =
    subst (λ (g : Geo). bit_and g.compat 1 ≢ 0 → place g.cluster_bits k < g.clusters → among (backup_clusters v) (place g.cluster_bits k) ≡ true) same
    (λ some few. is_backup v k low (is_set v.geo.compat some) few) has few
  where
    is_set : (n : ℕ) → bit_and n 1 ≢ 0 → has_bits n backup_super_feature ≡ true
    is_set n some = grind (arith, nat_tests)
