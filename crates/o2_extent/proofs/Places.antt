-- Of records that rise, the last one that begins at a cluster or before is the one about it, if any is.
use Rattle.std.proofs.Common.{◌≡◌, inl, inr, ℕ, zero, suc, ◌+◌, ◌<◌, ◌≤◌, Bool, true, false, List, [], ◌∷◌, length, get_or, find, refl, sym, ◌∙◌, subst, arith, Some, None}
use Rattle.std.specs.Prelude.{nat_le}
use Rattle.std.specs.List.Sorted.{IsNonDecreasingBy, IsPartitionPoint}
use Rattle.std.proofs.lemmas.Bool.{cases_Bool, cases_lt}
use Rattle.std.proofs.lemmas.Bool.Decides.{nat_tests}
use Rattle.o2_model.specs.declared.geo.Geo.{Geo}
use Rattle.o2_model.specs.declared.leaf.Leaf.{Leaf}
use Rattle.o2_model.specs.Contents.{maps_cluster}
use Rattle.o2_extent.specs.Readings.{IsWithin, Within}
use Rattle.o2_extent.specs.Rising.{RiseFrom, AreRising}

-- ---- records that rise
begins_behind : (low : ℕ) (xs : List Leaf) (j : ℕ) (d : Leaf) → RiseFrom low xs → j < length xs → low ≤ (get_or xs j d).cpos
begins_behind low [] j d h inside = absurd (omega arith)
begins_behind low (x ∷ xs) zero d h inside = h.0
begins_behind low (x ∷ xs) (suc j) d h inside = omega (arith, h.0, begins_behind (x.cpos + x.clusters) xs j d h.1 (omega (arith, inside)))

ends_before : (low : ℕ) (xs : List Leaf) (i j : ℕ) (d : Leaf) → RiseFrom low xs → i < j → j < length xs → (get_or xs i d).cpos + (get_or xs i d).clusters ≤ (get_or xs j d).cpos
ends_before low [] i j d h before inside = absurd (omega arith)
ends_before low (x ∷ xs) i zero d h before inside = absurd (omega arith)
ends_before low (x ∷ xs) zero (suc j) d h before inside = begins_behind (x.cpos + x.clusters) xs j d h.1 (omega (arith, inside))
ends_before low (x ∷ xs) (suc i) (suc j) d h before inside = ends_before (x.cpos + x.clusters) xs i j d h.1 (omega (arith, before)) (omega (arith, inside))

pub begins_rise : (xs : List Leaf) → AreRising xs → IsNonDecreasingBy (λ leaf. leaf.cpos) xs
begins_rise xs h i j d order inside = elim (cases_lt i j) [
  | inl before ↦ omega (arith, ends_before 0 xs i j d h before inside)
  | inr after ↦
      let same : i ≡ j = omega (arith, order, after) in
      rw same (omega arith)
]

-- ---- the first that passes a test
first_at : {X : Type 0} (p : X → Bool) (xs : List X) (k : ℕ) (d : X) → k < length xs → p (get_or xs k d) ≡ true → ((i : ℕ) → i < k → p (get_or xs i d) ≡ false) → find p xs ≡ Some (get_or xs k d)
first_at p [] k d inside passes others = absurd (omega arith)
first_at p (x ∷ xs) zero d inside passes others = rw passes refl
first_at p (x ∷ xs) (suc k) d inside passes others = rw (others 0 (omega arith)) (first_at p xs k d (omega (arith, inside)) passes (λ i low. others (suc i) (omega (arith, low))))

none_of : {X : Type 0} (p : X → Bool) (xs : List X) (d : X) → ((i : ℕ) → i < length xs → p (get_or xs i d) ≡ false) → find p xs ≡ None
none_of p [] d others = refl
none_of p (x ∷ xs) d others = rw (others 0 (omega arith)) (none_of p xs d (λ i low. others (suc i) (omega (arith, low))))

-- ---- of a cluster
-- what is found is about the cluster, and one of the records
pub found_about : (c : ℕ) (xs : List Leaf) (leaf : Leaf) → Some leaf ≡ find (maps_cluster c) xs → maps_cluster c leaf ≡ true
found_about c [] leaf is = absurd (cc)
found_about c (x ∷ xs) leaf is = elim (cases_Bool (maps_cluster c x)) [
  | inl about ↦
      let same : leaf ≡ x = (let e : Some leaf ≡ Some x = is ∙ rw about refl in cc) in
      rw same about
  | inr other ↦ found_about c xs leaf (is ∙ rw other refl)
]

pub found_inside : (geo : Geo) (c : ℕ) (xs : List Leaf) (leaf : Leaf) → Within geo xs → Some leaf ≡ find (maps_cluster c) xs → IsWithin geo leaf
found_inside geo c [] leaf within is = absurd (cc)
found_inside geo c (x ∷ xs) leaf within is = elim (cases_Bool (maps_cluster c x)) [
  | inl about ↦
      let same : leaf ≡ x = (let e : Some leaf ≡ Some x = is ∙ rw about refl in cc) in
      subst (IsWithin geo) (sym same) (within 0 x (omega arith))
  | inr other ↦ found_inside geo c xs leaf (λ k d inside. within (suc k) d (omega (arith, inside))) (is ∙ rw other refl)
]

ends_at_or_before : (c : ℕ) (x y : Leaf) → x.cpos + x.clusters ≤ y.cpos → nat_le y.cpos c ≡ true → maps_cluster c x ≡ false
ends_at_or_before c x y before begun = grind (arith, nat_tests)

begins_later : (c : ℕ) (x : Leaf) → nat_le x.cpos c ≡ false → maps_cluster c x ≡ false
begins_later c x later = grind (arith, nat_tests)

module _ (c : ℕ) (xs : List Leaf) (rising : AreRising xs) (k : ℕ) (point : IsPartitionPoint (λ (leaf : Leaf). nat_le leaf.cpos c ≡ true) (λ (leaf : Leaf). nat_le leaf.cpos c ≡ false) xs k) (within : k ≤ length xs) where
  later_ones : (i : ℕ) (d : Leaf) → k ≤ i → i < length xs → maps_cluster c (get_or xs i d) ≡ false
  later_ones i d low inside = begins_later c (get_or xs i d) (point.1 i d low inside)

  earlier_ones : (last i : ℕ) (d : Leaf) → last + 1 ≡ k → i < last → maps_cluster c (get_or xs i d) ≡ false
  earlier_ones last i d is low =
      ends_at_or_before c (get_or xs i d) (get_or xs last d) (ends_before 0 xs i last d rising low (omega (arith, is, within))) (point.0 last d (omega arith) (omega (arith, is)))

  -- none begins at the cluster or before
  pub none_begun : (d : Leaf) → k ≡ 0 → None ≡ find (maps_cluster c) xs
  none_begun d is = sym (none_of (maps_cluster c) xs d (λ i inside. later_ones i d (omega (arith, is)) inside))

  module _ (last : ℕ) (d : Leaf) (is : last + 1 ≡ k) where
    pub last_begun : maps_cluster c (get_or xs last d) ≡ true → Some (get_or xs last d) ≡ find (maps_cluster c) xs
    last_begun about = sym (first_at (maps_cluster c) xs last d (omega (arith, is, within)) about (λ i low. earlier_ones last i d is low))

    other_than_last : (i : ℕ) → maps_cluster c (get_or xs last d) ≡ false → i < length xs → maps_cluster c (get_or xs i d) ≡ false
    other_than_last i other inside = elim (cases_lt i last) [
      | inl low ↦ earlier_ones last i d is low
      | inr high ↦ elim (cases_lt last i) [
        | inl higher ↦ later_ones i d (omega (arith, is, higher)) inside
        | inr same ↦
            let e : i ≡ last = omega (arith, high, same) in
            rw e other
      ]
    ]

    pub none_about : maps_cluster c (get_or xs last d) ≡ false → None ≡ find (maps_cluster c) xs
    none_about other = sym (none_of (maps_cluster c) xs d (λ i inside. other_than_last i other inside))
