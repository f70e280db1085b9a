-- The counts of hashes in blocks, one more at a time.
use Rattle.std.proofs.Common.{◌≡◌, ℕ, ◌+◌, Bool, true, false, cond, ◌&&◌, ◌==◌, nat_lt, List, count_by, Option, Some, unwrap_or, refl, sym, ◌∙◌, ap, arith}
use Rattle.std.specs.BTreeMap.{get}
use Rattle.std.specs.Cmp.{both_tied}
use Rattle.std.specs.Ordering.{nat_cmp, is_eq, ordering_then}
use Rattle.std.proofs.lemmas.Bool.{eqb-true}
use Rattle.std.proofs.lemmas.Bool.Decides.{nat_tests}
use Rattle.std.proofs.lemmas.List.Sums.{sum_by_push}
use Rattle.o2_model.specs.Words.{push}
use Rattle.o2_indexes.specs.Places.{is_same_place, place_cmp, times_at, ArePlaceCounts}
use Rattle.o2_indexes.specs.declared.places.HashedPlace.{HashedPlace}
use Rattle.o2_indexes.specs.declared.places.PlaceCounts.{PlaceCounts}

-- ---- when two are the same
ties : (m n : ℕ) → (m == n) ≡ is_eq (nat_cmp m n)
ties m n = by (nat_lt m n) (m == n) refl refl
  where
    apart : (m n : ℕ) → nat_lt m n ≡ true → (m == n) ≡ false
    apart m n less = grind (arith, nat_tests)

    by : (less same : Bool) → nat_lt m n ≡ less → (m == n) ≡ same → (m == n) ≡ is_eq (nat_cmp m n)
    by true same less is = rw (less, apart m n less) refl
    by false true less is = rw (less, is) refl
    by false false less is = rw (less, is) refl

same_is_tied : (p q : HashedPlace) → is_same_place q p ≡ is_eq (place_cmp p q)
same_is_tied p q =
    grouped (p.block == q.block) (p.major == q.major) (p.minor == q.minor)
    ∙ both_tied (p.block == q.block) (p.major == q.major && p.minor == q.minor) (nat_cmp p.block q.block) (ordering_then (nat_cmp p.major q.major) (nat_cmp p.minor q.minor)) (ties p.block q.block)
    (both_tied (p.major == q.major) (p.minor == q.minor) (nat_cmp p.major q.major) (nat_cmp p.minor q.minor) (ties p.major q.major) (ties p.minor q.minor))
  where
    grouped : (a b c : Bool) → (a && b && c) ≡ (a && (b && c))
    grouped true b c = refl
    grouped false b c = refl

both_hold : (a b : Bool) → (a && b) ≡ true → (a ≡ true) × (b ≡ true)
both_hold true b both = (refl, both)
both_hold false b both = absurd (no both)
  where
    no : false ≡ true → ⊥
    no e = cc

same_are : (q p : HashedPlace) → is_same_place q p ≡ true → p ≡ q
same_are q p same =
    let first = both_hold (p.block == q.block && p.major == q.major) (p.minor == q.minor) same in
    let front = both_hold (p.block == q.block) (p.major == q.major) first.0 in
    ap (λ b. record { block = b; major = p.major; minor = p.minor }) (eqb-true p.block q.block front.0)
    ∙ (ap (λ m. record { block = q.block; major = m; minor = p.minor }) (eqb-true p.major q.major front.1)
    ∙ ap (λ m. record { block = q.block; major = q.major; minor = m }) (eqb-true p.minor q.minor first.1))

-- ---- one more
pub place_added : (old new : PlaceCounts) (ps : List HashedPlace) (p : HashedPlace) (n : ℕ) → ArePlaceCounts ps old → n ≡ times_at old p + 1
    → ((q : HashedPlace) → get place_cmp new.times q ≡ cond (is_eq (place_cmp p q)) (Some n) (get place_cmp old.times q)) → ArePlaceCounts (push ps p) new
place_added old new ps p n are more puts = record {
  each = λ q.
      ap (λ (o : Option ℕ). unwrap_or o 0) (puts q)
      ∙ (ap (λ same. unwrap_or (cond same (Some n) (get place_cmp old.times q)) 0) (sym (same_is_tied p q))
      ∙ (by q (is_same_place q p) refl ∙ sym (sum_by_push (λ x. cond (is_same_place q x) 1 0) ps p)));
}
  where
    by : (q : HashedPlace) (same : Bool) → is_same_place q p ≡ same
        → unwrap_or (cond same (Some n) (get place_cmp old.times q)) 0 ≡ count_by (is_same_place q) ps + cond same 1 0
    by q true is = more ∙ (ap (λ x. times_at old x + 1) (same_are q p is) ∙ ap (λ m. m + 1) (are.each q))
    by q false is = are.each q ∙ no_more (count_by (is_same_place q) ps)
      where
        no_more : (m : ℕ) → m ≡ m + 0
        no_more m = omega arith
