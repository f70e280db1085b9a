-- The clusters that no group of blocks may have.
use Rattle.std.proofs.Common.{◌≡◌, ℕ, ◌+◌, ◌-◌, ◌*◌, ◌/◌, ◌%◌, ◌<◌, ◌≤◌, true, false, ◌∙◌, ap, arith}
use Rattle.std.specs.Prelude.{◌≢◌}
use Rattle.std.proofs.Math.Nat.{mod-add-div'}
use Rattle.std.proofs.lemmas.Nat.{mod-mul-add, mod_below}
use Rattle.std.proofs.lemmas.Bool.Decides.{nat_tests}
use Rattle.o2_model.specs.Words.{among}
use Rattle.o2_model.specs.Volume.{Volume}
use Rattle.o2_model.specs.Clusters.{cluster_of}
use Rattle.o2_model.specs.ClusterGroups.{group_size, backup_clusters}
use Rattle.o2_model.specs.Groups.{is_fixed}

module _ (v : Volume) (c : ℕ) where
  pub fixed_below : c ≤ cluster_of v v.geo.first_group → is_fixed v c ≡ true
  fixed_below low = grind (arith, nat_tests)

  pub fixed_start : c % group_size v ≡ 0 → is_fixed v c ≡ true
  fixed_start start = grind (arith, nat_tests)

  pub fixed_backup : among (backup_clusters v) c ≡ true → is_fixed v c ≡ true
  fixed_backup backup = grind (arith, nat_tests)

  pub not_fixed : cluster_of v v.geo.first_group < c → c % group_size v ≢ 0 → among (backup_clusters v) c ≡ false → is_fixed v c ≡ false
  not_fixed behind inner other = grind (arith, nat_tests)

-- No multiple stands between one that is behind a multiple and the next.
pub between_multiples : (size first c : ℕ) → 0 < size → 0 < first % size → first ≤ c → c < first + (size - first % size) → c % size ≢ 0
between_multiples size first c some over low high is =
    let rest : first % size + (c - first) < size = omega (arith, high, low, mod_below first size some) in
    let sum : c ≡ first / size * size + (first % size + (c - first)) = omega (arith, mod-add-div' first size, low) in
    let same : c % size ≡ first % size + (c - first) = ap (λ n. n % size) sum ∙ mod-mul-add (first / size) size (first % size + (c - first)) rest in
    omega (arith, same, is, over)

-- the next multiple
pub next_multiple : (size first : ℕ) → 0 < size → (first + (size - first % size)) % size ≡ 0
next_multiple size first some =
    let sum : first + (size - first % size) ≡ (first / size + 1) * size + 0 = omega (arith, mod-add-div' first size, mod_below first size some, one_more (first / size)) in
    ap (λ n. n % size) sum ∙ mod-mul-add (first / size + 1) size 0 some
  where
    one_more : (q : ℕ) → (q + 1) * size ≡ q * size + size
    one_more q = omega arith
