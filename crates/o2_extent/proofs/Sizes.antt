-- The sizes of clusters and blocks, as shifts give them.
use Rattle.std.proofs.Common.{◌≡◌, ℕ, ◌+◌, ◌-◌, ◌*◌, ◌/◌, ◌%◌, ◌^◌, ◌<◌, ◌≤◌, true, arith}
use Rattle.std.proofs.Math.Nat.{div-add-mod, add-mul, mul_comm, mul-le-mul_right}
use Rattle.std.proofs.Math.Pow.{pow_mono}
use Rattle.std.proofs.lemmas.Bool.Decides.{nat_tests}
use Rattle.o2_model.specs.Volume.{Volume, per_cluster, blocks}
use Rattle.o2_model.specs.Clusters.{are_clusters_in_range}
use Rattle.o2_model.specs.Extents.{is_sound_leaf}
use Rattle.o2_model.specs.declared.geo.Geo.{Geo}
use Rattle.o2_model.specs.declared.leaf.Leaf.{Leaf}
use Rattle.o2_view.specs.Geos.{HasSizes}

module _ (geo : Geo) (h : HasSizes geo) where
  pub few_per_cluster : 2 ^ (geo.cluster_bits - geo.block_bits) ≤ 2048
  few_per_cluster = pow_mono {i = geo.cluster_bits - geo.block_bits} {j = 11} (omega (arith, h.least_block, h.most_cluster))

  pub some_per_cluster : 1 ≤ 2 ^ (geo.cluster_bits - geo.block_bits)
  some_per_cluster = pow_mono {i = 0} {j = geo.cluster_bits - geo.block_bits} (omega arith)

  pub shifted_cluster : 1 * 2 ^ (geo.cluster_bits - geo.block_bits) % 18446744073709551616 ≡ 2 ^ (geo.cluster_bits - geo.block_bits)
  shifted_cluster = omega (arith, few_per_cluster)

  pub few_bytes : 2 ^ geo.block_bits ≤ 4096
  few_bytes = pow_mono {i = geo.block_bits} {j = 12} h.most_block

  pub some_bytes : 512 ≤ 2 ^ geo.block_bits
  some_bytes = pow_mono {i = 9} {j = geo.block_bits} h.least_block

  pub shifted_block : 1 * 2 ^ geo.block_bits % 18446744073709551616 ≡ 2 ^ geo.block_bits
  shifted_block = omega (arith, few_bytes)

-- clusters in range end where the volume does, or before
clusters_within : (v : Volume) (b count : ℕ) → are_clusters_in_range v b count ≡ true → b + count * per_cluster v ≤ blocks v
unfolding are_clusters_in_range
clusters_within v b count good =
    let pc = per_cluster v in
    let whole : b % pc ≡ 0 = grind (arith, nat_tests) in
    let fits : b / pc + count ≤ v.geo.clusters = grind (arith, nat_tests) in
    let apart : (b / pc + count) * pc ≡ b / pc * pc + count * pc = add-mul (b / pc) count pc in
    omega (arith, div-add-mod b pc, mul_comm pc (b / pc), whole, apart, mul-le-mul_right pc fits)

pub sound_within : (v : Volume) (m low : ℕ) (leaf : Leaf) → is_sound_leaf v m low leaf ≡ true → leaf.block + leaf.clusters * per_cluster v ≤ blocks v
unfolding is_sound_leaf
sound_within v m low leaf good =
    let inside : are_clusters_in_range v leaf.block leaf.clusters ≡ true = grind (arith, nat_tests) in
    clusters_within v leaf.block leaf.clusters inside

-- a block of a cluster of a record lies where the record's clusters do
pub block_within : (pc block clusters cpos c k n : ℕ) → cpos ≤ c → c < cpos + clusters → k < pc → block + clusters * pc ≤ n → block + pc * (c - cpos) + k < n
block_within pc block clusters cpos c k n low high small fits =
    let apart : (c - cpos + 1) * pc ≡ (c - cpos) * pc + 1 * pc = add-mul (c - cpos) 1 pc in
    let more : c - cpos + 1 ≤ clusters = omega (arith, low, high) in
    omega (arith, apart, mul-le-mul_right pc more, mul_comm pc (c - cpos), small, fits)
