-- The clusters that are counted have a size of 64 bits.
use Rattle.std.proofs.Common.{◌≡◌, ℕ, ◌*◌, ◌%◌, ◌^◌, ◌≤◌, true, refl, sym, ◌∙◌, arith}
use Rattle.std.proofs.Math.Nat.{mul-le-mul_left, mul-le-mul_right}
use Rattle.std.proofs.Math.Pow.{pow_mono}
use Rattle.o2_model.specs.LeafRecords.{are_without_gap, have_no_flags}
use Rattle.o2_slots.proofs.map_records.have_room.Goals as goal

few_bytes : (clusters bits : ℕ) → clusters ≤ 2 ^ 33 → bits ≤ 20 → clusters * 2 ^ bits % 2 ^ 64 ≡ clusters * 2 ^ bits
few_bytes clusters bits few most =
    let size : 2 ^ bits ≤ 2 ^ 20 = pow_mono most in
    let first : clusters * 2 ^ bits ≤ clusters * 2 ^ 20 = mul-le-mul_left clusters size in
    let second : clusters * 2 ^ 20 ≤ 2 ^ 33 * 2 ^ 20 = mul-le-mul_right (2 ^ 20) few in
    omega (arith, first, second)

pub returns-then-have_no_flags : goal.returns-then-have_no_flags
returns-then-have_no_flags c v numbers =
    let gap : are_without_gap c.args.leaves.now ≡ true = c.in-Some.ensures.found in
    let flags : have_no_flags c.args.leaves.now ≡ true = sym c.have_no_flags.ensures ∙ c.if-have_no_flags.true in
    rw (few_bytes c.in-Some.clusters c.args.geo.now.cluster_bits (omega (arith, c.in-Some.ensures.few)) c.requires.most_cluster, numbers, gap, flags, c.in-Some.ensures.clusters, c.from.ensures, c.entry_size.ensures) refl
