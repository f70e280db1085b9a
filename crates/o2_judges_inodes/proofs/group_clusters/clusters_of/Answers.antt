-- A shift by 32 or more leaves none.
use Rattle.std.proofs.Common.{◌/◌, ◌^◌, ◌<◌, ◌≤◌, sym, ◌∙◌, ap, arith}
use Rattle.std.proofs.Math.Nat.{div-eq_of_lt}
use Rattle.std.proofs.Math.Pow.{pow_mono}
use Rattle.o2_judges_inodes.proofs.group_clusters.clusters_of.Goals as goal

pub returns-in-None : goal.returns-in-None
returns-in-None c =
    let shift = c.saturating_sub-shift.result in
    let bits = c.args.row.now.group.bits in
    let far : 32 ≤ shift = omega (arith, c.in-None.ensures) in
    let beyond : 2 ^ 32 ≤ 2 ^ shift = pow_mono far in
    let few : bits < 2 ^ shift = omega (arith, c.from.ensures, c.from.type_inv, beyond) in
    sym (div-eq_of_lt few) ∙ ap (λ n. bits / 2 ^ n) c.saturating_sub-shift.ensures
