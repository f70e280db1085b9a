-- What is left decides.
use Rattle.std.proofs.Common.{◌≡◌}
use Rattle.o2_skeleton.proofs.Backups.{is_later}
use Rattle.o2_skeleton.proofs.super_numbers.is_backup_place.Given as goal

abbrev pub invariant-loop-k : goal.invariant-loop-k
invariant-loop-k l = is_later l.cluster_bits l.cluster l.k ≡ is_later l.cluster_bits l.cluster 0
