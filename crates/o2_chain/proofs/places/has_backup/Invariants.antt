-- None of the backups so far stands there.
use Rattle.std.proofs.Common.{ℕ, ◌+◌, ◌<◌, ◌≤◌}
use Rattle.o2_chain.proofs.Backups.{place}
use Rattle.o2_chain.proofs.places.has_backup.Given as goal

abbrev pub invariant-loop-k : goal.invariant-loop-k
invariant-loop-k l = (j : ℕ) → j < l.k → place l.geo.cluster_bits j < l.geo.clusters → l.first ≤ place l.geo.cluster_bits j → l.first + l.count ≤ place l.geo.cluster_bits j
