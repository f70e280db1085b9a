use Rattle.std.proofs.Common.{◌≡◌, ℕ, ◌+◌, ◌*◌, ◌/◌, ◌%◌, ◌<◌, get_or}
use Rattle.o2_disk.specs.Stored.{stored}
use Rattle.o2_disk.proofs.sparse.copy_out.Given as goal

abbrev pub invariant-loop-k : goal.invariant-loop-k
invariant-loop-k l = (i : ℕ) → i < 512 * l.k → get_or l.out i 0 ≡ get_or (stored l.map (l.at + i / 512)) (i % 512) 0
