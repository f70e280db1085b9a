-- The roots so far are those of the first inodes.
use Rattle.std.proofs.Common.{◌≡◌, take}
use Rattle.std.specs.Prelude.{flat_map}
use Rattle.o2_refcount.specs.NamedRoots.{named_by}
use Rattle.o2_refcount.proofs.roots.all_named.Given as goal

abbrev pub invariant-loop-inode : goal.invariant-loop-inode
invariant-loop-inode l = l.roots.items ≡ flat_map named_by (take l.inode-index l.inodes)
