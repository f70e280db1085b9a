use Rattle.std.proofs.Common.{◌≡◌, ℕ, ◌<◌, ◌≤◌, IsSome, None, nat_cmp}
use Rattle.std.specs.BTreeMap.{get}
use Rattle.o2_disk.specs.Stored.{stored}
use Rattle.o2_disk.proofs.sparse.make_room.Given as goal

abbrev pub invariant-loop-s : goal.invariant-loop-s
invariant-loop-s l = record {
  same : (s : ℕ) → stored l.map s ≡ stored l.fn.map s;
  keys : (s : ℕ) → get nat_cmp l.map s ≡ None → get nat_cmp l.fn.map s ≡ None;
  room : (s : ℕ) → l.at ≤ s → s < l.s-counter → IsSome (get nat_cmp l.map s);
}
