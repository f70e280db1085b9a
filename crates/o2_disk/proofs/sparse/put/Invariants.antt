use Rattle.std.proofs.Common.{◌≡◌, ℕ, ◌+◌, ◌-◌, ◌/◌, ◌<◌, ◌≤◌, ◌&&◌, nat_lt, nat_le, if◌then◌else◌, length, IsSome, None, nat_cmp}
use Rattle.std.specs.BTreeMap.{get}
use Rattle.o2_disk.specs.Image.{piece}
use Rattle.o2_disk.specs.Stored.{stored}
use Rattle.o2_disk.proofs.sparse.put.Given as goal

abbrev pub invariant-loop-k : goal.invariant-loop-k
invariant-loop-k l = record {
  here : (s : ℕ) → stored l.map s ≡ (if nat_le l.at s && nat_lt s (l.at + l.k) then piece l.bytes (s - l.at) else stored l.fn.map s);
  keys : (s : ℕ) → get nat_cmp l.map s ≡ None → get nat_cmp l.fn.map s ≡ None;
  room : (s : ℕ) → l.at ≤ s → s < l.at + length l.bytes / 512 → IsSome (get nat_cmp l.map s);
}
