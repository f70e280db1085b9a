use Rattle.std.proofs.Common.{◌≡◌, ℕ, ◌&&◌, nat_lt, nat_le, if◌then◌else◌, None, nat_cmp}
use Rattle.std.specs.BTreeMap.{get}
use Rattle.o2_disk.specs.Image.{zero_sector}
use Rattle.o2_disk.specs.Stored.{stored}
use Rattle.o2_disk.proofs.sparse.clear.Given as goal

abbrev pub invariant-loop-s : goal.invariant-loop-s
invariant-loop-s l = record {
  zeros : l.zeros ≡ zero_sector;
  here : (q : ℕ) → stored l.map q ≡ (if nat_le l.at q && nat_lt q l.s then zero_sector else stored l.fn.map q);
  keys : (q : ℕ) → get nat_cmp l.map q ≡ None → get nat_cmp l.fn.map q ≡ None;
}
