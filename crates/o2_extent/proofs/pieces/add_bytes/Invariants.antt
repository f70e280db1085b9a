-- The bytes so far are the file's.
use Rattle.std.proofs.Common.{◌≡◌, ◌+◌, ◌-◌, ◌≤◌, ◌++◌, map, length}
use Rattle.std.specs.List.{range_with_len}
use Rattle.o2_model.specs.Contents.{byte_of}
use Rattle.o2_model.specs.Volume.{Volume}
use Rattle.o2_view.specs.Views.{Shows, OnlyReads}
use Rattle.o2_extent.proofs.pieces.add_bytes.Given as goal

abbrev pub invariant-loop-next : goal.invariant-loop-next
invariant-loop-next g l = record {
  bytes : (v : Volume) → Shows l.fn.view l.geo v
      → l.out.items ≡ l.fn.out.items ++ map (byte_of v l.leaves) (range_with_len l.at (l.next - l.at));
  long : length l.out.items ≡ length l.fn.out.items + (l.next - l.at);
  low : l.at ≤ l.next;
  high : l.next ≤ l.end;
  reads : OnlyReads l.fn.view l.view;
}

abbrev pub decreases-loop-next : goal.decreases-loop-next
decreases-loop-next g l = l.end - l.next
