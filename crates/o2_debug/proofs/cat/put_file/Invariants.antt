-- The first bytes of the file were put.
use Rattle.std.proofs.Common.{◌≡◌, ◌-◌, ◌≤◌, take}
use Rattle.o2_model.specs.Contents.{bytes_of}
use Rattle.o2_model.specs.Volume.{Volume}
use Rattle.o2_view.specs.Views.{Shows, OnlyReads}
use Rattle.o2_cause.specs.Taken.{Takes}
use Rattle.o2_debug.proofs.cat.put_file.Given as goal

abbrev pub invariant-loop-at : goal.invariant-loop-at
invariant-loop-at g l = record {
  within : l.at ≤ l.size;
  taken : (v : Volume) → Shows l.fn.view l.geo v → Takes (g.K.Sink.state l.fn.out) (g.K.Sink.state l.out) (take l.at (bytes_of v l.reading.inode));
  reads : OnlyReads l.fn.view l.view;
  faults : (g.K.Sink.state l.out).faults ≡ (g.K.Sink.state l.fn.out).faults;
}

abbrev pub decreases-loop-at : goal.decreases-loop-at
decreases-loop-at g l = l.size - l.at
