-- From what is read so far the records left give what all give from the start.
use Rattle.std.proofs.Common.{◌≡◌, ◌-◌, List, ℕ}
use Rattle.o2_ondisk.specs.RefcountRecs.{refcount_rec_of}
use Rattle.o2_model.specs.RefcountTrees.{Refcounts, read_refcounts}
use Rattle.o2_model.specs.Volume.{Volume}
use Rattle.o2_model.specs.Words.{table}
use Rattle.o2_refcount.specs.Readings.{Keeps}
use Rattle.o2_refcount.proofs.Steps.{Left, records_from}
use Rattle.o2_refcount.proofs.block_records.read_records.Given as goal

abbrev pub invariant-loop-k : goal.invariant-loop-k
invariant-loop-k l = (v : Volume) → v.geo ≡ l.geo → (before : List ℕ) (t : Refcounts) → Keeps before l.fn.reading t
    → Left v l.b before (records_from l.bytes l.k (l.used - l.k)) l.reading (read_refcounts v l.b (table refcount_rec_of 16 0x90 l.used l.bytes) t)
