-- The records so far have their counts, and nothing else has changed.
use Rattle.std.proofs.Common.{◌≡◌, ℕ, ◌<◌, get_or}
use Rattle.o2_refcount.specs.Recounts.{IsNoCount, record_at, recounted}
use Rattle.o2_refcount.proofs.block_edit.change_counts.Given as goal

abbrev pub invariant-loop-k : goal.invariant-loop-k
invariant-loop-k l = record {
  counted : (j : ℕ) → j < l.k → record_at l.bytes j ≡ recounted (record_at l.fn.bytes j) (get_or l.counts j 0);
  others : (i : ℕ) → IsNoCount l.k i → get_or l.bytes i 0 ≡ get_or l.fn.bytes i 0;
}
