-- The records so far are the log's first ones.
use Rattle.std.proofs.Common.{◌≡◌, map}
use Rattle.o2_ondisk.specs.Dinodes.{truncate_records_place}
use Rattle.o2_ondisk.specs.TruncateRecs.{truncate_rec_of}
use Rattle.o2_model.specs.Words.{table}
use Rattle.o2_slots.specs.Truncations.{run_of}
use Rattle.o2_slots.proofs.truncation.runs_in.Given as goal

abbrev pub invariant-loop-k : goal.invariant-loop-k
invariant-loop-k l = l.runs.items ≡ map run_of (table truncate_rec_of 8 truncate_records_place l.k l.bytes)
