-- The records of a truncate log as a reader tells them.
use Rattle.std.specs.Prelude.{ℕ, List, map}
use Rattle.o2_ondisk.specs.declared.truncate_rec.TruncateRec.{TruncateRec}
use Rattle.o2_model.specs.Volume.{Volume}
use Rattle.o2_model.specs.TruncateLogs.{truncate_records}
use Rattle.o2_view.specs.declared.run.Run.{Run}

-- the clusters of a record, a void one's too
abbrev pub run_of : TruncateRec → Run
run_of r = record { start = r.start; clusters = r.clusters }

-- those of the log's records in use, in order
abbrev pub truncated_runs : Volume → ℕ → List Run
truncated_runs v b = map run_of (truncate_records v b)
