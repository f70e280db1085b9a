-- What is wrong with the blocks is wrong with the directory.
use Rattle.std.proofs.Common.{◌∙◌}
use Rattle.o2_view.proofs.Shown.{still_shows}
use Rattle.o2_dir.specs.Fails.{directory_checks}
use Rattle.o2_dir.proofs.Faults.{fails_of}
use Rattle.o2_dir.proofs.directory.entries_in.Goals as goal

pub returns-clause-fails : goal.returns-clause-fails
returns-clause-fails g c = fails_of c.entries_by.result c.entries_by.new.view (directory_checks c.args.inode) ⊥ ⊥ c.records_in.ensures.reads
    (λ v seen.
    let told = c.in_ok-leaves.ensures.told v seen in
    record { shows = still_shows c.records_in.ensures.reads seen.shows; read = record { holds = seen.is; sound = told.0.0; are = c.as_slice.ensures ∙ told.1 } })
    (λ none. none) c.entries_by.ensures.fails
