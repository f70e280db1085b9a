-- JOURNAL_DIRTY, number 8, at the journal: its flag `OCFS2_JOURNAL_DIRTY_FL` is clear.
use Rattle.std.specs.Prelude.{ℕ, not, List}
use Rattle.o2_model.specs.Faults.{fails_at}
use Rattle.o2_model.specs.Volume.{Volume}
use Rattle.o2_model.specs.Journals.{journals, is_dirty}

abbrev pub journal_dirty_faults : Volume → List ℕ
journal_dirty_faults v = fails_at (λ b. b) (λ b. not (is_dirty v b)) (journals v)
