-- JOURNAL, number 6, at the journal: EXTENT holds; it has clusters, which follow one another from its cluster 0 on and have no
-- flags; its superblock has the magic, the type, the volume's block size, bounds that fit, and no features but REVOKE and 64BIT.
use Rattle.std.specs.Prelude.{ℕ, Bool, ◌&&◌, not, List}
use Rattle.o2_model.specs.Faults.{fails_at}
use Rattle.o2_model.specs.Orders.{is_none_of}
use Rattle.o2_model.specs.Volume.{Volume}
use Rattle.o2_model.specs.Inodes.{leaf_records}
use Rattle.o2_model.specs.Checks.Extent.{extent_faults}
use Rattle.o2_model.specs.LeafRecords.{are_without_gap, have_no_flags}
use Rattle.o2_model.specs.Journals.{journals, is_sound_journal_super, has_known_features}

unfoldable pub is_sound_journal : Volume → ℕ → Bool
is_sound_journal v b =
    is_none_of (extent_faults v b)
    && not (is_none_of (leaf_records v b))
    && are_without_gap (leaf_records v b)
    && have_no_flags (leaf_records v b)
    && is_sound_journal_super v b
    && has_known_features v b

abbrev pub journal_faults : Volume → List ℕ
journal_faults v = fails_at (λ b. b) (is_sound_journal v) (journals v)
