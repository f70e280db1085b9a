-- REF_COUNT, number 32, at the refcount block that has the record: r_refcount is how often each cluster of the record is referred
-- to, at most 2^32 - 1; where they are not referred to equally often, REF_COVER alone is told.
use Rattle.std.specs.Prelude.{ℕ, ◌-◌, ◌^◌, min, Bool, ◌||◌, not, ◌==◌, List, flat_map, filter}
use Rattle.o2_model.specs.Faults.{fails_at}
use Rattle.o2_model.specs.Volume.{Volume}
use Rattle.o2_model.specs.Files.{times_in}
use Rattle.o2_model.specs.declared.placed_refcount.PlacedRefcount.{PlacedRefcount}
use Rattle.o2_model.specs.RefcountTrees.{refcount_roots, is_refcount_block, refcounts}
use Rattle.o2_model.specs.Checks.RefCover.{tree_references, is_shared_evenly}

unfoldable pub has_sound_count : List ℕ → PlacedRefcount → Bool
has_sound_count references p =
    not (is_shared_evenly references p.fields)
    || p.fields.refcount == min (times_in references p.fields.cpos) (2 ^ 32 - 1)

-- those of one tree
abbrev pub ref_count_faults_of : Volume → ℕ → List ℕ
ref_count_faults_of v root = fails_at (λ p. p.block) (has_sound_count (tree_references v root)) (refcounts v root).records

abbrev pub ref_count_faults : Volume → List ℕ
ref_count_faults v = flat_map (ref_count_faults_of v) (filter (is_refcount_block v) (refcount_roots v))
