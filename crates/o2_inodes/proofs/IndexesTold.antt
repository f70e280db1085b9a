-- The indexes of directories among the inodes.
use Rattle.std.proofs.Common.{◌≡◌, ℕ, Bool, true, false, refl}
use Rattle.o2_ondisk.specs.Bits.{has_bits, indexed_dir_dyn_feature}
use Rattle.o2_model.specs.Volume.{Volume, dinode}
use Rattle.o2_model.specs.Inodes.{is_directory}
use Rattle.o2_model.specs.Indexes.{is_indexed, indexed_directories}
use Rattle.o2_model.specs.Groups.{inodes_of}
use Rattle.o2_tree.specs.TreeRows.{IsIndexTable}
use Rattle.o2_inodes.specs.InodeSurveys.{TellsInodes}
use Rattle.o2_inodes.specs.declared.survey.InodeSurvey.{InodeSurvey}

-- what is no directory has no index
pub no_index : (v : Volume) (b : ℕ) → is_directory v b ≡ false → is_indexed v b ≡ false
unfolding is_indexed
no_index v b other = rw other refl

-- a directory has one where its flag says so
pub index_by : (v : Volume) (b : ℕ) (has : Bool) → is_directory v b ≡ true → has_bits (dinode v b).dyn_features.0 indexed_dir_dyn_feature ≡ has → is_indexed v b ≡ has
unfolding is_indexed
index_by v b has is says = rw (is, says) refl

pub index_table : (v : Volume) (survey : InodeSurvey) → TellsInodes v (inodes_of v) survey → IsIndexTable v survey.indexes.items
unfolding indexed_directories
index_table v survey tells = record { directories = tells.indexes.listed; each = tells.indexes.each }
