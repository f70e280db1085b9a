-- The features of a volume that are outside the profile.
use Rattle.std.specs.Prelude.{ℕ, ◌^◌, ◌||◌, nat_lt, if◌then◌else◌, Option, Some, None, option_and_then}
use Rattle.o2_ondisk.specs.Bits.{has_bits}
use Rattle.o2_ondisk.specs.declared.superblock.Super.{Super}
use Rattle.o2_disk.specs.Image.{Image}
use Rattle.o2_model.specs.Superblock.{superblock, superblock_bits, cluster_count}
use Rattle.o2_model.specs.declared.oddity.Oddity.{Oddity}
use Rattle.o2_model.specs.declared.oddity.Oddity.TheVariants.{Metaecc, Quota, HeartbeatDevice, LocalMount, InProgress, UnknownFeatures, Clusters}

-- the first reason why a superblock with these features and this number of clusters is not supported
unfoldable pub unsupported_in : Super → ℕ → Option Oddity
unsupported_in s clusters =
    if has_bits s.feature_incompat 0x800 then Some Metaecc
    else if has_bits s.feature_ro_compat 0x6 then Some Quota
    else if has_bits s.feature_incompat 0x2 then Some HeartbeatDevice
    else if has_bits s.feature_incompat 0x8 then Some LocalMount
    else if has_bits s.feature_incompat 0x24 then Some InProgress
    else if has_bits s.feature_incompat 0xffff_0001 || has_bits s.feature_ro_compat 0xffff_fff8 then Some UnknownFeatures
    else if nat_lt (2 ^ 30) clusters then Some Clusters
    else None

-- the first feature of the volume outside the profile, where there is a superblock and it has one
abbrev pub unsupported_feature : Image → Option Oddity
unsupported_feature I = option_and_then (λ bits. unsupported_in (superblock I bits) (cluster_count I bits)) (superblock_bits I)
