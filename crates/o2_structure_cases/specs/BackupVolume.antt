-- A volume with two backups of the superblock: 5000 clusters of 1 MiB, with blocks of 512 bytes.
use Rattle.std.specs.Prelude.{ℕ, ◌==◌, [], if◌then◌else◌}
use Rattle.o2_ondisk.specs.Fields.{put_at}
use Rattle.o2_model.specs.Volume.{Volume, over}
use Rattle.o2_cases_volumes.specs.SmallVolumes.{large}
use Rattle.o2_cases_volumes.specs.WholeVolume.{whole_super}

-- the blocks of the backups, at 1 GiB and 4 GiB
abbrev pub first_backup : ℕ
first_backup = 2097152

abbrev pub second_backup : ℕ
second_backup = 8388608

-- where the first backup has this number of `width` bytes at this place
abbrev pub with_backup : ℕ → ℕ → ℕ → Volume
with_backup at width number =
    over (large 2048) (λ b.
    if b == 2 then whole_super
    else if b == first_backup then put_at at width number whole_super
    else if b == second_backup then whole_super
    else [])
