-- The laws of the super's part as a whole.
use Rattle.std.proofs.Common.{◌≡◌, ◌≤◌, ℕ, List, take, refl, sym, ◌∙◌, ap, arith}
use Rattle.std.specs.Prelude.{slice_index}
use Rattle.o2_ondisk.specs.Number.{number_at}
use Rattle.o2_ondisk.specs.Fields.{put_at, numbers_at, bytes_at}
use Rattle.o2_ondisk.specs.Super.{super_of, super_number_fields}
use Rattle.o2_ondisk.specs.declared.superblock.Super.{Super}
use Rattle.o2_ondisk.proofs.NumberLaws.{bytes_at-take}
use Rattle.o2_ondisk.proofs.TableLaws.{low_first, numbers_at-take}

-- a part of its numbers and its runs of bytes
abbrev pub super_from : List ℕ → List ℕ → List ℕ → List ℕ → Super
super_from numbers label uuid cluster_info = record {
  feature_compat = slice_index numbers 0;
  feature_incompat = slice_index numbers 1;
  feature_ro_compat = slice_index numbers 2;
  root_blkno = slice_index numbers 3;
  system_dir_blkno = slice_index numbers 4;
  blocksize_bits = slice_index numbers 5;
  clustersize_bits = slice_index numbers 6;
  max_slots = slice_index numbers 7;
  uuid_hash = slice_index numbers 8;
  first_cluster_group = slice_index numbers 9;
  label = label;
  uuid = uuid;
  cluster_info = cluster_info;
  xattr_inline_size = slice_index numbers 10;
  dx_seed = record {
    first = slice_index numbers 11;
    second = slice_index numbers 12;
    third = slice_index numbers 13;
  };
}

-- a part is told by its numbers and its runs of bytes
pub super_of-is : (bytes numbers label uuid cluster_info : List ℕ) → numbers_at super_number_fields bytes ≡ numbers → bytes_at 0x50 64 bytes ≡ label → bytes_at 0x90 16 bytes ≡ uuid → bytes_at 0xa0 24 bytes ≡ cluster_info
    → super_of bytes ≡ super_from numbers label uuid cluster_info
super_of-is bytes numbers label uuid cluster_info same_numbers same_label same_uuid same_info =
    ap (λ (l : List ℕ). super_from l (bytes_at 0x50 64 bytes) (bytes_at 0x90 16 bytes) (bytes_at 0xa0 24 bytes)) same_numbers
    ∙ ap (λ (l : List ℕ). super_from numbers l (bytes_at 0x90 16 bytes) (bytes_at 0xa0 24 bytes)) same_label
    ∙ ap (λ (l : List ℕ). super_from numbers label l (bytes_at 0xa0 24 bytes)) same_uuid
    ∙ ap (λ (l : List ℕ). super_from numbers label uuid l) same_info

-- a part reads its first 200 bytes alone
pub super_of-take : (n : ℕ) (bytes : List ℕ) → 200 ≤ n → super_of (take n bytes) ≡ super_of bytes
super_of-take n bytes within =
    super_of-is (take n bytes) (numbers_at super_number_fields bytes) (bytes_at 0x50 64 bytes) (bytes_at 0x90 16 bytes) (bytes_at 0xa0 24 bytes)
    (numbers_at-take number_at put_at low_first 0 super_number_fields 200 n bytes refl within)
    (bytes_at-take 0x50 64 n bytes (omega arith))
    (bytes_at-take 0x90 16 n bytes (omega arith))
    (bytes_at-take 0xa0 24 n bytes (omega arith))

pub super_of-same : (xs ys : List ℕ) → take 200 xs ≡ take 200 ys → super_of xs ≡ super_of ys
super_of-same xs ys same = sym (super_of-take 200 xs (omega arith)) ∙ ap super_of same ∙ super_of-take 200 ys (omega arith)
