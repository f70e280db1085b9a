-- A directory as a whole: where its blocks are, and which checks it fails.
use Rattle.std.proofs.Common.{◌≡◌, inl, inr, ℕ, ◌+◌, ◌-◌, ◌*◌, ◌/◌, ◌%◌, ◌^◌, ◌≤◌, Bool, true, false, ◌&&◌, ◌==◌, nat_lt, List, [], ◌∷◌, ◌++◌, map, filter, flat_map, length, refl, sym, ◌∙◌, ap, subst, arith, Option, Some, None}
use Rattle.std.specs.List.{range_with_len}
use Rattle.std.proofs.lemmas.Bool.{cases_Bool, or_left, eq-eqb}
use Rattle.std.proofs.lemmas.List.{length-map, map-append}
use Rattle.std.proofs.lemmas.List.Elements.{All-push}
use Rattle.o2_ondisk.specs.declared.kind.Kind.{Kind}
use Rattle.o2_ondisk.specs.declared.kind.Kind.TheVariants.{File, Directory, Character, Block, Fifo, Socket, Link}
use Rattle.o2_model.specs.declared.geo.Geo.{Geo}
use Rattle.o2_model.specs.Volume.{Volume, block_size, per_cluster, dinode}
use Rattle.o2_model.specs.Words.{IsLeast}
use Rattle.o2_model.specs.Faults.{fails_at, fails_unless}
use Rattle.o2_model.specs.Checks.Extent.{extent_faults}
use Rattle.o2_model.specs.Checks.DirBlock.{is_sound_dir_block, dir_block_faults}
use Rattle.o2_model.specs.Inodes.{is_directory, is_directory_kind, kind, leaf_records}
use Rattle.o2_model.specs.Directories.{DirBlock, dir_block, dir_blocks, mapped, is_written, entries_of_block, directory_entries}
use Rattle.o2_model.specs.Checks.InodeSize.{has_sound_size, is_directory_size, is_size_of_kind, inode_size_faults}
use Rattle.o2_model.specs.declared.leaf.Leaf.{Leaf}
use Rattle.o2_dir.specs.declared.places.Place.{Place}
use Rattle.o2_dir.specs.Blocks.{place_in, places_in, places_of, block_at_place, Keeps}
use Rattle.o2_view.specs.OwnChecks.{FailsFirst}
use Rattle.o2_dir.specs.Fails.{IsMapped, MapsBlocks, directory_checks}
use Rattle.o2_dir.specs.declared.reading.Reading.{Reading}
use Rattle.o2_model.specs.declared.check.Check.{Check}
use Rattle.o2_model.specs.declared.check.Check.TheVariants.{InodeSize, DirBlock as DirBlockFails}

-- ---- the blocks that they map
mapped_one : (v : Volume) (leaf : Leaf) (ks : List ℕ) → map (dir_block v (leaf.cpos * per_cluster v) leaf.block) ks ≡ map (block_at_place v) (map (place_in (per_cluster v) leaf) ks)
mapped_one v leaf [] = refl
mapped_one v leaf (k ∷ ks) = ap (λ bs. dir_block v (leaf.cpos * per_cluster v) leaf.block k ∷ bs) (mapped_one v leaf ks)

pub mapped_all : (v : Volume) (limit : ℕ) (leaves : List Leaf) → flat_map (mapped v limit) (filter is_written leaves) ≡ map (block_at_place v) (places_of (per_cluster v) limit leaves)
mapped_all v limit [] = refl
mapped_all v limit (leaf ∷ leaves) = elim (cases_Bool (is_written leaf)) [
  | inr unwritten ↦ rw unwritten (mapped_all v limit leaves)
  | inl written ↦ rw written
      (ap (λ bs. bs ++ flat_map (mapped v limit) (filter is_written leaves)) (mapped_one v leaf (filter (λ k. nat_lt (leaf.cpos * per_cluster v + k) limit) (range_with_len 0 (leaf.clusters * per_cluster v))))
      ∙ (ap (λ bs. map (block_at_place v) (places_in (per_cluster v) limit leaf) ++ bs) (mapped_all v limit leaves)
      ∙ sym (map-append (block_at_place v) (places_in (per_cluster v) limit leaf) (places_of (per_cluster v) limit leaves))))
]

pub blocks_are : (v : Volume) (d size : ℕ) (leaves : List Leaf) → MapsBlocks v d size leaves → dir_blocks v d ≡ map (block_at_place v) (places_of (per_cluster v) (size / block_size v) leaves)
unfolding dir_blocks
blocks_are v d size leaves h =
    rw h.outside (mapped_all v ((dinode v d).size / block_size v) (leaf_records v d))
    ∙ (ap (λ n. map (block_at_place v) (places_of (per_cluster v) (n / block_size v) (leaf_records v d))) (sym h.tells)
    ∙ ap (λ (ls : List Leaf). map (block_at_place v) (places_of (per_cluster v) (size / block_size v) ls)) (sym h.are))

-- what is known of a directory that is well formed
pub maps : (v : Volume) (d size : ℕ) (leaves : List Leaf) → IsMapped v d size leaves → MapsBlocks v d size leaves
maps v d size leaves h = record { outside = h.outside; directory = h.directory; tells = h.tells; are = h.are }

-- ---- the size
of_directory : (v : Volume) (d : ℕ) (k : Option Kind) → is_directory_kind k ≡ true → is_size_of_kind v d k ≡ is_directory_size v d
of_directory v d None h = cc
of_directory v d (Some Directory) h = refl
of_directory v d (Some File) h = cc
of_directory v d (Some Character) h = cc
of_directory v d (Some Block) h = cc
of_directory v d (Some Fifo) h = cc
of_directory v d (Some Socket) h = cc
of_directory v d (Some Link) h = cc

pub size_is : (v : Volume) (d size : ℕ) (leaves : List Leaf) → MapsBlocks v d size leaves
    → has_sound_size v d ≡ (nat_lt 0 size && size % block_size v == 0 && length (places_of (per_cluster v) (size / block_size v) leaves) == size / block_size v)
unfolding has_sound_size is_directory
size_is v d size leaves h =
    rw h.outside (of_directory v d (kind v d) h.directory)
    ∙ (ap (λ n. nat_lt 0 n && n % block_size v == 0 && length (dir_blocks v d) == n / block_size v) (sym h.tells)
    ∙ ap (λ n. nat_lt 0 size && size % block_size v == 0 && n == size / block_size v) (ap length (blocks_are v d size leaves h) ∙ length-map (places_of (per_cluster v) (size / block_size v) leaves) (block_at_place v)))

pub size_sound : (v : Volume) (d : ℕ) → has_sound_size v d ≡ true → inode_size_faults v d ≡ []
size_sound v d h = rw h refl

-- a check of one block fails there alone
pub fails_there : (b : ℕ) (test : Bool) → test ≡ false → IsLeast b (fails_unless b test)
fails_there b test is = rw is (record { is_among = or_left _ _ (eq-eqb b b refl); each = All-push (λ (m : ℕ). b ≤ m) [] b (λ k e lt. absurd (omega arith)) (omega arith) })

pub size_bad : (v : Volume) (d : ℕ) → has_sound_size v d ≡ false → IsLeast d (inode_size_faults v d)
size_bad v d h = fails_there d (has_sound_size v d) h

-- ---- what a reader is given
pub block_is : (v : Volume) (geo : Geo) (n : ℕ) → v.geo ≡ geo → n ≡ 2 ^ geo.block_bits → n ≡ block_size v
block_is v geo n same is = is ∙ ap (λ (x : Geo). 2 ^ x.block_bits) (sym same)

cluster_is : (v : Volume) (geo : Geo) (n : ℕ) → v.geo ≡ geo → n ≡ 2 ^ (geo.cluster_bits - geo.block_bits) → n ≡ per_cluster v
cluster_is v geo n same is = is ∙ ap (λ (x : Geo). 2 ^ (x.cluster_bits - x.block_bits)) (sym same)

pub places_are : (v : Volume) (geo : Geo) (size : ℕ) (leaves : List Leaf) → v.geo ≡ geo → (bytes pc : ℕ) (all read : List Place) → bytes ≡ 2 ^ geo.block_bits → pc ≡ 2 ^ (geo.cluster_bits - geo.block_bits)
    → all ≡ places_of pc (size / bytes) leaves → read ≡ all → read ≡ places_of (per_cluster v) (size / block_size v) leaves
places_are v geo size leaves same bytes pc all read bytes_are pc_is are read_are =
    read_are
    ∙ (are
    ∙ (ap (λ n. places_of n (size / bytes) leaves) (cluster_is v geo pc same pc_is)
    ∙ ap (λ n. places_of (per_cluster v) (size / n) leaves) (block_is v geo bytes same bytes_are)))

pub size_told : (v : Volume) (geo : Geo) (d size : ℕ) (leaves : List Leaf) → v.geo ≡ geo → MapsBlocks v d size leaves → (bytes pc : ℕ) (all tested : List Place) (has : Bool)
    → bytes ≡ 2 ^ geo.block_bits → pc ≡ 2 ^ (geo.cluster_bits - geo.block_bits) → all ≡ places_of pc (size / bytes) leaves → tested ≡ all
    → has ≡ (nat_lt 0 size && size % bytes == 0 && length tested == size / bytes) → has ≡ has_sound_size v d
size_told v geo d size leaves same h bytes pc all tested has bytes_are pc_is are tested_are is =
    is
    ∙ (ap (λ ps. nat_lt 0 size && size % bytes == 0 && length ps == size / bytes) (tested_are ∙ are)
    ∙ (ap (λ n. nat_lt 0 size && size % bytes == 0 && length (places_of n (size / bytes) leaves) == size / bytes) (cluster_is v geo pc same pc_is)
    ∙ (ap (λ n. nat_lt 0 size && size % n == 0 && length (places_of (per_cluster v) (size / n) leaves) == size / n) (block_is v geo bytes same bytes_are)
    ∙ sym (size_is v d size leaves h))))

-- what is read at all its places, where the directory is the right size
pub record Told (v : Volume) (d : ℕ) (has : Bool) (read : List Place) : Type 0 where
  pub sound : extent_faults v d ≡ []
  pub size : has ≡ has_sound_size v d
  pub blocks : dir_blocks v d ≡ map (block_at_place v) read

pub places_told : (v : Volume) (geo : Geo) (d size : ℕ) (leaves : List Leaf) → v.geo ≡ geo → IsMapped v d size leaves → (bytes pc : ℕ) (all tested read : List Place) (has : Bool)
    → bytes ≡ 2 ^ geo.block_bits → pc ≡ 2 ^ (geo.cluster_bits - geo.block_bits) → all ≡ places_of pc (size / bytes) leaves → tested ≡ all → read ≡ all
    → has ≡ (nat_lt 0 size && size % bytes == 0 && length tested == size / bytes) → Told v d has read
places_told v geo d size leaves same h bytes pc all tested read has bytes_are pc_is are tested_are read_are is = record {
  sound = h.sound;
  size = size_told v geo d size leaves same (maps v d size leaves h) bytes pc all tested has bytes_are pc_is are tested_are is;
  blocks =
      blocks_are v d size leaves (maps v d size leaves h)
      ∙ sym (ap (map (block_at_place v)) (places_are v geo size leaves same bytes pc all read bytes_are pc_is are read_are));
}

pub entries_kept : (v : Volume) (d : ℕ) (bs : List DirBlock) → dir_blocks v d ≡ bs → flat_map entries_of_block bs ≡ directory_entries v d
unfolding directory_entries
entries_kept v d bs are = ap (flat_map entries_of_block) (sym are)

pub faults_kept : (v : Volume) (d : ℕ) (bs : List DirBlock) (reading : Reading) → dir_blocks v d ≡ bs → Keeps reading bs → reading.faults.items ≡ dir_block_faults v d
faults_kept v d bs reading are kept = kept.faults ∙ ap (fails_at (λ b. b.block) is_sound_dir_block) (sym are)

pub fails_size : (v : Volume) (d : ℕ) (check : Check) (b : ℕ) → check ≡ InodeSize → b ≡ d → extent_faults v d ≡ [] → has_sound_size v d ≡ false → FailsFirst (directory_checks d) v check b
fails_size v d check b check_is b_is sound bad =
    inr (sound, inl (check_is, subst (λ (n : ℕ). IsLeast n (inode_size_faults v d)) (sym b_is) (size_bad v d bad)))

pub fails_blocks : (v : Volume) (d : ℕ) (check : Check) (b : ℕ) (faults : List ℕ) → check ≡ DirBlockFails → extent_faults v d ≡ [] → has_sound_size v d ≡ true → faults ≡ dir_block_faults v d → IsLeast b faults → FailsFirst (directory_checks d) v check b
fails_blocks v d check b faults check_is sound good are least =
    inr (sound, inr (size_sound v d good, inl (check_is, subst (IsLeast b) are least)))
