-- Two volumes that agree on an inode, its extents and the blocks of its data have the same content.
use Rattle.std.proofs.Common.{◌≡◌, inl, inr, ℕ, zero, suc, ◌+◌, ◌-◌, ◌*◌, ◌/◌, ◌%◌, ◌<◌, ◌≤◌, true, ◌==◌, List, [], ◌∷◌, map, refl, ◌∙◌, ap, arith, Option, Some, None}
use Rattle.std.specs.Prelude.{filter, flat_map, find, slice_index}
use Rattle.std.specs.List.{range_with_len}
use Rattle.std.specs.Option.{option_map_or}
use Rattle.std.proofs.lemmas.Bool.{cases_Bool, or_right, or_left, eq-eqb}
use Rattle.std.proofs.lemmas.Bool.Decides.{nat_tests}
use Rattle.std.proofs.lemmas.List.Folds.{list_any-append, list_any_at}
use Rattle.std.proofs.lemmas.List.FromFn.{length-range_with_len, get_or-range_with_len}
use Rattle.std.proofs.Math.Nat.{mod-lt}
use Rattle.std.proofs.lemmas.Nat.{pow_pos}
use Rattle.o2_ondisk.specs.Dinodes.{dinode_of}
use Rattle.o2_ondisk.specs.Kinds.{kind_of_mode}
use Rattle.o2_ondisk.specs.declared.kind.Kind.{Kind}
use Rattle.o2_ondisk.specs.declared.kind.Kind.TheVariants.{File, Directory, Character, Block, Fifo, Socket, Link}
use Rattle.o2_model.specs.declared.leaf.Leaf.{Leaf}
use Rattle.o2_model.specs.Words.{among}
use Rattle.o2_model.specs.Volume.{Volume, over, block_size, per_cluster, dinode}
use Rattle.o2_laws.specs.Frames.{SameOn, content_blocks}
use Rattle.o2_model.specs.Inodes.{kind, extents, leaf_records, is_inline, is_fast_link}
use Rattle.o2_model.specs.LeafRecords.{blocks_under}
use Rattle.o2_model.specs.Directories.{is_written, dir_blocks, directory_entries}
use Rattle.o2_model.specs.Files.{attributes_of, file_of}
use Rattle.o2_laws.proofs.SameEntries.{entries_same}
use Rattle.o2_model.specs.Contents.{maps_cluster, mapped_block, byte_under, byte_in_block, byte_of, bytes_of, Bytes, Entries, content_of_kind, content_of}

-- a number of a range is among it
in_range : (a n b : ℕ) → a ≤ b → b < a + n → among (range_with_len a n) b ≡ true
in_range a n b low high =
    list_any_at (λ m. b == m) (range_with_len a n) (b - a) 0 (omega (arith, low, high, length-range_with_len a n))
    (eq-eqb b _ (omega (arith, low, high, get_or-range_with_len a n (b - a) 0 (omega (arith, low, high)))))

-- `whole` of a step and a part of one is below as many steps as there are
below_steps : (step whole count part : ℕ) → whole < count → part < step → step * whole + part < step * count
below_steps step whole zero part h p = absurd (omega (arith, h))
below_steps step zero (suc count) part h p = omega (arith, p)
below_steps step (suc whole) (suc count) part h p = omega (arith, below_steps step whole count part (omega (arith, h)) p)

under : (per blkno cpos n c part : ℕ) → cpos ≤ c → c < cpos + n → part < per → among (range_with_len blkno (n * per)) (blkno + per * (c - cpos) + part) ≡ true
under per blkno cpos n c part low high inside =
    let below : per * (c - cpos) + part < per * n = below_steps per (c - cpos) n part (omega (arith, low, high)) inside in
    in_range blkno (n * per) (blkno + per * (c - cpos) + part) (omega arith) (omega (arith, below))

maps_low : (c : ℕ) (r : Leaf) → maps_cluster c r ≡ true → r.cpos ≤ c
maps_low c r h = grind (arith, nat_tests)

maps_high : (c : ℕ) (r : Leaf) → maps_cluster c r ≡ true → c < r.cpos + r.clusters
maps_high c r h = grind (arith, nat_tests)

-- the block that a record tells for block j of a file is one of the record's
block_under : (v : Volume) (j : ℕ) (r : Leaf) → maps_cluster (j / per_cluster v) r ≡ true → among (blocks_under v r) (mapped_block (per_cluster v) (j / per_cluster v) r + j % per_cluster v) ≡ true
block_under v j r h =
    under (per_cluster v) r.block r.cpos r.clusters (j / per_cluster v) (j % per_cluster v)
    (maps_low (j / per_cluster v) r h) (maps_high (j / per_cluster v) r h) (mod-lt j (pow_pos (v.geo.cluster_bits - v.geo.block_bits)))

-- the blocks of the written ones of these records
abbrev written_blocks : Volume → List Leaf → List ℕ
written_blocks v rs = flat_map (blocks_under v) (filter is_written rs)

under_same : (v : Volume) (at : ℕ → List ℕ) (j o : ℕ) (r : Leaf) (rs : List Leaf) → maps_cluster (j / per_cluster v) r ≡ true → SameOn (written_blocks v (r ∷ rs)) v at → byte_under (over v at) j o r ≡ byte_under v j o r
under_same v at j o r rs maps same = elim (cases_Bool (is_written r)) [
  | inr hidden ↦ rw hidden refl
  | inl written ↦
      let place = mapped_block (per_cluster v) (j / per_cluster v) r + j % per_cluster v in
      let inside : among (written_blocks v (r ∷ rs)) place ≡ true = rw written (list_any-append (λ m. place == m) (blocks_under v r) (written_blocks v rs) ∙ or_left _ _ (block_under v j r maps)) in
      rw written (ap (λ bytes. slice_index bytes o) (same.same place inside))
]

rest_same : (v : Volume) (at : ℕ → List ℕ) (r : Leaf) (rs : List Leaf) → SameOn (written_blocks v (r ∷ rs)) v at → SameOn (written_blocks v rs) v at
rest_same v at r rs same = record {
  same = λ b h. same.same b (elim (cases_Bool (is_written r)) [
    | inr hidden ↦ rw hidden h
    | inl written ↦ rw written (list_any-append (λ m. b == m) (blocks_under v r) (written_blocks v rs) ∙ or_right _ _ h)
  ]);
}

byte_same : (v : Volume) (at : ℕ → List ℕ) (j o : ℕ) (rs : List Leaf) → SameOn (written_blocks v rs) v at
    → option_map_or (byte_under (over v at) j o) (find (maps_cluster (j / per_cluster v)) rs) 0 ≡ option_map_or (byte_under v j o) (find (maps_cluster (j / per_cluster v)) rs) 0
byte_same v at j o [] same = refl
byte_same v at j o (r ∷ rs) same = elim (cases_Bool (maps_cluster (j / per_cluster v) r)) [
  | inl maps ↦ rw maps (under_same v at j o r rs maps same)
  | inr other ↦ rw other (byte_same v at j o rs (rest_same v at r rs same))
]

bytes_map : (v : Volume) (at : ℕ → List ℕ) (rs : List Leaf) → SameOn (written_blocks v rs) v at → (ks : List ℕ) → map (byte_of (over v at) rs) ks ≡ map (byte_of v rs) ks
unfolding byte_in_block
bytes_map v at rs same [] = refl
bytes_map v at rs same (k ∷ ks) = rw (byte_same v at (k / block_size v) (k % block_size v) rs same, bytes_map v at rs same ks) refl

-- The bytes of a file or a link are the same.
pub bytes_same : (v : Volume) (at : ℕ → List ℕ) (b : ℕ) → at b ≡ v.at b → extents (over v at) b ≡ extents v b → SameOn (content_blocks v b) v at → bytes_of (over v at) b ≡ bytes_of v b
unfolding bytes_of
bytes_same v at b inode list same = elim (cases_Bool (is_inline v b)) [
  | inl inline ↦ rw (inode, inline) refl
  | inr outside ↦ elim (cases_Bool (is_fast_link v b)) [
    | inl fast ↦ rw (inode, outside, fast) refl
    | inr slow ↦ rw (inode, leaf_records, list, outside, slow) (bytes_map v at (leaf_records v b) same (range_with_len 0 (dinode v b).size))
  ]
]

content_kind : (v : Volume) (at : ℕ → List ℕ) (b : ℕ) → bytes_of (over v at) b ≡ bytes_of v b → directory_entries (over v at) b ≡ directory_entries v b → (o : Option Kind) → content_of_kind (over v at) b o ≡ content_of_kind v b o
content_kind v at b bytes entries None = refl
content_kind v at b bytes entries (Some File) = ap (λ xs. Bytes xs) bytes
content_kind v at b bytes entries (Some Link) = ap (λ xs. Bytes xs) bytes
content_kind v at b bytes entries (Some Directory) = ap (λ es. Entries (map (λ e. (e.inode, e.file_type, e.name)) es)) entries
content_kind v at b bytes entries (Some Character) = refl
content_kind v at b bytes entries (Some Block) = refl
content_kind v at b bytes entries (Some Fifo) = refl
content_kind v at b bytes entries (Some Socket) = refl

pub kind_same : (v : Volume) (at : ℕ → List ℕ) (b : ℕ) → at b ≡ v.at b → kind (over v at) b ≡ kind v b
kind_same v at b inode = ap (λ bytes. kind_of_mode (dinode_of bytes).mode) inode

-- What the inode holds is the same.
pub content_same : (v : Volume) (at : ℕ → List ℕ) (b : ℕ) → at b ≡ v.at b → extents (over v at) b ≡ extents v b → SameOn (content_blocks v b) v at → SameOn (map (λ x. x.block) (dir_blocks v b)) v at → content_of (over v at) b ≡ content_of v b
content_same v at b inode list written entries =
    ap (content_of_kind (over v at) b) (kind_same v at b inode)
    ∙ content_kind v at b (bytes_same v at b inode list written) (entries_same v at b inode list entries) (kind v b)

-- What a user sees of it is the same.
pub file_same : (v : Volume) (at : ℕ → List ℕ) (b : ℕ) → at b ≡ v.at b → content_of (over v at) b ≡ content_of v b → file_of (over v at) b ≡ file_of v b
unfolding attributes_of
file_same v at b inode content = rw (content, inode) refl
