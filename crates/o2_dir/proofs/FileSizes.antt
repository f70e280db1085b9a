-- Whether the size of a file or a link is sound.
use Rattle.std.proofs.Common.{◌≡◌, ℕ, ◌-◌, ◌*◌, ◌^◌, Bool, true, false, cond, ◌||◌, ◌&&◌, List, length, refl, sym, ◌∙◌, ap, Option, Some, None}
use Rattle.std.specs.Prelude.{nat_le, nat_lt}
use Rattle.std.specs.List.{list_any}
use Rattle.o2_ondisk.specs.Number.{number_at}
use Rattle.o2_ondisk.specs.Kinds.{kind_of_mode}
use Rattle.o2_ondisk.specs.Dinodes.{dinode_of}
use Rattle.o2_ondisk.specs.declared.dinode.Dinode.{Dinode}
use Rattle.o2_ondisk.specs.declared.kind.Kind.{Kind}
use Rattle.o2_ondisk.specs.declared.kind.Kind.TheVariants.{File, Directory, Character, Block, Fifo, Socket, Link}
use Rattle.o2_model.specs.Words.{among}
use Rattle.o2_model.specs.Volume.{Volume, block_size, dinode}
use Rattle.o2_model.specs.Clusters.{cluster_size}
use Rattle.o2_model.specs.Inodes.{kind, is_inline, is_directory, is_directory_kind, is_file_kind, is_link_kind, has_fast_text, leaf_records}
use Rattle.o2_model.specs.Directories.{own_inodes}
use Rattle.o2_model.specs.Contents.{maps_cluster}
use Rattle.o2_model.specs.Checks.InodeSize.{is_link_size, is_file_size, is_size_of_kind, has_sound_size}
use Rattle.o2_model.specs.declared.geo.Geo.{Geo}
use Rattle.o2_model.specs.declared.leaf.Leaf.{Leaf}
use Rattle.o2_dir.specs.Fails.{HoldsLeaves}

-- ---- by the kind
of_link : (v : Volume) (b : ℕ) (k : Option Kind) → is_link_kind k ≡ true → is_size_of_kind v b k ≡ is_link_size v b
of_link v b None h = cc
of_link v b (Some Link) h = refl
of_link v b (Some File) h = cc
of_link v b (Some Directory) h = cc
of_link v b (Some Character) h = cc
of_link v b (Some Block) h = cc
of_link v b (Some Fifo) h = cc
of_link v b (Some Socket) h = cc

of_file : (v : Volume) (b : ℕ) (k : Option Kind) → is_file_kind k ≡ true → is_size_of_kind v b k ≡ is_file_size v b
of_file v b None h = cc
of_file v b (Some File) h = refl
of_file v b (Some Link) h = cc
of_file v b (Some Directory) h = cc
of_file v b (Some Character) h = cc
of_file v b (Some Block) h = cc
of_file v b (Some Fifo) h = cc
of_file v b (Some Socket) h = cc

of_other : (v : Volume) (b : ℕ) (k : Option Kind) → is_link_kind k ≡ false → is_directory_kind k ≡ false → is_file_kind k ≡ false → true ≡ is_size_of_kind v b k
of_other v b None link directory file = refl
of_other v b (Some File) link directory file = cc
of_other v b (Some Link) link directory file = cc
of_other v b (Some Directory) link directory file = cc
of_other v b (Some Character) link directory file = refl
of_other v b (Some Block) link directory file = refl
of_other v b (Some Fifo) link directory file = refl
of_other v b (Some Socket) link directory file = refl

-- ---- what a reader is told
pub inline_size : (v : Volume) (b size : ℕ) (bytes : List ℕ) → bytes ≡ v.at b → length bytes ≡ block_size v → size ≡ (dinode v b).size → is_inline v b ≡ true
    → (nat_le size (number_at 0xc0 2 bytes) && nat_le (number_at 0xc0 2 bytes) (length bytes - 200)) ≡ has_sound_size v b
unfolding has_sound_size
inline_size v b size bytes holds long tells inside = rw inside
    (ap (λ k. nat_le k (number_at 0xc0 2 bytes) && nat_le (number_at 0xc0 2 bytes) (length bytes - 200)) tells
    ∙ (ap (λ n. nat_le (dinode v b).size (number_at 0xc0 2 bytes) && nat_le (number_at 0xc0 2 bytes) (n - 200)) long
    ∙ ap (λ bs. nat_le (dinode v b).size (number_at 0xc0 2 bs) && nat_le (number_at 0xc0 2 bs) (block_size v - 200)) holds))

link_size_is : (n block : ℕ) (d e : Dinode) (leaves records : List Leaf) → d ≡ e → n ≡ block → leaves ≡ records
    → (nat_lt 0 d.size && cond (has_fast_text d) (nat_lt d.size (n - 192)) (list_any (maps_cluster 0) leaves)) ≡ (nat_lt 0 e.size && cond (has_fast_text e) (nat_lt e.size (block - 192)) (list_any (maps_cluster 0) records))
link_size_is n block d e leaves records same long are =
    ap (λ (x : Dinode). nat_lt 0 x.size && cond (has_fast_text x) (nat_lt x.size (n - 192)) (list_any (maps_cluster 0) leaves)) same
    ∙ (ap (λ k. nat_lt 0 e.size && cond (has_fast_text e) (nat_lt e.size (k - 192)) (list_any (maps_cluster 0) leaves)) long
    ∙ ap (λ (ls : List Leaf). nat_lt 0 e.size && cond (has_fast_text e) (nat_lt e.size (block - 192)) (list_any (maps_cluster 0) ls)) are)

pub link_size : (v : Volume) (b : ℕ) (d : Dinode) (bytes : List ℕ) (leaves : List Leaf) → HoldsLeaves v b bytes leaves → length bytes ≡ block_size v → d ≡ dinode_of bytes → is_inline v b ≡ false → is_link_kind (kind v b) ≡ true
    → (nat_lt 0 d.size && cond (has_fast_text d) (nat_lt d.size (length bytes - 192)) (list_any (maps_cluster 0) leaves)) ≡ has_sound_size v b
unfolding has_sound_size
link_size v b d bytes leaves read long tells outside link = rw outside
    (link_size_is (length bytes) (block_size v) d (dinode v b) leaves (leaf_records v b) (tells ∙ ap dinode_of read.holds) long read.are
    ∙ sym (of_link v b (kind v b) link))

pub file_size : (v : Volume) (b size : ℕ) → size ≡ (dinode v b).size → is_inline v b ≡ false → is_file_kind (kind v b) ≡ true
    → (nat_le size (cluster_size v * 2 ^ 32) || among (own_inodes v) b) ≡ has_sound_size v b
unfolding has_sound_size
file_size v b size tells outside file = rw outside
    (ap (λ k. nat_le k (cluster_size v * 2 ^ 32) || among (own_inodes v) b) tells
    ∙ sym (of_file v b (kind v b) file))

-- what is told of a file's size, where its dinode and the numbers are known
pub may_have_told : (v : Volume) (geo : Geo) (b size : ℕ) (may : Bool) → v.geo ≡ geo → size ≡ (dinode v b).size → may ≡ (nat_le size (2 ^ geo.cluster_bits * 2 ^ 32) || among (own_inodes v) b) → may ≡ is_file_size v b
may_have_told v geo b size may same tells is =
    is
    ∙ (ap (λ (x : Geo). nat_le size (2 ^ x.cluster_bits * 2 ^ 32) || among (own_inodes v) b) (sym same)
    ∙ ap (λ k. nat_le k (cluster_size v * 2 ^ 32) || among (own_inodes v) b) tells)

pub other_size : (v : Volume) (b : ℕ) → is_inline v b ≡ false → is_link_kind (kind v b) ≡ false → is_directory_kind (kind v b) ≡ false → is_file_kind (kind v b) ≡ false → true ≡ has_sound_size v b
unfolding has_sound_size
other_size v b outside link directory file = rw outside (of_other v b (kind v b) link directory file)

pub directory_is : (v : Volume) (b : ℕ) → is_directory_kind (kind v b) ≡ true → is_directory v b ≡ true
unfolding is_directory
directory_is v b h = h

-- what a test of the dinode's kind says of the inode's
pub kind_test_told : (test : Option Kind → Bool) (bytes at : List ℕ) (d : Dinode) (told_of is : Bool) → bytes ≡ at → d ≡ dinode_of bytes → told_of ≡ test (kind_of_mode d.mode) → told_of ≡ is → test (kind_of_mode (dinode_of at).mode) ≡ is
kind_test_told test bytes at d told_of is holds dinode_is tells tested =
    ap (λ bs. test (kind_of_mode (dinode_of bs).mode)) (sym holds)
    ∙ (ap (λ (x : Dinode). test (kind_of_mode x.mode)) (sym dinode_is) ∙ (sym tells ∙ tested))
