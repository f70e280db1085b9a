-- Where groups, bits, inodes and entries are the same, so are the inodes, what directories follow, and the tree.
use Rattle.std.proofs.Common.{◌≡◌, inl, inr, ℕ, true, false, not, ◌&&◌, List, [], ◌∷◌, map, refl, sym, ◌∙◌, ap, Option, Some, None}
use Rattle.std.specs.Prelude.{filter, nat_lt}
use Rattle.std.specs.List.{list_any, range_with_len}
use Rattle.std.specs.Option.{option_map_or}
use Rattle.std.proofs.lemmas.Bool.{cases_Bool, and_right, and_parts, or_left, or_right, eq-eqb}
use Rattle.std.proofs.lemmas.List.Elements.{filter_agree}
use Rattle.o2_model.specs.declared.allocator.Group.{Group}
use Rattle.o2_model.specs.Words.{among}
use Rattle.o2_model.specs.Volume.{Volume, over, blocks, is_valid}
use Rattle.o2_model.specs.Inodes.{is_directory}
use Rattle.o2_model.specs.declared.entry.Entry.{Entry}
use Rattle.o2_model.specs.Directories.{directory_entries, is_dot, named_entries, own_inodes}
use Rattle.o2_model.specs.Allocators.{are_inodes, allocators}
use Rattle.o2_model.specs.Groups.{group_walk, is_bit_set_in, groups, is_bit_set, bit_of_block, is_on_set_bit, is_inode, inodes_of, has_inode_bit}
use Rattle.o2_model.specs.Tree.{names_users, followed, tree_walk}
use Rattle.o2_laws.specs.Frames.{IsIn, SameOn, SameTables, SameSystemFiles, group_blocks}
use Rattle.o2_laws.proofs.SameGroups.{groups_keep}
use Rattle.o2_laws.proofs.SameAllocators.{allocators_same, own_same}
use Rattle.o2_laws.proofs.SameTree.{tree_walk-same}

bit_same_at : (v : Volume) (at : ℕ → List ℕ) (block : ℕ) → ((k : ℕ) → is_bit_set (over v at) block k ≡ is_bit_set v block k) → (o : Option ℕ)
    → option_map_or (λ k. nat_lt 0 k && is_bit_set (over v at) block k) o false ≡ option_map_or (λ k. nat_lt 0 k && is_bit_set v block k) o false
bit_same_at v at block same None = refl
bit_same_at v at block same (Some k) = ap (λ x. nat_lt 0 k && x) (same k)

bits_same : (v : Volume) (at : ℕ → List ℕ) (b : ℕ) (gs : List Group) → ((block : ℕ) → among (map (λ g. g.block) gs) block ≡ true → (k : ℕ) → is_bit_set (over v at) block k ≡ is_bit_set v block k)
    → list_any (λ g. are_inodes g.of.bit_use && is_on_set_bit (over v at) b g) gs ≡ list_any (λ g. are_inodes g.of.bit_use && is_on_set_bit v b g) gs
bits_same v at b [] same = refl
bits_same v at b (g ∷ gs) same =
    let here : is_on_set_bit (over v at) b g ≡ is_on_set_bit v b g = bit_same_at v at g.block (same g.block (or_left _ _ (eq-eqb g.block g.block refl))) (bit_of_block v g b) in
    rw (here, bits_same v at b gs (λ block h. same block (or_right _ _ h))) refl

bit_same : (v : Volume) (at : ℕ → List ℕ) → SameTables v at → (b : ℕ) → has_inode_bit (over v at) b ≡ has_inode_bit v b
bit_same v at same b =
    ap (λ w. list_any (λ g. are_inodes g.of.bit_use && is_on_set_bit (over v at) b g) w.groups) same.groups
    ∙ bits_same v at b (groups v) same.bits

pub valid_same : (v : Volume) (at : ℕ → List ℕ) (b : ℕ) → at b ≡ v.at b → is_valid (over v at) b ≡ is_valid v b
unfolding is_valid
valid_same v at b same = rw same refl

pub is_inode-same : (v : Volume) (at : ℕ → List ℕ) → SameTables v at → (b : ℕ) → is_inode (over v at) b ≡ is_inode v b
unfolding is_inode
is_inode-same v at same b = elim (cases_Bool (has_inode_bit v b)) [
  | inl bit ↦ ap (λ x. is_valid (over v at) b && x) (bit_same v at same b) ∙ ap (λ x. x && has_inode_bit v b) (valid_same v at b (same.inodes b bit))
  | inr none ↦ and_right (is_valid (over v at) b) (has_inode_bit (over v at) b) (bit_same v at same b ∙ none) ∙ sym (and_right (is_valid v b) (has_inode_bit v b) none)
]

pub inodes-same : (v : Volume) (at : ℕ → List ℕ) → SameTables v at → inodes_of (over v at) ≡ inodes_of v
unfolding inodes_of
inodes-same v at same = filter_agree (is_inode (over v at)) (is_inode v) (is_inode-same v at same) (range_with_len 0 (blocks v))

inode_at_same : (v : Volume) (at : ℕ → List ℕ) → SameTables v at → (b : ℕ) → is_inode v b ≡ true → at b ≡ v.at b
unfolding is_inode
inode_at_same v at same b h = same.inodes b (and_parts _ _ h).1

pub users_same : (v : Volume) (at : ℕ → List ℕ) (e : Entry) → is_inode (over v at) e.inode ≡ is_inode v e.inode → own_inodes (over v at) ≡ own_inodes v
    → (is_inode v e.inode ≡ true → at e.inode ≡ v.at e.inode) → names_users (over v at) e ≡ names_users v e
unfolding names_users
users_same v at e inode own same = elim (cases_Bool (is_inode v e.inode)) [
  | inl there ↦ rw (inode, own, same there) refl
  | inr absent ↦ rw (inode, absent) refl
]

pub followed-same : (v : Volume) (at : ℕ → List ℕ) → SameTables v at → (d : ℕ) → IsIn v d → followed (over v at) d ≡ followed v d
followed-same v at same d inside =
    ap (λ es. filter (names_users (over v at)) (filter (λ e. not (is_dot e)) es)) (same.entries d inside)
    ∙ filter_agree (names_users (over v at)) (names_users v) (λ e. users_same v at e (is_inode-same v at same e.inode) same.own (inode_at_same v at same e.inode)) (named_entries v d)

pub directory_same : (v : Volume) (at : ℕ → List ℕ) (b : ℕ) → at b ≡ v.at b → is_directory (over v at) b ≡ is_directory v b
unfolding is_directory
directory_same v at b same = rw same refl

-- The tree is the same.
pub tree-same : (v : Volume) (at : ℕ → List ℕ) → SameTables v at → tree_walk (over v at) ≡ tree_walk v
tree-same v at same = tree_walk-same v at (IsIn v) (record {
  good = record { root = inl refl; named = λ b inode directory. inr inode };
  kind = λ b inode. directory_same v at b (inode_at_same v at same b inode);
  entries = followed-same v at same;
})

-- ---- from blocks to tables
bits_of_bytes : (v : Volume) (at : ℕ → List ℕ) (b k : ℕ) → at b ≡ v.at b → is_bit_set (over v at) b k ≡ is_bit_set v b k
bits_of_bytes v at b k same = ap (λ bytes. is_bit_set_in 0x40 bytes k) same

-- The tables are the same where these blocks are: the dinodes of the volume's own files, the groups, and the inodes.
pub tables_of_blocks : (v : Volume) (at : ℕ → List ℕ) → SameSystemFiles v at → SameOn (map (λ a. a.block) (allocators v)) v at → SameOn (group_blocks (group_walk v)) v at → (group_walk v).faults ≡ []
    → ((b : ℕ) → has_inode_bit v b ≡ true → at b ≡ v.at b) → ((d : ℕ) → IsIn v d → directory_entries (over v at) d ≡ directory_entries v d) → SameTables v at
tables_of_blocks v at files dinodes descriptors none inodes entries = record {
  groups = groups_keep v at (allocators_same v at files) dinodes descriptors none;
  bits = λ b inside k. bits_of_bytes v at b k (descriptors.same b inside);
  inodes = inodes;
  own = own_same v at files;
  entries = entries;
}
