-- The blocks of a directory, also where something is wrong with it.
use Rattle.std.proofs.Common.{◌≡◌, ℕ, ◌-◌, ◌/◌, ◌^◌, ◌<◌, ◌≤◌, Bool, true, false, cond, List, [], ◌∷◌, ◌++◌, map, length, take, drop, refl, sym, ◌∙◌, ap, subst, arith, Option, None, unwrap_or}
use Rattle.std.specs.Prelude.{nat_le}
use Rattle.std.proofs.lemmas.List.{append-nil}
use Rattle.std.proofs.lemmas.Bool.Decides.{nat_tests}
use Rattle.o2_ondisk.specs.Bits.{has_bits, inline_data_dyn_feature}
use Rattle.o2_ondisk.specs.Dinodes.{dinode_of}
use Rattle.o2_ondisk.specs.declared.dinode.Dinode.{Dinode}
use Rattle.o2_model.specs.Volume.{Volume, block_size, per_cluster, dinode}
use Rattle.o2_model.specs.Inodes.{is_inline, leaf_records}
use Rattle.o2_model.specs.Directories.{NamedEntry, DirBlock, dir_blocks, entries_in, inline_block, live_from}
use Rattle.o2_model.specs.declared.leaf.Leaf.{Leaf}
use Rattle.o2_dir.specs.Blocks.{Keeps, blocks_in_dinode, block_at_place, places_of}
use Rattle.o2_dir.specs.declared.reading.Reading.{Reading}
use Rattle.o2_dir.proofs.Kept.{empty_unsound, keeps_bad}
use Rattle.o2_dir.proofs.Whole.{mapped_all}

-- ---- inline bytes
fits : (size n p : ℕ) → n ≡ p → size ≤ n - 200 → nat_le size (p - 200) ≡ true
fits size n p long room = grind (arith, nat_tests)

too_long : (size n p : ℕ) → n ≡ p → n - 200 < size → nat_le size (p - 200) ≡ false
too_long size n p long room = grind (arith, nat_tests)

found_is : (size n p : ℕ) (at bytes : List ℕ) → n ≡ p → bytes ≡ at → size ≤ n - 200 → size ≡ (dinode_of bytes).size
    → entries_in (take size (drop 0xc8 bytes)) ≡ cond (nat_le (dinode_of at).size (p - 200)) (entries_in (take (dinode_of at).size (drop 0xc8 at))) None
found_is size n p at bytes long holds room tells =
    let same : size ≡ (dinode_of at).size = tells ∙ ap (λ bs. (dinode_of bs).size) holds in
    let good : nat_le (dinode_of at).size (p - 200) ≡ true = ap (λ k. nat_le k (p - 200)) (sym same) ∙ fits size n p long room in
    ap entries_in (ap (λ k. take k (drop 0xc8 bytes)) same ∙ ap (λ bs. take (dinode_of at).size (drop 0xc8 bs)) holds)
    ∙ ap (λ (b : Bool). cond b (entries_in (take (dinode_of at).size (drop 0xc8 at))) None) (sym good)

one_block : ℕ → Option (List NamedEntry) → List DirBlock
one_block d o = record { place = 0; block = d; found = o } ∷ []

pub inline_read : (v : Volume) (d size : ℕ) (bytes : List ℕ) (reading : Reading) → bytes ≡ v.at d → length bytes ≡ 2 ^ v.geo.block_bits → size ≡ (dinode_of bytes).size → size ≤ length bytes - 200
    → Keeps reading (blocks_in_dinode d size bytes) → Keeps reading (inline_block v d ∷ [])
unfolding one_block blocks_in_dinode
inline_read v d size bytes reading holds long tells room kept =
    subst (λ (o : Option (List NamedEntry)). Keeps reading (one_block d o)) (found_is size (length bytes) (block_size v) (v.at d) bytes long holds room tells) kept

none_found : (size n p : ℕ) (at bytes : List ℕ) → n ≡ p → bytes ≡ at → n - 200 < size → size ≡ (dinode_of bytes).size
    → cond (nat_le (dinode_of at).size (p - 200)) (entries_in (take (dinode_of at).size (drop 0xc8 at))) None ≡ None
none_found size n p at bytes long holds room tells =
    let same : size ≡ (dinode_of at).size = tells ∙ ap (λ bs. (dinode_of bs).size) holds in
    let bad : nat_le (dinode_of at).size (p - 200) ≡ false = ap (λ k. nat_le k (p - 200)) (sym same) ∙ too_long size n p long room in
    ap (λ (b : Bool). cond b (entries_in (take (dinode_of at).size (drop 0xc8 at))) None) bad

pub inline_unread : (v : Volume) (d size : ℕ) (bytes : List ℕ) (old new : Reading) → bytes ≡ v.at d → length bytes ≡ 2 ^ v.geo.block_bits → size ≡ (dinode_of bytes).size → length bytes - 200 < size
    → Keeps old [] → new.faults.items ≡ old.faults.items ++ d ∷ [] → new.entries.items ≡ old.entries.items → Keeps new (inline_block v d ∷ [])
inline_unread v d size bytes old new holds long tells room kept one same =
    let none : (inline_block v d).found ≡ None = none_found size (length bytes) (block_size v) (v.at d) bytes long holds room tells in
    keeps_bad old new [] (inline_block v d) (empty_unsound (inline_block v d) none) one
    (same ∙ (sym (append-nil old.entries.items) ∙ ap (λ (o : Option (List NamedEntry)). old.entries.items ++ live_from d 0 (unwrap_or o [])) (sym none)))
    kept

pub blocks_inside : (v : Volume) (d : ℕ) → is_inline v d ≡ true → dir_blocks v d ≡ inline_block v d ∷ []
unfolding dir_blocks
blocks_inside v d inside = rw inside refl

-- ---- mapped blocks
pub blocks_mapped : (v : Volume) (d size : ℕ) (leaves : List Leaf) → is_inline v d ≡ false → size ≡ (dinode v d).size → leaves ≡ leaf_records v d
    → map (block_at_place v) (places_of (per_cluster v) (size / block_size v) leaves) ≡ dir_blocks v d
unfolding dir_blocks
blocks_mapped v d size leaves outside tells are =
    rw outside
    (ap (λ (ls : List Leaf). map (block_at_place v) (places_of (per_cluster v) (size / block_size v) ls)) are
    ∙ (ap (λ n. map (block_at_place v) (places_of (per_cluster v) (n / block_size v) (leaf_records v d))) tells
    ∙ sym (mapped_all v ((dinode v d).size / block_size v) (leaf_records v d))))

-- ---- what a reader is told of the dinode
pub inline_told : (bytes at : List ℕ) (d : Dinode) (told_of is : Bool) → bytes ≡ at → d ≡ dinode_of bytes → told_of ≡ has_bits d.dyn_features.0 inline_data_dyn_feature → told_of ≡ is → has_bits (dinode_of at).dyn_features.0 inline_data_dyn_feature ≡ is
inline_told bytes at d told_of is holds dinode_is tells tested =
    ap (λ bs. has_bits (dinode_of bs).dyn_features.0 inline_data_dyn_feature) (sym holds)
    ∙ (ap (λ (x : Dinode). has_bits x.dyn_features.0 inline_data_dyn_feature) (sym dinode_is) ∙ (sym tells ∙ tested))

pub size_told_of : (bytes at : List ℕ) (d : Dinode) → bytes ≡ at → d ≡ dinode_of bytes → d.size ≡ (dinode_of at).size
size_told_of bytes at d holds dinode_is = ap (λ (x : Dinode). x.size) dinode_is ∙ ap (λ bs. (dinode_of bs).size) holds
