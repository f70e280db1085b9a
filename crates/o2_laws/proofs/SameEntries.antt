-- Two volumes that agree on a directory's inode, extent blocks and blocks have the same entries.
use Rattle.std.proofs.Common.{◌≡◌, inl, inr, ℕ, ◌+◌, ◌||◌, ◌==◌, List, [], ◌∷◌, ◌++◌, map, refl, ◌∙◌, ap}
use Rattle.std.specs.Prelude.{filter, flat_map}
use Rattle.std.proofs.lemmas.Bool.{cases_Bool, or_right, or_left, eq-eqb}
use Rattle.std.proofs.lemmas.List.Folds.{list_any-append}
use Rattle.std.proofs.lemmas.List.{map-append}
use Rattle.o2_model.specs.Words.{among}
use Rattle.o2_model.specs.Volume.{Volume, over}
use Rattle.o2_model.specs.declared.leaf.Leaf.{Leaf}
use Rattle.o2_model.specs.Inodes.{extents, leaf_records, is_inline}
use Rattle.o2_model.specs.Directories.{DirBlock, dir_block, mapped, is_written, dir_blocks, entries_of_block, directory_entries}
use Rattle.o2_laws.specs.Frames.{SameOn}

abbrev places : List DirBlock → List ℕ
places bs = map (λ b. b.block) bs

-- the blocks of a record
run_same : (v : Volume) (at : ℕ → List ℕ) (place block : ℕ) (ks : List ℕ) → SameOn (places (map (dir_block v place block) ks)) v at → map (dir_block (over v at) place block) ks ≡ map (dir_block v place block) ks
run_same v at place block [] same = refl
run_same v at place block (k ∷ ks) same =
    rw (same.same (block + k) (or_left _ _ (eq-eqb (block + k) (block + k) refl)), run_same v at place block ks (record { same = λ b h. same.same b (or_right _ _ h) })) refl

records_same : (v : Volume) (at : ℕ → List ℕ) (limit : ℕ) (rs : List Leaf) → SameOn (places (flat_map (mapped v limit) rs)) v at → flat_map (mapped (over v at) limit) rs ≡ flat_map (mapped v limit) rs
records_same v at limit [] same = refl
records_same v at limit (r ∷ rs) same =
    let parts : (b : ℕ) → among (places (flat_map (mapped v limit) (r ∷ rs))) b ≡ (among (places (mapped v limit r)) b || among (places (flat_map (mapped v limit) rs)) b)
    = λ b. ap (λ ns. among ns b) (map-append (λ (x : DirBlock). x.block) (mapped v limit r) _) ∙ list_any-append (λ m. b == m) (places (mapped v limit r)) _ in
    let here : mapped (over v at) limit r ≡ mapped v limit r = run_same v at _ _ _ (record { same = λ b h. same.same b (parts b ∙ or_left _ _ h) }) in
    let rest = records_same v at limit rs (record { same = λ b h. same.same b (parts b ∙ or_right _ _ h) }) in
    ap (λ bs. bs ++ flat_map (mapped (over v at) limit) rs) here ∙ ap (λ bs. mapped v limit r ++ bs) rest

-- the blocks of a directory, each with its entries
pub dir_blocks_same : (v : Volume) (at : ℕ → List ℕ) (d : ℕ) → at d ≡ v.at d → extents (over v at) d ≡ extents v d → SameOn (places (dir_blocks v d)) v at → dir_blocks (over v at) d ≡ dir_blocks v d
unfolding dir_blocks
dir_blocks_same v at d inode list same = elim (cases_Bool (is_inline v d)) [
  | inl inline ↦ rw (inode, inline) refl
  | inr outside ↦ rw (inode, leaf_records, list, outside, records_same v at _ (filter is_written (leaf_records v d)) (rw outside at same)) refl
]

pub entries_same : (v : Volume) (at : ℕ → List ℕ) (d : ℕ) → at d ≡ v.at d → extents (over v at) d ≡ extents v d → SameOn (places (dir_blocks v d)) v at → directory_entries (over v at) d ≡ directory_entries v d
unfolding directory_entries
entries_same v at d inode list same = ap (flat_map entries_of_block) (dir_blocks_same v at d inode list same)
