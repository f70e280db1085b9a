-- Where nothing fails, blocks that agree on the held ones have the same extents, entries and contents of inodes.
use Rattle.std.proofs.Common.{◌≡◌, ⊎_elim, ℕ, true, false, ◌==◌, List, [], ◌∷◌, refl, sym, ◌∙◌, ap, subst}
use Rattle.std.specs.Prelude.{flat_map}
use Rattle.std.specs.List.{AllByRecursion, Contains, range_with_len}
use Rattle.std.proofs.lemmas.Bool.{or_left, or_cases, eq-eqb, eqb-true}
use Rattle.std.proofs.lemmas.List.Folds.{list_any-append}
use Rattle.o2_model.specs.declared.check.Check.TheVariants as check
use Rattle.o2_model.specs.Words.{among}
use Rattle.o2_model.specs.Volume.{Volume, over, blocks}
use Rattle.o2_model.specs.Inodes.{extents, extent_blocks_of}
use Rattle.o2_model.specs.Directories.{dir_blocks, entries_of_block, directory_entries}
use Rattle.o2_model.specs.Contents.{content_of}
use Rattle.o2_model.specs.Files.{file_of}
use Rattle.o2_model.specs.Journals.{journals}
use Rattle.o2_model.specs.Groups.{is_inode, inodes_of}
use Rattle.o2_model.specs.Metadata.{list_blocks, refcount_blocks, metadata_blocks}
use Rattle.o2_model.specs.Checks.Extent.{extent_faults}
use Rattle.o2_model.specs.Checks.MetaBlock.{meta_block_faults}
use Rattle.o2_model.specs.Failing.{faults, failing}
use Rattle.o2_laws.proofs.Held.HeldBlocks.{is_held}
use Rattle.o2_laws.proofs.Held.HeldBlocks.{AgreesOnHeld}
use Rattle.o2_laws.proofs.NothingFails.{no_check_fails}
use Rattle.o2_laws.proofs.Readings.{extents_same}
use Rattle.o2_model.proofs.Readings.{faults_of_own_list}
use Rattle.o2_laws.proofs.SameEntries.{dir_blocks_same}
use Rattle.o2_laws.proofs.SameContents.{content_same, file_same}
use Rattle.o2_laws.proofs.Found.{append_nothing, any_flat, each_of}
use Rattle.o2_laws.proofs.Members.{contains_filter, among_contains}
use Rattle.o2_laws.proofs.WellRead.{extents_well, extent_blocks_are}
use Rattle.o2_laws.proofs.Held.BitsHeld.{dinode_held, metadata_held}
use Rattle.o2_laws.proofs.Held.DataHeld.{among_inodes, content_held, directory_held}

-- ---- checks
pub each_nothing : {A B : Type 0} (f : A → List B) (xs : List A) → flat_map f xs ≡ [] → AllByRecursion (λ x. f x ≡ []) xs
each_nothing f [] h = tt
each_nothing f (x ∷ xs) h =
    let parts = append_nothing (f x) (flat_map f xs) h in
    (parts.0, each_nothing f xs parts.1)

-- an inode is one of the list
pub inode_listed : (v : Volume) (i : ℕ) → is_inode v i ≡ true → Contains (inodes_of v) i
inode_listed v i is = among_contains (inodes_of v) i (among_inodes v i (λ b. i == b) is (eq-eqb i i refl))

pub listed_is_inode : (v : Volume) (i : ℕ) → Contains (inodes_of v) i → is_inode v i ≡ true
unfolding inodes_of
listed_is_inode v i is = (contains_filter (is_inode v) (range_with_len 0 (blocks v)) i is).1

extents_hold : (v : Volume) → failing v ≡ [] → flat_map (extent_faults v) (inodes_of v) ≡ []
unfolding faults
extents_hold v none = no_check_fails v none check.Extent

pub metadata_holds : (v : Volume) → failing v ≡ [] → meta_block_faults v ≡ []
unfolding faults
metadata_holds v none = no_check_fails v none check.MetaBlock

pub no_extent_fault : (v : Volume) (i : ℕ) → failing v ≡ [] → is_inode v i ≡ true → (extents v i).faults ≡ []
no_extent_fault v i none is =
    sym (faults_of_own_list v i) ∙ each_of (λ b. extent_faults v b ≡ []) (inodes_of v) i (each_nothing (extent_faults v) (inodes_of v) (extents_hold v none)) (inode_listed v i is)

-- ---- extents
pub extent_block_listed : (v : Volume) (i b : ℕ) → is_inode v i ≡ true → among (extents v i).blocks b ≡ true → among (metadata_blocks v) b ≡ true
unfolding metadata_blocks list_blocks
extent_block_listed v i b is h =
    list_any-append (λ m. b == m) (flat_map (extent_blocks_of v) (inodes_of v)) (refcount_blocks v)
    ∙ or_left _ _ (any_flat (λ m. b == m) (extent_blocks_of v) (inodes_of v) ∙ among_inodes v i (λ d. among (extent_blocks_of v d) b) is (ap (λ bs. among bs b) (extent_blocks_are v i) ∙ h))

-- the blocks that the reading of an inode's extents looks at
pub looked_at_held : (v : Volume) (i b : ℕ) → failing v ≡ [] → is_inode v i ≡ true → among (extents v i).seen b ≡ true → is_held v b ≡ true
looked_at_held v i b none is h =
    let blocks : among (extents v i).blocks b ≡ true = ap (λ bs. among bs b) (sym ((extents_well v i).seen (no_extent_fault v i none is))) ∙ h in
    metadata_held v b (metadata_holds v none) (extent_block_listed v i b is blocks)

pub dinode_same : (v : Volume) (at : ℕ → List ℕ) (i : ℕ) → AgreesOnHeld v at → is_inode v i ≡ true → at i ≡ v.at i
dinode_same v at i agrees is = agrees.same i (dinode_held v i is)

pub held_tell_extents : (v : Volume) (at : ℕ → List ℕ) (i : ℕ) → failing v ≡ [] → AgreesOnHeld v at → is_inode v i ≡ true → extents (over v at) i ≡ extents v i
held_tell_extents v at i none agrees is =
    extents_same v at i (record {
      same = λ b h. ⊎_elim
          (λ here. subst (λ x. at x ≡ v.at x) (sym (eqb-true b i here)) (dinode_same v at i agrees is))
          (λ there. agrees.same b (looked_at_held v i b none is there))
          (or_cases (b == i) (among (extents v i).seen b) h);
    }) (no_extent_fault v i none is)

-- ---- entries and contents
pub held_tell_dir_blocks : (v : Volume) (at : ℕ → List ℕ) (d : ℕ) → failing v ≡ [] → AgreesOnHeld v at → is_inode v d ≡ true → among (journals v) d ≡ false → dir_blocks (over v at) d ≡ dir_blocks v d
held_tell_dir_blocks v at d none agrees is apart =
    dir_blocks_same v at d (dinode_same v at d agrees is) (held_tell_extents v at d none agrees is)
    (record { same = λ b h. agrees.same b (directory_held v d b is apart h) })

pub held_tell_entries : (v : Volume) (at : ℕ → List ℕ) (d : ℕ) → failing v ≡ [] → AgreesOnHeld v at → is_inode v d ≡ true → among (journals v) d ≡ false → directory_entries (over v at) d ≡ directory_entries v d
unfolding directory_entries
held_tell_entries v at d none agrees is apart =
    ap (flat_map entries_of_block) (held_tell_dir_blocks v at d none agrees is apart)

pub held_tell_content : (v : Volume) (at : ℕ → List ℕ) (i : ℕ) → failing v ≡ [] → AgreesOnHeld v at → is_inode v i ≡ true → among (journals v) i ≡ false → content_of (over v at) i ≡ content_of v i
held_tell_content v at i none agrees is apart =
    content_same v at i (dinode_same v at i agrees is) (held_tell_extents v at i none agrees is)
    (record { same = λ b h. agrees.same b (content_held v i b is apart h) })
    (record { same = λ b h. agrees.same b (directory_held v i b is apart h) })

pub held_tell_file : (v : Volume) (at : ℕ → List ℕ) (i : ℕ) → failing v ≡ [] → AgreesOnHeld v at → is_inode v i ≡ true → among (journals v) i ≡ false → file_of (over v at) i ≡ file_of v i
held_tell_file v at i none agrees is apart = file_same v at i (dinode_same v at i agrees is) (held_tell_content v at i none agrees is apart)
