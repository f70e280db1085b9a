-- What is kept of a directory that is read whole, one block after the other.
use Rattle.std.proofs.Common.{◌≡◌, ℕ, ◌/◌, Bool, true, false, ◌&&◌, List, [], ◌∷◌, map, refl, sym, ◌∙◌, ap, subst}
use Rattle.std.specs.List.{list_all}
use Rattle.std.proofs.lemmas.List.{map_push}
use Rattle.std.proofs.lemmas.List.Folds.{list_all-append}
use Rattle.o2_model.specs.Words.{push}
use Rattle.o2_model.specs.Volume.{Volume, block_size, per_cluster, dinode}
use Rattle.o2_model.specs.Inodes.{is_inline, leaf_records}
use Rattle.o2_model.specs.Directories.{DirBlock, dir_blocks, directory_entries, inline_block, inline_bytes}
use Rattle.o2_model.specs.SoundIndexes.{ends_in_trailer, dir_block_bytes}
use Rattle.o2_model.specs.declared.leaf.Leaf.{Leaf}
use Rattle.o2_dir.specs.Blocks.{Keeps, block_at_place, places_of}
use Rattle.o2_dir.specs.WholeDirectories.{KeepsWhole, IsWholeDirectory}
use Rattle.o2_dir.specs.declared.whole_reading.WholeReading.{WholeReading}
use Rattle.o2_dir.specs.declared.directory_whole.WholeDirectory.{WholeDirectory}
use Rattle.o2_dir.proofs.AnyBlocks.{blocks_inside, blocks_mapped}

and_true : (b : Bool) → (b && true) ≡ b
and_true true = refl
and_true false = refl

all_push : {A : Type 0} (p : A → Bool) (xs : List A) (x : A) → list_all p (push xs x) ≡ (list_all p xs && p x)
all_push p xs x = list_all-append p xs (x ∷ []) ∙ ap (λ b. list_all p xs && b) (and_true (p x))

pub whole_more : (bytes_of : DirBlock → List ℕ) (old new : WholeReading) (bs : List DirBlock) (b : DirBlock) (bytes : List ℕ) → KeepsWhole bytes_of old bs
    → Keeps new.reading (push bs b) → new.blocks.items ≡ push old.blocks.items b.block → bytes_of b ≡ bytes → new.has_trailers ≡ (old.has_trailers && ends_in_trailer bytes)
    → KeepsWhole bytes_of new (push bs b)
whole_more bytes_of old new bs b bytes h kept block has ends = record {
  kept = kept;
  blocks = block ∙ (ap (λ ns. push ns b.block) h.blocks ∙ sym (map_push (λ x. x.block) bs b));
  trailers =
      ends
      ∙ (ap (λ t. t && ends_in_trailer bytes) h.trailers
      ∙ (ap (λ xs. list_all (λ x. ends_in_trailer (bytes_of x)) bs && ends_in_trailer xs) (sym has) ∙ sym (all_push (λ x. ends_in_trailer (bytes_of x)) bs b)));
}

-- ---- of a directory
pub whole_inlined : (v : Volume) (d : ℕ) (whole : WholeReading) → Keeps whole.reading (inline_block v d ∷ []) → whole.blocks.items ≡ d ∷ [] → whole.has_trailers ≡ ends_in_trailer (inline_bytes v d)
    → KeepsWhole (λ b. inline_bytes v d) whole (inline_block v d ∷ [])
whole_inlined v d whole kept one ends = record { kept = kept; blocks = one; trailers = ends ∙ sym (and_true (ends_in_trailer (inline_bytes v d))) }

all_same : {A : Type 0} (p q : A → Bool) → ((x : A) → p x ≡ q x) → (xs : List A) → list_all p xs ≡ list_all q xs
all_same p q same [] = refl
all_same p q same (x ∷ xs) = ap (λ b. b && list_all p xs) (same x) ∙ ap (λ b. q x && b) (all_same p q same xs)

-- the same blocks with the same bytes
same_bytes : (these those : DirBlock → List ℕ) (whole : WholeReading) (bs cs : List DirBlock) → ((b : DirBlock) → these b ≡ those b) → bs ≡ cs → KeepsWhole these whole bs → KeepsWhole those whole cs
same_bytes these those whole bs cs same are h =
    subst (KeepsWhole those whole) are
    (record { kept = h.kept; blocks = h.blocks; trailers = h.trailers ∙ all_same (λ b. ends_in_trailer (these b)) (λ b. ends_in_trailer (those b)) (λ b. ap ends_in_trailer (same b)) bs })

pub whole_inline : (v : Volume) (d : ℕ) (whole : WholeReading) → is_inline v d ≡ true → KeepsWhole (λ b. inline_bytes v d) whole (inline_block v d ∷ []) → KeepsWhole (dir_block_bytes v d) whole (dir_blocks v d)
whole_inline v d whole inside kept =
    same_bytes (λ b. inline_bytes v d) (dir_block_bytes v d) whole (inline_block v d ∷ []) (dir_blocks v d) (λ b. rw inside refl) (sym (blocks_inside v d inside)) kept

pub whole_mapped : (v : Volume) (d size : ℕ) (leaves : List Leaf) (whole : WholeReading) → is_inline v d ≡ false → size ≡ (dinode v d).size → leaves ≡ leaf_records v d
    → KeepsWhole (λ b. v.at b.block) whole (map (block_at_place v) (places_of (per_cluster v) (size / block_size v) leaves)) → KeepsWhole (dir_block_bytes v d) whole (dir_blocks v d)
whole_mapped v d size leaves whole outside tells are kept =
    same_bytes (λ b. v.at b.block) (dir_block_bytes v d) whole _ (dir_blocks v d) (λ b. rw outside refl) (blocks_mapped v d size leaves outside tells are) kept

pub whole_told : (v : Volume) (d : ℕ) (whole : WholeReading) (directory : WholeDirectory) → KeepsWhole (dir_block_bytes v d) whole (dir_blocks v d)
    → directory.entries ≡ whole.reading.entries.items → directory.blocks ≡ whole.blocks.items → directory.faults ≡ whole.reading.faults.items → directory.has_trailers ≡ whole.has_trailers
    → IsWholeDirectory v d directory
unfolding directory_entries
whole_told v d whole directory h entries blocks faults trailers = record {
  entries = entries ∙ h.kept.entries;
  blocks = blocks ∙ h.blocks;
  faults = faults ∙ h.kept.faults;
  trailers = trailers ∙ h.trailers;
}
