-- What is counted of the entries of an index, and of those of its directory, is what the definitions ask of them.
use Rattle.std.proofs.Common.{◌≡◌, ℕ, ◌+◌, Bool, true, false, cond, ◌&&◌, ◌==◌, nat_le, List, [], ◌∷◌, map, filter, length, count_by, refl, sym, ◌∙◌, ap, arith}
use Rattle.std.specs.List.{list_all}
use Rattle.std.proofs.lemmas.List.Folds.{list_all-map}
use Rattle.std.proofs.lemmas.List.Sums.{sum_by-cons}
use Rattle.o2_ondisk.specs.NameHashes.{name_hash, is_ascii_name}
use Rattle.o2_ondisk.specs.declared.dx_entry.DxEntry.{DxEntry}
use Rattle.o2_ondisk.specs.declared.superblock.DxSeed.{DxSeed}
use Rattle.o2_model.specs.declared.entry.Entry.{Entry}
use Rattle.o2_model.specs.Directories.{dir_blocks, directory_entries}
use Rattle.o2_model.specs.Indexes.{index_root, dx_root, index_entries}
use Rattle.o2_model.specs.SoundIndexes.{is_same_hash, is_index_entry, has_sound_index_counts, is_found_in_index}
use Rattle.o2_model.specs.Volume.{Volume}
use Rattle.o2_tally.specs.Gathered.{count_of, IsCount}
use Rattle.o2_tally.specs.declared.counts.Counts.{Counts}
use Rattle.o2_indexes.specs.Places.{place_of_name, place_in_index, is_same_place, times_at, ArePlaceCounts}
use Rattle.o2_indexes.specs.declared.places.PlaceCounts.{PlaceCounts}

-- ---- counts
count_first : {A : Type 0} (p : A → Bool) (x : A) (xs : List A) → count_by p (x ∷ xs) ≡ cond (p x) 1 0 + count_by p xs
count_first p x xs = sum_by-cons (λ y. cond (p y) 1 0) x xs

count_same : {A : Type 0} (p q : A → Bool) → ((x : A) → p x ≡ q x) → (xs : List A) → count_by p xs ≡ count_by q xs
count_same p q same [] = refl
count_same p q same (x ∷ xs) =
    count_first p x xs
    ∙ (ap (λ b. cond b 1 0 + count_by p xs) (same x)
    ∙ (ap (λ n. cond (q x) 1 0 + n) (count_same p q same xs) ∙ sym (count_first q x xs)))

count_map : {A B : Type 0} (f : A → B) (p : B → Bool) (xs : List A) → count_by p (map f xs) ≡ count_by (λ x. p (f x)) xs
count_map f p [] = refl
count_map f p (x ∷ xs) =
    count_first p (f x) (map f xs)
    ∙ (ap (λ n. cond (p (f x)) 1 0 + n) (count_map f p xs) ∙ sym (count_first (λ y. p (f y)) x xs))

count_filter : {A : Type 0} (p q : A → Bool) (xs : List A) → count_by p (filter q xs) ≡ count_by (λ x. q x && p x) xs
count_filter p q [] = refl
count_filter p q (x ∷ xs) = by (q x) (count_filter p q xs) ∙ sym (count_first (λ y. q y && p y) x xs)
  where
    by : (b : Bool) → count_by p (filter q xs) ≡ count_by (λ y. q y && p y) xs
        → count_by p (cond b (x ∷ filter q xs) (filter q xs)) ≡ cond (b && p x) 1 0 + count_by (λ y. q y && p y) xs
    by true rest = count_first p x (filter q xs) ∙ ap (λ n. cond (p x) 1 0 + n) rest
    by false rest = rest ∙ none_more (count_by (λ y. q y && p y) xs)
      where
        none_more : (n : ℕ) → n ≡ 0 + n
        none_more n = omega arith

all_same : {A : Type 0} (p q : A → Bool) → ((x : A) → p x ≡ q x) → (xs : List A) → list_all p xs ≡ list_all q xs
all_same p q same [] = refl
all_same p q same (x ∷ xs) = ap (λ b. b && list_all p xs) (same x) ∙ ap (λ b. q x && b) (all_same p q same xs)

-- ---- by block
-- for each of these blocks as many index entries name it as entries stand in it
abbrev as_many : List Entry → List DxEntry → List ℕ → Bool
as_many es xs blocks = list_all (λ b. count_by (λ x. x.dirent_blk == b) xs == count_by (λ e. e.block == b) es) blocks

as_many_counted : (es : List Entry) (xs : List DxEntry) (indexed listed : Counts) → IsCount (map (λ x. x.dirent_blk) xs) indexed → IsCount (map (λ e. e.block) es) listed
    → (blocks : List ℕ) → list_all (λ b. count_of indexed b == count_of listed b) blocks ≡ as_many es xs blocks
as_many_counted es xs indexed listed in_index in_list blocks = all_same _ _ each blocks
  where
    each : (b : ℕ) → (count_of indexed b == count_of listed b) ≡ (count_by (λ x. x.dirent_blk == b) xs == count_by (λ e. e.block == b) es)
    each b =
        ap (λ n. n == count_of listed b) (in_index.each b ∙ count_map (λ (x : DxEntry). x.dirent_blk) (λ n. n == b) xs)
        ∙ ap (λ n. count_by (λ x. x.dirent_blk == b) xs == n) (in_list.each b ∙ count_map (λ (e : Entry). e.block) (λ n. n == b) es)

module _ (v : Volume) (d num : ℕ) (es : List Entry) (blocks : List ℕ) (xs : List DxEntry)
    (says : num ≡ (dx_root v (index_root v d)).num_entries) (live : es ≡ directory_entries v d)
    (stand : blocks ≡ map (λ b. b.block) (dir_blocks v d)) (indexed : xs ≡ index_entries v d) where
  -- the two lengths, and what stands in each block
  whole : (num == length es && length xs == length es && as_many es xs blocks) ≡ has_sound_index_counts v d
  whole =
      ap (λ n. n == length es && length xs == length es && as_many es xs blocks) says
      ∙ (ap (λ (ys : List DxEntry). (dx_root v (index_root v d)).num_entries == length es && length ys == length es && as_many es ys blocks) indexed
      ∙ (ap (λ (fs : List Entry). (dx_root v (index_root v d)).num_entries == length fs && length (index_entries v d) == length fs && as_many fs (index_entries v d) blocks) live
      ∙ ap
      (λ b. (dx_root v (index_root v d)).num_entries == length (directory_entries v d) && length (index_entries v d) == length (directory_entries v d) && b)
      (ap (as_many (directory_entries v d) (index_entries v d)) stand ∙ list_all-map _ (λ b. b.block) (dir_blocks v d))))

  pub other_lengths : (num == length es && length xs == length es) ≡ false → false ≡ has_sound_index_counts v d
  other_lengths other = sym (ap (λ same. same && as_many es xs blocks) other) ∙ whole

  -- with the same lengths the blocks decide
  pub same_lengths : (num == length es && length xs == length es) ≡ true → (indexed_counts listed_counts : Counts) → IsCount (map (λ x. x.dirent_blk) xs) indexed_counts
      → IsCount (map (λ e. e.block) es) listed_counts → list_all (λ b. count_of indexed_counts b == count_of listed_counts b) blocks ≡ has_sound_index_counts v d
  same_lengths same indexed_counts listed_counts in_index in_list =
      as_many_counted es xs indexed_counts listed_counts in_index in_list blocks
      ∙ (sym (ap (λ lengths. lengths && as_many es xs blocks) same) ∙ whole)

-- ---- by hash and block
-- each name of ASCII bytes is found: at least as many index entries have its hash and block as names do
abbrev finds : DxSeed → List Entry → List DxEntry → Bool
finds seed es xs =
    list_all
    (λ e. nat_le
    (count_by (λ f. is_ascii_name f.name && f.block == e.block && is_same_hash (name_hash seed f.name) (name_hash seed e.name)) es)
    (count_by (is_index_entry (name_hash seed e.name) e.block) xs))
    (filter (λ e. is_ascii_name e.name) es)

turned : (a b c : Bool) → (a && b && c) ≡ (b && c && a)
turned true true true = refl
turned true true false = refl
turned true false c = refl
turned false true true = refl
turned false true false = refl
turned false false c = refl

spread : (a b c e : Bool) → (a && (b && c && e)) ≡ (a && b && (c && e))
spread true true c e = refl
spread true false c e = refl
spread false b c e = refl

module _ (seed : DxSeed) (es : List Entry) (xs : List DxEntry) (names indexed : PlaceCounts)
    (of_names : ArePlaceCounts (map (place_of_name seed) (filter (λ e. is_ascii_name e.name) es)) names) (of_index : ArePlaceCounts (map place_in_index xs) indexed) where
  named_so : (e : Entry) → times_at names (place_of_name seed e) ≡ count_by (λ f. is_ascii_name f.name && f.block == e.block && is_same_hash (name_hash seed f.name) (name_hash seed e.name)) es
  named_so e =
      of_names.each (place_of_name seed e)
      ∙ (count_map (place_of_name seed) (is_same_place (place_of_name seed e)) (filter (λ f. is_ascii_name f.name) es)
      ∙ (count_filter (λ f. is_same_place (place_of_name seed e) (place_of_name seed f)) (λ f. is_ascii_name f.name) es
      ∙ count_same _ (λ f. is_ascii_name f.name && f.block == e.block && is_same_hash (name_hash seed f.name) (name_hash seed e.name))
      (λ f. spread (is_ascii_name f.name) (f.block == e.block) ((name_hash seed f.name).major == (name_hash seed e.name).major) ((name_hash seed f.name).minor == (name_hash seed e.name).minor)) es))

  indexed_so : (e : Entry) → times_at indexed (place_of_name seed e) ≡ count_by (is_index_entry (name_hash seed e.name) e.block) xs
  indexed_so e =
      of_index.each (place_of_name seed e)
      ∙ (count_map place_in_index (is_same_place (place_of_name seed e)) xs
      ∙ count_same _ (is_index_entry (name_hash seed e.name) e.block)
      (λ x. turned (x.dirent_blk == e.block) (x.major_hash == (name_hash seed e.name).major) (x.minor_hash == (name_hash seed e.name).minor)) xs)

  all_found : list_all (λ p. nat_le (times_at names p) (times_at indexed p)) (map (place_of_name seed) (filter (λ e. is_ascii_name e.name) es)) ≡ finds seed es xs
  all_found =
      list_all-map _ (place_of_name seed) (filter (λ e. is_ascii_name e.name) es)
      ∙ all_same _ _
      (λ e. ap (λ n. nat_le n (times_at indexed (place_of_name seed e))) (named_so e)
      ∙ ap (nat_le (count_by (λ f. is_ascii_name f.name && f.block == e.block && is_same_hash (name_hash seed f.name) (name_hash seed e.name)) es)) (indexed_so e))
      (filter (λ e. is_ascii_name e.name) es)

  pub found_told : (v : Volume) (d : ℕ) → seed ≡ v.geo.seed → es ≡ directory_entries v d → xs ≡ index_entries v d
      → list_all (λ p. nat_le (times_at names p) (times_at indexed p)) (map (place_of_name seed) (filter (λ e. is_ascii_name e.name) es)) ≡ is_found_in_index v d
  found_told v d from live in_index =
      all_found
      ∙ (ap (λ s. finds s es xs) from
      ∙ (ap (λ (fs : List Entry). finds v.geo.seed fs xs) live ∙ ap (finds v.geo.seed (directory_entries v d)) in_index))
