-- What is kept of a directory's blocks, one after the other.
use Rattle.std.proofs.Common.{◌≡◌, ℕ, true, false, ◌||◌, not, ◌==◌, List, [], ◌∷◌, ◌++◌, map, filter, flat_map, refl, sym, ◌∙◌, ap, Option, Some, None, option_map, is_some, unwrap_or}
use Rattle.std.proofs.lemmas.List.{append-nil, map_push}
use Rattle.std.proofs.lemmas.List.Elements.{filter-append}
use Rattle.std.proofs.lemmas.Grind.{flat_map-append}
use Rattle.o2_model.specs.Words.{push}
use Rattle.o2_model.specs.Faults.{fails_at}
use Rattle.o2_model.specs.Directories.{NamedEntry, DirBlock, behind, live_from, entries_of_block}
use Rattle.o2_model.specs.Checks.DirBlock.{begin_with_dots, is_sound_dir_block}
use Rattle.o2_model.specs.declared.entry.Entry.{Entry}
use Rattle.o2_dir.specs.Blocks.{Keeps}
use Rattle.o2_dir.specs.declared.reading.Reading.{Reading}

-- ---- one block
pub empty_unsound : (b : DirBlock) → b.found ≡ None → is_sound_dir_block b ≡ false
unfolding is_sound_dir_block
empty_unsound b none = rw none refl

pub filled_sound : (b : DirBlock) (es : List NamedEntry) → b.found ≡ Some es → is_sound_dir_block b ≡ (not (b.place == 0) || begin_with_dots es)
unfolding is_sound_dir_block
filled_sound b es some = rw some refl

-- ---- the entries that fill it
pub found_filled : {A : Type 0} (new old : List A) (f : List NamedEntry → List A) (o : Option (List NamedEntry)) → Some new ≡ behind old (option_map f o) → is_some o ≡ true
found_filled new old f None h = cc
found_filled new old f (Some xs) h = refl

pub entries_filled : {A : Type 0} (new old : List A) (f : List NamedEntry → List A) (o : Option (List NamedEntry)) → Some new ≡ behind old (option_map f o) → new ≡ old ++ f (unwrap_or o [])
entries_filled new old f None h = cc
entries_filled new old f (Some xs) h = cc

pub entries_none : (block : ℕ) (xs : List Entry) (o : Option (List NamedEntry)) → o ≡ None → xs ≡ xs ++ live_from block 0 (unwrap_or o [])
entries_none block xs o none = rw none (sym (append-nil xs))

pub some_found : {A : Type 0} (o : Option A) → is_some o ≡ true → (x : A) × (o ≡ Some x)
some_found None h = cc
some_found (Some x) h = (x, refl)

pub none_found : {A : Type 0} (o : Option A) → is_some o ≡ false → o ≡ None
none_found None h = refl
none_found (Some x) h = cc

-- ---- one block more
fails_bad : (bs : List DirBlock) (b : DirBlock) → is_sound_dir_block b ≡ false → fails_at (λ x. x.block) is_sound_dir_block (push bs b) ≡ push (fails_at (λ x. x.block) is_sound_dir_block bs) b.block
fails_bad bs b bad = ap (map (λ x. x.block)) (filter-append (λ x. not (is_sound_dir_block x)) bs (b ∷ [])) ∙ rw bad (map_push (λ x. x.block) (filter (λ x. not (is_sound_dir_block x)) bs) b)

fails_good : (bs : List DirBlock) (b : DirBlock) → is_sound_dir_block b ≡ true → fails_at (λ x. x.block) is_sound_dir_block (push bs b) ≡ fails_at (λ x. x.block) is_sound_dir_block bs
fails_good bs b good = ap (map (λ x. x.block)) (filter-append (λ x. not (is_sound_dir_block x)) bs (b ∷ [])) ∙ rw good (ap (map (λ x. x.block)) (append-nil (filter (λ x. not (is_sound_dir_block x)) bs)))

entries_more : (bs : List DirBlock) (b : DirBlock) (old new : List Entry) → new ≡ old ++ live_from b.block 0 (unwrap_or b.found []) → old ≡ flat_map entries_of_block bs → new ≡ flat_map entries_of_block (push bs b)
entries_more bs b old new is before =
    is
    ∙ (ap (λ xs. xs ++ entries_of_block b) before
    ∙ sym (flat_map-append entries_of_block bs (b ∷ []) ∙ ap (λ xs. flat_map entries_of_block bs ++ xs) (append-nil (entries_of_block b))))

pub keeps_bad : (old new : Reading) (bs : List DirBlock) (b : DirBlock) → is_sound_dir_block b ≡ false → new.faults.items ≡ push old.faults.items b.block
    → new.entries.items ≡ old.entries.items ++ live_from b.block 0 (unwrap_or b.found []) → Keeps old bs → Keeps new (push bs b)
keeps_bad old new bs b bad one is h = record {
  faults = one ∙ (ap (λ xs. push xs b.block) h.faults ∙ sym (fails_bad bs b bad));
  entries = entries_more bs b old.entries.items new.entries.items is h.entries;
}

pub keeps_good : (old new : Reading) (bs : List DirBlock) (b : DirBlock) → is_sound_dir_block b ≡ true → new.faults.items ≡ old.faults.items
    → new.entries.items ≡ old.entries.items ++ live_from b.block 0 (unwrap_or b.found []) → Keeps old bs → Keeps new (push bs b)
keeps_good old new bs b good same is h = record {
  faults = same ∙ (h.faults ∙ sym (fails_good bs b good));
  entries = entries_more bs b old.entries.items new.entries.items is h.entries;
}
