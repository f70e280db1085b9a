-- The live entries of a block, one after the other.
use Rattle.std.proofs.Common.{◌≡◌, inl, inr, ℕ, ◌+◌, ◌<◌, ◌≤◌, Bool, true, false, cond, List, [], ◌∷◌, length, take, drop, refl, sym, ◌∙◌, ap, arith, Option, Some, None, option_map}
use Rattle.std.proofs.lemmas.Bool.{cases_Bool}
use Rattle.std.proofs.lemmas.List.{length-drop, drop-drop, drop_all, append_assoc, append-nil, length-take, take-append-le}
use Rattle.o2_ondisk.specs.DirEntries.{dir_entry_of}
use Rattle.o2_model.specs.Words.{push}
use Rattle.o2_model.specs.declared.entry.Entry.{Entry}
use Rattle.o2_model.specs.Directories.{NamedEntry, entry_at_front, is_live, standing, has_entry, before, behind, entries_in, live_from}
use Rattle.o2_model.proofs.Entries.{entries-nil, entries-one, bad_in}

behind-push : {A : Type 0} (front : List A) (x : A) (o : Option (List A)) → behind (push front x) o ≡ behind front (before x o)
behind-push front x None = refl
behind-push front x (Some xs) = ap Some (append_assoc front (x ∷ []) xs)

live_one : (block at : ℕ) (e : NamedEntry) (o : Option (List NamedEntry)) (front : List Entry)
    → behind (cond (is_live e) (push front (standing block at e)) front) (option_map (live_from block (at + e.fields.rec_len)) o) ≡ behind front (option_map (live_from block at) (before e o))
live_one block at e None front = refl
live_one block at e (Some es) front = elim (cases_Bool (is_live e)) [
  | inl live ↦ rw live (behind-push front (standing block at e) (Some (live_from block (at + e.fields.rec_len) es)))
  | inr void ↦ rw void refl
]

-- one more entry leaves those before where they are
pub kept_more : {A : Type 0} (old now new : List A) (b : Bool) (x : A) → take (length old) now ≡ old → new ≡ cond b (push now x) now → take (length old) new ≡ old
kept_more old now new b x kept is =
    let long : length old ≤ length now = omega (arith, length-take (length old) now, ap length kept) in
    ap (take (length old)) is ∙ elim (cases_Bool b) [
      | inl more ↦ rw more (take-append-le (length old) now (x ∷ []) long ∙ kept)
      | inr same ↦ rw same kept
    ]

-- one more entry is read
pub read_more : (block at : ℕ) (front new : List Entry) (bytes : List ℕ) → has_entry (drop at bytes) ≡ true
    → new ≡ cond (is_live (entry_at_front (drop at bytes))) (push front (standing block at (entry_at_front (drop at bytes)))) front
    → behind new (option_map (live_from block (at + (dir_entry_of (drop at bytes)).rec_len)) (entries_in (drop (at + (dir_entry_of (drop at bytes)).rec_len) bytes))) ≡ behind front (option_map (live_from block at) (entries_in (drop at bytes)))
read_more block at front new bytes good is =
    let e = entry_at_front (drop at bytes) in
    ap (λ xs. behind xs (option_map (live_from block (at + e.fields.rec_len)) (entries_in (drop (at + e.fields.rec_len) bytes)))) is
    ∙ (live_one block at e (entries_in (drop (at + e.fields.rec_len) bytes)) front
    ∙ ap (λ o. behind front (option_map (live_from block at) o)) (ap (λ d. before e (entries_in d)) (sym (drop-drop e.fields.rec_len at bytes)) ∙ sym (entries-one (drop at bytes) good)))

none_mapped : {A B : Type 0} (f : List A → List B) (front : List B) (o : Option (List A)) → None ≡ behind front (option_map f o) → o ≡ None
none_mapped f front None h = refl
none_mapped f front (Some xs) h = cc

-- no entry stands where one has to
pub read_bad : (block at : ℕ) (front old : List Entry) (bytes : List ℕ) → at < length bytes → has_entry (drop at bytes) ≡ false
    → behind front (option_map (live_from block at) (entries_in (drop at bytes))) ≡ behind old (option_map (live_from block 0) (entries_in bytes)) → entries_in bytes ≡ None
read_bad block at front old bytes some bad read =
    none_mapped (live_from block 0) old (entries_in bytes) (sym (ap (λ o. behind front (option_map (live_from block at) o)) (bad_in (drop at bytes) (omega (arith, length-drop at bytes)) bad)) ∙ read)

-- all entries are read
pub read_all : (block at : ℕ) (front old : List Entry) (bytes : List ℕ) → length bytes ≤ at
    → behind front (option_map (live_from block at) (entries_in (drop at bytes))) ≡ behind old (option_map (live_from block 0) (entries_in bytes)) → Some front ≡ behind old (option_map (live_from block 0) (entries_in bytes))
read_all block at front old bytes end read =
    sym (ap (λ d. behind front (option_map (live_from block at) (entries_in d))) (drop_all at bytes end) ∙ (ap (λ o. behind front (option_map (live_from block at) o)) entries-nil ∙ ap Some (append-nil front))) ∙ read
