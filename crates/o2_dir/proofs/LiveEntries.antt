-- A live entry of a directory begins where it says, so that it can be made void.
use Rattle.std.proofs.Common.{◌≡◌, ◌≢◌, ◌⊎◌, inl, inr, ℕ, zero, suc, ◌+◌, ◌*◌, ◌/◌, Bool, true, false, ◌==◌, cond, List, [], ◌∷◌, ◌++◌, All, flat_map, filter, get_or, refl, sym, ◌∙◌, ap, subst, arith, Option, Some, None, unwrap_or}
use Rattle.std.specs.Prelude.{sum_by, find, nat_le, nat_lt}
use Rattle.std.specs.List.{Contains, range_with_len}
use Rattle.std.proofs.lemmas.Bool.{cases_Bool}
use Rattle.std.proofs.lemmas.Bool.Decides.{nat_tests}
use Rattle.std.proofs.lemmas.List.Elements.{All-append, All-contains, All-map, Contains-append_cases, All-push}
use Rattle.std.proofs.lemmas.List.Sums.{sum_by-cons}
use Rattle.o2_model.specs.declared.entry.Entry.{Entry}
use Rattle.o2_model.specs.declared.leaf.Leaf.{Leaf}
use Rattle.o2_model.specs.Volume.{Volume, block_size, dinode, per_cluster}
use Rattle.o2_model.specs.Inodes.{is_inline, leaf_records}
use Rattle.o2_model.specs.Directories.{DirBlock, NamedEntry, dir_block, dir_blocks, directory_entries, entries_in, entries_of_block, inline_block, inline_room, is_live, is_written, live_from, mapped, standing}
use Rattle.o2_dir.specs.VoidEntries.{BeginsAt, filled_bytes}

-- ---- items of a list
none_inside : {A : Type 0} (y : A) → Contains [] y → ⊥
none_inside y (k, low, is) = absurd (omega arith)

inside_cases : {A : Type 0} (x : A) (xs : List A) (y : A) → Contains (x ∷ xs) y → (x ≡ y) ⊎ Contains xs y
inside_cases x xs y (zero, low, is) = inl is
inside_cases x xs y (suc k, low, is) = inr (k, omega arith, is)

inside_more : {A : Type 0} (x : A) (xs : List A) (y : A) → Contains xs y → Contains (x ∷ xs) y
inside_more x xs y (k, low, is) = (suc k, omega arith, is)

inside_first : {A : Type 0} (x : A) (xs : List A) (y : A) → x ≡ y → Contains (x ∷ xs) y
inside_first x xs y is = (0, omega arith, is)

-- ---- the entries of one block
abbrev len_of : NamedEntry → ℕ
len_of e = e.fields.rec_len

-- the entry stands among these, behind those before it
record Stands (block at : ℕ) (es : List NamedEntry) (e : Entry) : Type 0 where
  front : List NamedEntry
  entry : NamedEntry
  back : List NamedEntry
  are : es ≡ front ++ entry ∷ back
  is : e ≡ standing block (at + sum_by len_of front) entry

stands_more : (block at : ℕ) (x : NamedEntry) (es : List NamedEntry) (e : Entry) → Stands block (at + x.fields.rec_len) es e → Stands block at (x ∷ es) e
stands_more block at x es e h =
    let place : at + x.fields.rec_len + sum_by len_of h.front ≡ at + sum_by len_of (x ∷ h.front) = omega (arith, sum_by-cons len_of x h.front) in
    record {
      front = x ∷ h.front;
      entry = h.entry;
      back = h.back;
      are = ap (λ (xs : List NamedEntry). x ∷ xs) h.are;
      is = h.is ∙ ap (λ (n : ℕ). standing block n h.entry) place;
    }

stands : (block at : ℕ) (es : List NamedEntry) (e : Entry) → Contains (live_from block at es) e → Stands block at es e
stands block at [] e inside = absurd (none_inside e inside)
stands block at (x ∷ es) e inside = elim (cases_Bool (is_live x)) [
  | inr void ↦ stands_more block at x es e (stands block (at + x.fields.rec_len) es e (rw void at inside))
  | inl live ↦ elim (inside_cases (standing block at x) (live_from block (at + x.fields.rec_len) es) e (rw live at inside)) [
    | inl same ↦ record {
      front = [];
      entry = x;
      back = es;
      are = refl;
      is = sym same ∙ ap (λ (n : ℕ). standing block n x) (omega arith);
    }
    | inr there ↦ stands_more block at x es e (stands block (at + x.fields.rec_len) es e there)
  ]
]

-- ---- the blocks of a directory
-- where the bytes that entries fill are those of the block, what is found there fills them
abbrev Tells : Volume → ℕ → DirBlock → Type 0
Tells v d b = (es : List NamedEntry) → b.found ≡ Some es → (is_inline v d ≡ true) ⊎ (b.block ≢ d) → entries_in (filled_bytes v d b.block) ≡ Some es

tells_inline : (v : Volume) (d : ℕ) → Tells v d (inline_block v d)
tells_inline v d es found side =
    let test : (d == d) ≡ true = grind (arith, nat_tests) in
    elim (cases_Bool (nat_le (dinode v d).size (inline_room v))) [
      | inl fits ↦ rw test (rw fits at found)
      | inr long ↦ let none : None ≡ Some es = rw long at found in cc
    ]

tells_mapped : (v : Volume) (d place block k : ℕ) → is_inline v d ≡ false → Tells v d (dir_block v place block k)
tells_mapped v d place block k outside es found (inl inside) = let same : true ≡ false = sym inside ∙ outside in cc
tells_mapped v d place block k outside es found (inr apart) = let test : (block + k == d) ≡ false = grind (arith, nat_tests) in rw test found

all_flat : {A B : Type 0} (P : B → Type 0) (f : A → List B) → ((x : A) → All P (f x)) → (xs : List A) → All P (flat_map f xs)
all_flat P f each [] = λ k d low. absurd (omega arith)
all_flat P f each (x ∷ xs) = All-append P (f x) (flat_map f xs) (each x) (all_flat P f each xs)

-- the inline bytes alone, or the blocks that are mapped
taken : {A : Type 0} (b : Bool) (x y : A) → b ≡ true → cond b x y ≡ x
taken b x y is = ap (λ (c : Bool). cond c x y) is

left : {A : Type 0} (b : Bool) (x y : A) → b ≡ false → cond b x y ≡ y
left b x y is = ap (λ (c : Bool). cond c x y) is

abbrev blocks_of : Volume → ℕ → List DirBlock
blocks_of v d = flat_map (mapped v ((dinode v d).size / block_size v)) (filter is_written (leaf_records v d))

blocks_inside : (v : Volume) (d : ℕ) → is_inline v d ≡ true → dir_blocks v d ≡ inline_block v d ∷ []
unfolding dir_blocks
blocks_inside v d inside = taken (is_inline v d) (inline_block v d ∷ []) (blocks_of v d) inside

blocks_outside : (v : Volume) (d : ℕ) → is_inline v d ≡ false → dir_blocks v d ≡ blocks_of v d
unfolding dir_blocks
blocks_outside v d outside = left (is_inline v d) (inline_block v d ∷ []) (blocks_of v d) outside

mapped_tell : (v : Volume) (d limit : ℕ) → is_inline v d ≡ false → (leaf : Leaf) → All (Tells v d) (mapped v limit leaf)
mapped_tell v d limit outside leaf =
    let first = leaf.cpos * per_cluster v in
    let ks = filter (λ k. nat_lt (first + k) limit) (range_with_len 0 (leaf.clusters * per_cluster v)) in
    All-map (Tells v d) (dir_block v first leaf.block) ks (λ j x low. tells_mapped v d first leaf.block (get_or ks j x) outside)

all_tell : (v : Volume) (d : ℕ) → All (Tells v d) (dir_blocks v d)
all_tell v d = elim (cases_Bool (is_inline v d)) [
  | inl inside ↦ subst (λ (bs : List DirBlock). All (Tells v d) bs) (sym (blocks_inside v d inside)) (All-push (Tells v d) [] (inline_block v d) (λ k x low. absurd (omega arith)) (tells_inline v d))
  | inr outside ↦ subst (λ (bs : List DirBlock). All (Tells v d) bs) (sym (blocks_outside v d outside)) (all_flat (Tells v d) (mapped v ((dinode v d).size / block_size v)) (mapped_tell v d ((dinode v d).size / block_size v) outside) (filter is_written (leaf_records v d)))
]

-- ---- all of its entries
record IsOf {A B : Type 0} (f : A → List B) (xs : List A) (y : B) : Type 0 where
  from : A
  among : Contains xs from
  inside : Contains (f from) y

part_of : {A B : Type 0} (f : A → List B) (xs : List A) (y : B) → Contains (flat_map f xs) y → IsOf f xs y
part_of f [] y is = absurd (none_inside y is)
part_of f (x ∷ xs) y is = elim (Contains-append_cases (f x) (flat_map f xs) y is) [
  | inl here ↦ record { from = x; among = inside_first x xs x refl; inside = here }
  | inr there ↦ let h = part_of f xs y there in record { from = h.from; among = inside_more x xs h.from h.among; inside = h.inside }
]

begins_of : (v : Volume) (d : ℕ) (b : DirBlock) (e : Entry) → Tells v d b → Contains (entries_of_block b) e → (is_inline v d ≡ true) ⊎ (e.block ≢ d) → (es : List NamedEntry) → entries_in (filled_bytes v d e.block) ≡ Some es → BeginsAt e.at es
begins_of v d b e tells inside side es found = by_found b.found refl
  where
    by_found : (o : Option (List NamedEntry)) → b.found ≡ o → BeginsAt e.at es
    by_found None is = absurd (none_inside e (subst (λ (o : Option (List NamedEntry)). Contains (live_from b.block 0 (unwrap_or o [])) e) is inside))
    by_found (Some all) is =
        let h = stands b.block 0 all e (subst (λ (o : Option (List NamedEntry)). Contains (live_from b.block 0 (unwrap_or o [])) e) is inside) in
        let block : e.block ≡ b.block = ap (λ (x : Entry). x.block) h.is in
        let there : entries_in (filled_bytes v d e.block) ≡ Some all = ap (λ (n : ℕ). entries_in (filled_bytes v d n)) block ∙ tells all is (subst (λ (n : ℕ). (is_inline v d ≡ true) ⊎ (n ≢ d)) block side) in
        let same : es ≡ all = let both : Some es ≡ Some all = sym found ∙ there in cc in
        record {
          front = h.front;
          entry = h.entry;
          back = h.back;
          are = same ∙ h.are;
          place = ap (λ (x : Entry). x.at) h.is ∙ omega arith;
        }

-- In an inline directory, and in one of whose blocks its dinode is none, a live entry begins where it says.
pub begins_live : (v : Volume) (d : ℕ) (e : Entry) → Contains (directory_entries v d) e → (is_inline v d ≡ true) ⊎ (e.block ≢ d) → (es : List NamedEntry) → entries_in (filled_bytes v d e.block) ≡ Some es → BeginsAt e.at es
unfolding directory_entries
begins_live v d e inside side es found =
    let h = part_of entries_of_block (dir_blocks v d) e inside in
    begins_of v d h.from e (All-contains (Tells v d) (dir_blocks v d) h.from (all_tell v d) h.among) h.inside side es found

-- what is found in a list is one of it
pub found_inside : (p : Entry → Bool) (xs : List Entry) (e : Entry) → find p xs ≡ Some e → Contains xs e
found_inside p [] e is = let none : None ≡ Some e = is in cc
found_inside p (x ∷ xs) e is = elim (cases_Bool (p x)) [
  | inl here ↦ let same : Some x ≡ Some e = rw here at is in inside_first x xs e cc
  | inr other ↦ inside_more x xs e (found_inside p xs e (rw other at is))
]
