-- The blocks of a directory, one after the other.
use Rattle.std.proofs.Common.{◌≡◌, inl, inr, ℕ, zero, suc, ◌+◌, ◌*◌, ◌<◌, cond, nat_lt, List, [], ◌∷◌, ◌++◌, All, map, filter, flat_map, take, get_or, length, sym, ◌∙◌, ap, subst, arith}
use Rattle.std.specs.List.{range_with_len}
use Rattle.std.proofs.lemmas.Bool.{cases_Bool}
use Rattle.std.proofs.lemmas.List.{append_assoc, append-nil, map_push, take_more}
use Rattle.std.proofs.lemmas.List.Elements.{filter-append, All-push}
use Rattle.std.proofs.lemmas.Grind.{flat_map-append}
use Rattle.o2_model.specs.Words.{push}
use Rattle.o2_model.specs.Directories.{is_written}
use Rattle.o2_model.specs.declared.leaf.Leaf.{Leaf}
use Rattle.o2_dir.specs.declared.places.Place.{Place}
use Rattle.o2_dir.specs.Blocks.{place_in, places_in, first_places, places_of}

last : (a n j : ℕ) → a + n ≡ j → range_with_len a (suc n) ≡ range_with_len a n ++ j ∷ []
last a zero j e = let same : a ≡ j = omega arith in ap (λ k. k ∷ []) same
last a (suc n) j e = ap (λ l. a ∷ l) (last (a + 1) n j (omega arith))

range_more : (k : ℕ) → range_with_len 0 (k + 1) ≡ range_with_len 0 k ++ k ∷ []
range_more k = let on : k + 1 ≡ suc k = omega arith in ap (range_with_len 0) on ∙ last 0 k k (omega arith)

first_one : (pc limit : ℕ) (leaf : Leaf) (k : ℕ) → first_places pc limit leaf (k + 1) ≡ cond (nat_lt (leaf.cpos * pc + k) limit) (push (first_places pc limit leaf k) (place_in pc leaf k)) (first_places pc limit leaf k)
first_one pc limit leaf k =
    let p = λ (j : ℕ). nat_lt (leaf.cpos * pc + j) limit in
    ap (λ xs. map (place_in pc leaf) (filter p xs)) (range_more k)
    ∙ (ap (map (place_in pc leaf)) (filter-append p (range_with_len 0 k) (k ∷ []))
    ∙ elim (cases_Bool (nat_lt (leaf.cpos * pc + k) limit)) [
      | inl low ↦ rw low (map_push (place_in pc leaf) (filter p (range_with_len 0 k)) k)
      | inr high ↦ rw high (ap (map (place_in pc leaf)) (append-nil (filter p (range_with_len 0 k))))
    ])

pub first_more : (pc limit : ℕ) (leaf : Leaf) (k : ℕ) (old now new : List Place) → now ≡ old ++ first_places pc limit leaf k
    → new ≡ cond (nat_lt (leaf.cpos * pc + k) limit) (push now (place_in pc leaf k)) now → new ≡ old ++ first_places pc limit leaf (k + 1)
first_more pc limit leaf k old now new before is = is ∙ elim (cases_Bool (nat_lt (leaf.cpos * pc + k) limit)) [
  | inl low ↦ rw (first_one pc limit leaf k, low) (ap (λ xs. push xs (place_in pc leaf k)) before ∙ append_assoc old (first_places pc limit leaf k) (place_in pc leaf k ∷ []))
  | inr high ↦ rw (first_one pc limit leaf k, high) before
]

pub first_inside : (pc limit : ℕ) (leaf : Leaf) (k blocks : ℕ) (now new : List Place) → leaf.block + k < blocks
    → new ≡ cond (nat_lt (leaf.cpos * pc + k) limit) (push now (place_in pc leaf k)) now → All (λ p. p.block < blocks) now → All (λ p. p.block < blocks) new
first_inside pc limit leaf k blocks now new low is h = elim (cases_Bool (nat_lt (leaf.cpos * pc + k) limit)) [
  | inl low' ↦ subst (λ (xs : List Place). All (λ p. p.block < blocks) xs) (sym (rw low' at is)) (All-push (λ (p : Place). p.block < blocks) now (place_in pc leaf k) h low)
  | inr high ↦ subst (λ (xs : List Place). All (λ p. p.block < blocks) xs) (sym (rw high at is)) h
]

places_both : (pc limit : ℕ) (xs ys : List Leaf) → places_of pc limit (xs ++ ys) ≡ places_of pc limit xs ++ places_of pc limit ys
places_both pc limit xs ys = ap (flat_map (places_in pc limit)) (filter-append is_written xs ys) ∙ flat_map-append (places_in pc limit) (filter is_written xs) (filter is_written ys)

pub places_more : (pc limit : ℕ) (leaves : List Leaf) (i : ℕ) (d : Leaf) (now new : List Place) → i < length leaves → now ≡ places_of pc limit (take i leaves)
    → new ≡ now ++ places_of pc limit (get_or leaves i d ∷ []) → new ≡ places_of pc limit (take (i + 1) leaves)
places_more pc limit leaves i d now new low before is =
    is ∙ (ap (λ xs. xs ++ places_of pc limit (get_or leaves i d ∷ [])) before
    ∙ (sym (places_both pc limit (take i leaves) (get_or leaves i d ∷ [])) ∙ ap (places_of pc limit) (sym (take_more leaves i d low))))
