-- The live entries of a block, once one of its entries is void.
use Rattle.std.proofs.Common.{◌≡◌, ◌⊎◌, inl, inr, ℕ, ◌+◌, ◌<◌, ◌≤◌, Bool, true, false, ◌==◌, not, List, [], ◌∷◌, ◌++◌, map, filter, refl, sym, ◌∙◌, ap, arith}
use Rattle.std.specs.Prelude.{sum_by}
use Rattle.std.proofs.lemmas.Bool.{cases_Bool}
use Rattle.std.proofs.lemmas.Bool.Decides.{nat_tests}
use Rattle.std.proofs.lemmas.List.Elements.{filter-append}
use Rattle.std.proofs.lemmas.List.Sums.{sum_by-cons}
use Rattle.o2_model.specs.declared.entry.Entry.{Entry}
use Rattle.o2_model.specs.Directories.{Fill, NamedEntry, is_live, live_from, standing}
use Rattle.o2_model.proofs.Entries.{within}
use Rattle.o2_ondisk.specs.DirEntries.{dir_entry_of}
use Rattle.o2_dir.specs.VoidEntries.{told_of, void_of}

abbrev len_of : NamedEntry → ℕ
len_of e = e.fields.rec_len

-- what stands in a void entry counts for nothing
live_told : (block at : ℕ) (es : List NamedEntry) → live_from block at (map told_of es) ≡ live_from block at es
live_told block at [] = refl
live_told block at (e ∷ es) = elim (cases_Bool (is_live e)) [
  | inl live ↦ rw live (rw live (ap (λ (xs : List Entry). standing block at e ∷ xs) (live_told block (at + e.fields.rec_len) es)))
  | inr void ↦ rw void (rw void (live_told block (at + e.fields.rec_len) es))
]

live-append : (block at : ℕ) (xs ys : List NamedEntry) → live_from block at (xs ++ ys) ≡ live_from block at xs ++ live_from block (at + sum_by len_of xs) ys
live-append block at [] ys = ap (λ (n : ℕ). live_from block n ys) (omega arith)
live-append block at (x ∷ xs) ys =
    let rest = live-append block (at + x.fields.rec_len) xs ys in
    let place : at + x.fields.rec_len + sum_by len_of xs ≡ at + sum_by len_of (x ∷ xs) = omega (arith, sum_by-cons len_of x xs) in
    let same = rest ∙ ap (λ (n : ℕ). live_from block (at + x.fields.rec_len) xs ++ live_from block n ys) place in
    elim (cases_Bool (is_live x)) [
      | inl live ↦ rw live (ap (λ (es : List Entry). standing block at x ∷ es) same)
      | inr void ↦ rw void same
    ]

-- each entry has bytes
abbrev Long : List NamedEntry → Type 0
Long [] = Unit {0}
Long (e ∷ es) = (12 ≤ e.fields.rec_len) × Long es

pub fill_long : (es : List NamedEntry) (bytes : List ℕ) → Fill es bytes → Long es
fill_long [] bytes h = tt
fill_long (e ∷ es) bytes h =
    let w = within bytes h.0 in
    let is : e.fields.rec_len ≡ (dir_entry_of bytes).rec_len = ap (λ (x : NamedEntry). x.fields.rec_len) h.1 in (omega (arith, is, w.long), fill_long es _ h.2)

abbrev others : ℕ → Entry → Bool
others at e = not (e.at == at)

apart : (a b : ℕ) → (a < b) ⊎ (b < a) → not (a == b) ≡ true
apart a b (inl low) = grind (arith, nat_tests)
apart a b (inr high) = grind (arith, nat_tests)

-- entries that stand before a place, or behind it
kept_before : (block at place : ℕ) (es : List NamedEntry) → Long es → at + sum_by len_of es ≤ place → filter (others place) (live_from block at es) ≡ live_from block at es
kept_before block at place [] long low = refl
kept_before block at place (e ∷ es) long low =
    let rest = kept_before block (at + e.fields.rec_len) place es long.1 (omega (arith, low, sum_by-cons len_of e es)) in
    let other : not (at == place) ≡ true = apart at place (inl (omega (arith, low, long.0, sum_by-cons len_of e es))) in
    elim (cases_Bool (is_live e)) [
      | inl live ↦ rw live (rw other (ap (λ (xs : List Entry). standing block at e ∷ xs) rest))
      | inr void ↦ rw void rest
    ]

kept_behind : (block at place : ℕ) (es : List NamedEntry) → Long es → place < at → filter (others place) (live_from block at es) ≡ live_from block at es
kept_behind block at place [] long high = refl
kept_behind block at place (e ∷ es) long high =
    let rest = kept_behind block (at + e.fields.rec_len) place es long.1 (omega (arith, high)) in
    let other : not (at == place) ≡ true = apart at place (inr high) in
    elim (cases_Bool (is_live e)) [
      | inl live ↦ rw live (rw other (ap (λ (xs : List Entry). standing block at e ∷ xs) rest))
      | inr void ↦ rw void rest
    ]

long_split : (front : List NamedEntry) (e : NamedEntry) (back : List NamedEntry) → Long (front ++ e ∷ back) → Long front × (12 ≤ e.fields.rec_len) × Long back
long_split [] e back h = (tt, h.0, h.1)
long_split (f ∷ front) e back h = let rest = long_split front e back h.1 in ((h.0, rest.0), rest.1, rest.2)

-- of an entry and those behind it
first_gone : (block at : ℕ) (e : NamedEntry) (back : List NamedEntry) → 12 ≤ e.fields.rec_len → Long back → filter (others at) (live_from block at (e ∷ back)) ≡ live_from block (at + e.fields.rec_len) back
first_gone block at e back long behind =
    let rest = kept_behind block (at + e.fields.rec_len) at back behind (omega (arith, long)) in
    let here : not (at == at) ≡ false = grind (arith, nat_tests) in
    elim (cases_Bool (is_live e)) [
      | inl live ↦ rw live (rw here rest)
      | inr void ↦ rw void rest
    ]

-- The live entries of the block are those of before, without the one that is void now.
pub live_gone : (block : ℕ) (front : List NamedEntry) (e : NamedEntry) (back new : List NamedEntry) → Long (front ++ e ∷ back) → map told_of new ≡ map told_of (front ++ void_of e ∷ back)
    → live_from block 0 new ≡ filter (others (sum_by len_of front)) (live_from block 0 (front ++ e ∷ back))
live_gone block front e back new long told =
    let place = sum_by len_of front in
    let parts = long_split front e back long in
    let zero_place : 0 + place ≡ place = omega arith in
    let now : live_from block 0 new ≡ live_from block 0 front ++ live_from block (place + e.fields.rec_len) back =
    sym (live_told block 0 new) ∙ (ap (live_from block 0) told ∙ (live_told block 0 (front ++ void_of e ∷ back)
    ∙ (live-append block 0 front (void_of e ∷ back) ∙ ap (λ (n : ℕ). live_from block 0 front ++ live_from block (n + e.fields.rec_len) back) zero_place))) in
    let before : live_from block 0 (front ++ e ∷ back) ≡ live_from block 0 front ++ live_from block place (e ∷ back) =
    live-append block 0 front (e ∷ back) ∙ ap (λ (n : ℕ). live_from block 0 front ++ live_from block n (e ∷ back)) zero_place in
    now
    ∙ sym (ap (filter (others place)) before
    ∙ (filter-append (others place) (live_from block 0 front) (live_from block place (e ∷ back))
    ∙ (ap (λ (es : List Entry). es ++ filter (others place) (live_from block place (e ∷ back))) (kept_before block 0 place front parts.0 (omega (arith, zero_place)))
    ∙ ap (λ (es : List Entry). live_from block 0 front ++ es) (first_gone block place e back parts.1 parts.2))))
