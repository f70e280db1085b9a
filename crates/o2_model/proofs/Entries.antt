-- The entries that fill some bytes: one step, and the grammar.
use Rattle.std.proofs.Common.{◌≡◌, inl, inr, ℕ, zero, suc, pred, ◌+◌, ◌<◌, ◌≤◌, true, false, List, [], ◌∷◌, ◌++◌, length, drop, refl, sym, ◌∙◌, ap, subst, arith, Option, Some, None}
use Rattle.std.proofs.lemmas.Bool.{cases_Bool}
use Rattle.std.proofs.lemmas.Bool.Decides.{nat_tests}
use Rattle.std.proofs.lemmas.List.{length-drop, drop-drop, drop_all, append_assoc, append-nil}
use Rattle.o2_ondisk.specs.DirEntries.{dir_entry_of}
use Rattle.o2_model.specs.Directories.{NamedEntry, entry_at_front, has_entry, Fill, before, behind, entries_behind, entries_in}

-- ---- one step
behind_drop : (k : ℕ) (bytes : List ℕ) → k ≤ length bytes → entries_behind k bytes ≡ entries_behind 0 (drop k bytes)
behind_drop zero bytes h = refl
behind_drop (suc k) [] h = absurd (omega arith)
behind_drop (suc k) (b ∷ bytes) h = behind_drop k bytes (omega arith)

-- an entry has at least 12 bytes, and lies within them
pub record Within (bytes : List ℕ) : Type 0 where
  pub long : 12 ≤ (dir_entry_of bytes).rec_len
  pub inside : (dir_entry_of bytes).rec_len ≤ length bytes

pub within : (bytes : List ℕ) → has_entry bytes ≡ true → Within bytes
unfolding has_entry
within bytes h = record { long = grind (arith, nat_tests); inside = grind (arith, nat_tests) }

pub entries-nil : entries_in [] ≡ Some []
unfolding entries_in
entries-nil = refl

pub entries-one : (bytes : List ℕ) → has_entry bytes ≡ true → entries_in bytes ≡ before (entry_at_front bytes) (entries_in (drop (dir_entry_of bytes).rec_len bytes))
unfolding entries_in
entries-one [] h = absurd (omega (arith, (within [] h).long, (within [] h).inside))
entries-one (b ∷ bytes) h =
    let n = (dir_entry_of (b ∷ bytes)).rec_len in
    let some : n ≡ suc (pred n) = omega (arith, (within (b ∷ bytes) h).long) in
    let inside : pred n ≤ length bytes = omega (arith, (within (b ∷ bytes) h).inside) in
    rw h (ap (before (entry_at_front (b ∷ bytes))) (behind_drop (pred n) bytes inside ∙ ap (entries_behind 0) (sym (ap (λ k. drop k (b ∷ bytes)) some))))

pub entries-bad : (b : ℕ) (bytes : List ℕ) → has_entry (b ∷ bytes) ≡ false → entries_in (b ∷ bytes) ≡ None
unfolding entries_in
entries-bad b bytes h = rw h refl

-- ---- the grammar
-- What fills the bytes is what is found in them.
pub fill-in : (es : List NamedEntry) (bytes : List ℕ) → Fill es bytes → entries_in bytes ≡ Some es
fill-in [] bytes h = rw h entries-nil
fill-in (e ∷ es) bytes h =
    entries-one bytes h.0 ∙ (ap (λ k. before (entry_at_front bytes) (entries_in (drop k bytes))) (sym (ap (λ x. x.fields.rec_len) h.1))
    ∙ (ap (before (entry_at_front bytes)) (fill-in es (drop e.fields.rec_len bytes) h.2) ∙ ap (λ x. Some (x ∷ es)) (sym h.1)))

before_some : {A : Type 0} (x : A) (o : Option (List A)) (ys : List A) → before x o ≡ Some ys → (xs : List A) × (o ≡ Some xs) × (ys ≡ x ∷ xs)
before_some x None ys h = cc
before_some x (Some xs) ys h = (xs, refl, cc)

in-fill-below : (n : ℕ) (bytes : List ℕ) → length bytes ≤ n → (es : List NamedEntry) → entries_in bytes ≡ Some es → Fill es bytes
in-fill-below n [] long es h = let e : [] ≡ es = cc (entries-nil) in subst (λ x. Fill x []) e refl
in-fill-below zero (b ∷ bytes) long es h = absurd (omega arith)
in-fill-below (suc n) (b ∷ bytes) long es h = elim (cases_Bool (has_entry (b ∷ bytes))) [
  | inr bad ↦ let e : None ≡ Some es = sym (entries-bad b bytes bad) ∙ h in cc
  | inl good ↦
      let e = entry_at_front (b ∷ bytes) in
      let rest = drop e.fields.rec_len (b ∷ bytes) in
      let found = before_some e (entries_in rest) es (sym (entries-one (b ∷ bytes) good) ∙ h) in
      let w = within (b ∷ bytes) good in
      let shorter : length rest ≤ n = omega (arith, length-drop e.fields.rec_len (b ∷ bytes), w.long) in
      subst (λ x. Fill x (b ∷ bytes)) (sym found.2) (good, refl, in-fill-below n rest shorter found.0 found.1)
]

-- What is found in the bytes fills them.
pub in-fill : (bytes : List ℕ) (es : List NamedEntry) → entries_in bytes ≡ Some es → Fill es bytes
in-fill bytes es h = in-fill-below (length bytes) bytes (omega arith) es h

pub none_fill : (bytes : List ℕ) (es : List NamedEntry) → entries_in bytes ≡ None → Fill es bytes → ⊥
none_fill bytes es bad fill = let e : None ≡ Some es = sym bad ∙ fill-in es bytes fill in cc

-- ---- a loop over the entries
pub bad_in : (bytes : List ℕ) → 0 < length bytes → has_entry bytes ≡ false → entries_in bytes ≡ None
bad_in [] some bad = absurd (omega arith)
bad_in (b ∷ bytes) some bad = entries-bad b bytes bad

behind-push : {A : Type 0} (front : List A) (x : A) (o : Option (List A)) → behind (front ++ x ∷ []) o ≡ behind front (before x o)
behind-push front x None = refl
behind-push front x (Some xs) = ap Some (append_assoc front (x ∷ []) xs)

pub read_more : (front : List NamedEntry) (e : NamedEntry) (bytes : List ℕ) (at : ℕ) → has_entry (drop at bytes) ≡ true → e ≡ entry_at_front (drop at bytes)
    → behind (front ++ e ∷ []) (entries_in (drop (at + e.fields.rec_len) bytes)) ≡ behind front (entries_in (drop at bytes))
read_more front e bytes at good is =
    behind-push front e _
    ∙ ap (behind front) (ap (λ d. before e (entries_in d)) (sym (drop-drop e.fields.rec_len at bytes)) ∙ (ap (λ x. before x (entries_in (drop x.fields.rec_len (drop at bytes)))) is ∙ sym (entries-one (drop at bytes) good)))

pub read_bad : (front : List NamedEntry) (bytes : List ℕ) (at : ℕ) → at < length bytes → has_entry (drop at bytes) ≡ false → behind front (entries_in (drop at bytes)) ≡ entries_in bytes → entries_in bytes ≡ None
read_bad front bytes at some bad read = sym read ∙ ap (behind front) (bad_in (drop at bytes) (omega (arith, length-drop at bytes)) bad)

pub read_all : (front : List NamedEntry) (bytes : List ℕ) (at : ℕ) → length bytes ≤ at → behind front (entries_in (drop at bytes)) ≡ entries_in bytes → entries_in bytes ≡ Some front
read_all front bytes at end read = sym read ∙ (ap (λ d. behind front (entries_in d)) (drop_all at bytes end) ∙ (ap (behind front) entries-nil ∙ ap Some (append-nil front)))
