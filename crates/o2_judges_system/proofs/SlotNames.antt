-- The number at the end of a slot's name.
use Rattle.std.proofs.Common.{◌≡◌, inl, inr, ℕ, ◌+◌, ◌-◌, ◌*◌, ◌%◌, ◌<◌, ◌≤◌, false, List, [], ◌∷◌, length, drop, get_or, bytes_eq, refl, sym, ◌∙◌, ap, arith, None}
use Rattle.std.proofs.Math.Seq.{drop-length}
use Rattle.std.proofs.lemmas.Bool.{cases_Bool}
use Rattle.std.proofs.lemmas.List.{drop_more}
use Rattle.std.proofs.lemmas.Slice.Eq.{bytes_eq-Decides}
use Rattle.o2_model.specs.declared.system_file.SlotFile.{SlotFile}
use Rattle.o2_model.specs.declared.system_file.SlotFile.TheVariants.{OrphanDir, ExtentAlloc, InodeAlloc, Journal, LocalAlloc, TruncateLog}
use Rattle.o2_model.specs.declared.system_file.SystemFile.TheVariants.{OfSlot}
use Rattle.o2_model.specs.SystemFiles.{decimal_number, slot_digits, slot_in_name, system_name}

-- ---- the last four bytes
pub four_digits : (xs : List ℕ) (at : ℕ) → length xs ≡ at + 4
    → decimal_number (drop at xs) ≡ 1000 * (get_or xs at 0 - 48) + 100 * (get_or xs (at + 1) 0 - 48) + (10 * (get_or xs (at + 2) 0 - 48) + (get_or xs (at + 3) 0 - 48))
four_digits xs at long =
    let none : drop (at + 4) xs ≡ [] = ap (λ n. drop n xs) (sym long) ∙ drop-length xs in
    let fourth : drop (at + 3) xs ≡ get_or xs (at + 3) 0 ∷ [] = drop_more xs (at + 3) 0 (omega (arith, long)) ∙ ap (λ rest. get_or xs (at + 3) 0 ∷ rest) (ap (λ n. drop n xs) (omega arith) ∙ none) in
    let third : drop (at + 2) xs ≡ get_or xs (at + 2) 0 ∷ get_or xs (at + 3) 0 ∷ [] = drop_more xs (at + 2) 0 (omega (arith, long)) ∙ ap (λ rest. get_or xs (at + 2) 0 ∷ rest) (ap (λ n. drop n xs) (omega arith) ∙ fourth) in
    let second : drop (at + 1) xs ≡ get_or xs (at + 1) 0 ∷ get_or xs (at + 2) 0 ∷ get_or xs (at + 3) 0 ∷ [] = drop_more xs (at + 1) 0 (omega (arith, long)) ∙ ap (λ rest. get_or xs (at + 1) 0 ∷ rest) (ap (λ n. drop n xs) (omega arith) ∙ third) in
    ap decimal_number (drop_more xs at 0 (omega (arith, long)) ∙ ap (λ rest. get_or xs at 0 ∷ rest) second) ∙ omega arith

-- ---- a slot's name
digits_at_end : (file : SlotFile) (slot : ℕ) → drop (length (system_name (OfSlot file slot)) - 4) (system_name (OfSlot file slot)) ≡ slot_digits slot
unfolding system_name
digits_at_end OrphanDir slot = refl
digits_at_end ExtentAlloc slot = refl
digits_at_end InodeAlloc slot = refl
digits_at_end Journal slot = refl
digits_at_end LocalAlloc slot = refl
digits_at_end TruncateLog slot = refl

is_long : (file : SlotFile) (slot : ℕ) → 4 ≤ length (system_name (OfSlot file slot))
unfolding system_name
is_long OrphanDir slot = omega arith
is_long ExtentAlloc slot = omega arith
is_long InodeAlloc slot = omega arith
is_long Journal slot = omega arith
is_long LocalAlloc slot = omega arith
is_long TruncateLog slot = omega arith

digits_are_few : (slot : ℕ) → decimal_number (slot_digits slot) ≡ slot % 10000
digits_are_few slot = omega arith

few_in_name : (file : SlotFile) (slot : ℕ) → decimal_number (drop (length (system_name (OfSlot file slot)) - 4) (system_name (OfSlot file slot))) < 10000
few_in_name file slot =
    let is : decimal_number (drop (length (system_name (OfSlot file slot)) - 4) (system_name (OfSlot file slot))) ≡ slot % 10000 = ap decimal_number (digits_at_end file slot) ∙ digits_are_few slot in
    omega (arith, is)

-- ---- bytes that are no slot's name
other_bytes : (xs ys : List ℕ) → (xs ≡ ys → ⊥) → bytes_eq xs ys ≡ false
other_bytes xs ys apart = elim (cases_Bool (bytes_eq xs ys)) [
  | inl same ↦ absurd (apart ((bytes_eq-Decides xs ys).0 same))
  | inr other ↦ other
]

pub short_is_none : (file : SlotFile) (name : List ℕ) → length name < 4 → None ≡ slot_in_name file name
unfolding slot_in_name
short_is_none file name short =
    let slot = decimal_number (drop (length name - 4) name) in
    sym (rw (other_bytes name (system_name (OfSlot file slot)) (λ same. let long = is_long file slot in let len : length name ≡ length (system_name (OfSlot file slot)) = ap length same in omega (arith, long, len, short))) refl)

pub many_are_none : (file : SlotFile) (name : List ℕ) → 10000 ≤ decimal_number (drop (length name - 4) name) → None ≡ slot_in_name file name
unfolding slot_in_name
many_are_none file name many =
    let slot = decimal_number (drop (length name - 4) name) in
    sym (rw (other_bytes name (system_name (OfSlot file slot)) (λ same. let few = few_in_name file slot in let is : slot ≡ decimal_number (drop (length (system_name (OfSlot file slot)) - 4) (system_name (OfSlot file slot))) = ap (λ xs. decimal_number (drop (length xs - 4) xs)) same in omega (arith, few, is, many))) refl)
