-- The name of a slot's file tells the slot.
use Rattle.std.proofs.Common.{◌≡◌, ℕ, ◌-◌, ◌/◌, ◌%◌, ◌<◌, Bool, true, false, List, ◌++◌, drop, length, refl, sym, ◌∙◌, ap, arith, Some, None, cond}
use Rattle.std.specs.Prelude.{bytes_eq, codes, unwrap_or}
use Rattle.std.proofs.lemmas.Slice.Eq.{bytes_eq-Decides}
use Rattle.o2_model.specs.declared.system_file.SlotFile.{SlotFile}
use Rattle.o2_model.specs.declared.system_file.SlotFile.TheVariants.{OrphanDir, ExtentAlloc, InodeAlloc, Journal, LocalAlloc, TruncateLog}
use Rattle.o2_model.specs.declared.system_file.SystemFile.TheVariants.{OfSlot}
use Rattle.o2_model.specs.SystemFiles.{decimal_number, slot_digits, slot_file_name, slot_in_name, system_name}

-- the number of the four digits of a slot
number-digits : (slot : ℕ) → decimal_number (slot_digits slot) ≡ slot % 10000
number-digits slot = omega arith

-- they are the last four bytes of the name
last_four : (file : SlotFile) (slot : ℕ) → drop (length (system_name (OfSlot file slot)) - 4) (system_name (OfSlot file slot)) ≡ slot_digits slot
unfolding system_name
last_four OrphanDir slot = refl
last_four ExtentAlloc slot = refl
last_four InodeAlloc slot = refl
last_four Journal slot = refl
last_four LocalAlloc slot = refl
last_four TruncateLog slot = refl

number-name : (file : SlotFile) (slot : ℕ) → decimal_number (drop (length (system_name (OfSlot file slot)) - 4) (system_name (OfSlot file slot))) ≡ slot % 10000
number-name file slot = ap decimal_number (last_four file slot) ∙ number-digits slot

same_bytes : (xs : List ℕ) → bytes_eq xs xs ≡ true
same_bytes xs = (bytes_eq-Decides xs xs).1 refl

-- four digits do not tell slots apart that differ by 10000
same_digits : (slot : ℕ) → slot_digits (slot % 10000) ≡ slot_digits slot
same_digits slot =
    let thousands : slot % 10000 / 1000 % 10 ≡ slot / 1000 % 10 = omega arith in
    let hundreds : slot % 10000 / 100 % 10 ≡ slot / 100 % 10 = omega arith in
    let tens : slot % 10000 / 10 % 10 ≡ slot / 10 % 10 = omega arith in
    let ones : slot % 10000 % 10 ≡ slot % 10 = omega arith in
    cc

same_name : (file : SlotFile) (slot : ℕ) → system_name (OfSlot file (slot % 10000)) ≡ system_name (OfSlot file slot)
unfolding system_name
same_name file slot = ap (λ digits. slot_file_name file ++ codes ":" ++ digits) (same_digits slot)

-- a name of four digits tells what they tell
pub slot_told_by_digits : (file : SlotFile) (slot : ℕ) → slot_in_name file (system_name (OfSlot file slot)) ≡ Some (slot % 10000)
unfolding slot_in_name
slot_told_by_digits file slot = rw (number-name file slot, same_name file slot, same_bytes (system_name (OfSlot file slot))) refl

pub slot_told : (file : SlotFile) (slot : ℕ) → slot < 10000 → slot_in_name file (system_name (OfSlot file slot)) ≡ Some slot
slot_told file slot small = let number : slot % 10000 ≡ slot = omega arith in slot_told_by_digits file slot ∙ ap (λ n. Some n) number

chosen : (test : Bool) (n slot : ℕ) → cond test (Some n) None ≡ Some slot → (test ≡ true) × (n ≡ slot)
chosen true n slot h = (refl, ap (λ o. unwrap_or o n) h)
chosen false n slot h = cc

pub slot_only : (file : SlotFile) (name : List ℕ) (slot : ℕ) → slot_in_name file name ≡ Some slot → name ≡ system_name (OfSlot file slot)
unfolding slot_in_name
slot_only file name slot h =
    let parts = chosen (bytes_eq name (system_name (OfSlot file (decimal_number (drop (length name - 4) name))))) (decimal_number (drop (length name - 4) name)) slot h in
    (bytes_eq-Decides _ _).0 parts.0 ∙ ap (λ s. system_name (OfSlot file s)) parts.1

pub slot_small : (file : SlotFile) (name : List ℕ) (slot : ℕ) → slot_in_name file name ≡ Some slot → slot < 10000
unfolding slot_in_name
slot_small file name slot h =
    let parts = chosen (bytes_eq name (system_name (OfSlot file (decimal_number (drop (length name - 4) name))))) (decimal_number (drop (length name - 4) name)) slot h in
    let is : slot ≡ slot % 10000 = sym parts.1 ∙ (ap (λ n. decimal_number (drop (length n - 4) n)) (slot_only file name slot h) ∙ number-name file slot) in
    omega arith
