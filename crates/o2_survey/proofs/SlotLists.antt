-- What all slots have, slot by slot.
use Rattle.std.proofs.Common.{◌≡◌, ℕ, zero, suc, ◌+◌, List, [], ◌∷◌, ◌++◌, sym, ◌∙◌, ap, arith, Option}
use Rattle.std.specs.Prelude.{flat_map}
use Rattle.std.specs.List.{range_with_len}
use Rattle.std.specs.Option.{option_map_or}
use Rattle.std.proofs.lemmas.List.{append_assoc, append-nil}
use Rattle.o2_model.specs.declared.system_file.SlotFile.{SlotFile}
use Rattle.o2_model.specs.declared.system_file.SystemFile.TheVariants.{OfSlot}
use Rattle.o2_model.specs.Volume.{Volume}
use Rattle.o2_model.specs.SystemFiles.{system_inode}
use Rattle.o2_survey.specs.SystemNames.{inodes_of_slots}

from_there : {A : Type 0} (f : ℕ → List A) (a n : ℕ) → flat_map f (range_with_len a (suc n)) ≡ flat_map f (range_with_len a n) ++ f (a + n)
from_there f a zero = append-nil (f a) ∙ ap f (omega arith)
from_there f a (suc n) =
    ap (λ xs. f a ++ xs) (from_there f (a + 1) n)
    ∙ (sym (append_assoc (f a) (flat_map f (range_with_len (a + 1) n)) (f (a + 1 + n)))
    ∙ ap (λ k. (f a ++ flat_map f (range_with_len (a + 1) n)) ++ f k) (omega arith))

-- one slot more
pub one_slot_more : {A : Type 0} (f : ℕ → List A) (n : ℕ) → flat_map f (range_with_len 0 (n + 1)) ≡ flat_map f (range_with_len 0 n) ++ f n
one_slot_more f n =
    let next : n + 1 ≡ suc n = omega arith in
    let here : 0 + n ≡ n = omega arith in
    ap (λ m. flat_map f (range_with_len 0 m)) next ∙ (from_there f 0 n ∙ ap (λ k. flat_map f (range_with_len 0 n) ++ f k) here)

-- ---- files
-- the inode of the slot's file, where it has one
abbrev inode_of_slot : Volume → SlotFile → ℕ → List ℕ
inode_of_slot v file slot = option_map_or (λ b. b ∷ []) (system_inode v (OfSlot file slot)) []

pub one_file_more : (v : Volume) (file : SlotFile) (slot : ℕ) (found new : List ℕ) (o : Option ℕ) → o ≡ system_inode v (OfSlot file slot) → found ≡ flat_map (inode_of_slot v file) (range_with_len 0 slot)
    → new ≡ found ++ option_map_or (λ b. b ∷ []) o [] → new ≡ flat_map (inode_of_slot v file) (range_with_len 0 (slot + 1))
one_file_more v file slot found new o told before more =
    more ∙ (ap (λ bs. bs ++ option_map_or (λ b. b ∷ []) o []) before
    ∙ (ap (λ p. flat_map (inode_of_slot v file) (range_with_len 0 slot) ++ option_map_or (λ b. b ∷ []) p []) told
    ∙ sym (one_slot_more (inode_of_slot v file) slot)))

pub all_files : (v : Volume) (file : SlotFile) (found : List ℕ) (slot : ℕ) → found ≡ flat_map (inode_of_slot v file) (range_with_len 0 slot) → slot ≡ v.geo.slots → found ≡ inodes_of_slots v file
all_files v file found slot are last = are ∙ ap (λ n. flat_map (inode_of_slot v file) (range_with_len 0 n)) last
