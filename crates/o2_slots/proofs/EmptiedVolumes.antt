-- A slot map that is emptied block by block.
use Rattle.std.proofs.Common.{◌≡◌, ◌≢◌, inl, inr, ℕ, ◌+◌, ◌-◌, ◌*◌, ◌/◌, ◌^◌, ◌<◌, ◌≤◌, true, false, ◌==◌, List, length, get_or, refl, sym, ◌∙◌, ap, arith}
use Rattle.std.specs.Prelude.{nat_le}
use Rattle.std.proofs.lemmas.Bool.{cases_Bool, cases_lt, cases_eq, false≢true}
use Rattle.std.proofs.lemmas.Bool.Decides.{nat_tests}
use Rattle.o2_model.specs.Words.{among}
use Rattle.o2_model.specs.Volume.{Volume, block_size, over}
use Rattle.o2_view.specs.Views.{with_block}
use Rattle.o2_slots.specs.Entries.{entry_size}
use Rattle.o2_slots.specs.Emptied.{says_empty, emptied_byte, entry_blocks, IsEmptiedBlock, byte_after, AreEmptied}
use Rattle.o2_slots.proofs.BlockSlots.{before_first, behind_last, none_says}

-- The entries in the blocks before block k of the file are empty as they are to be, and the blocks from there on are as they were.
pub record AreEmptiedBelow (old new : Volume) (place from k : ℕ) : Type 0 where
  pub numbers : new.geo ≡ old.geo
  pub device : new.on_device ≡ old.on_device
  pub sizes : (x : ℕ) → length (new.at x) ≡ length (old.at x)
  pub done : (x i : ℕ) → x < place + k → i < block_size old → get_or (new.at x) i 0 ≡ byte_after old place from x i
  pub later : (x : ℕ) → place + k ≤ x → new.at x ≡ old.at x
  pub others : (x : ℕ) → among (entry_blocks old.geo place from) x ≡ false → new.at x ≡ old.at x

-- a byte that does not say that an entry is empty
kept : (old : Volume) (place from x i : ℕ) → (place ≤ x → says_empty old.geo from old.geo.slots ((x - place) * block_size old + i) ≡ false) → get_or (old.at x) i 0 ≡ byte_after old place from x i
kept old place from x i none = elim (cases_Bool (nat_le place x)) [
  | inl within ↦ let low : place ≤ x = grind (arith, nat_tests) in rw (within, none low) refl
  | inr outside ↦ rw outside refl
]

here_block : (b c : ℕ) (bytes : List ℕ) (at : ℕ → List ℕ) → b ≡ c → with_block b bytes at c ≡ bytes
here_block b c bytes at same = let test : (b == c) ≡ true = grind (arith, nat_tests) in rw test refl

other_block : (b c : ℕ) (bytes : List ℕ) (at : ℕ → List ℕ) → b ≢ c → with_block b bytes at c ≡ at c
other_block b c bytes at apart = let test : (b == c) ≡ false = grind (arith, nat_tests) in rw test refl

pub none_emptied : (v : Volume) (place from : ℕ) → v.geo.slots ≤ from → AreEmptied v v place from
none_emptied v place from none = record {
  numbers = refl;
  device = refl;
  sizes = λ x. refl;
  bytes = λ x i low. kept v place from x i (λ within. none_says v.geo from ((x - place) * block_size v + i) none);
  others = λ x out. refl;
}

module _ (v : Volume) (count : ℕ) (whole : count * entry_size v.geo ≡ 2 ^ v.geo.block_bits) (place from : ℕ) where
  pub begun : AreEmptiedBelow v v place from (from / count)
  begun = record {
    numbers = refl;
    device = refl;
    sizes = λ x. refl;
    done = λ x i early low. kept v place from x i (λ within. before_first v.geo count whole (x - place) i from (omega (arith, early, within)) low);
    later = λ x late. refl;
    others = λ x out. refl;
  }

  pub ended : (new : Volume) (last : ℕ) → v.geo.slots ≤ last * count → AreEmptiedBelow v new place from last → AreEmptied v new place from
  ended new last all below = record {
    numbers = below.numbers;
    device = below.device;
    sizes = below.sizes;
    bytes = λ x i low. elim (cases_lt x (place + last)) [
      | inl early ↦ below.done x i early low
      | inr late ↦
          ap (λ (bs : List ℕ). get_or bs i 0) (below.later x late)
          ∙ kept v place from x i (λ within. behind_last v.geo count whole (x - place) i from last all (omega (arith, late)) low)
    ];
    others = below.others;
  }

  pub next : (w : Volume) (k : ℕ) (bytes : List ℕ) → among (entry_blocks v.geo place from) (place + k) ≡ true → AreEmptiedBelow v w place from k → IsEmptiedBlock v.geo k from (w.at (place + k)) bytes
      → AreEmptiedBelow v (over w (with_block (place + k) bytes w.at)) place from (k + 1)
  next w k bytes one below emptied =
      let was : w.at (place + k) ≡ v.at (place + k) = below.later (place + k) (omega arith) in
      record {
        numbers = below.numbers;
        device = below.device;
        sizes = λ x. elim (cases_eq (place + k) x) [
          | inl same ↦ ap length (here_block (place + k) x bytes w.at same) ∙ (emptied.size ∙ (ap length was ∙ ap (λ b. length (v.at b)) same))
          | inr apart ↦ ap length (other_block (place + k) x bytes w.at apart) ∙ below.sizes x
        ];
        done = λ x i early low. elim (cases_eq (place + k) x) [
          | inl same ↦
              let within : nat_le place x ≡ true = grind (arith, nat_tests) in
              let number : k ≡ x - place = omega (arith, same) in
              let here : w.at (place + k) ≡ v.at x = was ∙ ap v.at same in
              ap (λ (bs : List ℕ). get_or bs i 0) (here_block (place + k) x bytes w.at same)
              ∙ (emptied.bytes i low
              ∙ (ap (λ n. emptied_byte v.geo from v.geo.slots (n * block_size v + i) (get_or (w.at (place + k)) i 0)) number
              ∙ (ap (λ (bs : List ℕ). emptied_byte v.geo from v.geo.slots ((x - place) * block_size v + i) (get_or bs i 0)) here
              ∙ sym (rw within refl))))
          | inr apart ↦ ap (λ (bs : List ℕ). get_or bs i 0) (other_block (place + k) x bytes w.at apart) ∙ below.done x i (omega (arith, early, apart)) low
        ];
        later = λ x late. let apart : place + k ≢ x = omega (arith, late) in other_block (place + k) x bytes w.at apart ∙ below.later x (omega (arith, late));
        others = λ x out.
            let apart : place + k ≢ x = λ same. false≢true (sym out ∙ (ap (among (entry_blocks v.geo place from)) (sym same) ∙ one)) in
            other_block (place + k) x bytes w.at apart ∙ below.others x out;
      }
