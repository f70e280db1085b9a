-- The bit that stands for a block.
use Rattle.std.proofs.Common.{◌≡◌, inl, inr, ℕ, zero, suc, ◌+◌, ◌-◌, ◌<◌, ◌≤◌, true, false, ◌==◌, nat_lt, find, refl, sym, ◌∙◌, ap, arith, Some, None}
use Rattle.std.specs.List.{range_with_len}
use Rattle.std.proofs.lemmas.Bool.{cases_Bool, cases_lt, false≢true}
use Rattle.std.proofs.lemmas.Bool.Decides.{nat_tests}
use Rattle.o2_model.specs.declared.allocator.Group.{Group}
use Rattle.o2_model.specs.Volume.{Volume}
use Rattle.o2_model.specs.Groups.{bit_of_block}
use Rattle.o2_model.specs.Metadata.{is_on_bit}

same : (m n : ℕ) → m ≡ n → (m == n) ≡ true
same m n e = grind (arith, nat_tests)

other : (m n : ℕ) → (m == n) ≡ false → m < n → m + 1 ≤ n
other m n e h = omega (arith, h)

-- ---- among numbers in a row
bit_there : (block b from count : ℕ) → block + from ≤ b → b < block + from + count → find (λ k. block + k == b) (range_with_len from count) ≡ Some (b - block)
bit_there block b from zero low high = absurd (omega (arith, low, high))
bit_there block b from (suc count) low high = elim (cases_Bool (block + from == b)) [
  | inl is ↦ rw is (ap (λ k. Some k) (first block b from is))
  | inr not ↦ rw not (bit_there block b (from + 1) count (later block b from low not) (omega (arith, high)))
]
  where
    first : (block b from : ℕ) → (block + from == b) ≡ true → from ≡ b - block
    first block b from is = grind (arith, nat_tests)

    later : (block b from : ℕ) → block + from ≤ b → (block + from == b) ≡ false → block + (from + 1) ≤ b
    later block b from low not = grind (arith, nat_tests)

no_bit : (block b from count : ℕ) → (block + from ≤ b → b < block + from + count → ⊥) → find (λ k. block + k == b) (range_with_len from count) ≡ None
no_bit block b from zero out = refl
no_bit block b from (suc count) out = elim (cases_Bool (block + from == b)) [
  | inl is ↦ absurd (out (is_least block b from is) (is_below block b from count is))
  | inr not ↦ rw not (no_bit block b (from + 1) count (λ low high. out (omega (arith, low)) (omega (arith, high))))
]
  where
    is_least : (block b from : ℕ) → (block + from == b) ≡ true → block + from ≤ b
    is_least block b from is = grind (arith, nat_tests)

    is_below : (block b from count : ℕ) → (block + from == b) ≡ true → b < block + from + suc count
    is_below block b from count is = grind (arith, nat_tests)

-- ---- of a group
pub bit_of : (v : Volume) (g : Group) (b : ℕ) → g.block ≤ b → b < g.block + g.bits → bit_of_block v g b ≡ Some (b - g.block)
bit_of v g b low high = bit_there g.block b 0 g.bits (omega (arith, low)) (omega (arith, high))

pub on_bit : (v : Volume) (g : Group) (b : ℕ) → g.block < b → b < g.block + g.bits → is_on_bit v b g ≡ true
on_bit v g b low high = rw (bit_of v g b (omega (arith, low)) high) (above g.block b low)
  where
    above : (m n : ℕ) → m < n → nat_lt 0 (n - m) ≡ true
    above m n h = grind (arith, nat_tests)

pub within_group : (v : Volume) (g : Group) (b : ℕ) → is_on_bit v b g ≡ true → (g.block < b) × (b < g.block + g.bits)
within_group v g b is = elim (cases_lt b (g.block + g.bits)) [
  | inr past ↦ absurd (false≢true (sym (off (λ low high. omega (arith, past, high))) ∙ is))
  | inl high ↦ elim (cases_lt g.block b) [
    | inl low ↦ (low, high)
    | inr below ↦ absurd (false≢true (sym (not_above below high) ∙ is))
  ]
]
  where
    off : (g.block + 0 ≤ b → b < g.block + 0 + g.bits → ⊥) → is_on_bit v b g ≡ false
    off out = rw (no_bit g.block b 0 g.bits out) refl

    not_above : b ≤ g.block → b < g.block + g.bits → is_on_bit v b g ≡ false
    not_above below high = elim (cases_lt b g.block) [
      | inl less ↦ off (λ low end. omega (arith, low, less))
      | inr from ↦ rw (bit_of v g b from high) (none (b - g.block) (omega (arith, below)))
    ]
      where
        none : (k : ℕ) → k ≡ 0 → nat_lt 0 k ≡ false
        none k e = grind (arith, nat_tests)
