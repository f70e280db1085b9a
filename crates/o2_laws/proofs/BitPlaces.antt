-- Which bit of a group stands for a block.
use Rattle.std.proofs.Common.{◌≡◌, inl, inr, ℕ, zero, suc, ◌+◌, ◌<◌, ◌≤◌, false, ◌==◌, refl, ap, arith, Some, None}
use Rattle.std.specs.Prelude.{find}
use Rattle.std.specs.List.{range_with_len}
use Rattle.std.proofs.lemmas.Bool.{cases_Bool, eqb-true, ne_eqb}
use Rattle.std.proofs.lemmas.Bool.Decides.{nat_tests}
use Rattle.o2_model.specs.declared.allocator.Group.{Group}
use Rattle.o2_model.specs.Volume.{Volume}
use Rattle.o2_model.specs.Groups.{block_of_bit, bit_of_block}

next : (a s j : ℕ) → s ≤ j → (a + s == a + j) ≡ false → s + 1 ≤ j
next a s j low other = grind (arith, nat_tests)

found_at : (a s n j : ℕ) → s ≤ j → j < s + n → find (λ k. a + k == a + j) (range_with_len s n) ≡ Some j
found_at a s zero j low high = absurd (omega (arith, low, high))
found_at a s (suc n) j low high = elim (cases_Bool (a + s == a + j)) [
  | inl same ↦ let e : s ≡ j = omega (arith, eqb-true (a + s) (a + j) same) in rw same (ap (λ k. Some k) e)
  | inr other ↦ rw other (found_at a (s + 1) n j (next a s j low other) (omega (arith, high)))
]

found_nowhere : (a s n b : ℕ) → ((k : ℕ) → s ≤ k → k < s + n → (a + k == b) ≡ false) → find (λ k. a + k == b) (range_with_len s n) ≡ None
found_nowhere a s zero b apart = refl
found_nowhere a s (suc n) b apart =
    rw (apart s (omega arith) (omega arith)) (found_nowhere a (s + 1) n b (λ k low high. apart k (omega (arith, low)) (omega (arith, high))))

-- the bit of the block of a bit is that bit
pub bit_of_its_block : (v : Volume) (g : Group) (k : ℕ) → k < g.bits → bit_of_block v g (block_of_bit v g k) ≡ Some k
bit_of_its_block v g k low = found_at g.block 0 g.bits k (omega arith) (omega (arith, low))

-- a block before the group or behind it has none
pub no_bit_before : (v : Volume) (g : Group) (b : ℕ) → b < g.block → bit_of_block v g b ≡ None
no_bit_before v g b low = found_nowhere g.block 0 g.bits b (λ k from to. ne_eqb (g.block + k) b (λ e. omega (arith, e, low)))

pub no_bit_behind : (v : Volume) (g : Group) (b : ℕ) → g.block + g.bits ≤ b → bit_of_block v g b ≡ None
no_bit_behind v g b high = found_nowhere g.block 0 g.bits b (λ k from to. ne_eqb (g.block + k) b (λ e. omega (arith, e, high, to)))
