-- Bits of a byte, and of a bitmap.
use Rattle.std.proofs.Common.{◌≡◌, inl, inr, ℕ, ◌+◌, ◌-◌, ◌*◌, ◌/◌, ◌%◌, ◌^◌, ◌<◌, ◌≤◌, ◌==◌, ◌&&◌, min, max, Bool, true, false, nat_le, nat_lt, bit_and, bit_or, List, length, get_or, slice_set, get_or-set_same, get_or-set_other, ◌≢◌, refl, sym, ◌∙◌, ap, arith}
use Rattle.std.proofs.Math.Pow.{pow_mono}
use Rattle.std.proofs.lemmas.Bool.{cases_eq, cases_lt}
use Rattle.std.proofs.lemmas.Bool.Decides.{nat_tests}
use Rattle.std.proofs.lemmas.Nat.{pow_pos}
use Rattle.std.proofs.lemmas.Nat.Bits.{bit_at_and, bit_at_or, bit_at_not, bit_at_mask_inside, bit_at_mask_below, bit_at_mask_above}
use Rattle.std.specs.Int.{bit_at, w8}
use Rattle.o2_model.specs.Groups.{is_bit_set_in}
use Rattle.o2_chain.specs.Bits.{changed_bits}

-- a mask fits a byte
pub few_ones : (first end : ℕ) → first ≤ end → end ≤ 8 → (2 ^ first ≤ 2 ^ end) × (2 ^ end ≤ 256)
few_ones first end order within = (pow_mono order, pow_mono {i = end} {j = 8} within)

-- a bit in the range, and one outside
inside : (first end k : ℕ) (set : Bool) (old : ℕ → Bool) → first ≤ k → k < end → changed_bits first end set old k ≡ set
inside first end k set old from below = let test : (nat_le first k && nat_lt k end) ≡ true = grind (arith, nat_tests) in rw test refl

below : (first end k : ℕ) (set : Bool) (old : ℕ → Bool) → k < first → changed_bits first end set old k ≡ old k
below first end k set old low = let test : (nat_le first k && nat_lt k end) ≡ false = grind (arith, nat_tests) in rw test refl

past : (first end k : ℕ) (set : Bool) (old : ℕ → Bool) → end ≤ k → changed_bits first end set old k ≡ old k
past first end k set old high = let test : (nat_le first k && nat_lt k end) ≡ false = grind (arith, nat_tests) in rw test refl

-- a bit is set or clear
same_test : (a b : ℕ) → a ≡ b → (a == 1) ≡ (b == 1)
same_test a b same = ap (λ n. n == 1) same

-- the bits of a byte with those of a mask set
module _ (byte first end : ℕ) where
  abbrev old : ℕ → Bool
  old j = byte / 2 ^ j % 2 == 1

  with_ones : (k : ℕ) → bit_at (bit_or byte (2 ^ end - 2 ^ first)) k ≡ max (bit_at byte k) (bit_at (2 ^ end - 2 ^ first) k)
  with_ones k = bit_at_or byte (2 ^ end - 2 ^ first) k

  pub set_bits : (k : ℕ) → (bit_or byte (2 ^ end - 2 ^ first) / 2 ^ k % 2 == 1) ≡ changed_bits first end true (λ j. byte / 2 ^ j % 2 == 1) k
  set_bits k = elim (cases_lt k first) [
    | inl low ↦ same_test (bit_at (bit_or byte (2 ^ end - 2 ^ first)) k) (bit_at byte k) (omega (arith, with_ones k, bit_at_mask_below first end k low)) ∙ sym (below first end k true old low)
    | inr from ↦ elim (cases_lt k end) [
      | inl under ↦ same_test (bit_at (bit_or byte (2 ^ end - 2 ^ first)) k) 1 (omega (arith, with_ones k, bit_at_mask_inside first end k from under)) ∙ sym (inside first end k true old from under)
      | inr high ↦ same_test (bit_at (bit_or byte (2 ^ end - 2 ^ first)) k) (bit_at byte k) (omega (arith, with_ones k, bit_at_mask_above first end k high)) ∙ sym (past first end k true old high)
    ]
  ]

  with_zeros : byte < 256 → first ≤ end → end ≤ 8 → (k : ℕ) → k < 8 → bit_at (bit_and byte (255 - (2 ^ end - 2 ^ first))) k ≡ min (bit_at byte k) (1 - bit_at (2 ^ end - 2 ^ first) k)
  with_zeros small order within k low = bit_at_and byte (255 - (2 ^ end - 2 ^ first)) k ∙ ap (min (bit_at byte k)) (bit_at_not w8 (2 ^ end - 2 ^ first) k (omega (arith, few_ones first end order within, pow_pos first)) low)

  pub cleared_bits : byte < 256 → first ≤ end → end ≤ 8 → (k : ℕ) → k < 8 → (bit_and byte (255 - (2 ^ end - 2 ^ first)) / 2 ^ k % 2 == 1) ≡ changed_bits first end false (λ j. byte / 2 ^ j % 2 == 1) k
  cleared_bits small order within k low =
      let zeros = with_zeros small order within k low in
      elim (cases_lt k first) [
        | inl low ↦ same_test (bit_at (bit_and byte (255 - (2 ^ end - 2 ^ first))) k) (bit_at byte k) (omega (arith, zeros, bit_at_mask_below first end k low)) ∙ sym (below first end k false old low)
        | inr from ↦ elim (cases_lt k end) [
          | inl under ↦ same_test (bit_at (bit_and byte (255 - (2 ^ end - 2 ^ first))) k) 0 (omega (arith, zeros, bit_at_mask_inside first end k from under)) ∙ sym (inside first end k false old from under)
          | inr high ↦ same_test (bit_at (bit_and byte (255 - (2 ^ end - 2 ^ first))) k) (bit_at byte k) (omega (arith, zeros, bit_at_mask_above first end k high)) ∙ sym (past first end k false old high)
        ]
      ]

-- a bit changes where the other does
pub same_change : (first end k first' end' k' : ℕ) (set : Bool) (was was' : ℕ → Bool) → (first ≤ k → k < end → (first' ≤ k') × (k' < end')) → (first' ≤ k' → k' < end' → (first ≤ k) × (k < end)) → was k ≡ was' k'
    → changed_bits first end set was k ≡ changed_bits first' end' set was' k'
same_change first end k first' end' k' set was was' there back same =
    elim (cases_lt k first) [
      | inl low ↦ below first end k set was low ∙ (same ∙ sym (outside (λ from under. omega (arith, back from under, low))))
      | inr from ↦ elim (cases_lt k end) [
        | inl under ↦ inside first end k set was from under ∙ sym (inside first' end' k' set was' (there from under).0 (there from under).1)
        | inr high ↦ past first end k set was high ∙ (same ∙ sym (outside (λ from under. omega (arith, back from under, high))))
      ]
    ]
  where
    outside : (first' ≤ k' → k' < end' → ⊥) → changed_bits first' end' set was' k' ≡ was' k'
    outside never = elim (cases_lt k' first') [
      | inl low ↦ below first' end' k' set was' low
      | inr from ↦ elim (cases_lt k' end') [
        | inl under ↦ absurd (never from under)
        | inr high ↦ past first' end' k' set was' high
      ]
    ]

-- one byte more of a bitmap
module _ (bytes : List ℕ) (was : ℕ → Bool) (first end i new : ℕ) (set : Bool) (long : 0x40 + i < length bytes)
    (so_far : (k : ℕ) → is_bit_set_in 0x40 bytes k ≡ changed_bits first (min end (8 * i)) set was k)
    (byte : (k : ℕ) → k < 8 → (new / 2 ^ k % 2 == 1) ≡ changed_bits (min (first - 8 * i) 8) (min (end - 8 * i) 8) set (λ j. get_or bytes (0x40 + i) 0 / 2 ^ j % 2 == 1) k)
  where
    here : (k : ℕ) → k / 8 ≡ i → is_bit_set_in 0x40 (slice_set bytes (0x40 + i) new) k ≡ changed_bits first (min end (8 * (i + 1))) set was k
    here k at =
        let put : get_or (slice_set bytes (0x40 + i) new) (0x40 + k / 8) 0 ≡ new = ap (λ n. get_or (slice_set bytes (0x40 + i) new) (0x40 + n) 0) at ∙ get_or-set_same bytes (0x40 + i) new 0 long in
        let kept : (get_or bytes (0x40 + i) 0 / 2 ^ (k % 8) % 2 == 1) ≡ was k = ap (λ n. get_or bytes (0x40 + n) 0 / 2 ^ (k % 8) % 2 == 1) (sym at) ∙ (so_far k ∙ past first (min end (8 * i)) k set was (omega arith)) in
        ap (λ n. n / 2 ^ (k % 8) % 2 == 1) put
        ∙ (byte (k % 8) (omega arith)
        ∙ same_change (min (first - 8 * i) 8) (min (end - 8 * i) 8) (k % 8) first (min end (8 * (i + 1))) k set (λ j. get_or bytes (0x40 + i) 0 / 2 ^ j % 2 == 1) was (λ from under. (omega arith, omega arith)) (λ from under. (omega arith, omega arith)) kept)

    elsewhere : (k : ℕ) → k / 8 ≢ i → is_bit_set_in 0x40 (slice_set bytes (0x40 + i) new) k ≡ changed_bits first (min end (8 * (i + 1))) set was k
    elsewhere k apart =
        let other : 0x40 + k / 8 ≢ 0x40 + i = omega arith in
        ap (λ n. n / 2 ^ (k % 8) % 2 == 1) (get_or-set_other bytes (0x40 + i) (0x40 + k / 8) new 0 other)
        ∙ (so_far k ∙ same_change first (min end (8 * i)) k first (min end (8 * (i + 1))) k set was was (λ from under. (omega arith, omega arith)) (λ from under. (omega arith, omega arith)) refl)

    pub byte_more : (k : ℕ) → is_bit_set_in 0x40 (slice_set bytes (0x40 + i) new) k ≡ changed_bits first (min end (8 * (i + 1))) set was k
    byte_more k = elim (cases_eq (k / 8) i) [
      | inl at ↦ here k at
      | inr apart ↦ elsewhere k apart
    ]
