-- The slots whose entries stand in a block of a slot map, and the blocks that have some.
use Rattle.std.proofs.Common.{◌≡◌, inl, inr, ℕ, zero, suc, ◌+◌, ◌-◌, ◌*◌, ◌/◌, ◌%◌, ◌^◌, ◌<◌, ◌≤◌, Bool, true, false, ◌&&◌, ◌||◌, ◌==◌, eqb, List, [], ◌∷◌, map, refl, sym, ◌∙◌, ap, arith}
use Rattle.std.specs.Prelude.{nat_le, nat_lt, max, min}
use Rattle.std.specs.List.{range_with_len}
use Rattle.std.proofs.lemmas.Bool.{cases_Bool, cases_lt, cases_eq, false≢true}
use Rattle.std.proofs.lemmas.Bool.Decides.{nat_tests}
use Rattle.std.proofs.lemmas.Grind.{div_ceil_times}
use Rattle.std.proofs.lemmas.Nat.{div-mul-add, pow-add}
use Rattle.std.proofs.Math.Nat.{mul-le-mul_right, add-mul, div-mul-le_self, lt-div-mul-add}
use Rattle.std.proofs.Math.Pow.{pow_mono}
use Rattle.o2_model.specs.Words.{among}
use Rattle.o2_model.specs.declared.geo.Geo.{Geo}
use Rattle.o2_view.specs.Geos.{HasSizes}
use Rattle.o2_slots.specs.Entries.{has_extended_entries, entry_size}
use Rattle.o2_slots.specs.Emptied.{says_empty, entry_block, entry_blocks}
use Rattle.o2_slots.proofs.EntryPlaces.{block_begins}

-- ---- the slots of a block
says_before : (from q end : ℕ) (last : Bool) → q < from → (nat_le from q && nat_lt q end && last) ≡ false
says_before from q end last low = let test : nat_le from q ≡ false = grind (arith, nat_tests) in rw test refl

says_behind : (from q end : ℕ) (last : Bool) → end ≤ q → (nat_le from q && nat_lt q end && last) ≡ false
says_behind from q end last high = let test : nat_lt q end ≡ false = grind (arith, nat_tests) in rw test (none (nat_le from q) last)
  where
    none : (b c : Bool) → ((b && false) && c) ≡ false
    none true c = refl
    none false c = refl

-- where no slot is to be emptied
pub none_says : (geo : Geo) (from k : ℕ) → geo.slots ≤ from → says_empty geo from geo.slots k ≡ false
unfolding says_empty
none_says geo from k none = elim (cases_lt (k / entry_size geo) from) [
  | inl before ↦ says_before from (k / entry_size geo) geo.slots _ before
  | inr behind ↦ says_behind from (k / entry_size geo) geo.slots _ (omega (arith, behind, none))
]

module _ (geo : Geo) (count : ℕ) (whole : count * entry_size geo ≡ 2 ^ geo.block_bits) where
  -- the slot of a byte of block j is one of the block's
  pub slot_low : (j i : ℕ) → i < 2 ^ geo.block_bits → j * count ≤ (j * 2 ^ geo.block_bits + i) / entry_size geo
  slot_low j i low =
      let begins : j * count * entry_size geo ≡ j * 2 ^ geo.block_bits = block_begins geo count j whole in
      elim (cases_Bool (has_extended_entries geo)) [
        | inl extended ↦ let e : j * count * 8 ≡ j * 2 ^ geo.block_bits = rw extended at begins in rw extended (omega (arith, e))
        | inr short ↦ let e : j * count * 2 ≡ j * 2 ^ geo.block_bits = rw short at begins in rw short (omega (arith, e))
      ]

  pub slot_high : (j i : ℕ) → i < 2 ^ geo.block_bits → (j * 2 ^ geo.block_bits + i) / entry_size geo < j * count + count
  slot_high j i low =
      let begins : j * count * entry_size geo ≡ j * 2 ^ geo.block_bits = block_begins geo count j whole in
      elim (cases_Bool (has_extended_entries geo)) [
        | inl extended ↦
            let e : j * count * 8 ≡ j * 2 ^ geo.block_bits = rw extended at begins in
            let w : count * 8 ≡ 2 ^ geo.block_bits = rw extended at whole in
            rw extended (omega (arith, e, w, low))
        | inr short ↦
            let e : j * count * 2 ≡ j * 2 ^ geo.block_bits = rw short at begins in
            let w : count * 2 ≡ 2 ^ geo.block_bits = rw short at whole in
            rw short (omega (arith, e, w, low))
      ]

  -- nothing is emptied in a block before that of slot `from`
  pub before_first : (j i from : ℕ) → j < from / count → i < 2 ^ geo.block_bits → says_empty geo from geo.slots (j * 2 ^ geo.block_bits + i) ≡ false
  unfolding says_empty
  before_first j i from early low =
      let more : (j + 1) * count ≤ from / count * count = mul-le-mul_right count (omega (arith, early)) in
      let next : (j + 1) * count ≡ j * count + 1 * count = add-mul j 1 count in
      says_before from ((j * 2 ^ geo.block_bits + i) / entry_size geo) geo.slots _ (omega (arith, slot_high j i low, more, next, div-mul-le_self from count))

  -- nor in one behind that of the last slot
  pub behind_last : (j i from last : ℕ) → geo.slots ≤ last * count → last ≤ j → i < 2 ^ geo.block_bits → says_empty geo from geo.slots (j * 2 ^ geo.block_bits + i) ≡ false
  unfolding says_empty
  behind_last j i from last all late low =
      let more : last * count ≤ j * count = mul-le-mul_right count late in
      says_behind from ((j * 2 ^ geo.block_bits + i) / entry_size geo) geo.slots _ (omega (arith, slot_low j i low, more, all))

  -- a block of slots that are emptied is one of their blocks
  entry_in : (k rest : ℕ) → rest < count → (k * count + rest) * entry_size geo / 2 ^ geo.block_bits ≡ k
  entry_in k rest low =
      let begins : k * count * entry_size geo ≡ k * 2 ^ geo.block_bits = block_begins geo count k whole in
      let sum : (k * count + rest) * entry_size geo ≡ k * 2 ^ geo.block_bits + rest * entry_size geo = add-mul (k * count) rest (entry_size geo) ∙ ap (λ n. n + rest * entry_size geo) begins in
      let inside : rest * entry_size geo < 2 ^ geo.block_bits = elim (cases_Bool (has_extended_entries geo)) [
        | inl extended ↦ let w : count * 8 ≡ 2 ^ geo.block_bits = rw extended at whole in rw extended (omega (arith, w, low))
        | inr short ↦ let w : count * 2 ≡ 2 ^ geo.block_bits = rw short at whole in rw short (omega (arith, w, low))
      ] in
      ap (λ n. n / 2 ^ geo.block_bits) sum ∙ div-mul-add k (2 ^ geo.block_bits) (rest * entry_size geo) inside

  pub has_entry : 0 < count → (place from k : ℕ) → from < geo.slots → k * count < geo.slots → from < (k + 1) * count → among (entry_blocks geo place from) (place + k) ≡ true
  unfolding entry_blocks
  has_entry entries place from k some first last =
      let slot = max from (k * count) in
      let rest = slot - k * count in
      let next : (k + 1) * count ≡ k * count + 1 * count = add-mul k 1 count in
      let split : slot ≡ k * count + rest = omega arith in
      let here : entry_block geo place slot ≡ place + k = ap (λ n. place + n * entry_size geo / 2 ^ geo.block_bits) split ∙ ap (λ n. place + n) (entry_in k rest (omega (arith, last, next, entries))) in
      ap (among (map (entry_block geo place) (range_with_len from (geo.slots - from)))) (sym here)
      ∙ in_range (entry_block geo place) from (geo.slots - from) slot (omega arith) (omega (arith, some, first))
    where
      same_number : (n : ℕ) → eqb n n ≡ true
      same_number n = grind (arith, nat_tests)

      or_later : (b : Bool) {c : Bool} → c ≡ true → (b || c) ≡ true
      or_later true h = refl
      or_later false h = h

      in_range : (f : ℕ → ℕ) (a n k : ℕ) → a ≤ k → k < a + n → among (map f (range_with_len a n)) (f k) ≡ true
      in_range f a zero k low high = absurd (omega (arith, low, high))
      in_range f a (suc n) k low high = elim (cases_lt a k) [
        | inl later ↦ or_later (eqb (f k) (f a)) (in_range f (a + 1) n k (omega (arith, later)) (omega (arith, high)))
        | inr same ↦ let is : k ≡ a = omega (arith, same, low) in rw (is, same_number (f a)) refl
      ]

-- ---- the first cluster of the file
-- the blocks of the entries lie in the file's first cluster
pub in_first : (geo : Geo) (count k : ℕ) → HasSizes geo → count * entry_size geo ≡ 2 ^ geo.block_bits → geo.slots ≤ 255 → k * count < geo.slots → k < 2 ^ (geo.cluster_bits - geo.block_bits)
in_first geo count k sizes whole few some = elim (cases_lt k (2 ^ (geo.cluster_bits - geo.block_bits))) [
  | inl inside ↦ inside
  | inr behind ↦
      let pc = 2 ^ (geo.cluster_bits - geo.block_bits) in
      let more : pc * count ≤ k * count = mul-le-mul_right count behind in
      let sum : geo.cluster_bits ≡ geo.block_bits + (geo.cluster_bits - geo.block_bits) = omega (arith, sizes.most_block, sizes.least_cluster) in
      let total : 2 ^ geo.cluster_bits ≡ 2 ^ geo.block_bits * pc = ap (λ (n : ℕ). 2 ^ n) sum ∙ pow-add 2 geo.block_bits (geo.cluster_bits - geo.block_bits) in
      let many : 2 ^ 12 ≤ 2 ^ geo.cluster_bits = pow_mono {i = 12} {j = geo.cluster_bits} sizes.least_cluster in
      let bytes : 2 ^ geo.cluster_bits ≡ count * entry_size geo * pc = total ∙ ap (λ n. n * pc) (sym whole) in
      elim (cases_Bool (has_extended_entries geo)) [
        | inl extended ↦ let b : 2 ^ geo.cluster_bits ≡ count * 8 * pc = rw extended at bytes in absurd (omega (arith, more, some, few, many, b))
        | inr short ↦ let b : 2 ^ geo.cluster_bits ≡ count * 2 * pc = rw short at bytes in absurd (omega (arith, more, some, few, many, b))
      ]
]

-- ---- the blocks that are gone through
pub all_slots : (slots count end k : ℕ) → 0 < count → end ≡ slots / count + min 1 (slots % count) → end ≤ k → slots ≤ k * count
all_slots slots count end k some is behind =
    let times = div_ceil_times slots count some in
    let up : slots ≤ end * count = rw is times.0 in
    omega (arith, up, mul-le-mul_right count behind)

pub has_slots : (slots count end k : ℕ) → 0 < count → end ≡ slots / count + min 1 (slots % count) → k < end → k * count < slots
has_slots slots count end k some is inside =
    let times = div_ceil_times slots count some in
    let up : end * count < slots + count = rw is times.1 in
    let more : (k + 1) * count ≤ end * count = mul-le-mul_right count (omega (arith, inside)) in
    omega (arith, up, more, add-mul k 1 count)

pub reaches_first : (from count k : ℕ) → 0 < count → from / count ≤ k → from < (k + 1) * count
reaches_first from count k some late =
    let low : from < from / count * count + count = lt-div-mul-add some in
    let more : from / count * count ≤ k * count = mul-le-mul_right count late in
    omega (arith, low, more, add-mul k 1 count)

-- what is none of them is not this one
pub none_other : (all : List ℕ) (x b : ℕ) → among all x ≡ true → among all b ≡ false → among (x ∷ []) b ≡ false
none_other all x b one out = elim (cases_eq b x) [
  | inl same ↦ absurd (false≢true (sym out ∙ (ap (among all) same ∙ one)))
  | inr apart ↦ let test : (b == x) ≡ false = grind (arith, nat_tests) in rw test refl
]
