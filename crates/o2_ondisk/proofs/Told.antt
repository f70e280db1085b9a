-- A number tells its bytes.
use Rattle.std.proofs.Common.{◌≡◌, ℕ, zero, suc, ◌+◌, ◌-◌, ◌*◌, ◌<◌, ◌≤◌, ◌^◌, inl, inr, List, [], ◌∷◌, length, drop, sym, ◌∙◌, ap, subst, arith}
use Rattle.std.specs.Prelude.{All, slice_index}
use Rattle.std.proofs.Math.Nat.{mul-le-mul_right, add-mul}
use Rattle.std.proofs.lemmas.Bool.{cases_lt}
use Rattle.std.proofs.lemmas.List.{get_or_past, get_or-drop}
use Rattle.std.proofs.lemmas.List.Elements.{All-nil, All-cons}
use Rattle.byteorder.specs.Endian.{little_from, big_from}
use Rattle.byteorder.specs.Numbers.{big_from-lt}
use Rattle.o2_ondisk.specs.Number.{number_at, big_number_at}
use Rattle.o2_ondisk.specs.Fields.{numbers_by, IsSameIn}
use Rattle.o2_ondisk.specs.declared.layout.Field.{Field}

-- past the end of bytes the byte 0 stands
pub bytes_fit : (xs : List ℕ) → All (λ b. b < 256) xs → (k : ℕ) → slice_index xs k < 256
bytes_fit xs all k = elim (cases_lt k (length xs)) [
  | inl within ↦ all k 0 within
  | inr past ↦ omega (arith, get_or_past xs k 0 past)
]

module _ (xs ys : List ℕ) (fits : (k : ℕ) → slice_index xs k < 256) (fits' : (k : ℕ) → slice_index ys k < 256) where
  little_told : (i n : ℕ) → little_from i n xs ≡ little_from i n ys → (k : ℕ) → i ≤ k → k < i + n → slice_index xs k ≡ slice_index ys k
  little_told i zero same k from to = absurd (omega arith)
  little_told i (suc n) same k from to =
      let x = fits i in
      let y = fits' i in
      let rest : little_from (suc i) n xs ≡ little_from (suc i) n ys = omega (arith, x, y, same) in
      elim (cases_lt i k) [
        | inl later ↦ little_told (suc i) n rest k (omega arith) (omega arith)
        | inr here ↦ let first : slice_index xs i ≡ slice_index ys i = omega (arith, same, rest) in
            let place : i ≡ k = omega arith in
            subst (λ (j : ℕ). slice_index xs j ≡ slice_index ys j) place first
      ]

-- of two sums with rests below m the digit before them is told
digit_le : (a b r s m : ℕ) → r < m → s < m → a * m + r ≡ b * m + s → a ≤ b
digit_le a b r s m small small' same = elim (cases_lt b a) [
  | inl above ↦ let more : (b + 1) * m ≤ a * m = mul-le-mul_right m (omega arith) in
      let split : (b + 1) * m ≡ b * m + 1 * m = add-mul b 1 m in
      absurd (omega (arith, more, split, same))
  | inr le ↦ le
]

module _ (xs ys : List ℕ) (fits : (k : ℕ) → slice_index xs k < 256) (fits' : (k : ℕ) → slice_index ys k < 256) where
  big_told : (i n : ℕ) → big_from i n xs ≡ big_from i n ys → (k : ℕ) → i ≤ k → k < i + n → slice_index xs k ≡ slice_index ys k
  big_told i zero same k from to = absurd (omega arith)
  big_told i (suc n) same k from to =
      let r = big_from-lt (suc i) n xs fits in
      let s = big_from-lt (suc i) n ys fits' in
      let up = digit_le (slice_index xs i) (slice_index ys i) (big_from (suc i) n xs) (big_from (suc i) n ys) (256 ^ n) r s same in
      let down = digit_le (slice_index ys i) (slice_index xs i) (big_from (suc i) n ys) (big_from (suc i) n xs) (256 ^ n) s r (sym same) in
      let first : slice_index xs i ≡ slice_index ys i = omega (arith, up, down) in
      let product : slice_index xs i * 256 ^ n ≡ slice_index ys i * 256 ^ n = ap (λ (b : ℕ). b * 256 ^ n) first in
      let rest : big_from (suc i) n xs ≡ big_from (suc i) n ys = omega (arith, same, product) in
      elim (cases_lt i k) [
        | inl later ↦ big_told (suc i) n rest k (omega arith) (omega arith)
        | inr here ↦ let place : i ≡ k = omega arith in
            subst (λ (j : ℕ). slice_index xs j ≡ slice_index ys j) place first
      ]

-- a way to read numbers that tells their bytes
abbrev pub Tells : (ℕ → ℕ → List ℕ → ℕ) → List ℕ → List ℕ → Type 0
Tells number xs ys = (at width : ℕ) → number at width xs ≡ number at width ys → (i : ℕ) → at ≤ i → i < at + width → slice_index xs i ≡ slice_index ys i

-- a byte at or past `at`, as one behind the first `at`
behind : (at : ℕ) (l : List ℕ) (i : ℕ) → at ≤ i → slice_index (drop at l) (i - at) ≡ slice_index l i
behind at l i from =
    let place : at + (i - at) ≡ i = omega arith in
    get_or-drop at l (i - at) 0 ∙ ap (λ (j : ℕ). slice_index l j) place

dropped_fit : (at : ℕ) (l : List ℕ) → ((k : ℕ) → slice_index l k < 256) → (k : ℕ) → slice_index (drop at l) k < 256
dropped_fit at l fits k = subst (λ (b : ℕ). b < 256) (sym (get_or-drop at l k 0)) (fits (at + k))

module _ (xs ys : List ℕ) (fits : (k : ℕ) → slice_index xs k < 256) (fits' : (k : ℕ) → slice_index ys k < 256) where
  pub number_at_tells : Tells number_at xs ys
  unfolding number_at
  number_at_tells at width same i from to = sym (behind at xs i from) ∙ little_told (drop at xs) (drop at ys) (dropped_fit at xs fits) (dropped_fit at ys fits') 0 width same (i - at) (omega arith) (omega arith) ∙ behind at ys i from

  pub big_number_at_tells : Tells big_number_at xs ys
  unfolding big_number_at
  big_number_at_tells at width same i from to = sym (behind at xs i from) ∙ big_told (drop at xs) (drop at ys) (dropped_fit at xs fits) (dropped_fit at ys fits') 0 width same (i - at) (omega arith) (omega arith) ∙ behind at ys i from

-- the heads and the tails of two lists with the same items
head_same : (a b : ℕ) (l m : List ℕ) → a ∷ l ≡ b ∷ m → a ≡ b
head_same a b l m same = cc

tail_same : (a b : ℕ) (l m : List ℕ) → a ∷ l ≡ b ∷ m → l ≡ m
tail_same a b l m same = cc

pub all_told : (number : ℕ → ℕ → List ℕ → ℕ) (xs ys : List ℕ) → Tells number xs ys → (fields : List Field) → numbers_by number fields xs ≡ numbers_by number fields ys → All (IsSameIn xs ys) fields
all_told number xs ys tells [] same = All-nil (IsSameIn xs ys)
all_told number xs ys tells (f ∷ fields) same =
    let first = head_same (number f.at f.width xs) (number f.at f.width ys) (numbers_by number fields xs) (numbers_by number fields ys) same in
    let rest = tail_same (number f.at f.width xs) (number f.at f.width ys) (numbers_by number fields xs) (numbers_by number fields ys) same in
    All-cons (IsSameIn xs ys) f fields (tells f.at f.width first) (all_told number xs ys tells fields rest)
