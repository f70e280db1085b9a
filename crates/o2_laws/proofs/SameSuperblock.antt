-- Images of one length with the same blocks 0 to 2 have the same superblock, found at the same size of a block.
use Rattle.std.proofs.Common.{◌≡◌, inl, inr, ℕ, ◌+◌, ◌-◌, ◌*◌, ◌^◌, ◌<◌, ◌≤◌, Bool, ◌&&◌, nat_le, List, [], ◌∷◌, length, get_or, drop, refl, sym, ◌∙◌, ap, subst, arith, Some}
use Rattle.std.specs.Prelude.{find, ◌==◌}
use Rattle.std.specs.List.{AllByRecursion}
use Rattle.std.proofs.lemmas.Bool.{cases_Bool, cases_lt}
use Rattle.std.proofs.lemmas.List.{ext_get_or}
use Rattle.std.proofs.lemmas.List.FromFn.{length-map-range_with_len, get_or-map-range_with_len}
use Rattle.std.proofs.Math.Nat.{pow-le-pow_right}
use Rattle.o2_ondisk.specs.Number.{number_at}
use Rattle.o2_ondisk.specs.Signatures.{superblock_signature}
use Rattle.o2_ondisk.specs.Super.{super_of}
use Rattle.o2_disk.specs.Image.{Image, byte, block_at}
use Rattle.o2_model.specs.Superblock.{has_super, superblock_bits, block_sizes}

-- ---- bytes
-- a byte of a block is one of the image
byte-block_at : (I : Image) (size b r : ℕ) → r < size → get_or (block_at size I b) r 0 ≡ byte I (size * b + r)
byte-block_at I size b r low = get_or-map-range_with_len (byte I) (size * b) size r (size * b + r) 0 low refl

-- the bytes of three blocks
bytes_of_three : (X I : Image) (size : ℕ) → ((b : ℕ) → b ≤ 2 → block_at size X b ≡ block_at size I b) → (i : ℕ) → i < 3 * size → byte X i ≡ byte I i
bytes_of_three X I size same i low = elim (cases_lt i size) [
  | inl first ↦ at 0 i (omega arith) first (omega arith)
  | inr behind ↦ elim (cases_lt i (2 * size)) [
    | inl second ↦ at 1 (i - size) (omega arith) (omega arith) (omega arith)
    | inr last ↦ at 2 (i - 2 * size) (omega arith) (omega arith) (omega arith)
  ]
]
  where
    at : (b r : ℕ) → b ≤ 2 → r < size → size * b + r ≡ i → byte X i ≡ byte I i
    at b r few low is =
        ap (byte X) (sym is)
        ∙ (sym (byte-block_at X size b r low) ∙ (ap (λ (bytes : List ℕ). get_or bytes r 0) (same b few) ∙ (byte-block_at I size b r low ∙ ap (byte I) is)))

-- block 2 where blocks are not larger
smaller_block : (X I : Image) (size small : ℕ) → small ≤ size → ((b : ℕ) → b ≤ 2 → block_at size X b ≡ block_at size I b) → block_at small X 2 ≡ block_at small I 2
smaller_block X I size small low same = ext_get_or 0 (block_at small X 2) (block_at small I 2)
    (length-map-range_with_len (byte X) (small * 2) small ∙ sym (length-map-range_with_len (byte I) (small * 2) small))
    (λ i h.
    let within : i < small = omega (arith, h, length-map-range_with_len (byte X) (small * 2) small) in
    byte-block_at X small 2 i within ∙ (bytes_of_three X I size same (small * 2 + i) (omega arith) ∙ sym (byte-block_at I small 2 i within)))

-- ---- where the superblock is
super_same : (X I : Image) (bits : ℕ) → length X ≡ length I → block_at (2 ^ bits) X 2 ≡ block_at (2 ^ bits) I 2 → has_super X bits ≡ has_super I bits
unfolding has_super
super_same X I bits size same =
    ap (λ n. nat_le (3 * 2 ^ bits) (512 * n) && number_at 0x0 8 (block_at (2 ^ bits) X 2) == superblock_signature && (super_of (drop 0xc0 (block_at (2 ^ bits) X 2))).blocksize_bits == bits) size
    ∙ ap (λ bytes. nat_le (3 * 2 ^ bits) (512 * length I) && number_at 0x0 8 bytes == superblock_signature && (super_of (drop 0xc0 bytes)).blocksize_bits == bits) same

-- numbers that do not fall
abbrev pub Rise : List ℕ → Type 0
Rise [] = Unit {0}
Rise (x ∷ xs) = AllByRecursion (λ y. x ≤ y) xs × Rise xs

-- what is found is one of them
pub found_one : (P : ℕ → Type 0) (p : ℕ → Bool) (xs : List ℕ) (x : ℕ) → AllByRecursion P xs → find p xs ≡ Some x → P x
found_one P p [] x all is = absurd (let never : ⊥ = cc in never)
found_one P p (y ∷ ys) x all is = elim (cases_Bool (p y)) [
  | inl here ↦ let first = rw here at is in let same : y ≡ x = cc in subst P same all.0
  | inr other ↦ found_one P p ys x all.1 (rw other at is)
]

-- the first of rising numbers that passes, where the test is the same up to it
pub find_same : (p q : ℕ → Bool) (xs : List ℕ) (x : ℕ) → Rise xs → ((y : ℕ) → y ≤ x → q y ≡ p y) → find p xs ≡ Some x → find q xs ≡ Some x
find_same p q [] x rise same is = is
find_same p q (y ∷ ys) x rise same is = elim (cases_Bool (p y)) [
  | inl here ↦ let first = rw here at is in let e : y ≡ x = cc in rw (same y (omega arith), here) first
  | inr other ↦
      let rest = rw other at is in
      rw (same y (found_one (λ z. y ≤ z) p ys x rise.0 rest), other) (find_same p q ys x rise.1 same rest)
]

pub sizes_rise : Rise block_sizes
sizes_rise = ((omega arith, (omega arith, (omega arith, tt))), ((omega arith, (omega arith, tt)), ((omega arith, tt), (tt, tt))))

pub superblock_same : (I X : Image) (bits : ℕ) → superblock_bits I ≡ Some bits → length X ≡ length I → ((b : ℕ) → b ≤ 2 → block_at (2 ^ bits) X b ≡ block_at (2 ^ bits) I b)
    → superblock_bits X ≡ Some bits
unfolding superblock_bits
superblock_same I X bits is size same =
    find_same (has_super I) (has_super X) block_sizes bits sizes_rise
    (λ small low. super_same X I small size (smaller_block X I (2 ^ bits) (2 ^ small) (pow-le-pow_right (omega arith) low) same)) is
