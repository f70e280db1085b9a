-- Laws of images, sector by sector.
use Rattle.std.proofs.Common.{◌≡◌, ◌≢◌, ◌⊎◌, inl, inr, ⊎_elim, ℕ, ◌+◌, ◌-◌, ◌*◌, ◌/◌, ◌%◌, ◌<◌, ◌≤◌, List, [], length, drop, get_or, refl, sym, ◌∙◌, ap, subst, arith}
use Rattle.std.proofs.lemmas.List.{ext_get_or, get_or_past, take_all, get_or-take, get_or-drop}
use Rattle.std.proofs.Math.Nat.{mul-le-mul_left}
use Rattle.std.proofs.lemmas.List.FromFn.{length-map-range_with_len, get_or-map-range_with_len}
use Rattle.std.proofs.lemmas.Bool.Decides.{nat_tests}
use Rattle.std.proofs.lemmas.Bool.{cases_eq, cases_lt}
use Rattle.o2_disk.specs.Image.{Image, sector, image_of, sectors_in, piece, InRange, written, byte, bytes_from, block_at, Torn, zero_sector}

-- two images with the same sectors are one
pub same_image : (X Y : Image) → length X ≡ length Y → ((s : ℕ) → s < length X → sector X s ≡ sector Y s) → X ≡ Y
same_image X Y size each = ext_get_or [] X Y size each

pub length-image_of : (n : ℕ) (f : ℕ → List ℕ) → length (image_of n f) ≡ n
length-image_of n f = length-map-range_with_len f 0 n

pub sector-image_of : (n : ℕ) (f : ℕ → List ℕ) (s : ℕ) → s < n → sector (image_of n f) s ≡ f s
sector-image_of n f s h = get_or-map-range_with_len f 0 n s s [] h (omega arith)

pub sector_past : (I : Image) (s : ℕ) → length I ≤ s → sector I s ≡ []
sector_past I s h = get_or_past I s [] h

pub length-written : (I : Image) (at : ℕ) (bytes : List ℕ) → length (written I at bytes) ≡ length I
unfolding written
length-written I at bytes = length-image_of (length I) _

pub in_or_out : (at : ℕ) (bytes : List ℕ) (s : ℕ) → InRange at bytes s ⊎ (InRange at bytes s → ⊥)
in_or_out at bytes s = elim (cases_lt s at) [
  | inl before ↦ inr (λ r. absurd (omega (arith, r.0)))
  | inr from ↦ elim (cases_lt s (at + sectors_in bytes)) [
    | inl within ↦ inl (from, within)
    | inr after ↦ inr (λ r. absurd (omega (arith, r.1)))
  ]
]

-- a written sector, and any other
pub sector-written_in : (I : Image) (at : ℕ) (bytes : List ℕ) (s : ℕ) → InRange at bytes s → s < length I → sector (written I at bytes) s ≡ piece bytes (s - at)
unfolding written
sector-written_in I at bytes s r h = sector-image_of (length I) _ s h ∙ grind (arith, nat_tests)

pub sector-written_other : (I : Image) (at : ℕ) (bytes : List ℕ) (s : ℕ) → (InRange at bytes s → ⊥) → sector (written I at bytes) s ≡ sector I s
unfolding written
sector-written_other I at bytes s r = elim (cases_lt s (length I)) [
  | inl inside ↦ sector-image_of (length I) _ s inside ∙ grind (arith, nat_tests)
  | inr past ↦ sector_past (written I at bytes) s (omega (arith, length-written I at bytes, past)) ∙ sym (sector_past I s past)
]

-- what a torn write leaves: outside the range the old sectors
pub torn_other : (at : ℕ) (bytes : List ℕ) (I X : Image) (s : ℕ) → Torn at bytes I X → (InRange at bytes s → ⊥) → sector X s ≡ sector I s
torn_other at bytes I X s torn out = ⊎_elim (λ same. same) (λ new. absurd (out new.0)) (torn.each s)

-- nothing is torn, and all is written: two of the outcomes
pub torn_none : (at : ℕ) (bytes : List ℕ) (I : Image) → Torn at bytes I I
torn_none at bytes I = record { size = refl; each = λ s. inl refl }

pub torn_all : (at : ℕ) (bytes : List ℕ) (I : Image) → at + sectors_in bytes ≤ length I → Torn at bytes I (written I at bytes)
torn_all at bytes I fits = record {
  size = length-written I at bytes;
  each = λ s. elim (in_or_out at bytes s) [
    | inl r ↦ inr (r, sector-written_in I at bytes s r (omega (arith, r.1)))
    | inr out ↦ inl (sector-written_other I at bytes s out)
  ];
}

-- a write of one sector is whole or it isn't done
pub torn_one : (at : ℕ) (bytes : List ℕ) (I X : Image) → length bytes ≡ 512 → at < length I → Torn at bytes I X → (X ≡ I) ⊎ (X ≡ written I at bytes)
torn_one at bytes I X one fits torn = elim (torn.each at) [
  | inl same ↦ inl (same_image X I torn.size (λ s h. elim (cases_eq s at) [
    | inl is ↦ subst (λ (k : ℕ). sector X k ≡ sector I k) (sym is) same
    | inr not ↦ torn_other at bytes I X s torn (λ r. not (omega (arith, one, r.0, r.1)))
  ]))
  | inr new ↦ inr (same_image X (written I at bytes) (torn.size ∙ sym (length-written I at bytes)) (λ s h. elim (cases_eq s at) [
    | inl is ↦ subst (λ (k : ℕ). sector X k ≡ sector (written I at bytes) k) (sym is) (new.1 ∙ sym (sector-written_in I at bytes at new.0 fits))
    | inr not ↦ let out : InRange at bytes s → ⊥ = λ r. not (omega (arith, one, r.0, r.1)) in
        torn_other at bytes I X s torn out ∙ sym (sector-written_other I at bytes s out)
  ]))
]

-- a read of what was just written, of one sector
pub read_back : (I : Image) (at : ℕ) (bytes : List ℕ) → length bytes ≡ 512 → at < length I → sector (written I at bytes) at ≡ bytes
read_back I at bytes one fits = sector-written_in I at bytes at (omega arith, omega (arith, one)) fits ∙ ap (λ (k : ℕ). piece bytes k) none ∙ take_all 512 bytes (omega (arith, one))
  where
    none : at - at ≡ 0
    none = omega arith

-- a block that lies outside the range of a write reads as before
pub byte-same : (X Y : Image) (i : ℕ) → sector X (i / 512) ≡ sector Y (i / 512) → byte X i ≡ byte Y i
byte-same X Y i same = ap (λ (l : List ℕ). get_or l (i % 512) 0) same

pub block_at-same : (size : ℕ) (X Y : Image) (b : ℕ) → ((i : ℕ) → i < size → sector X ((size * b + i) / 512) ≡ sector Y ((size * b + i) / 512)) → block_at size X b ≡ block_at size Y b
block_at-same size X Y b same = ext_get_or 0 (block_at size X b) (block_at size Y b)
    (length-map-range_with_len (byte X) (size * b) size ∙ sym (length-map-range_with_len (byte Y) (size * b) size))
    (λ i h. let k : i < size = omega (arith, length-map-range_with_len (byte X) (size * b) size, h) in
    get_or-map-range_with_len (byte X) (size * b) size i (size * b + i) 0 k refl
    ∙ byte-same X Y (size * b + i) (same i k)
    ∙ sym (get_or-map-range_with_len (byte Y) (size * b) size i (size * b + i) 0 k refl))

-- writes of one sector
pub in_one : (at : ℕ) (bytes : List ℕ) (s : ℕ) → length bytes ≡ 512 → InRange at bytes s → s ≡ at
in_one at bytes s one r = omega (arith, one, r.0, r.1)

pub other_one : (I : Image) (at : ℕ) (bytes : List ℕ) (s : ℕ) → length bytes ≡ 512 → s ≢ at → sector (written I at bytes) s ≡ sector I s
other_one I at bytes s one ne = sector-written_other I at bytes s (λ r. ne (in_one at bytes s one r))

pub length-zero_sector : length zero_sector ≡ 512
unfolding zero_sector
length-zero_sector = refl

-- a sector of 512 bytes, read as bytes
pub bytes_from-sector : (I : Image) (at : ℕ) (bytes : List ℕ) → length bytes ≡ 512 → sector I at ≡ bytes → bytes_from I (512 * at) 512 ≡ bytes
bytes_from-sector I at bytes one is = ext_get_or 0 (bytes_from I (512 * at) 512) bytes (length-map-range_with_len (byte I) (512 * at) 512 ∙ sym one) (λ i h.
    let k : i < 512 = omega (arith, h, length-map-range_with_len (byte I) (512 * at) 512) in
    let place : (512 * at + i) / 512 ≡ at = omega (arith, k) in
    let low : (512 * at + i) % 512 ≡ i = omega (arith, k) in
    get_or-map-range_with_len (byte I) (512 * at) 512 i (512 * at + i) 0 k refl
    ∙ ap (λ (s : ℕ). get_or (sector I s) ((512 * at + i) % 512) 0) place
    ∙ ap (λ (j : ℕ). get_or (sector I at) j 0) low
    ∙ ap (λ (l : List ℕ). get_or l i 0) is)

-- and from equal sectors equal bytes
pub bytes_from-same : (X Y : Image) (at : ℕ) → sector X at ≡ sector Y at → bytes_from X (512 * at) 512 ≡ bytes_from Y (512 * at) 512
bytes_from-same X Y at same = ext_get_or 0 (bytes_from X (512 * at) 512) (bytes_from Y (512 * at) 512)
    (length-map-range_with_len (byte X) (512 * at) 512 ∙ sym (length-map-range_with_len (byte Y) (512 * at) 512))
    (λ i h.
    let k : i < 512 = omega (arith, h, length-map-range_with_len (byte X) (512 * at) 512) in
    let place : (512 * at + i) / 512 ≡ at = omega (arith, k) in
    get_or-map-range_with_len (byte X) (512 * at) 512 i (512 * at + i) 0 k refl
    ∙ byte-same X Y (512 * at + i) (ap (λ (s : ℕ). sector X s) place ∙ same ∙ sym (ap (λ (s : ℕ). sector Y s) place))
    ∙ sym (get_or-map-range_with_len (byte Y) (512 * at) 512 i (512 * at + i) 0 k refl))

-- ---- blocks of `512 * k` bytes
byte-place : (k b i : ℕ) → (512 * k * b + i) / 512 ≡ k * b + i / 512
byte-place k b i = omega arith

byte-low : (k b i : ℕ) → (512 * k * b + i) % 512 ≡ i % 512
byte-low k b i = omega arith

-- a block that was just written, and any other
pub block_at-written_same : (I : Image) (k b : ℕ) (bytes : List ℕ) → length bytes ≡ 512 * k → k * b + k ≤ length I → block_at (512 * k) (written I (k * b) bytes) b ≡ bytes
block_at-written_same I k b bytes long fits = ext_get_or 0 (block_at (512 * k) (written I (k * b) bytes) b) bytes (length-map-range_with_len (byte (written I (k * b) bytes)) (512 * k * b) (512 * k) ∙ sym long) (λ i h.
    let within : i < 512 * k = omega (arith, h, length-map-range_with_len (byte (written I (k * b) bytes)) (512 * k * b) (512 * k)) in
    let here : InRange (k * b) bytes (k * b + i / 512) = (omega arith, omega (arith, long, within)) in
    let off : k * b + i / 512 - k * b ≡ i / 512 = omega arith in
    let again : 512 * (i / 512) + i % 512 ≡ i = omega arith in
    get_or-map-range_with_len (byte (written I (k * b) bytes)) (512 * k * b) (512 * k) i (512 * k * b + i) 0 within refl
    ∙ ap (λ (s : ℕ). get_or (sector (written I (k * b) bytes) s) ((512 * k * b + i) % 512) 0) (byte-place k b i)
    ∙ ap (λ (j : ℕ). get_or (sector (written I (k * b) bytes) (k * b + i / 512)) j 0) (byte-low k b i)
    ∙ ap (λ (l : List ℕ). get_or l (i % 512) 0) (sector-written_in I (k * b) bytes (k * b + i / 512) here (omega (arith, within, fits)))
    ∙ ap (λ (j : ℕ). get_or (piece bytes j) (i % 512) 0) off
    ∙ get_or-take 512 (drop (512 * (i / 512)) bytes) (i % 512) 0 (omega arith)
    ∙ get_or-drop (512 * (i / 512)) bytes (i % 512) 0
    ∙ ap (λ (j : ℕ). get_or bytes j 0) again)

pub block_at-written_other : (I : Image) (k b c : ℕ) (bytes : List ℕ) → length bytes ≡ 512 * k → c ≢ b → block_at (512 * k) (written I (k * b) bytes) c ≡ block_at (512 * k) I c
block_at-written_other I k b c bytes long apart = block_at-same (512 * k) (written I (k * b) bytes) I c (λ i h.
    ap (λ (s : ℕ). sector (written I (k * b) bytes) s) (byte-place k c i)
    ∙ sector-written_other I (k * b) bytes (k * c + i / 512) (λ r. no_common k b c (i / 512) (omega (arith, h)) apart r.0 (omega (arith, r.1, long)))
    ∙ sym (ap (λ (s : ℕ). sector I s) (byte-place k c i)))
  where
    no_common : (k b c j : ℕ) → j < k → c ≢ b → k * b ≤ k * c + j → k * c + j < k * b + k → ⊥
    no_common k b c j low ne from to = elim (cases_lt c b) [
      | inl less ↦ absurd (omega (arith, mul-le-mul_left k less, low, from))
      | inr more ↦ let above : b + 1 ≤ c = omega (arith, ne, more) in absurd (omega (arith, mul-le-mul_left k above, to))
    ]
