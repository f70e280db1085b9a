-- From sectors to blocks: a block of an image whose sectors are old ones or those of writes of whole blocks.
use Rattle.std.proofs.Common.{◌≡◌, ◌⊎◌, inl, inr, ⊎_elim, ℕ, ◌+◌, ◌-◌, ◌*◌, ◌/◌, ◌%◌, ◌<◌, ◌≤◌, true, false, ◌&&◌, nat_le, nat_lt, List, length, drop, get_or, refl, sym, ◌∙◌, ap, subst, arith}
use Rattle.std.specs.List.{list_any, Contains}
use Rattle.std.proofs.lemmas.Bool.{cases_eq, cases_lt, and_parts, false≢true, leb-true, ltb-true}
use Rattle.std.proofs.lemmas.Slice.Eq.{bytes_eq-Decides}
use Rattle.std.proofs.lemmas.List.{ext_get_or, get_or-take, get_or-drop}
use Rattle.std.proofs.lemmas.List.FromFn.{length-map-range_with_len, get_or-map-range_with_len}
use Rattle.std.proofs.Math.Nat.{mul-le-mul_left}
use Rattle.o2_ondisk.specs.Number.{number_at}
use Rattle.o2_ondisk.proofs.NumberLaws.{number_at-same}
use Rattle.o2_disk.specs.Image.{Image, sector, sectors_in, piece, byte, block_at}
use Rattle.o2_disk.proofs.Images.{sector_past}
use Rattle.o2_model.specs.Logs.{LoggedBlock}
use Rattle.o2_model.specs.Replay.{first_sector}
use Rattle.o2_model.specs.TornReplays.{puts_sector}
use Rattle.o2_laws.proofs.Found.{passing}
use Rattle.o2_replay_laws.proofs.Stable.Written.{writes_to, writes_there}

-- ---- a byte of a block
pub byte_of_block : (k : ℕ) (X : Image) (b r : ℕ) → r < 512 * k → get_or (block_at (512 * k) X b) r 0 ≡ get_or (sector X (k * b + r / 512)) (r % 512) 0
byte_of_block k X b r within =
    let place : (512 * k * b + r) / 512 ≡ k * b + r / 512 = omega arith in
    let low : (512 * k * b + r) % 512 ≡ r % 512 = omega arith in
    get_or-map-range_with_len (byte X) (512 * k * b) (512 * k) r (512 * k * b + r) 0 within refl
    ∙ (ap (λ n. get_or (sector X n) ((512 * k * b + r) % 512) 0) place ∙ ap (λ n. get_or (sector X (k * b + r / 512)) n 0) low)

pub length-block : (size : ℕ) (X : Image) (b : ℕ) → length (block_at size X b) ≡ size
length-block size X b = length-map-range_with_len (byte X) (size * b) size

-- a block by its first sector and the bytes behind it
pub block_by_first : (k : ℕ) (X Y : Image) (b : ℕ) → sector X (k * b) ≡ sector Y (k * b)
    → ((r : ℕ) → 512 ≤ r → r < 512 * k → get_or (block_at (512 * k) X b) r 0 ≡ get_or (block_at (512 * k) Y b) r 0) → block_at (512 * k) X b ≡ block_at (512 * k) Y b
block_by_first k X Y b first rest = ext_get_or 0 (block_at (512 * k) X b) (block_at (512 * k) Y b) (length-block (512 * k) X b ∙ sym (length-block (512 * k) Y b)) (λ r h.
    let within : r < 512 * k = omega (arith, h, length-block (512 * k) X b) in
    elim (cases_lt r 512) [
      | inr behind ↦ rest r behind within
      | inl early ↦
          let none : k * b + r / 512 ≡ k * b = omega (arith, early) in
          byte_of_block k X b r within
          ∙ (ap (λ n. get_or (sector X n) (r % 512) 0) none ∙ (ap (λ x. get_or x (r % 512) 0) first
          ∙ (sym (ap (λ n. get_or (sector Y n) (r % 512) 0) none) ∙ sym (byte_of_block k Y b r within))))
    ])

-- a block by all its sectors
pub block_by_sectors : (k : ℕ) (X Y : Image) (b : ℕ) → ((i : ℕ) → i < k → sector X (k * b + i) ≡ sector Y (k * b + i)) → block_at (512 * k) X b ≡ block_at (512 * k) Y b
block_by_sectors k X Y b each = ext_get_or 0 (block_at (512 * k) X b) (block_at (512 * k) Y b) (length-block (512 * k) X b ∙ sym (length-block (512 * k) Y b)) (λ r h.
    let within : r < 512 * k = omega (arith, h, length-block (512 * k) X b) in
    byte_of_block k X b r within ∙ (ap (λ x. get_or x (r % 512) 0) (each (r / 512) (omega (arith, within))) ∙ sym (byte_of_block k Y b r within)))

-- ---- bytes of a write
pub byte_of_piece : (bytes : List ℕ) (r : ℕ) → get_or (piece bytes (r / 512)) (r % 512) 0 ≡ get_or bytes r 0
byte_of_piece bytes r =
    let again : 512 * (r / 512) + r % 512 ≡ r = omega arith in
    get_or-take 512 (drop (512 * (r / 512)) bytes) (r % 512) 0 (omega arith) ∙ (get_or-drop (512 * (r / 512)) bytes (r % 512) 0 ∙ ap (λ n. get_or bytes n 0) again)

behind_first : (xs ys : List ℕ) (r : ℕ) → 512 ≤ r → drop 512 xs ≡ drop 512 ys → get_or xs r 0 ≡ get_or ys r 0
behind_first xs ys r more same =
    let again : 512 + (r - 512) ≡ r = omega (arith, more) in
    sym (get_or-drop 512 xs (r - 512) 0 ∙ ap (λ n. get_or xs n 0) again) ∙ (ap (λ l. get_or l (r - 512) 0) same ∙ (get_or-drop 512 ys (r - 512) 0 ∙ ap (λ n. get_or ys n 0) again))

-- a byte of the first sector, where a write put it
pub first_byte : (k : ℕ) (X : Image) (b r : ℕ) (bytes : List ℕ) → sector X (k * b) ≡ piece bytes 0 → r < 512 → r < 512 * k → get_or (block_at (512 * k) X b) r 0 ≡ get_or bytes r 0
first_byte k X b r bytes put early within =
    let none : k * b + r / 512 ≡ k * b = omega (arith, early) in
    let zeroth : 0 ≡ r / 512 = omega (arith, early) in
    byte_of_block k X b r within
    ∙ (ap (λ n. get_or (sector X n) (r % 512) 0) none ∙ (ap (λ x. get_or x (r % 512) 0) put
    ∙ (ap (λ n. get_or (piece bytes n) (r % 512) 0) zeroth ∙ byte_of_piece bytes r)))

-- a number in the first sector
pub first_number : (k : ℕ) (X Y : Image) (b at width : ℕ) → 1 ≤ k → at + width ≤ 512 → sector X (k * b) ≡ sector Y (k * b)
    → number_at at width (block_at (512 * k) X b) ≡ number_at at width (block_at (512 * k) Y b)
first_number k X Y b at width some fits first = number_at-same at width (block_at (512 * k) X b) (block_at (512 * k) Y b) (λ r low high.
    let within : r < 512 * k = omega (arith, high, fits, some) in
    let none : k * b + r / 512 ≡ k * b = omega (arith, high, fits) in
    byte_of_block k X b r within
    ∙ (ap (λ n. get_or (sector X n) (r % 512) 0) none ∙ (ap (λ x. get_or x (r % 512) 0) first
    ∙ (sym (ap (λ n. get_or (sector Y n) (r % 512) 0) none) ∙ sym (byte_of_block k Y b r within)))))

pub first_number_put : (k : ℕ) (X : Image) (b at width : ℕ) (bytes : List ℕ) → 1 ≤ k → at + width ≤ 512 → sector X (k * b) ≡ piece bytes 0
    → number_at at width (block_at (512 * k) X b) ≡ number_at at width bytes
first_number_put k X b at width bytes some fits put = number_at-same at width (block_at (512 * k) X b) bytes (λ r low high.
    first_byte k X b r bytes put (omega (arith, high, fits)) (omega (arith, high, fits, some)))

-- a block whose first sector a write put, and which has the bytes of the write behind it
pub block_is_write : (k : ℕ) (J X : Image) (b : ℕ) (bytes : List ℕ) → length bytes ≡ 512 * k → sector X (k * b) ≡ piece bytes 0 → drop 512 bytes ≡ drop 512 (block_at (512 * k) J b)
    → ((r : ℕ) → 512 ≤ r → r < 512 * k → get_or (block_at (512 * k) X b) r 0 ≡ get_or (block_at (512 * k) J b) r 0) → block_at (512 * k) X b ≡ bytes
block_is_write k J X b bytes whole put keeps rest = ext_get_or 0 (block_at (512 * k) X b) bytes (length-block (512 * k) X b ∙ sym whole) (λ r h.
    let within : r < 512 * k = omega (arith, h, length-block (512 * k) X b) in
    elim (cases_lt r 512) [
      | inl early ↦ first_byte k X b r bytes put early within
      | inr behind ↦ rest r behind within ∙ sym (behind_first bytes (block_at (512 * k) J b) r behind keeps)
    ])

-- ---- sectors of different blocks
pub blocks_apart : (k b c i l : ℕ) → i < k → l < k → k * b + i ≡ k * c + l → b ≡ c
blocks_apart k b c i l low high same = elim (cases_eq b c) [
  | inl is ↦ is
  | inr other ↦ elim (cases_lt b c) [
    | inl less ↦ absurd (omega (arith, mul-le-mul_left k less, low, same))
    | inr more ↦ let above : c + 1 ≤ b = omega (arith, other, more) in absurd (omega (arith, mul-le-mul_left k above, high, same))
  ]
]

-- a write of a whole block puts its sectors into the sectors of the block
pub put_there : (k b i : ℕ) (bytes : List ℕ) (w : LoggedBlock) → i < k → length w.bytes ≡ 512 * k → puts_sector (512 * k) (k * b + i) bytes w ≡ true → (w.block ≡ b) × (bytes ≡ piece w.bytes i)
put_there k b i bytes w within whole h =
    let s = k * b + i in
    let both = and_parts (nat_le (first_sector (512 * k) w.block) s && nat_lt s (first_sector (512 * k) w.block + sectors_in w.bytes)) _ h in
    let bounds = and_parts (nat_le (first_sector (512 * k) w.block) s) (nat_lt s (first_sector (512 * k) w.block + sectors_in w.bytes)) both.0 in
    let start : first_sector (512 * k) w.block ≡ k * w.block = first_is k w.block in
    let many : sectors_in w.bytes ≡ k = omega (arith, whole) in
    let low = leb-true _ _ bounds.0 in
    let high = ltb-true _ _ bounds.1 in
    let at_least : k * w.block ≤ k * b + i = omega (arith, low, start) in
    let at_most : k * b + i < k * w.block + k = omega (arith, high, start, many) in
    let same : w.block ≡ b = blocks_apart k w.block b (k * b + i - k * w.block) i (omega (arith, at_least, at_most)) within (omega (arith, at_least)) in
    let here : s - first_sector (512 * k) w.block ≡ i = omega (arith, start, ap (λ c. k * c) same) in
    (same, (bytes_eq-Decides bytes (piece w.bytes (s - first_sector (512 * k) w.block))).0 both.1 ∙ ap (piece w.bytes) here)
  where
    first_is : (k b : ℕ) → b * (512 * k) / 512 ≡ k * b
    first_is k b = omega arith

-- ---- an image of old sectors and written ones
-- Each sector is the old one, or one that a write puts there.
pub record IsTornBy (k : ℕ) (ws : List LoggedBlock) (J V : Image) : Type 0 where
  pub size : length V ≡ length J
  pub whole : (w : LoggedBlock) → Contains ws w → length w.bytes ≡ 512 * k
  pub each : (s : ℕ) → s < length J → (sector V s ≡ sector J s) ⊎ (list_any (puts_sector (512 * k) s (sector V s)) ws ≡ true)

-- The write that put the sector.
pub record PutBy (k : ℕ) (ws : List LoggedBlock) (V : Image) (b i : ℕ) : Type 0 where
  pub write : LoggedBlock
  pub inside : Contains ws write
  pub at_block : write.block ≡ b
  pub bytes : sector V (k * b + i) ≡ piece write.bytes i

module _ (k : ℕ) (ws : List LoggedBlock) (J V : Image) (torn : IsTornBy k ws J V) where
  pub old_or_put : (b i : ℕ) → i < k → (sector V (k * b + i) ≡ sector J (k * b + i)) ⊎ PutBy k ws V b i
  old_or_put b i within = elim (cases_lt (k * b + i) (length J)) [
    | inr past ↦ inl (sector_past V (k * b + i) (omega (arith, past, torn.size)) ∙ sym (sector_past J (k * b + i) past))
    | inl there ↦ elim (torn.each (k * b + i) there) [
      | inl old ↦ inl old
      | inr put ↦
          let one = passing (puts_sector (512 * k) (k * b + i) (sector V (k * b + i))) ws put in
          let is = put_there k b i (sector V (k * b + i)) one.item within (torn.whole one.item one.inside) one.passes in
          inr (record { write = one.item; inside = one.inside; at_block = is.0; bytes = is.1 })
    ]
  ]

  -- a block that no write is to
  pub block_kept : (b : ℕ) → writes_to ws b ≡ false → block_at (512 * k) V b ≡ block_at (512 * k) J b
  block_kept b none = block_by_sectors k V J b (λ i within. ⊎_elim (λ old. old)
      (λ put. absurd (false≢true (sym none ∙ subst (λ c. writes_to ws c ≡ true) put.at_block (writes_there ws put.write put.inside)))) (old_or_put b i within))

  -- a byte behind the first sector, where the writes keep these
  pub rest_kept : (b : ℕ) → ((w : LoggedBlock) → Contains ws w → w.block ≡ b → drop 512 w.bytes ≡ drop 512 (block_at (512 * k) J b))
      → (r : ℕ) → 512 ≤ r → r < 512 * k → get_or (block_at (512 * k) V b) r 0 ≡ get_or (block_at (512 * k) J b) r 0
  rest_kept b keeps r behind within =
      byte_of_block k V b r within ∙ ⊎_elim
      (λ old. ap (λ x. get_or x (r % 512) 0) old ∙ sym (byte_of_block k J b r within))
      (λ put. ap (λ x. get_or x (r % 512) 0) put.bytes ∙ (byte_of_piece put.write.bytes r ∙ behind_first put.write.bytes (block_at (512 * k) J b) r behind (keeps put.write put.inside put.at_block)))
      (old_or_put b (r / 512) (omega (arith, within)))
