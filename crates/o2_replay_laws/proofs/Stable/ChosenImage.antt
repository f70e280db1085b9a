-- A torn image, and the image that has its first sectors of block 2 and of the system directory and else the old sectors: both have
-- the same blocks wherever the log writes nothing, and the superblock is found in both as before.
use Rattle.std.proofs.Common.{◌≡◌, ◌≢◌, ◌⊎◌, inl, inr, ℕ, ◌+◌, ◌*◌, ◌/◌, ◌%◌, ◌^◌, ◌<◌, ◌≤◌, true, false, length, drop, get_or, refl, sym, ◌∙◌, ap, subst, arith, Some}
use Rattle.std.specs.List.{Contains}
use Rattle.std.proofs.Math.Nat.{mul-le-mul_left}
use Rattle.o2_disk.specs.Image.{Image, sector, block_at}
use Rattle.o2_model.specs.Superblock.{superblock_bits}
use Rattle.o2_model.specs.Volume.{volume_of}
use Rattle.o2_model.specs.Logs.{LoggedBlock}
use Rattle.o2_model.specs.Dirty.{committed_writes}
use Rattle.o2_model.specs.Anchors.{is_anchor}
use Rattle.o2_replay_laws.proofs.Stable.SameDirectory.{directory_is_anchor}
use Rattle.o2_replay_laws.proofs.Stable.Written.{writes_to}
use Rattle.o2_replay_laws.proofs.Stable.CanReplay as sound
use Rattle.o2_replay_laws.proofs.Stable.TornBlocks.{IsTornBy, byte_of_block, length-block, block_by_first, block_by_sectors, block_is_write, blocks_apart, old_or_put, block_kept, rest_kept}
use Rattle.o2_replay_laws.proofs.Stable.SuperKept.{SuperKept, kept_itself, super_change_keeps, bits_alike}

-- J is an image with one dirty slot, V what a torn replay left of it, and F the image J with the first sectors of V in two places.
pub record IsChosen (J F V : Image) (bits k s j : ℕ) : Type 0 where
  pub found : superblock_bits J ≡ Some bits
  pub size : 2 ^ bits ≡ 512 * k
  pub some : 1 ≤ k
  pub can : sound.CanReplay (volume_of J bits) s j
  pub torn : IsTornBy k (committed_writes (volume_of J bits) s) J V
  pub own : block_at (2 ^ bits) V j ≡ block_at (2 ^ bits) J j
  pub length_same : length F ≡ length J
  pub two : sector F (k * 2) ≡ sector V (k * 2)
  pub directory : sector F (k * (volume_of J bits).geo.sysdir) ≡ sector V (k * (volume_of J bits).geo.sysdir)
  pub others : (n : ℕ) → n ≢ k * 2 → n ≢ k * (volume_of J bits).geo.sysdir → sector F n ≡ sector J n

module _ (J F V : Image) (bits k s j : ℕ) (is : IsChosen J F V bits k s j) where
  -- blocks of one size
  sized : (X Y : Image) (b : ℕ) → block_at (512 * k) X b ≡ block_at (512 * k) Y b → block_at (2 ^ bits) X b ≡ block_at (2 ^ bits) Y b
  sized X Y b same = subst (λ n. block_at n X b ≡ block_at n Y b) (sym is.size) same

  -- what no write is to
  pub torn_kept : (b : ℕ) → writes_to (committed_writes (volume_of J bits) s) b ≡ false → block_at (2 ^ bits) V b ≡ block_at (2 ^ bits) J b
  torn_kept b none = sized V J b (block_kept k (committed_writes (volume_of J bits) s) J V is.torn b none)

  -- in another block no sector is one of the two
  no_first : (b c i : ℕ) → i < k → (b ≡ c → ⊥) → k * b + i ≢ k * c
  no_first b c i low apart same = apart (blocks_apart k b c i 0 low (omega (arith, low)) (omega (arith, same)))

  pub chosen_other : (b : ℕ) → (b ≡ 2 → ⊥) → (b ≡ (volume_of J bits).geo.sysdir → ⊥) → block_at (2 ^ bits) F b ≡ block_at (2 ^ bits) J b
  chosen_other b not_two not_sysdir = sized F J b (block_by_sectors k F J b (λ i low. is.others (k * b + i) (no_first b 2 i low not_two) (no_first b (volume_of J bits).geo.sysdir i low not_sysdir)))

  -- behind a block's first sector nothing was chosen
  behind_first : (b c i : ℕ) → 1 ≤ i → i < k → k * b + i ≢ k * c
  behind_first b c i more low same =
      let at : b ≡ c = blocks_apart k b c i 0 low (omega (arith, low)) (omega (arith, same)) in
      absurd (omega (arith, more, same, ap (λ n. k * n) at))

  chosen_rest : (b r : ℕ) → 512 ≤ r → r < 512 * k → get_or (block_at (512 * k) F b) r 0 ≡ get_or (block_at (512 * k) J b) r 0
  chosen_rest b r behind within =
      let more : 1 ≤ r / 512 = omega (arith, behind) in
      let low : r / 512 < k = omega (arith, within) in
      byte_of_block k F b r within
      ∙ (ap (λ x. get_or x (r % 512) 0) (is.others (k * b + r / 512) (behind_first b 2 (r / 512) more low) (behind_first b (volume_of J bits).geo.sysdir (r / 512) more low))
      ∙ sym (byte_of_block k J b r within))

  -- what is written to an anchor keeps the bytes behind the first sector
  keeps : (b : ℕ) → is_anchor (volume_of J bits) b ≡ true → (w : LoggedBlock) → Contains (committed_writes (volume_of J bits) s) w → w.block ≡ b → drop 512 w.bytes ≡ drop 512 (block_at (512 * k) J b)
  keeps b anchor w inside at =
      (sound.anchor_write (volume_of J bits) s j is.can w inside (subst (λ c. is_anchor (volume_of J bits) c ≡ true) (sym at) anchor)).kept
      ∙ (ap (λ c. drop 512 (block_at (2 ^ bits) J c)) at ∙ ap (λ n. drop 512 (block_at n J b)) is.size)

  torn_rest : (b : ℕ) → is_anchor (volume_of J bits) b ≡ true → (r : ℕ) → 512 ≤ r → r < 512 * k → get_or (block_at (512 * k) V b) r 0 ≡ get_or (block_at (512 * k) J b) r 0
  torn_rest b anchor = rest_kept k (committed_writes (volume_of J bits) s) J V is.torn b (keeps b anchor)

  by_first : (b : ℕ) → is_anchor (volume_of J bits) b ≡ true → sector F (k * b) ≡ sector V (k * b) → block_at (2 ^ bits) V b ≡ block_at (2 ^ bits) F b
  by_first b anchor first = sized V F b (block_by_first k V F b (sym first) (λ r behind within. torn_rest b anchor r behind within ∙ sym (chosen_rest b r behind within)))

  two_anchor : is_anchor (volume_of J bits) 2 ≡ true
  two_anchor = sound.first_block_is_anchor (volume_of J bits) s j is.can 2 refl

  sysdir_anchor : is_anchor (volume_of J bits) (volume_of J bits).geo.sysdir ≡ true
  sysdir_anchor = sound.directory_block_is_anchor (volume_of J bits) s j is.can (volume_of J bits).geo.sysdir (directory_is_anchor (volume_of J bits) (volume_of J bits).geo.sysdir)

  -- the torn image and the chosen one have the same of these three blocks
  pub two_same : block_at (2 ^ bits) V 2 ≡ block_at (2 ^ bits) F 2
  two_same = by_first 2 two_anchor is.two

  pub sysdir_same : block_at (2 ^ bits) V (volume_of J bits).geo.sysdir ≡ block_at (2 ^ bits) F (volume_of J bits).geo.sysdir
  sysdir_same = by_first (volume_of J bits).geo.sysdir sysdir_anchor is.directory

  pub journal_same : block_at (2 ^ bits) V j ≡ block_at (2 ^ bits) F j
  journal_same =
      is.own ∙ sym (chosen_other j (λ e. sound.two_not_journal (volume_of J bits) s j is.can (sym e)) (λ e. sound.sysdir_not_journal (volume_of J bits) s j is.can (sym e)))

  -- The block is the old one, or that of a write.
  pub old_or_written : (b : ℕ) → is_anchor (volume_of J bits) b ≡ true → sector F (k * b) ≡ sector V (k * b)
      → (block_at (2 ^ bits) F b ≡ block_at (2 ^ bits) J b) ⊎ ((w : LoggedBlock) × Contains (committed_writes (volume_of J bits) s) w × (w.block ≡ b) × (block_at (2 ^ bits) F b ≡ w.bytes))
  old_or_written b anchor first =
      let zeroth : k * b + 0 ≡ k * b = omega arith in
      elim (old_or_put k (committed_writes (volume_of J bits) s) J V is.torn b 0 (omega (arith, is.some))) [
        | inl old ↦ inl (sized F J b (block_by_first k F J b (first ∙ subst (λ n. sector V n ≡ sector J n) zeroth old) (chosen_rest b)))
        | inr put ↦
            let bytes : block_at (512 * k) F b ≡ put.write.bytes
            = block_is_write k J F b put.write.bytes (is.torn.whole put.write put.inside) (first ∙ (ap (λ n. sector V n) (sym zeroth) ∙ put.bytes))
            (keeps b anchor put.write put.inside put.at_block) (chosen_rest b) in
            inr (put.write, put.inside, put.at_block, ap (λ n. block_at n F b) is.size ∙ bytes)
      ]

  long : (X : Image) (b : ℕ) → 512 ≤ length (block_at (2 ^ bits) X b)
  long X b = omega (arith, length-block (2 ^ bits) X b, is.size, is.some)

  pub super_kept : SuperKept (block_at (2 ^ bits) J 2) (block_at (2 ^ bits) F 2)
  super_kept = elim (old_or_written 2 two_anchor is.two) [
    | inl old ↦ kept_itself (block_at (2 ^ bits) J 2) (block_at (2 ^ bits) F 2) old
    | inr put ↦
        let w = put.0 in
        let anchor : is_anchor (volume_of J bits) w.block ≡ true = subst (λ c. is_anchor (volume_of J bits) c ≡ true) (sym put.2) two_anchor in
        let change = (sound.anchor_write (volume_of J bits) s j is.can w put.1 anchor).on_super put.2 in
        let whole = is.torn.whole w put.1 in
        let enough : 512 ≤ length w.bytes = omega (arith, whole, is.some) in
        subst (SuperKept (block_at (2 ^ bits) J 2)) (sym put.3) (super_change_keeps (volume_of J bits) w (long J 2) enough change)
  ]

  pub chosen_bits : superblock_bits F ≡ Some bits
  chosen_bits = bits_alike k J F bits is.size is.found is.length_same (λ n low. is.others n (λ e. absurd (omega (arith, low, e))) (λ e.
      let far = mul-le-mul_left k (sound.sysdir_behind (volume_of J bits) s j is.can) in
      absurd (omega (arith, low, e, far, is.some)))) super_kept
