-- The dinode of an allocator whose counts are changed.
use Rattle.std.proofs.Common.{◌≡◌, ◌⊎◌, ⊎_elim, ℕ, zero, suc, ◌==◌, ◌+◌, ◌-◌, ◌*◌, ◌/◌, ◌^◌, ◌<◌, ◌≤◌, ◌&&◌, nat_le, Bool, true, List, ◌∷◌, length, map, drop, get_or, refl, sym, ◌∙◌, ap, arith}
use Rattle.std.specs.List.{range_with_len}
use Rattle.std.proofs.lemmas.Bool.Decides.{nat_tests}
use Rattle.std.proofs.lemmas.List.FromFn.{length-map-range_with_len}
use Rattle.o2_ondisk.specs.ChainListHeaders.{chain_list_header_of}
use Rattle.o2_ondisk.specs.ChainRecs.{chain_rec_of}
use Rattle.o2_ondisk.specs.Dinodes.{dinode_of, dinode_fields, last_part_place, list_records_place}
use Rattle.o2_ondisk.specs.Fields.{IsOutside, IsOutsideSpan}
use Rattle.o2_ondisk.specs.declared.chain_rec.ChainRec.{ChainRec}
use Rattle.o2_ondisk.specs.declared.chain_list_header.ChainListHeader.{ChainListHeader}
use Rattle.o2_model.specs.declared.allocator.Allocator.{Allocator}
use Rattle.o2_model.specs.declared.allocator.BitUse.{BitUse}
use Rattle.o2_model.specs.declared.allocator.BitUse.TheVariants.{Clusters, Inodes, Metadata}
use Rattle.o2_model.specs.declared.geo.Geo.{Geo}
use Rattle.o2_model.specs.Words.{table}
use Rattle.o2_model.specs.Volume.{Volume, block_size}
use Rattle.o2_model.specs.Allocators.{chains, chain_list_header, is_sound_chain_header, is_sound_chain_size, most_chains}
use Rattle.o2_chain.proofs.ChainCounts.{record_at, same_record}
use Rattle.o2_chain.proofs.Descriptors.{same_dinode, same_chain_header, past_dinode}

-- how many chain records the bytes of a dinode say are in use
abbrev pub used_in : List ℕ → ℕ
used_in bytes = (chain_list_header_of (drop last_part_place bytes)).next_free_rec

-- the records in use of a sound list
abbrev pub chains_of : List ℕ → List ChainRec
chains_of bytes = table chain_rec_of 16 list_records_place (used_in bytes) bytes

pub sound_chains : (v : Volume) (a : Allocator) (bytes : List ℕ) → is_sound_chain_header v a ≡ true → bytes ≡ v.at a.block → chains v a ≡ chains_of bytes
unfolding chains
sound_chains v a bytes sound is = rw sound (ap chains_of (sym is))

-- they fit the block
pub sound_room : (v : Volume) (a : Allocator) (bytes : List ℕ) → is_sound_chain_header v a ≡ true → bytes ≡ v.at a.block → list_records_place ≤ block_size v → list_records_place + 16 * used_in bytes ≤ block_size v
unfolding is_sound_chain_header
sound_room v a bytes sound is room =
    let some : (chain_list_header v a.block).count ≤ most_chains v = grind (arith, nat_tests) in
    let most : (chain_list_header v a.block).next_free_rec ≤ (chain_list_header v a.block).count = grind (arith, nat_tests) in
    omega (arith, some, most, ap used_in is, room)

-- whether it is sound is told by the numbers and the header
same_size_test : (old new : Volume) → new.geo ≡ old.geo → (bit_use : BitUse) (h : ChainListHeader) → is_sound_chain_size new bit_use h ≡ is_sound_chain_size old bit_use h
same_size_test old new numbers Clusters h = ap (λ (geo : Geo). h.bpc == 1 && h.cpg == 8 * (2 ^ geo.block_bits - 64)) numbers
same_size_test old new numbers Inodes h = ap (λ (geo : Geo). h.bpc == 2 ^ (geo.cluster_bits - geo.block_bits) && nat_le 2 (h.cpg * 2 ^ (geo.cluster_bits - geo.block_bits))) numbers
same_size_test old new numbers Metadata h = ap (λ (geo : Geo). h.bpc == 2 ^ (geo.cluster_bits - geo.block_bits) && nat_le 2 (h.cpg * 2 ^ (geo.cluster_bits - geo.block_bits))) numbers

pub still_sound : (old new : Volume) (a : Allocator) → new.geo ≡ old.geo → chain_list_header new a.block ≡ chain_list_header old a.block → is_sound_chain_header old a ≡ true → is_sound_chain_header new a ≡ true
unfolding is_sound_chain_header
still_sound old new a numbers header sound =
    let test = λ (good : Bool) (h : ChainListHeader) (size : ℕ). good && nat_le 1 h.count && nat_le h.count ((size - list_records_place) / 16) && nat_le h.next_free_rec h.count in
    ap (λ h. test (is_sound_chain_size new a.bit_use h) h (block_size new)) header
    ∙ (ap (λ good. test good (chain_list_header old a.block) (block_size new)) (same_size_test old new numbers a.bit_use (chain_list_header old a.block))
    ∙ (ap (λ (geo : Geo). test (is_sound_chain_size old a.bit_use (chain_list_header old a.block)) (chain_list_header old a.block) (2 ^ geo.block_bits)) numbers ∙ sound))

-- tables of the same records
map_same : {A : Type 0} (f g : ℕ → A) (a n : ℕ) → ((k : ℕ) → a ≤ k → k < a + n → f k ≡ g k) → map f (range_with_len a n) ≡ map g (range_with_len a n)
map_same f g a zero each = refl
map_same f g a (suc n) each = let rest = map_same f g (a + 1) n (λ k low high. each k (omega (arith, low)) (omega (arith, high))) in λ i. each a (omega arith) (omega arith) i ∷ rest i

-- the dinode's bytes once the chain records, and then the count of all bits, are changed
module _ (old new : Volume) (a : Allocator) (first mid last : List ℕ) (numbers : new.geo ≡ old.geo) (sound : is_sound_chain_header old a ≡ true) (was : first ≡ old.at a.block) (is : last ≡ new.at a.block)
    (records_alone : (i : ℕ) → IsOutsideSpan list_records_place (16 * used_in first) i → get_or mid i 0 ≡ get_or first i 0) (dinode_alone : (i : ℕ) → IsOutside dinode_fields i → get_or last i 0 ≡ get_or mid i 0) where
  before_records : (i : ℕ) → i < list_records_place → get_or mid i 0 ≡ get_or first i 0
  before_records i low = records_alone i (λ from under. omega (arith, low, from))

  behind_dinode : (i : ℕ) → last_part_place ≤ i → get_or last i 0 ≡ get_or mid i 0
  behind_dinode i past = dinode_alone i (past_dinode i past)

  header_same : chain_list_header_of (drop last_part_place last) ≡ chain_list_header_of (drop last_part_place first)
  header_same = same_chain_header last first (λ i low high. behind_dinode i low ∙ before_records i high)

  pub edited_header : chain_list_header new a.block ≡ chain_list_header old a.block
  edited_header = ap (λ bytes. chain_list_header_of (drop last_part_place bytes)) (sym is) ∙ (header_same ∙ ap (λ bytes. chain_list_header_of (drop last_part_place bytes)) was)

  -- the records after both are those after the first
  pub edited_chains : chains new a ≡ table chain_rec_of 16 list_records_place (used_in first) mid
  edited_chains =
      sound_chains new a last (still_sound old new a numbers edited_header sound) is
      ∙ (ap (λ (h : ChainListHeader). table chain_rec_of 16 list_records_place h.next_free_rec last) header_same
      ∙ map_same (record_at last) (record_at mid) 0 (used_in first) (λ k low high. same_record last mid k (λ i from under. behind_dinode i (omega (arith, from)))))

  -- a dinode of the same fields but one
  pub edited_dinode : dinode_of mid ≡ dinode_of first
  edited_dinode = same_dinode mid first (λ i low. before_records i (omega (arith, low)))

  pub edited_others : (i : ℕ) → IsOutside dinode_fields i → (i < list_records_place) ⊎ (list_records_place + 16 * length (chains old a) ≤ i) → get_or (new.at a.block) i 0 ≡ get_or (old.at a.block) i 0
  edited_others i out side =
      let count : length (chains old a) ≡ used_in first = ap length (sound_chains old a first sound was) ∙ length-map-range_with_len (record_at first) 0 (used_in first) in
      ap (λ bytes. get_or bytes i 0) (sym is)
      ∙ (dinode_alone i out
      ∙ (⊎_elim (λ low. records_alone i (λ from under. omega (arith, low, from))) (λ past. records_alone i (λ from under. omega (arith, past, under, count))) side ∙ ap (λ bytes. get_or bytes i 0) was))
