-- Structures whose bytes stay.
use Rattle.std.proofs.Common.{◌≡◌, ℕ, ◌+◌, ◌<◌, ◌≤◌, true, List, [], ◌∷◌, drop, get_or, refl, sym, ◌∙◌, arith}
use Rattle.std.proofs.lemmas.Bool.Decides.{nat_tests}
use Rattle.o2_ondisk.specs.Fields.{is_layout, IsOutside}
use Rattle.o2_ondisk.specs.ChainListHeaders.{chain_list_header_of}
use Rattle.o2_ondisk.specs.Dinodes.{dinode_of, dinode_fields, last_part_place, list_records_place}
use Rattle.o2_ondisk.specs.declared.layout.Field.{Field}
use Rattle.o2_ondisk.proofs.TableLaws.{ends_within}
use Rattle.o2_ondisk.specs.Number.{number_at}
use Rattle.o2_ondisk.specs.GroupDescs.{group_desc_of, group_desc_fields}
use Rattle.o2_ondisk.proofs.NumberLaws.{number_at-same, number_at-drop}

-- a descriptor is told by the bytes before the bitmap
module _ (xs ys : List ℕ) (same : (i : ℕ) → i < 0x40 → get_or xs i 0 ≡ get_or ys i 0) where
  same_number : (at width : ℕ) → at + width ≤ 0x40 → number_at at width xs ≡ number_at at width ys
  same_number at width within = number_at-same at width xs ys (λ k from to. same k (omega (arith, to, within)))

  pub same_group_desc : group_desc_of xs ≡ group_desc_of ys
  same_group_desc i = record {
    signature = record { 0 = same_number 0x0 8 (omega arith) i };
    size = same_number 0x8 2 (omega arith) i;
    bits = same_number 0xa 2 (omega arith) i;
    free_bits_count = same_number 0xc 2 (omega arith) i;
    chain = same_number 0xe 2 (omega arith) i;
    generation = same_number 0x10 4 (omega arith) i;
    next_group = same_number 0x18 8 (omega arith) i;
    parent_dinode = same_number 0x20 8 (omega arith) i;
    blkno = same_number 0x28 8 (omega arith) i;
  }

-- a dinode is told by the bytes before its last part
module _ (xs ys : List ℕ) (same : (i : ℕ) → i < last_part_place → get_or xs i 0 ≡ get_or ys i 0) where
  same_in : (at width : ℕ) → at + width ≤ last_part_place → number_at at width xs ≡ number_at at width ys
  same_in at width within = number_at-same at width xs ys (λ k from to. same k (omega (arith, to, within)))

  pub same_dinode : dinode_of xs ≡ dinode_of ys
  same_dinode i = record {
    signature = record { 0 = same_in 0x0 8 (omega arith) i };
    generation = same_in 0x8 4 (omega arith) i;
    suballoc_slot = same_in 0xc 2 (omega arith) i;
    suballoc_bit = same_in 0xe 2 (omega arith) i;
    links_count_hi = same_in 0x10 2 (omega arith) i;
    xattr_inline_size = same_in 0x12 2 (omega arith) i;
    clusters = same_in 0x14 4 (omega arith) i;
    uid = same_in 0x18 4 (omega arith) i;
    gid = same_in 0x1c 4 (omega arith) i;
    size = same_in 0x20 8 (omega arith) i;
    mode = same_in 0x28 2 (omega arith) i;
    links_count = same_in 0x2a 2 (omega arith) i;
    flags = record { 0 = same_in 0x2c 4 (omega arith) i };
    atime = same_in 0x30 8 (omega arith) i;
    ctime = same_in 0x38 8 (omega arith) i;
    mtime = same_in 0x40 8 (omega arith) i;
    dtime = same_in 0x48 8 (omega arith) i;
    blkno = same_in 0x50 8 (omega arith) i;
    last_eb_blk = same_in 0x58 8 (omega arith) i;
    fs_generation = same_in 0x60 4 (omega arith) i;
    atime_nsec = same_in 0x64 4 (omega arith) i;
    ctime_nsec = same_in 0x68 4 (omega arith) i;
    mtime_nsec = same_in 0x6c 4 (omega arith) i;
    attr = same_in 0x70 4 (omega arith) i;
    orphaned_slot = same_in 0x74 2 (omega arith) i;
    dyn_features = record { 0 = same_in 0x76 2 (omega arith) i };
    xattr_loc = same_in 0x78 8 (omega arith) i;
    check = same_in 0x80 8 (omega arith) i;
    dx_root = same_in 0x88 8 (omega arith) i;
    refcount_loc = same_in 0x90 8 (omega arith) i;
    suballoc_loc = same_in 0x98 8 (omega arith) i;
    role_data = record { 0 = same_in 0xb8 8 (omega arith) i };
  }

-- the header of a chain list is told by the bytes before the records
module _ (xs ys : List ℕ) (same : (i : ℕ) → last_part_place ≤ i → i < list_records_place → get_or xs i 0 ≡ get_or ys i 0) where
  same_there : (at width : ℕ) → at + width ≤ 16 → number_at at width (drop last_part_place xs) ≡ number_at at width (drop last_part_place ys)
  same_there at width within =
      number_at-drop at width last_part_place xs
      ∙ (number_at-same (last_part_place + at) width xs ys (λ k from to. same k (omega (arith, from)) (omega (arith, to, within))) ∙ sym (number_at-drop at width last_part_place ys))

  pub same_chain_header : chain_list_header_of (drop last_part_place xs) ≡ chain_list_header_of (drop last_part_place ys)
  same_chain_header i = record {
    cpg = same_there 0x0 2 (omega arith) i;
    bpc = same_there 0x2 2 (omega arith) i;
    count = same_there 0x4 2 (omega arith) i;
    next_free_rec = same_there 0x6 2 (omega arith) i;
  }

-- a place past a table is in none of its fields
past_layout : (low : ℕ) (fields : List Field) (size i : ℕ) → is_layout low fields size ≡ true → size ≤ i → IsOutside fields i
past_layout low [] size i test past = tt
past_layout low (f ∷ fields) size i test past =
    let rest : is_layout (f.at + f.width) fields size ≡ true = grind (arith, nat_tests) in
    ((λ from under. omega (arith, ends_within (f.at + f.width) fields size rest, past, under)), past_layout (f.at + f.width) fields size i rest past)

pub past_dinode : (i : ℕ) → last_part_place ≤ i → IsOutside dinode_fields i
past_dinode i past = past_layout 0 dinode_fields last_part_place i refl past

pub past_group_desc : (i : ℕ) → 0x40 ≤ i → IsOutside group_desc_fields i
past_group_desc i past = past_layout 0 group_desc_fields 0x40 i refl past
