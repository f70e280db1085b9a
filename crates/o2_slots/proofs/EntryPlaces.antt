-- Where entries stand: in their file, and in its blocks.
use Rattle.std.proofs.Common.{◌≡◌, inl, inr, ℕ, ◌+◌, ◌-◌, ◌*◌, ◌/◌, ◌%◌, ◌^◌, ◌<◌, ◌≤◌, Bool, true, false, ◌&&◌, ◌||◌, refl, sym, ◌∙◌, ap, arith, cond, List, length, map}
use Rattle.std.specs.Prelude.{nat_le, nat_lt}
use Rattle.std.proofs.lemmas.Bool.{cases_Bool}
use Rattle.std.proofs.lemmas.Bool.Decides.{nat_tests}
use Rattle.std.proofs.lemmas.Nat.{pow-add}
use Rattle.o2_model.specs.declared.geo.Geo.{Geo}
use Rattle.o2_view.specs.Geos.{HasSizes}
use Rattle.o2_slots.specs.Entries.{has_extended_entries, entry_size}
use Rattle.std.specs.Prelude.{max, min}
use Rattle.std.specs.List.{range_with_len}
use Rattle.std.proofs.lemmas.List.FromFn.{length-map-range_with_len}
use Rattle.std.proofs.Math.Nat.{mul_assoc}
use Rattle.o2_model.specs.Words.{table}
use Rattle.o2_model.specs.Volume.{Volume}
use Rattle.o2_model.specs.Inodes.{leaf_records}
use Rattle.o2_model.specs.Contents.{byte_of}
use Rattle.o2_model.specs.declared.leaf.Leaf.{Leaf}
use Rattle.o2_slots.specs.Entries.{node_of, nodes_in, entry_bytes, nodes}
use Rattle.o2_slots.specs.Emptied.{empty_width, empty_byte, emptied_byte, says_empty}

-- ---- in a block
-- a block has whole entries
pub whole_entries : (geo : Geo) → HasSizes geo → 2 ^ geo.block_bits / entry_size geo * entry_size geo ≡ 2 ^ geo.block_bits
whole_entries geo sizes =
    let bits : geo.block_bits ≡ 9 + (geo.block_bits - 9) = omega (arith, sizes.least_block) in
    let bytes : 2 ^ geo.block_bits ≡ 512 * 2 ^ (geo.block_bits - 9) = ap (λ (n : ℕ). 2 ^ n) bits ∙ pow-add 2 9 (geo.block_bits - 9) in
    elim (cases_Bool (has_extended_entries geo)) [
      | inl extended ↦ rw extended (omega (arith, bytes))
      | inr short ↦ rw short (omega (arith, bytes))
    ]

-- ---- in the file
pub whole_slots : (geo : Geo) (slots : ℕ) → slots * entry_size geo / entry_size geo ≡ slots
whole_slots geo slots = elim (cases_Bool (has_extended_entries geo)) [
  | inl extended ↦ rw extended (omega arith)
  | inr short ↦ rw short (omega arith)
]

-- the nodes of as many entries as were read of the file
pub nodes_are : (v : Volume) (geo : Geo) (inode : ℕ) (leaves : List Leaf) (bytes : List ℕ) (end : ℕ) → v.geo ≡ geo → leaves ≡ leaf_records v inode → end ≡ geo.slots * entry_size geo
    → bytes ≡ map (byte_of v leaves) (range_with_len 0 end) → table (node_of geo) (entry_size geo) 0 (length bytes / entry_size geo) bytes ≡ nodes v inode
nodes_are v geo inode leaves bytes end same are ends is =
    let whole : end ≡ v.geo.slots * entry_size v.geo = ends ∙ ap (λ (x : Geo). x.slots * entry_size x) (sym same) in
    let given : bytes ≡ entry_bytes v inode = is ∙ (ap (λ (ls : List Leaf). map (byte_of v ls) (range_with_len 0 end)) are ∙ ap (λ n. map (byte_of v (leaf_records v inode)) (range_with_len 0 n)) whole) in
    let long : length bytes ≡ geo.slots * entry_size geo = ap length is ∙ (length-map-range_with_len (byte_of v leaves) 0 end ∙ ends) in
    let count : length bytes / entry_size geo ≡ geo.slots = ap (λ n. n / entry_size geo) long ∙ whole_slots geo geo.slots in
    ap (λ n. table (node_of geo) (entry_size geo) 0 n bytes) count ∙ (ap (nodes_in geo) given ∙ ap (λ (x : Geo). nodes_in x (entry_bytes v inode)) (sym same))

-- ---- one entry more
more_of_eight : (base first slot i : ℕ) → base ≤ first → first ≤ slot
    → (nat_le first ((base * 8 + i) / 8) && nat_lt ((base * 8 + i) / 8) (slot + 1) && nat_lt ((base * 8 + i) % 8) 1)
    ≡ ((nat_le ((slot - base) * 8) i && nat_lt i ((slot - base) * 8 + 1)) || (nat_le first ((base * 8 + i) / 8) && nat_lt ((base * 8 + i) / 8) slot && nat_lt ((base * 8 + i) % 8) 1))
more_of_eight base first slot i low order = grind (arith, nat_tests)

more_of_two : (base first slot i : ℕ) → base ≤ first → first ≤ slot
    → (nat_le first ((base * 2 + i) / 2) && nat_lt ((base * 2 + i) / 2) (slot + 1) && nat_lt ((base * 2 + i) % 2) 2)
    ≡ ((nat_le ((slot - base) * 2) i && nat_lt i ((slot - base) * 2 + 2)) || (nat_le first ((base * 2 + i) / 2) && nat_lt ((base * 2 + i) / 2) slot && nat_lt ((base * 2 + i) % 2) 2))
more_of_two base first slot i low order = grind (arith, nat_tests)

pub entry_more : (geo : Geo) (base first slot i : ℕ) → base ≤ first → first ≤ slot
    → says_empty geo first (slot + 1) (base * entry_size geo + i)
    ≡ ((nat_le ((slot - base) * entry_size geo) i && nat_lt i ((slot - base) * entry_size geo + empty_width geo)) || says_empty geo first slot (base * entry_size geo + i))
unfolding says_empty
entry_more geo base first slot i low order = elim (cases_Bool (has_extended_entries geo)) [
  | inl extended ↦ rw extended (more_of_eight base first slot i low order)
  | inr short ↦ rw short (more_of_two base first slot i low order)
]

-- no entry is empty yet
pub none_empty : (geo : Geo) (first k : ℕ) → says_empty geo first first k ≡ false
unfolding says_empty
none_empty geo first k = grind (arith, nat_tests)

both : {X : Type 0} (x y : Bool) (e o : X) → cond x e (cond y e o) ≡ cond (x || y) e o
both true y e o = refl
both false y e o = refl

-- a byte once the entry of one slot more is empty
pub entry_put : (geo : Geo) (base first slot i byte : ℕ) → base ≤ first → first ≤ slot
    → cond (nat_le ((slot - base) * entry_size geo) i && nat_lt i ((slot - base) * entry_size geo + empty_width geo)) (empty_byte geo) (emptied_byte geo first slot (base * entry_size geo + i) byte)
    ≡ emptied_byte geo first (slot + 1) (base * entry_size geo + i) byte
entry_put geo base first slot i byte low order =
    both (nat_le ((slot - base) * entry_size geo) i && nat_lt i ((slot - base) * entry_size geo + empty_width geo)) (says_empty geo first slot (base * entry_size geo + i)) (empty_byte geo) byte
    ∙ ap (λ says. cond says (empty_byte geo) byte) (sym (entry_more geo base first slot i low order))

-- ---- the entries of one block
block_of_eight : (base count i from slots : ℕ) → i < count * 8
    → (nat_le (max from base) ((base * 8 + i) / 8) && nat_lt ((base * 8 + i) / 8) (min slots (base + count)) && nat_lt ((base * 8 + i) % 8) 1)
    ≡ (nat_le from ((base * 8 + i) / 8) && nat_lt ((base * 8 + i) / 8) slots && nat_lt ((base * 8 + i) % 8) 1)
block_of_eight base count i from slots low = grind (arith, nat_tests)

block_of_two : (base count i from slots : ℕ) → i < count * 2
    → (nat_le (max from base) ((base * 2 + i) / 2) && nat_lt ((base * 2 + i) / 2) (min slots (base + count)) && nat_lt ((base * 2 + i) % 2) 2)
    ≡ (nat_le from ((base * 2 + i) / 2) && nat_lt ((base * 2 + i) / 2) slots && nat_lt ((base * 2 + i) % 2) 2)
block_of_two base count i from slots low = grind (arith, nat_tests)

in_bases : (geo : Geo) (base count i from slots : ℕ) → i < count * entry_size geo
    → says_empty geo (max from base) (min slots (base + count)) (base * entry_size geo + i) ≡ says_empty geo from slots (base * entry_size geo + i)
unfolding says_empty
in_bases geo base count i from slots low = elim (cases_Bool (has_extended_entries geo)) [
  | inl extended ↦ let short_of : i < count * 8 = rw extended at low in rw extended (block_of_eight base count i from slots short_of)
  | inr short ↦ let short_of : i < count * 2 = rw short at low in rw short (block_of_two base count i from slots short_of)
]

-- where the first byte of block k stands, with so many entries in a block
pub block_begins : (geo : Geo) (count k : ℕ) → count * entry_size geo ≡ 2 ^ geo.block_bits → k * count * entry_size geo ≡ k * 2 ^ geo.block_bits
block_begins geo count k whole = mul_assoc k count (entry_size geo) ∙ ap (λ n. k * n) whole

-- in block k just the entries are emptied that are to be emptied in the file
pub in_block : (geo : Geo) (count k from first end i : ℕ) → count * entry_size geo ≡ 2 ^ geo.block_bits → i < 2 ^ geo.block_bits → first ≡ max from (k * count) → end ≡ min geo.slots (k * count + count)
    → says_empty geo first end (k * count * entry_size geo + i) ≡ says_empty geo from geo.slots (k * 2 ^ geo.block_bits + i)
in_block geo count k from first end i whole low begins ends =
    let inside : i < count * entry_size geo = rw whole low in
    ap (λ n. says_empty geo n end (k * count * entry_size geo + i)) begins
    ∙ (ap (λ n. says_empty geo (max from (k * count)) n (k * count * entry_size geo + i)) ends
    ∙ (in_bases geo (k * count) count i from geo.slots inside
    ∙ ap (λ n. says_empty geo from geo.slots (n + i)) (block_begins geo count k whole)))
