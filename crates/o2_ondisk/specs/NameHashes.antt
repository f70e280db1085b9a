-- The hash of a name in the index of its directory (ocfs2_dx_dir_name_hash). All is modulo 2^32.
use Rattle.std.specs.Prelude.{ℕ, zero, suc, ◌+◌, ◌*◌, ◌/◌, ◌%◌, ◌^◌, Bool, nat_lt, List, length, fold, take, drop, codes, bytes_eq, if◌then◌else◌, ◌||◌}
use Rattle.std.specs.Int.Bits.{bit_or, bit_xor}
use Rattle.std.specs.List.{list_all}
use Rattle.o2_ondisk.specs.declared.hash.NameHash.{NameHash}
use Rattle.o2_ondisk.specs.declared.hash.PieceWords.{PieceWords}
use Rattle.o2_ondisk.specs.declared.superblock.DxSeed.{DxSeed}

-- the sum of two numbers of 32 bits
abbrev pub sum32 : ℕ → ℕ → ℕ
sum32 x y = (x + y) % 2 ^ 32

-- the number of bytes from the piece to the name's end, and 256 times that number
abbrev pub half_padding : ℕ → ℕ
half_padding left = sum32 left (left * 256)

-- what fills up a word, twice that half
unfoldable pub padding : ℕ → ℕ
padding left = bit_or (half_padding left) (half_padding left * 2 ^ 16 % 2 ^ 32)

-- a word of at most four bytes, the first one highest, behind the padding
unfoldable pub word_of : ℕ → List ℕ → ℕ
word_of pad bytes = fold (λ word byte. sum32 byte (word * 256)) pad bytes

-- word k of a piece
abbrev pub word_at : ℕ → List ℕ → ℕ → ℕ
word_at pad piece k = word_of pad (take 4 (drop (4 * k) piece))

-- the four words of a piece
abbrev pub words_of : ℕ → List ℕ → PieceWords
words_of pad piece = record {
  first = word_at pad piece 0;
  second = word_at pad piece 1;
  third = word_at pad piece 2;
  fourth = word_at pad piece 3;
}

-- one half of a round of TEA: of the other half, the round's sum, and two words
unfoldable pub mixed : ℕ → ℕ → ℕ → ℕ → ℕ
mixed half sum first second = bit_xor (bit_xor (sum32 (half * 16) first) (sum32 half sum)) (sum32 (half / 32) second)

-- what is added to the sum in each round
abbrev pub delta : ℕ
delta = 0x9e3779b9

-- one round of TEA after `done` others, with these words
unfoldable pub after_round : ℕ → PieceWords → NameHash → NameHash
after_round done words h =
    let sum = (done + 1) * delta % 2 ^ 32 in
    let x = sum32 h.major (mixed h.minor sum words.first words.second) in
    let y = sum32 h.minor (mixed x sum words.third words.fourth) in
    record { major = x; minor = y }

-- so many rounds, after `done` of them
abbrev pub rounds : ℕ → ℕ → PieceWords → NameHash → NameHash
rounds zero done words h = h
rounds (suc left) done words h = rounds left (done + 1) words (after_round done words h)

abbrev pub sum_of_halves : NameHash → NameHash → NameHash
sum_of_halves g h = record { major = sum32 g.major h.major; minor = sum32 g.minor h.minor }

-- the hash with one piece of 16 bytes more, of a name of which these bytes are left
unfoldable pub with_piece : List ℕ → NameHash → NameHash
with_piece left h = sum_of_halves h (rounds 16 0 (words_of (padding (length left)) (take 16 left)) h)

-- the hash with so many pieces more
abbrev pub with_pieces : ℕ → List ℕ → NameHash → NameHash
with_pieces zero left h = h
with_pieces (suc count) left h = with_pieces count (drop 16 left) (with_piece left h)

-- the hash of a name, from the seed of the volume; the dots have none
unfoldable pub name_hash : DxSeed → List ℕ → NameHash
name_hash seed name =
    if bytes_eq name (codes ".") || bytes_eq name (codes "..")
    then record { major = 0; minor = 0 }
    else with_pieces ((length name + 15) / 16) name (record { major = seed.first; minor = seed.second })

-- hashes are compared for names of ASCII bytes alone
unfoldable pub is_ascii_name : List ℕ → Bool
is_ascii_name name = list_all (λ byte. nat_lt byte 0x80) name
