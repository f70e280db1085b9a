-- A table of fields: where each stands, how many bytes it has, and what it holds.
use Rattle.std.specs.Prelude.{◌≡◌, ◌⊎◌, All, IsTrue, ℕ, ◌+◌, ◌<◌, ◌≤◌, ◌^◌, Bool, true, ◌&&◌, ◌||◌, nat_le, List, [], ◌∷◌, ◌++◌, length, map, take, drop, slice_index}
use Rattle.byteorder.specs.Endian.{little_bytes, big_bytes}
use Rattle.o2_ondisk.specs.Number.{number_at, big_number_at}
use Rattle.o2_ondisk.specs.declared.layout.Field.{Field}
use Rattle.o2_ondisk.specs.declared.layout.Order.{Order}
use Rattle.o2_ondisk.specs.declared.layout.Order.TheVariants.{LowFirst, HighFirst}

-- ---- tables
-- the field of `width` bytes from `at` on
abbrev pub field : ℕ → ℕ → Field
field at width = record { at = at; width = width }

-- from `low` on the fields follow one another, none over another, and end within `size`
abbrev pub is_disjoint : ℕ → List Field → ℕ → Bool
is_disjoint low [] size = nat_le low size
is_disjoint low (f ∷ fields) size = nat_le low f.at && is_disjoint (f.at + f.width) fields size

-- the same for fields of at most 8 bytes each, which hold numbers
abbrev pub is_layout : ℕ → List Field → ℕ → Bool
is_layout low [] size = nat_le low size
is_layout low (f ∷ fields) size = nat_le low f.at && nat_le f.width 8 && is_layout (f.at + f.width) fields size

-- the place is none of `count` from `at` on
abbrev pub IsOutsideSpan : ℕ → ℕ → ℕ → Type 0
IsOutsideSpan at count i = at ≤ i → i < at + count → ⊥

-- the place lies in no field
abbrev pub IsOutside : List Field → ℕ → Type 0
IsOutside [] i = Unit {0}
IsOutside (f ∷ fields) i = IsOutsideSpan f.at f.width i × IsOutside fields i

-- ---- bytes that are no number
-- the bytes with these from this place on
unfoldable pub paste_at : ℕ → List ℕ → List ℕ → List ℕ
paste_at at new bytes = take at bytes ++ (new ++ drop (at + length new) bytes)

-- `count` bytes from this place on
abbrev pub bytes_at : ℕ → ℕ → List ℕ → List ℕ
bytes_at at count bytes = take count (drop at bytes)

-- ---- numbers
-- the bytes with this number of `width` bytes at this place, the lowest byte first
unfoldable pub put_at : ℕ → ℕ → ℕ → List ℕ → List ℕ
put_at at width value bytes = paste_at at (little_bytes width value) bytes

-- the same, the highest byte first
unfoldable pub big_put_at : ℕ → ℕ → ℕ → List ℕ → List ℕ
big_put_at at width value bytes = paste_at at (big_bytes width value) bytes

-- the bytes with a number in each field, where `put` puts one
abbrev pub put_all_by : (ℕ → ℕ → ℕ → List ℕ → List ℕ) → List Field → List ℕ → List ℕ → List ℕ
put_all_by put [] values bytes = bytes
put_all_by put (f ∷ fields) [] bytes = bytes
put_all_by put (f ∷ fields) (v ∷ values) bytes = put_all_by put fields values (put f.at f.width v bytes)

-- the bytes with a number in each field, the lowest byte first
abbrev pub put_all : List Field → List ℕ → List ℕ → List ℕ
put_all fields values bytes = put_all_by put_at fields values bytes

-- the same, the highest byte first
abbrev pub big_put_all : List Field → List ℕ → List ℕ → List ℕ
big_put_all fields values bytes = put_all_by big_put_at fields values bytes

-- the number in each field, where `number` reads one
abbrev pub numbers_by : (ℕ → ℕ → List ℕ → ℕ) → List Field → List ℕ → List ℕ
numbers_by number fields bytes = map (λ f. number f.at f.width bytes) fields

-- the number in each field, the lowest byte first
abbrev pub numbers_at : List Field → List ℕ → List ℕ
numbers_at fields bytes = numbers_by number_at fields bytes

-- the same, the highest byte first
abbrev pub big_numbers_at : List Field → List ℕ → List ℕ
big_numbers_at fields bytes = numbers_by big_number_at fields bytes

-- ---- either order
-- the bytes with this number at this place, in this order
abbrev pub put_in : Order → ℕ → ℕ → ℕ → List ℕ → List ℕ
put_in LowFirst = put_at
put_in HighFirst = big_put_at

-- the number at this place, in this order
abbrev pub number_in : Order → ℕ → ℕ → List ℕ → ℕ
number_in LowFirst = number_at
number_in HighFirst = big_number_at

-- each value fits its field
abbrev pub Fit : List Field → List ℕ → Type 0
Fit [] values = Unit {0}
Fit (f ∷ fields) [] = ⊥
Fit (f ∷ fields) (v ∷ values) = (v < 256 ^ f.width) × Fit fields values

-- ---- tables and bytes
-- no field of the table lies in these bytes
abbrev pub is_apart : ℕ → ℕ → List Field → Bool
is_apart at count [] = true
is_apart at count (f ∷ fields) = (nat_le (f.at + f.width) at || nat_le (at + count) f.at) && is_apart at count fields

-- the fields of each table that lies apart from these places keep their numbers
abbrev pub KeepsNumbersApart : ℕ → ℕ → List ℕ → List ℕ → Type 0
KeepsNumbersApart at count old new = (fields : List Field) → IsTrue (is_apart at count fields) → numbers_at fields new ≡ numbers_at fields old

-- each run of bytes that lies apart from these places stays
abbrev pub KeepsBytesApart : ℕ → ℕ → List ℕ → List ℕ → Type 0
KeepsBytesApart at count old new = (from many : ℕ) → (from + many ≤ at) ⊎ (at + count ≤ from) → bytes_at from many new ≡ bytes_at from many old

-- each byte of the list fits a byte
abbrev pub AreBytes : List ℕ → Type 0
AreBytes bytes = All (λ b. b < 256) bytes

-- the two lists have the same bytes in the field
abbrev pub IsSameIn : List ℕ → List ℕ → Field → Type 0
IsSameIn xs ys f = (i : ℕ) → f.at ≤ i → i < f.at + f.width → slice_index xs i ≡ slice_index ys i
