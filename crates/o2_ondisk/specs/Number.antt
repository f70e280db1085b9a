-- A number among bytes.
use Rattle.std.specs.Prelude.{ℕ, List, drop}
use Rattle.byteorder.specs.Endian.{little_number, big_number}

-- the number of `width` bytes from `at` on, the lowest byte first
unfoldable pub number_at : ℕ → ℕ → List ℕ → ℕ
number_at at width bytes = little_number width (drop at bytes)

-- the same, the highest byte first
unfoldable pub big_number_at : ℕ → ℕ → List ℕ → ℕ
big_number_at at width bytes = big_number width (drop at bytes)
