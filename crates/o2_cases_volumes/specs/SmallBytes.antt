-- Bytes without a meaning.
use Rattle.std.specs.Prelude.{ℕ, List, map}
use Rattle.std.specs.List.{range_with_len}

-- this many bytes of 0
abbrev pub zero_bytes : ℕ → List ℕ
zero_bytes count = map (λ _. 0) (range_with_len 0 count)
