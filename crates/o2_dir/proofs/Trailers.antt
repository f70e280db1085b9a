-- The trailer at the end of some bytes, by as many bytes as a trailer has.
use Rattle.std.proofs.Common.{◌≡◌, ℕ, zero, suc, ◌-◌, List, [], ◌∷◌, ◌++◌, drop, get_or, replicate, refl, ◌∙◌, ap, arith}
use Rattle.byteorder.specs.Endian.{little_from}
use Rattle.o2_ondisk.specs.Number.{number_at}
use Rattle.o2_ondisk.specs.DirTrailers.{dir_trailer_of}

abbrev pub zeros : ℕ → List ℕ
zeros m = replicate m 0

zero_there : (m i : ℕ) → get_or (zeros m) i 0 ≡ 0
zero_there zero i = refl
zero_there (suc m) zero = refl
zero_there (suc m) (suc i) = zero_there m i

zeros_dropped : (at m i : ℕ) → get_or (drop at (zeros m)) i 0 ≡ 0
zeros_dropped zero m i = zero_there m i
zeros_dropped (suc at) zero i = refl
zeros_dropped (suc at) (suc m) i = zeros_dropped at m i

zeros_number : (xs : List ℕ) → ((k : ℕ) → get_or xs k 0 ≡ 0) → (i n : ℕ) → little_from i n xs ≡ little_from i n []
zeros_number xs all i zero = refl
zeros_number xs all i (suc n) = rw (all i, zeros_number xs all (suc i) n) refl

left_by : (n m k : ℕ) → k ≡ m - n → drop n (zeros m) ≡ zeros k
left_by zero m k is = let e : m ≡ k = omega arith in ap zeros e
left_by (suc n) zero k is = let e : 0 ≡ k = omega arith in ap zeros e
left_by (suc n) (suc m) k is = left_by n m k (omega arith)

pub zeros_left : (n m : ℕ) → drop n (zeros m) ≡ zeros (m - n)
zeros_left n m = left_by n m (m - n) refl

-- zeros behind the bytes are what is read there anyway
byte_there : (xs : List ℕ) (m i : ℕ) → get_or (xs ++ zeros m) i 0 ≡ get_or xs i 0
byte_there [] m i = zero_there m i
byte_there (x ∷ xs) m zero = refl
byte_there (x ∷ xs) m (suc i) = byte_there xs m i

number_there : (at i n m : ℕ) (xs : List ℕ) → little_from i n (drop at (xs ++ zeros m)) ≡ little_from i n (drop at xs)
number_there zero i zero m xs = refl
number_there zero i (suc n) m xs = rw (byte_there xs m i, number_there zero (suc i) n m xs) refl
number_there (suc at) i n m [] = zeros_number (drop (suc at) (zeros m)) (λ k. zeros_dropped (suc at) m k) i n
number_there (suc at) i n m (x ∷ xs) = number_there at i n m xs

padded : (xs : List ℕ) (m : ℕ) → dir_trailer_of (xs ++ zeros m) ≡ dir_trailer_of xs
unfolding number_at
padded xs m = rw (number_there 0x0 0 8 m xs, number_there 0x8 0 2 m xs, number_there 0x10 0 8 m xs, number_there 0x28 0 8 m xs, number_there 0x30 0 8 m xs) refl

pub trailer_padded : (xs padded_xs : List ℕ) (m : ℕ) → padded_xs ≡ xs ++ zeros m → dir_trailer_of padded_xs ≡ dir_trailer_of xs
trailer_padded xs padded_xs m is = ap dir_trailer_of is ∙ padded xs m
