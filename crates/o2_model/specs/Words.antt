-- Words that the definitions over a volume share.
use Rattle.std.specs.Prelude.{◌≡◌, ℕ, ◌+◌, ◌*◌, ◌<◌, ◌≤◌, nat_eq, Bool, true, ◌==◌, List, [], ◌∷◌, ◌++◌, All, map, drop}
use Rattle.std.specs.List.{range_with_len, list_any, IsDistinct}

-- `count` records of `width` bytes each, from byte `at` on
abbrev pub table : {A : Type 0} → (List ℕ → A) → ℕ → ℕ → ℕ → List ℕ → List A
table read width at count bytes = map (λ k. read (drop (at + width * k) bytes)) (range_with_len 0 count)

-- the list with one item more at its end
abbrev pub push : {A : Type 0} → List A → A → List A
push xs x = xs ++ x ∷ []

-- the number is one of the list
abbrev pub among : List ℕ → ℕ → Bool
among ns n = list_any (λ m. n == m) ns

-- the number is one of the list, and none of them is below it
pub record IsLeast (n : ℕ) (ns : List ℕ) : Type 0 where
  pub is_among : among ns n ≡ true
  pub each : All (λ m. n ≤ m) ns

-- these numbers and 0 are all different and below n
pub record Apart (n : ℕ) (bs : List ℕ) : Type 0 where
  pub distinct : IsDistinct nat_eq (0 ∷ bs)
  pub within : (b : ℕ) → among (0 ∷ bs) b ≡ true → b < n
