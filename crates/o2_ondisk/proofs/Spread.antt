-- What the test of a table says of its fields.
use Rattle.std.proofs.Common.{◌≡◌, ℕ, ◌+◌, ◌≤◌, true, List, [], ◌∷◌, arith}
use Rattle.std.specs.Prelude.{nat_le, All, AllPairs}
use Rattle.std.proofs.lemmas.Bool.Decides.{nat_tests}
use Rattle.std.proofs.lemmas.List.Elements.{All-nil, All-cons}
use Rattle.std.proofs.lemmas.List.Kept.{AllPairs-cons}
use Rattle.o2_ondisk.specs.Fields.{is_disjoint, is_layout}
use Rattle.o2_ondisk.specs.declared.layout.Field.{Field}

module _ (low : ℕ) (f : Field) (fields : List Field) (size : ℕ) (test : is_disjoint low (f ∷ fields) size ≡ true) where
  starts : low ≤ f.at
  starts = grind (arith, nat_tests)

  rest_of_test : is_disjoint (f.at + f.width) fields size ≡ true
  rest_of_test = grind (arith, nat_tests)

-- the size is at or past `low`
size_reached : (low : ℕ) (fields : List Field) (size : ℕ) → is_disjoint low fields size ≡ true → low ≤ size
size_reached low [] size test = grind (arith, nat_tests)
size_reached low (f ∷ fields) size test =
    let rest = size_reached (f.at + f.width) fields size (rest_of_test low f fields size test) in
    omega (arith, starts low f fields size test, rest)

-- each field begins at or past `low`
all_start : (low : ℕ) (fields : List Field) (size : ℕ) → is_disjoint low fields size ≡ true → (least : ℕ) → least ≤ low → All (λ f. least ≤ f.at) fields
all_start low [] size test least le = All-nil (λ f. least ≤ f.at)
all_start low (f ∷ fields) size test least le =
    let start = starts low f fields size test in
    All-cons (λ f. least ≤ f.at) f fields (omega arith) (all_start (f.at + f.width) fields size (rest_of_test low f fields size test) least (omega arith))

pub all_within : (low : ℕ) (fields : List Field) (size : ℕ) → is_disjoint low fields size ≡ true → All (λ f. f.at + f.width ≤ size) fields
all_within low [] size test = All-nil (λ f. f.at + f.width ≤ size)
all_within low (f ∷ fields) size test =
    let rest = rest_of_test low f fields size test in
    All-cons (λ f. f.at + f.width ≤ size) f fields (size_reached (f.at + f.width) fields size rest) (all_within (f.at + f.width) fields size rest)

pub all_apart : (low : ℕ) (fields : List Field) (size : ℕ) → is_disjoint low fields size ≡ true → AllPairs (λ f g. f.at + f.width ≤ g.at) fields
all_apart low [] size test = λ i j d h h'. absurd (omega arith)
all_apart low (f ∷ fields) size test =
    let rest = rest_of_test low f fields size test in
    AllPairs-cons (λ f g. f.at + f.width ≤ g.at) f fields (all_start (f.at + f.width) fields size rest (f.at + f.width) (omega arith)) (all_apart (f.at + f.width) fields size rest)

module _ (low : ℕ) (f : Field) (fields : List Field) (size : ℕ) (test : is_layout low (f ∷ fields) size ≡ true) where
  number_starts : nat_le low f.at ≡ true
  number_starts = grind (arith, nat_tests)

  number_rest : is_layout (f.at + f.width) fields size ≡ true
  number_rest = grind (arith, nat_tests)

pub layout_is_disjoint : (low : ℕ) (fields : List Field) (size : ℕ) → is_layout low fields size ≡ true → is_disjoint low fields size ≡ true
layout_is_disjoint low [] size test = test
layout_is_disjoint low (f ∷ fields) size test =
    let start = number_starts low f fields size test in
    let rest = layout_is_disjoint (f.at + f.width) fields size (number_rest low f fields size test) in
    grind (arith, nat_tests)
