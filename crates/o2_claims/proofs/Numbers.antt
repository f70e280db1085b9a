-- The order of numbers.
use Rattle.std.proofs.Common.{◌≡◌, inl, inr, ℕ, ◌+◌, ◌≤◌, true, false, ◌==◌, nat_lt, sym, refl, arith}
use Rattle.std.specs.Ordering.{nat_cmp, is_eq}
use Rattle.std.specs.declared.cmp.Ordering.TheVariants.{Less}
use Rattle.std.proofs.lemmas.Bool.{cases_Bool}
use Rattle.std.proofs.lemmas.Bool.Decides.{nat_tests}

differ : (a b : ℕ) → nat_lt a b ≡ true → (a == b) ≡ false
differ a b h = grind (arith, nat_tests)

-- the order of numbers ties those that are the same
pub is_eq_number : (a b : ℕ) → is_eq (nat_cmp a b) ≡ (a == b)
is_eq_number a b = elim (cases_Bool (nat_lt a b)) [
  | inl below ↦ rw below (sym (differ a b below))
  | inr not_below ↦ elim (cases_Bool (a == b)) [
    | inl same ↦ rw (not_below, same) refl
    | inr other ↦ rw (not_below, other) refl
  ]
]

pub less_is : (a b : ℕ) → nat_cmp a b ≡ Less → a + 1 ≤ b
less_is a b h = elim (cases_Bool (nat_lt a b)) [
  | inl below ↦ grind (arith, nat_tests, below)
  | inr not_below ↦ elim (cases_Bool (a == b)) [
    | inl same ↦ let e = rw (not_below, same) at h in cc
    | inr other ↦ let e = rw (not_below, other) at h in cc
  ]
]
