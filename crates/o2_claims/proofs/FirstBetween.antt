-- The first of some numbers tells whether one of them passes.
use Rattle.std.proofs.Common.{◌≡◌, inl, inr, ℕ, zero, suc, ◌+◌, ◌-◌, ◌<◌, ◌≤◌, Bool, true, false, ◌==◌, is_some, Option, Some, None, refl, sym, ◌∙◌, ap, arith}
use Rattle.std.specs.List.{list_any, range_with_len}
use Rattle.std.specs.Option.{IfNone, IfSome}
use Rattle.std.proofs.lemmas.Bool.{cases_Bool, eqb-true, or_left, or_right}
use Rattle.std.proofs.lemmas.Bool.Decides.{nat_tests}

one_passes : (p : ℕ → Bool) (c a n : ℕ) → a ≤ c → c < a + n → p c ≡ true → list_any p (range_with_len a n) ≡ true
one_passes p c a zero low high is = absurd (omega (arith, low, high))
one_passes p c a (suc n) low high is = elim (cases_Bool (a == c)) [
  | inl here ↦ or_left (p a) (list_any p (range_with_len (a + 1) n)) (ap p (eqb-true a c here) ∙ is)
  | inr other ↦ or_right (p a) (list_any p (range_with_len (a + 1) n)) (one_passes p c (a + 1) n (later a c other low) (omega (arith, high)) is)
]
  where
    later : (a c : ℕ) → (a == c) ≡ false → a ≤ c → a + 1 ≤ c
    later a c other low = grind (arith, nat_tests)

none_passes : (p : ℕ → Bool) (a n : ℕ) → ((c : ℕ) → a ≤ c → c < a + n → p c ≡ false) → list_any p (range_with_len a n) ≡ false
none_passes p a zero fails = refl
none_passes p a (suc n) fails = rw (fails a (omega arith) (omega arith)) (none_passes p (a + 1) n (λ c low high. fails c (omega (arith, low)) (omega (arith, high))))

pub first_tells : (p : ℕ → Bool) (start end : ℕ) (first : Option ℕ) → start < end → IfSome first (λ c. (start ≤ c) × (c < end) × (p c ≡ true)) → IfNone first ((c : ℕ) → start ≤ c → c < end → p c ≡ false)
    → is_some first ≡ list_any p (range_with_len start (end - start))
first_tells p start end (Some c) order found none = sym (one_passes p c start (end - start) found.0 (omega (arith, order, found.1)) found.2)
first_tells p start end None order found none = sym (none_passes p start (end - start) (λ c low high. none c low (omega (arith, order, high))))
