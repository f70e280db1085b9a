-- Counts of bits.
use Rattle.std.proofs.Common.{◌≡◌, inl, inr, ℕ, zero, suc, ◌+◌, ◌-◌, ◌<◌, ◌≤◌, ◌&&◌, min, max, Bool, true, false, cond, nat_le, nat_lt, ◌∷◌, count_by, sym, ◌∙◌, ap, arith}
use Rattle.std.specs.List.{range_with_len}
use Rattle.std.proofs.lemmas.Bool.{cases_lt}
use Rattle.std.proofs.lemmas.Bool.Decides.{nat_tests}
use Rattle.std.proofs.lemmas.List.Sums.{sum_by-cons}
use Rattle.o2_view.specs.declared.run.Run.{Run}
use Rattle.o2_view.specs.FreeRuns.{is_of_run}

-- how many numbers of a range lie between two
count_range : (p : ℕ → Bool) (first end a n : ℕ) → ((k : ℕ) → a ≤ k → k < a + n → p k ≡ (nat_le first k && nat_lt k end)) → count_by p (range_with_len a n) ≡ min end (a + n) - max first a
count_range p first end a zero is = omega arith
count_range p first end a (suc n) is =
    let rest : count_by p (range_with_len (a + 1) n) ≡ min end (a + 1 + n) - max first (a + 1) = count_range p first end (a + 1) n (λ k low high. is k (omega (arith, low)) (omega (arith, high))) in
    let head : p a ≡ (nat_le first a && nat_lt a end) = is a (omega arith) (omega arith) in
    let both : count_by p (a ∷ range_with_len (a + 1) n) ≡ cond (p a) 1 0 + count_by p (range_with_len (a + 1) n) = sum_by-cons (λ x. cond (p x) 1 0) a (range_with_len (a + 1) n) in
    elim (cases_lt a first) [
      | inl low ↦ let no_bit : p a ≡ false = head ∙ grind (arith, nat_tests) in omega (arith, both, rest, ap (λ b. let one : ℕ = 1 in cond b one 0) no_bit, low)
      | inr from ↦ elim (cases_lt a end) [
        | inl under ↦ let bit : p a ≡ true = head ∙ grind (arith, nat_tests) in omega (arith, both, rest, ap (λ b. let one : ℕ = 1 in cond b one 0) bit, from, under)
        | inr high ↦ let no_bit : p a ≡ false = head ∙ grind (arith, nat_tests) in omega (arith, both, rest, ap (λ b. let one : ℕ = 1 in cond b one 0) no_bit, high)
      ]
    ]

pub count_between : (p : ℕ → Bool) (first end n : ℕ) → end ≤ n → ((k : ℕ) → k < n → p k ≡ (nat_le first k && nat_lt k end)) → count_by p (range_with_len 0 n) ≡ end - first
count_between p first end n within is = omega (arith, count_range p first end 0 n (λ k low high. is k (omega (arith, high))), within)

-- which bits of a group that begins with cluster `first` are of a run
pub between : (run : Run) (first bits low high k : ℕ) → low ≡ min (run.start - first) bits → high ≡ min (run.start + run.clusters - first) bits → k < bits → is_of_run (first + k) run ≡ (nat_le low k && nat_lt k high)
between run first bits low high k begins ends within =
    elim (cases_lt k low) [
      | inl under ↦ let out : is_of_run (first + k) run ≡ false = grind (arith, nat_tests) in let none : (nat_le low k && nat_lt k high) ≡ false = grind (arith, nat_tests) in out ∙ sym none
      | inr from ↦ elim (cases_lt k high) [
        | inl under ↦ let of : is_of_run (first + k) run ≡ true = grind (arith, nat_tests) in let some : (nat_le low k && nat_lt k high) ≡ true = grind (arith, nat_tests) in of ∙ sym some
        | inr past ↦ let out : is_of_run (first + k) run ≡ false = grind (arith, nat_tests) in let none : (nat_le low k && nat_lt k high) ≡ false = grind (arith, nat_tests) in out ∙ sym none
      ]
    ]
