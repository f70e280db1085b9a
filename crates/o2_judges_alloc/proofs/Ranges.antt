-- Numbers from one on: tests and counts over them.
use Rattle.std.proofs.Common.{◌≡◌, ℕ, zero, suc, ◌+◌, ◌-◌, ◌<◌, ◌≤◌, Bool, true, false, cond, ◌&&◌, not, nat_lt, List, [], ◌∷◌, filter, count_by, refl, sym, ◌∙◌, ap, arith}
use Rattle.std.specs.List.{range_with_len, list_all}
use Rattle.std.proofs.lemmas.Bool.Decides.{nat_tests}
use Rattle.std.proofs.lemmas.List.Sums.{sum_by-cons}
use Rattle.o2_model.specs.Words.{push}
use Rattle.o2_model.specs.Orders.{from_to}

-- the first that is left
pub first_in_range : (k n : ℕ) → k < n → range_with_len k (n - k) ≡ k ∷ range_with_len (k + 1) (n - (k + 1))
first_in_range k n low =
    let some : n - k ≡ suc (n - (k + 1)) = omega (arith, low) in
    rw some refl

-- a number and those behind it
count_first : (p : ℕ → Bool) (a : ℕ) (rest : List ℕ) → count_by p (a ∷ rest) ≡ cond (p a) 1 0 + count_by p rest
count_first p a rest = sum_by-cons (λ x. cond (p x) 1 0) a rest

pub same_count : (p q : ℕ → Bool) (a n : ℕ) → ((k : ℕ) → k < a + n → p k ≡ q k) → count_by p (range_with_len a n) ≡ count_by q (range_with_len a n)
same_count p q a zero same = refl
same_count p q a (suc n) same =
    count_first p a (range_with_len (a + 1) n)
    ∙ (by (p a) (q a) (count_by p (range_with_len (a + 1) n)) (count_by q (range_with_len (a + 1) n)) (same a (omega arith)) (same_count p q (a + 1) n (λ k low. same k (omega (arith, low))))
    ∙ sym (count_first q a (range_with_len (a + 1) n)))
  where
    by : (b c : Bool) (m l : ℕ) → b ≡ c → m ≡ l → cond b 1 0 + m ≡ cond c 1 0 + l
    by b c m l e f = ap (λ x. cond x 1 0 + m) e ∙ ap (λ x. cond c 1 0 + x) f

pub same_test : (p q : ℕ → Bool) (a n : ℕ) → ((k : ℕ) → k < a + n → p k ≡ q k) → list_all p (range_with_len a n) ≡ list_all q (range_with_len a n)
same_test p q a zero same = refl
same_test p q a (suc n) same = rw (same a (omega arith), same_test p q (a + 1) n (λ k low. same k (omega (arith, low)))) refl

-- with one number less to be looked at
pub test_here : (p : ℕ → Bool) (k n : ℕ) → k < n → p k ≡ true → list_all p (range_with_len k (n - k)) ≡ list_all p (range_with_len (k + 1) (n - (k + 1)))
test_here p k n low is = ap (list_all p) (first_in_range k n low) ∙ ap (λ b. b && list_all p (range_with_len (k + 1) (n - (k + 1)))) is

pub test_fails : (p : ℕ → Bool) (k n : ℕ) → k < n → p k ≡ false → list_all p (range_with_len k (n - k)) ≡ false
test_fails p k n low is = ap (list_all p) (first_in_range k n low) ∙ ap (λ b. b && list_all p (range_with_len (k + 1) (n - (k + 1)))) is

pub counted : (p : ℕ → Bool) (k n : ℕ) → k < n → p k ≡ true → count_by p (range_with_len k (n - k)) ≡ 1 + count_by p (range_with_len (k + 1) (n - (k + 1)))
counted p k n low is = ap (count_by p) (first_in_range k n low) ∙ (count_first p k (range_with_len (k + 1) (n - (k + 1))) ∙ ap (λ b. cond b 1 0 + count_by p (range_with_len (k + 1) (n - (k + 1)))) is)

pub not_counted : (p : ℕ → Bool) (k n : ℕ) → k < n → p k ≡ false → count_by p (range_with_len k (n - k)) ≡ 0 + count_by p (range_with_len (k + 1) (n - (k + 1)))
not_counted p k n low is = ap (count_by p) (first_in_range k n low) ∙ (count_first p k (range_with_len (k + 1) (n - (k + 1))) ∙ ap (λ b. cond b 1 0 + count_by p (range_with_len (k + 1) (n - (k + 1)))) is)

-- ---- the numbers from one on
later_kept : (low a n : ℕ) → low ≤ a → filter (λ k. not (nat_lt k low)) (range_with_len a n) ≡ range_with_len a n
later_kept low a zero h = refl
later_kept low a (suc n) h = rw (not_below a low h) (ap (λ ks. a ∷ ks) (later_kept low (a + 1) n (omega (arith, h))))
  where
    not_below : (a low : ℕ) → low ≤ a → nat_lt a low ≡ false
    not_below a low h = grind (arith, nat_tests)

-- those behind 0
pub from_one : (n : ℕ) → from_to 1 n ≡ range_with_len 1 (n - 1)
from_one zero = refl
from_one (suc n) = let less : suc n - 1 ≡ n = omega arith in rw less (later_kept 1 1 n (omega arith))

-- they begin with the first that is left
pub test_from_one : (p : ℕ → Bool) (n : ℕ) → list_all p (range_with_len 1 (n - 1)) ≡ list_all p (from_to 1 n)
test_from_one p n = ap (list_all p) (sym (from_one n))

pub same_test_from_one : (p q : ℕ → Bool) (n : ℕ) → ((k : ℕ) → k < n → p k ≡ q k) → list_all p (from_to 1 n) ≡ list_all q (from_to 1 n)
same_test_from_one p q zero same = refl
same_test_from_one p q (suc n) same =
    sym (test_from_one p (suc n)) ∙ (same_test p q 1 (suc n - 1) (λ k low. same k (omega (arith, low))) ∙ test_from_one q (suc n))

-- one number more at the end
pub range_push : (a n : ℕ) → range_with_len a (n + 1) ≡ push (range_with_len a n) (a + n)
range_push a zero = let same : a ≡ a + 0 = omega arith in ap (λ k. k ∷ []) same
range_push a (suc n) = let one : suc n + 1 ≡ suc (n + 1) = omega arith in rw one (ap (λ ks. a ∷ ks) (range_push (a + 1) n ∙ ap (λ k. push (range_with_len (a + 1) n) k) (moved a n)))
  where
    moved : (a n : ℕ) → a + 1 + n ≡ a + suc n
    moved a n = omega arith
