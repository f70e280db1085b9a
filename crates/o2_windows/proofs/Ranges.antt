-- Numbers that follow one another: which pass a test, and how many.
use Rattle.std.proofs.Common.{◌≡◌, ℕ, zero, suc, ◌+◌, ◌-◌, ◌<◌, Bool, true, false, cond, not, List, [], ◌∷◌, ◌++◌, map, filter, count_by, length, refl, sym, ◌∙◌, ap, arith}
use Rattle.std.specs.List.{range_with_len}
use Rattle.std.proofs.lemmas.List.{append_assoc, length-map}
use Rattle.std.proofs.lemmas.List.Filters.{length-filter_both}
use Rattle.std.proofs.lemmas.List.FromFn.{length-range_with_len}
use Rattle.std.proofs.lemmas.List.Sums.{sum_by-cons, length-filter}

-- ---- two tests that tell the same
pub same_kept : (p q : ℕ → Bool) (a n : ℕ) → ((k : ℕ) → k < a + n → p k ≡ q k) → filter p (range_with_len a n) ≡ filter q (range_with_len a n)
same_kept p q a zero same = refl
same_kept p q a (suc n) same = rw (same a (omega arith), same_kept p q (a + 1) n (λ k low. same k (omega (arith, low)))) refl

count_first : (p : ℕ → Bool) (a : ℕ) (rest : List ℕ) → count_by p (a ∷ rest) ≡ cond (p a) 1 0 + count_by p rest
count_first p a rest = sum_by-cons (λ x. cond (p x) 1 0) a rest

pub same_count : (p q : ℕ → Bool) (a n : ℕ) → ((k : ℕ) → k < a + n → p k ≡ q k) → count_by p (range_with_len a n) ≡ count_by q (range_with_len a n)
same_count p q a zero same = refl
same_count p q a (suc n) same =
    count_first p a (range_with_len (a + 1) n)
    ∙ (ap (λ b. cond b 1 0 + count_by p (range_with_len (a + 1) n)) (same a (omega arith))
    ∙ (ap (λ m. cond (q a) 1 0 + m) (same_count p q (a + 1) n (λ k low. same k (omega (arith, low))))
    ∙ sym (count_first q a (range_with_len (a + 1) n))))

-- ---- those that pass, and the others
pub others_and_passed : (p : ℕ → Bool) (f : ℕ → ℕ) (n : ℕ) → length (map f (filter (λ k. not (p k)) (range_with_len 0 n))) + count_by p (range_with_len 0 n) ≡ n
others_and_passed p f n =
    let ks = range_with_len 0 n in
    omega (arith, length-map (filter (λ k. not (p k)) ks) f, length-filter p ks, length-filter_both p (λ k. not (p k)) (λ k. refl) ks, length-range_with_len 0 n)

-- ---- one number more
-- what f gives of the numbers from k on, below n, that pass
abbrev left : (ℕ → Bool) → (ℕ → ℕ) → ℕ → ℕ → List ℕ
left p f k n = map f (filter p (range_with_len k (n - k)))

first_left : (p : ℕ → Bool) (f : ℕ → ℕ) (k n : ℕ) → k < n → left p f k n ≡ cond (p k) (f k ∷ left p f (k + 1) n) (left p f (k + 1) n)
first_left p f k n low =
    let some : n - k ≡ suc (n - (k + 1)) = omega (arith, low) in
    rw some (by (p k))
  where
    by : (t : Bool) → map f (cond t (k ∷ filter p (range_with_len (k + 1) (n - (k + 1)))) (filter p (range_with_len (k + 1) (n - (k + 1))))) ≡ cond t (f k ∷ left p f (k + 1) n) (left p f (k + 1) n)
    by true = refl
    by false = refl

pub kept_more : (p : ℕ → Bool) (f : ℕ → ℕ) (k n : ℕ) (found more all : List ℕ) → k < n → p k ≡ true → found ++ left p f k n ≡ all → more ≡ found ++ f k ∷ [] → more ++ left p f (k + 1) n ≡ all
kept_more p f k n found more all low is before put =
    rw put (append_assoc found (f k ∷ []) (left p f (k + 1) n) ∙ (ap (λ xs. found ++ xs) (sym (first_left p f k n low ∙ ap (λ t. cond t (f k ∷ left p f (k + 1) n) (left p f (k + 1) n)) is)) ∙ before))

pub passed_more : (p : ℕ → Bool) (f : ℕ → ℕ) (k n : ℕ) (found more all : List ℕ) → k < n → p k ≡ false → found ++ left p f k n ≡ all → more ≡ found → more ++ left p f (k + 1) n ≡ all
passed_more p f k n found more all low is before same =
    rw same (ap (λ xs. found ++ xs) (sym (first_left p f k n low ∙ ap (λ t. cond t (f k ∷ left p f (k + 1) n) (left p f (k + 1) n)) is)) ∙ before)
