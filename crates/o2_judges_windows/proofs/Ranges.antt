-- Numbers that follow one another.
use Rattle.std.proofs.Common.{◌≡◌, ℕ, zero, suc, ◌+◌, ◌-◌, ◌<◌, ◌≤◌, Bool, true, false, cond, [], ◌∷◌, map, filter, fold, ◌∙◌, ap, arith}
use Rattle.std.specs.List.{range_with_len, AllByRecursion}
use Rattle.std.proofs.lemmas.List.Sums.{fold-append}
use Rattle.o2_model.specs.Words.{push}

-- ---- one more at the end
pub range_push : (a n : ℕ) → range_with_len a (n + 1) ≡ push (range_with_len a n) (a + n)
range_push a zero = let same : a ≡ a + 0 = omega arith in ap (λ k. k ∷ []) same
range_push a (suc n) = let one : suc n + 1 ≡ suc (n + 1) = omega arith in rw one (ap (λ ks. a ∷ ks) (range_push (a + 1) n ∙ ap (λ k. push (range_with_len (a + 1) n) k) (moved a n)))
  where
    moved : (a n : ℕ) → a + 1 + n ≡ a + suc n
    moved a n = omega arith

-- those up to and with k
pub up_to : (a k : ℕ) → a ≤ k → range_with_len a (k + 1 - a) ≡ push (range_with_len a (k - a)) k
up_to a k low =
    let count : k + 1 - a ≡ k - a + 1 = omega (arith, low) in
    let last : a + (k - a) ≡ k = omega (arith, low) in
    ap (range_with_len a) count ∙ (range_push a (k - a) ∙ ap (push (range_with_len a (k - a))) last)

pub fold_push : {B : Type 0} (f : B → ℕ → B) (b : B) (k : ℕ) → fold f b (range_with_len 0 (k + 1)) ≡ f (fold f b (range_with_len 0 k)) k
fold_push f b k =
    let last : 0 + k ≡ k = omega arith in
    ap (fold f b) (range_push 0 k ∙ ap (push (range_with_len 0 k)) last) ∙ fold-append f b (range_with_len 0 k) (k ∷ [])

-- ---- all lie below a number
pub all_below : (end a n : ℕ) → a + n ≤ end → AllByRecursion (λ c. c < end) (range_with_len a n)
all_below end a zero low = tt
all_below end a (suc n) low = (omega (arith, low), all_below end (a + 1) n (omega (arith, low)))

pub moved_below : (end first : ℕ) (p : ℕ → Bool) (a n : ℕ) → first + (a + n) ≤ end → AllByRecursion (λ c. c < end) (map (λ k. first + k) (filter p (range_with_len a n)))
moved_below end first p a zero low = tt
moved_below end first p a (suc n) low = by (p a) (moved_below end first p (a + 1) n (omega (arith, low)))
  where
    by : (t : Bool) → AllByRecursion (λ c. c < end) (map (λ k. first + k) (filter p (range_with_len (a + 1) n)))
        → AllByRecursion (λ c. c < end) (map (λ k. first + k) (cond t (a ∷ filter p (range_with_len (a + 1) n)) (filter p (range_with_len (a + 1) n))))
    by true rest = (omega (arith, low), rest)
    by false rest = rest
