-- The laws of a number among bytes, and of a run of bytes.
use Rattle.std.proofs.Common.{◌≡◌, ℕ, zero, suc, ◌+◌, ◌-◌, ◌*◌, ◌<◌, ◌≤◌, ◌^◌, min, List, length, take, drop, get_or, refl, sym, ◌∙◌, ap, subst, ◌++◌, arith, length-drop}
use Rattle.std.proofs.lemmas.List.{get_or-take, get_or-drop, drop-drop, ext_get_or, length-take, take-take, drop-take, get_or_append_left, drop_at}
use Rattle.byteorder.specs.Endian.{little_from, big_from}
use Rattle.byteorder.specs.Numbers.{little_from-lt, big_from-lt}
use Rattle.o2_ondisk.specs.Number.{number_at, big_number_at}
use Rattle.o2_ondisk.specs.Fields.{bytes_at}

little_from-same : (i n : ℕ) (xs ys : List ℕ) → ((k : ℕ) → i ≤ k → k < i + n → get_or xs k 0 ≡ get_or ys k 0) → little_from i n xs ≡ little_from i n ys
little_from-same i zero xs ys same = refl
little_from-same i (suc n) xs ys same =
    let here : get_or xs i 0 ≡ get_or ys i 0 = same i (omega arith) (omega arith) in
    let rest : little_from (suc i) n xs ≡ little_from (suc i) n ys = little_from-same (suc i) n xs ys (λ k from to. same k (omega arith) (omega arith)) in
    ap (λ (b : ℕ). b + 256 * little_from (suc i) n xs) here ∙ ap (λ (r : ℕ). get_or ys i 0 + 256 * r) rest

-- a number is told by its bytes
pub number_at-same : (at width : ℕ) (xs ys : List ℕ) → ((k : ℕ) → at ≤ k → k < at + width → get_or xs k 0 ≡ get_or ys k 0) → number_at at width xs ≡ number_at at width ys
unfolding number_at
number_at-same at width xs ys same = little_from-same 0 width (drop at xs) (drop at ys) (λ k from to. get_or-drop at xs k 0 ∙ same (at + k) (omega arith) (omega arith) ∙ sym (get_or-drop at ys k 0))

big_from-same : (i n : ℕ) (xs ys : List ℕ) → ((k : ℕ) → i ≤ k → k < i + n → get_or xs k 0 ≡ get_or ys k 0) → big_from i n xs ≡ big_from i n ys
big_from-same i zero xs ys same = refl
big_from-same i (suc n) xs ys same =
    let here : get_or xs i 0 ≡ get_or ys i 0 = same i (omega arith) (omega arith) in
    let rest : big_from (suc i) n xs ≡ big_from (suc i) n ys = big_from-same (suc i) n xs ys (λ k from to. same k (omega arith) (omega arith)) in
    ap (λ (b : ℕ). b * 256 ^ n + big_from (suc i) n xs) here ∙ ap (λ (r : ℕ). get_or ys i 0 * 256 ^ n + r) rest

pub big_number_at-same : (at width : ℕ) (xs ys : List ℕ) → ((k : ℕ) → at ≤ k → k < at + width → get_or xs k 0 ≡ get_or ys k 0) → big_number_at at width xs ≡ big_number_at at width ys
unfolding big_number_at
big_number_at-same at width xs ys same = big_from-same 0 width (drop at xs) (drop at ys) (λ k from to. get_or-drop at xs k 0 ∙ same (at + k) (omega arith) (omega arith) ∙ sym (get_or-drop at ys k 0))

-- a number within the first n bytes is told by these
pub number_at-take : (at width n : ℕ) (bytes : List ℕ) → at + width ≤ n → number_at at width (take n bytes) ≡ number_at at width bytes
number_at-take at width n bytes within = number_at-same at width (take n bytes) bytes (λ k from to. get_or-take n bytes k 0 (omega arith))

-- a number behind the first n bytes
pub number_at-drop : (at width n : ℕ) (bytes : List ℕ) → number_at at width (drop n bytes) ≡ number_at (n + at) width bytes
unfolding number_at
number_at-drop at width n bytes = ap (λ (l : List ℕ). little_from 0 width l) (drop-drop at n bytes)

pub big_number_at-take : (at width n : ℕ) (bytes : List ℕ) → at + width ≤ n → big_number_at at width (take n bytes) ≡ big_number_at at width bytes
big_number_at-take at width n bytes within = big_number_at-same at width (take n bytes) bytes (λ k from to. get_or-take n bytes k 0 (omega arith))

pub big_number_at-drop : (at width n : ℕ) (bytes : List ℕ) → big_number_at at width (drop n bytes) ≡ big_number_at (n + at) width bytes
unfolding big_number_at
big_number_at-drop at width n bytes = ap (λ (l : List ℕ). big_from 0 width l) (drop-drop at n bytes)

-- a number in the first of two lists of bytes, and in the second
pub number_at-append_left : (at width : ℕ) (xs ys : List ℕ) → at + width ≤ length xs → number_at at width (xs ++ ys) ≡ number_at at width xs
number_at-append_left at width xs ys within = number_at-same at width (xs ++ ys) xs (λ k from to. get_or_append_left xs ys 0 k (omega arith))

pub number_at-append_right : (at width : ℕ) (xs ys : List ℕ) → number_at (length xs + at) width (xs ++ ys) ≡ number_at at width ys
number_at-append_right at width xs ys = sym (number_at-drop at width (length xs) (xs ++ ys)) ∙ ap (λ (l : List ℕ). number_at at width l) (drop_at xs ys (length xs) refl)

-- a number of bytes fits its width
pub number_at-lt : (at width : ℕ) (bytes : List ℕ) → ((k : ℕ) → get_or bytes k 0 < 256) → number_at at width bytes < 256 ^ width
unfolding number_at
number_at-lt at width bytes fits = little_from-lt 0 width (drop at bytes) (λ k. subst (λ (b : ℕ). b < 256) (sym (get_or-drop at bytes k 0)) (fits (at + k)))

pub big_number_at-lt : (at width : ℕ) (bytes : List ℕ) → ((k : ℕ) → get_or bytes k 0 < 256) → big_number_at at width bytes < 256 ^ width
unfolding big_number_at
big_number_at-lt at width bytes fits = big_from-lt 0 width (drop at bytes) (λ k. subst (λ (b : ℕ). b < 256) (sym (get_or-drop at bytes k 0)) (fits (at + k)))

-- bytes are told one by one
pub bytes_at-same : (at count : ℕ) (xs ys : List ℕ) → length xs ≡ length ys → ((k : ℕ) → at ≤ k → k < at + count → get_or xs k 0 ≡ get_or ys k 0) → bytes_at at count xs ≡ bytes_at at count ys
bytes_at-same at count xs ys long same = ext_get_or 0 (bytes_at at count xs) (bytes_at at count ys) (length-bytes_at xs ∙ ap (λ (n : ℕ). min count (n - at)) long ∙ sym (length-bytes_at ys)) (λ i h.
    let low : i < count = omega (arith, h, length-take count (drop at xs)) in
    get_or-take count (drop at xs) i 0 low ∙ get_or-drop at xs i 0 ∙ same (at + i) (omega arith) (omega (arith, low)) ∙ sym (get_or-take count (drop at ys) i 0 low ∙ get_or-drop at ys i 0))
  where
    length-bytes_at : (l : List ℕ) → length (bytes_at at count l) ≡ min count (length l - at)
    length-bytes_at l = length-take count (drop at l) ∙ ap (λ (n : ℕ). min count n) (length-drop at l)

-- bytes within the first n are told by these
pub bytes_at-take : (at count n : ℕ) (bytes : List ℕ) → at + count ≤ n → bytes_at at count (take n bytes) ≡ bytes_at at count bytes
bytes_at-take at count n bytes within =
    let room : at + (n - at) ≡ n = omega arith in
    ap (λ (k : ℕ). take count (drop at (take k bytes))) (sym room) ∙ ap (λ (l : List ℕ). take count l) (drop-take at (n - at) bytes) ∙ take-take count (n - at) (drop at bytes) (omega arith)

-- bytes behind the first n
pub bytes_at-drop : (at count n : ℕ) (bytes : List ℕ) → bytes_at at count (drop n bytes) ≡ bytes_at (n + at) count bytes
bytes_at-drop at count n bytes = ap (λ (l : List ℕ). take count l) (drop-drop at n bytes)
