-- What the code's copy of a number's bytes is.
use Rattle.std.proofs.Common.{◌≡◌, ℕ, zero, suc, ◌+◌, ◌-◌, ◌≤◌, List, ◌∷◌, take, drop, refl, sym, ◌∙◌, ap, arith}
use Rattle.std.proofs.lemmas.List.{take_all}
use Rattle.std.specs.Int.{bytes_low_first, bytes_high_first, byte_at}
use borrow.Rule.Slice.PartMut.{put_mid}
use Rattle.byteorder.specs.Endian.{little_bytes, big_bytes}
use Rattle.byteorder.specs.Numbers.{length-bytes_low_first, length-bytes_high_first}
use Rattle.o2_ondisk.specs.Fields.{put_at, big_put_at}
use Rattle.o2_ondisk.proofs.PasteLaws.{put_mid_pastes}

take-low_bytes : (i n m value : ℕ) → n ≤ m → take n (bytes_low_first i m value) ≡ bytes_low_first i n value
take-low_bytes i zero m value le = refl
take-low_bytes i (suc n) zero value le = absurd (omega arith)
take-low_bytes i (suc n) (suc m) value le = ap (λ (l : List ℕ). byte_at i value ∷ l) (take-low_bytes (suc i) n m value (omega arith))

drop-high_bytes : (k n m value : ℕ) → m ≡ k + n → drop k (bytes_high_first m value) ≡ bytes_high_first n value
drop-high_bytes zero n m value is = ap (λ (l : ℕ). bytes_high_first l value) (omega (arith, is))
drop-high_bytes (suc k) n zero value is = absurd (omega arith)
drop-high_bytes (suc k) n (suc m) value is = drop-high_bytes k n m value (omega (arith, is))

pub put_mid_is : (at width k value : ℕ) (bytes new all : List ℕ) → width ≤ 8 → k ≡ width → new ≡ take width all → all ≡ bytes_low_first 0 8 value → put_mid at k bytes new ≡ put_at at width value bytes
unfolding put_at
put_mid_is at width k value bytes new all le is same whole =
    put_mid_pastes at k bytes new (little_bytes width value) (is ∙ sym (length-bytes_low_first 0 width value)) (same ∙ ap (λ (l : List ℕ). take width l) whole ∙ take-low_bytes 0 width 8 value le)

pub put_mid_is_big : (at width k value : ℕ) (bytes new all : List ℕ) → width ≤ 8 → k ≡ width → new ≡ take (8 - (8 - width)) (drop (8 - width) all) → all ≡ bytes_high_first 8 value → put_mid at k bytes new ≡ big_put_at at width value bytes
unfolding big_put_at
put_mid_is_big at width k value bytes new all le is same whole =
    let low : drop (8 - width) all ≡ big_bytes width value = ap (λ (l : List ℕ). drop (8 - width) l) whole ∙ drop-high_bytes (8 - width) width 8 value (omega arith) in
    let long = length-bytes_high_first width value in
    put_mid_pastes at k bytes new (big_bytes width value) (is ∙ sym long) (same ∙ ap (λ (l : List ℕ). take (8 - (8 - width)) l) low ∙ take_all (8 - (8 - width)) (big_bytes width value) (omega (arith, long)))
