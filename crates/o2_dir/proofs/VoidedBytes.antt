-- Bytes with a number put among them, cut in two; and the bytes that entries fill, once one of them is void.
use Rattle.std.proofs.Common.{◌≡◌, inl, inr, ℕ, ◌+◌, ◌-◌, ◌≤◌, Bool, true, false, ◌==◌, cond, List, ◌++◌, length, take, drop, refl, sym, ◌∙◌, ap, arith}
use Rattle.std.proofs.lemmas.Bool.{cases_lt}
use Rattle.std.proofs.lemmas.Bool.Decides.{nat_tests}
use Rattle.std.proofs.lemmas.List.{length-drop, length-take, drop-drop, drop-take, drop-append-le, length-take-le, take_at, take-append-le, take_all, take_rest, take-append-drop, append_assoc}
use Rattle.o2_ondisk.specs.Number.{number_at}
use Rattle.o2_ondisk.specs.Fields.{put_at, paste_at}
use Rattle.o2_ondisk.specs.Dinodes.{dinode_of}
use Rattle.o2_ondisk.proofs.TableLaws.{length-put_at, number_at-put_at_apart, bytes_at-put_at_apart}
use Rattle.byteorder.specs.Endian.{little_bytes}
use Rattle.byteorder.specs.Numbers.{length-bytes_low_first}
use Rattle.o2_model.specs.Volume.{Volume}
use Rattle.o2_dir.specs.VoidEntries.{filled_bytes, filled_place, with_void}

-- ---- a number among bytes
-- put behind the first bytes, it is put into the rest
pub drop-put_at : (from at width value : ℕ) (bytes : List ℕ) → from + at + width ≤ length bytes → drop from (put_at (from + at) width value bytes) ≡ put_at at width value (drop from bytes)
unfolding put_at paste_at
drop-put_at from at width value bytes fits =
    let new = little_bytes width value in
    let n = length new in
    let long : length (take (from + at) bytes) ≡ from + at = length-take-le (from + at) bytes (omega (arith, fits)) in
    let place : from + (at + n) ≡ from + at + n = omega arith in
    drop-append-le from (take (from + at) bytes) (new ++ drop (from + at + n) bytes) (omega (arith, long))
    ∙ (ap (λ (front : List ℕ). front ++ (new ++ drop (from + at + n) bytes)) (drop-take from at bytes)
    ∙ ap (λ (back : List ℕ). take at (drop from bytes) ++ (new ++ back)) (ap (λ (k : ℕ). drop k bytes) (sym place) ∙ sym (drop-drop (at + n) from bytes)))

-- put before the last bytes, it leaves them
put_at-append : (at width value : ℕ) (xs ys : List ℕ) → at + width ≤ length xs → put_at at width value (xs ++ ys) ≡ put_at at width value xs ++ ys
unfolding put_at paste_at
put_at-append at width value xs ys fits =
    let new = little_bytes width value in
    let n = length new in
    let long : n ≡ width = length-bytes_low_first 0 width value in
    ap (λ (front : List ℕ). front ++ (new ++ drop (at + n) (xs ++ ys))) (take-append-le at xs ys (omega (arith, fits)))
    ∙ (ap (λ (back : List ℕ). take at xs ++ (new ++ back)) (drop-append-le (at + n) xs ys (omega (arith, fits, long)))
    ∙ (ap (λ (back : List ℕ). take at xs ++ back) (sym (append_assoc new (drop (at + n) xs) ys))
    ∙ sym (append_assoc (take at xs) (new ++ drop (at + n) xs) ys)))

-- put into the first bytes, it is put into all
pub take-put_at : (n at width value : ℕ) (bytes : List ℕ) → at + width ≤ n → at + width ≤ length bytes → take n (put_at at width value bytes) ≡ put_at at width value (take n bytes)
take-put_at n at width value bytes within fits = elim (cases_lt n (length bytes)) [
  | inl less ↦
      let long : length (take n bytes) ≡ n = length-take-le n bytes (omega (arith, less)) in
      let same : length (put_at at width value (take n bytes)) ≡ n = length-put_at at width value (take n bytes) (omega (arith, within, long)) ∙ long in
      ap (λ (xs : List ℕ). take n (put_at at width value xs)) (sym (take-append-drop n bytes))
      ∙ (ap (take n) (put_at-append at width value (take n bytes) (drop n bytes) (omega (arith, within, long)))
      ∙ take_at (put_at at width value (take n bytes)) (drop n bytes) n same)
  | inr more ↦
      let same : length (put_at at width value bytes) ≡ length bytes = length-put_at at width value bytes fits in
      take_all n (put_at at width value bytes) (omega (arith, more, same)) ∙ ap (put_at at width value) (sym (take_all n bytes (omega (arith, more))))
]

-- bytes behind it stay
pub drop-put_at_behind : (at width value from : ℕ) (bytes : List ℕ) → at + width ≤ length bytes → at + width ≤ from → drop from (put_at at width value bytes) ≡ drop from bytes
drop-put_at_behind at width value from bytes fits behind =
    let new = put_at at width value bytes in
    let many = length bytes - from in
    let same : length new ≡ length bytes = length-put_at at width value bytes fits in
    let apart : take many (drop from new) ≡ take many (drop from bytes) = bytes_at-put_at_apart at width value bytes fits from many (inr behind) in
    sym (take_rest new from) ∙ (ap (λ (k : ℕ). take (k - from) (drop from new)) same ∙ (apart ∙ take_rest bytes from))

-- ---- the bytes that entries fill
abbrev part_of : Bool → List ℕ → List ℕ
part_of inline bytes = cond inline (take (dinode_of bytes).size (drop 0xc8 bytes)) bytes

abbrev place_of : Bool → ℕ
place_of inline = cond inline 0xc8 0

part_voided : (inline : Bool) (at : ℕ) (bytes : List ℕ) → at + 12 ≤ length (part_of inline bytes) → part_of inline (put_at (place_of inline + at) 8 0 bytes) ≡ put_at at 8 0 (part_of inline bytes)
part_voided false at bytes fits = let none : 0 + at ≡ at = omega arith in ap (λ (k : ℕ). put_at k 8 0 bytes) none
part_voided true at bytes fits =
    let size = (dinode_of bytes).size in
    let rest = drop 0xc8 bytes in
    let long : at + 12 ≤ length rest = omega (arith, fits, length-take size rest) in
    let within : at + 12 ≤ size = omega (arith, fits, length-take size rest) in
    let room : 0xc8 + at + 8 ≤ length bytes = omega (arith, long, length-drop 0xc8 bytes) in
    let same : number_at 0x20 8 (put_at (0xc8 + at) 8 0 bytes) ≡ size = number_at-put_at_apart (0xc8 + at) 8 0 bytes room 0x20 8 (inl (omega arith)) in
    ap (λ (k : ℕ). take k (drop 0xc8 (put_at (0xc8 + at) 8 0 bytes))) same
    ∙ (ap (take size) (drop-put_at 0xc8 at 8 0 bytes room)
    ∙ take-put_at size at 8 0 rest (omega (arith, within)) (omega (arith, long)))

here : (b : ℕ) (bytes other : List ℕ) → cond (b == b) bytes other ≡ bytes
here b bytes other = let test : (b == b) ≡ true = grind (arith, nat_tests) in rw test refl

-- of a block with this entry void, they are the old ones with zeros there
pub filled_voided : (v : Volume) (inode block at : ℕ) → at + 12 ≤ length (filled_bytes v inode block)
    → filled_bytes (with_void v inode block at) inode block ≡ put_at at 8 0 (filled_bytes v inode block)
filled_voided v inode block at fits =
    ap (part_of (block == inode)) (here block (put_at (filled_place inode block + at) 8 0 (v.at block)) (v.at block)) ∙ part_voided (block == inode) at (v.at block) fits

-- those of a dinode are its inline bytes
pub filled_inline : (v : Volume) (inode block : ℕ) (bytes : List ℕ) → block ≡ inode → bytes ≡ v.at block → take (dinode_of bytes).size (drop 0xc8 bytes) ≡ filled_bytes v inode block
filled_inline v inode block bytes same is =
    let test : (block == inode) ≡ true = grind (arith, nat_tests) in
    rw test (ap (λ (bs : List ℕ). take (dinode_of bs).size (drop 0xc8 bs)) is)
