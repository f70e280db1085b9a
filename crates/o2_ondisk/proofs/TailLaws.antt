-- What a call on the tail of some bytes, as `&mut block[at..]`, does to them all.
use Rattle.std.proofs.Common.{◌≡◌, ℕ, ◌+◌, ◌-◌, ◌≤◌, List, ◌++◌, length, take, drop, sym, ◌∙◌, ap, arith, length-drop}
use Rattle.std.proofs.lemmas.List.{append_assoc, append-nil, drop_all, drop_at, drop-drop, length-take-le, take_rest}
use Rattle.std.proofs.Math.Seq.{take-add}
use borrow.Rule.Slice.PartMut.{put_mid}
use Rattle.o2_ondisk.specs.Fields.{paste_at}

-- the tail that is read
pub tail_is : (at : ℕ) (bytes : List ℕ) → take (length bytes - at) (drop at bytes) ≡ drop at bytes
tail_is at bytes = take_rest bytes at

-- the bytes with a new tail
pub put_tail : (at : ℕ) (bytes new : List ℕ) → put_mid at (length bytes - at) bytes new ≡ take at bytes ++ new
put_tail at bytes new =
    ap (λ (l : List ℕ). take at bytes ++ (new ++ l)) (drop_all (length bytes - at) (drop at bytes) (omega (arith, length-drop at bytes)))
    ∙ ap (λ (l : List ℕ). take at bytes ++ l) (append-nil new)

pub drop-put_tail : (at : ℕ) (bytes new : List ℕ) → at ≤ length bytes → drop at (put_mid at (length bytes - at) bytes new) ≡ new
drop-put_tail at bytes new within = ap (λ (l : List ℕ). drop at l) (put_tail at bytes new) ∙ drop_at (take at bytes) new at (length-take-le at bytes within)

-- bytes put in the tail are put in the whole
pub put_tail-paste_at : (at place : ℕ) (bytes new : List ℕ) → put_mid at (length bytes - at) bytes (paste_at place new (drop at bytes)) ≡ paste_at (at + place) new bytes
unfolding paste_at
put_tail-paste_at at place bytes new =
    let rest = drop (place + length new) (drop at bytes) in
    let end : rest ≡ drop (at + place + length new) bytes = drop-drop (place + length new) at bytes ∙ ap (λ (n : ℕ). drop n bytes) (omega arith) in
    put_tail at bytes (take place (drop at bytes) ++ (new ++ rest))
    ∙ sym (append_assoc (take at bytes) (take place (drop at bytes)) (new ++ rest))
    ∙ ap (λ (l : List ℕ). l ++ (new ++ rest)) (sym (take-add at place bytes))
    ∙ ap (λ (l : List ℕ). take (at + place) bytes ++ (new ++ l)) end
