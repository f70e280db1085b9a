-- The laws of bytes that are no number.
use Rattle.std.proofs.Common.{◌≡◌, ◌⊎◌, inl, inr, ⊎_elim, ℕ, ◌+◌, ◌-◌, ◌<◌, ◌≤◌, List, ◌++◌, length, take, drop, get_or, refl, ◌∙◌, ap, arith, length-append, length-drop}
use Rattle.std.proofs.lemmas.List.{get_or_append_left, get_or-append_right, get_or-take, get_or-drop, length-take-le, drop_at, drop-drop, take_at}
use borrow.Rule.Slice.PartMut.{put_mid, post_of}
use Rattle.std.proofs.lemmas.Bool.{cases_lt}
use Rattle.o2_ondisk.specs.Number.{number_at}
use Rattle.o2_ondisk.specs.Fields.{paste_at, bytes_at, IsOutsideSpan}
use Rattle.o2_ondisk.proofs.NumberLaws.{number_at-same, bytes_at-same}

module _ (at : ℕ) (new bytes : List ℕ) (fits : at + length new ≤ length bytes) where
  head_length : length (take at bytes) ≡ at
  head_length = length-take-le at bytes (omega (arith, fits))

  pub get_or-paste_at_before : (i : ℕ) → i < at → get_or (paste_at at new bytes) i 0 ≡ get_or bytes i 0
  unfolding paste_at
  get_or-paste_at_before i h = get_or_append_left (take at bytes) (new ++ drop (at + length new) bytes) 0 i (omega (arith, head_length, h)) ∙ get_or-take at bytes i 0 h

  pub get_or-paste_at_behind : (i : ℕ) → at + length new ≤ i → get_or (paste_at at new bytes) i 0 ≡ get_or bytes i 0
  unfolding paste_at
  get_or-paste_at_behind i h =
      get_or-append_right (take at bytes) (new ++ drop (at + length new) bytes) at i 0 head_length (omega (arith, h))
      ∙ get_or-append_right new (drop (at + length new) bytes) (length new) (i - at) 0 refl (omega (arith, h))
      ∙ get_or-drop (at + length new) bytes (i - at - length new) 0
      ∙ ap (λ (k : ℕ). get_or bytes k 0) place
    where
      place : at + length new + (i - at - length new) ≡ i
      place = omega (arith, h)

  pub length-paste_at : length (paste_at at new bytes) ≡ length bytes
  unfolding paste_at
  length-paste_at = omega (arith, fits, head_length, length-append (take at bytes) (new ++ drop (at + length new) bytes), length-append new (drop (at + length new) bytes), length-drop (at + length new) bytes)

  pub bytes_at-paste_at : bytes_at at (length new) (paste_at at new bytes) ≡ new
  unfolding paste_at
  bytes_at-paste_at = ap (λ (l : List ℕ). take (length new) l) (drop_at (take at bytes) (new ++ drop (at + length new) bytes) at head_length) ∙ take_at new (drop (at + length new) bytes) (length new) refl

  pub get_or-paste_at_outside : (i : ℕ) → IsOutsideSpan at (length new) i → get_or (paste_at at new bytes) i 0 ≡ get_or bytes i 0
  get_or-paste_at_outside i out = elim (cases_lt i at) [
    | inl before ↦ get_or-paste_at_before i before
    | inr from ↦ elim (cases_lt i (at + length new)) [
      | inl within ↦ absurd (out from within)
      | inr behind ↦ get_or-paste_at_behind i behind
    ]
  ]

  pub bytes_at-paste_at_apart : (from count : ℕ) → (from + count ≤ at) ⊎ (at + length new ≤ from) → bytes_at from count (paste_at at new bytes) ≡ bytes_at from count bytes
  bytes_at-paste_at_apart from count side = bytes_at-same from count (paste_at at new bytes) bytes length-paste_at (λ k low high. ⊎_elim (λ before. get_or-paste_at_before k (omega (arith, before, high))) (λ behind. get_or-paste_at_behind k (omega (arith, behind, low))) side)

  pub number_at-paste_at_apart : (from width : ℕ) → (from + width ≤ at) ⊎ (at + length new ≤ from) → number_at from width (paste_at at new bytes) ≡ number_at from width bytes
  number_at-paste_at_apart from width side = number_at-same from width (paste_at at new bytes) bytes (λ k low high. ⊎_elim (λ before. get_or-paste_at_before k (omega (arith, before, high))) (λ behind. get_or-paste_at_behind k (omega (arith, behind, low))) side)

pub put_mid_pastes : (at k : ℕ) (bytes new given : List ℕ) → k ≡ length given → new ≡ given → put_mid at k bytes new ≡ paste_at at given bytes
unfolding paste_at
put_mid_pastes at k bytes new given is same =
    ap (λ (l : List ℕ). take at bytes ++ (l ++ post_of at k bytes)) same
    ∙ ap (λ (l : List ℕ). take at bytes ++ (given ++ l)) (drop-drop k at bytes ∙ ap (λ (n : ℕ). drop (at + n) bytes) is)
