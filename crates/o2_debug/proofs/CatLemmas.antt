-- The bytes of a file, piece by piece.
use Rattle.std.proofs.Common.{◌≡◌, inl, inr, ℕ, ◌+◌, ◌≤◌, List, ◌++◌, length, take, drop, refl, sym, ◌∙◌, ap, arith}
use Rattle.std.proofs.Math.Seq.{take-add}
use Rattle.std.proofs.lemmas.Bool.{cases_Bool}
use Rattle.std.proofs.lemmas.List.{take-append-drop, length-take}
use Rattle.std.proofs.lemmas.List.FromFn.{length-map-range_with_len}
use Rattle.o2_disk.specs.Output.{SinkState}
use Rattle.o2_model.specs.Volume.{Volume, dinode}
use Rattle.o2_model.specs.Inodes.{is_inline, is_fast_link, leaf_records}
use Rattle.o2_model.specs.Contents.{bytes_of, byte_of}
use Rattle.o2_debug.specs.Texts.{cat_text}
use Rattle.o2_cause.specs.Taken.{Takes, TakesSome}
use Rattle.o2_cause.proofs.Fronts.{takes_both, takes_as, takes_whole, stopped_at, some_of_next, some_of_both, some_as}

-- there are at most i_size of them
first_few : (n : ℕ) (bytes : List ℕ) → length (take n bytes) ≤ n
first_few n bytes = omega (arith, length-take n bytes)

few : (v : Volume) (b : ℕ) → length (bytes_of v b) ≤ (dinode v b).size
unfolding bytes_of
few v b = elim (cases_Bool (is_inline v b)) [
  | inl inside ↦ rw inside (first_few (dinode v b).size (drop 0xc8 (v.at b)))
  | inr outside ↦ elim (cases_Bool (is_fast_link v b)) [
    | inl fast ↦ rw (outside, fast) (first_few (dinode v b).size (drop 0xc0 (v.at b)))
    | inr mapped ↦
        let long = length-map-range_with_len (byte_of v (leaf_records v b)) 0 (dinode v b).size in
        rw (outside, mapped) (omega (arith, long))
  ]
]

module _ (v : Volume) (b : ℕ) {old mid : SinkState} (k : ℕ) (first : Takes old mid (take k (bytes_of v b))) where
  -- what was put so far is some of the text
  pub so_far : TakesSome old mid (cat_text v b)
  unfolding cat_text
  so_far = stopped_at mid k (bytes_of v b) first refl

  -- and all of it at its end
  pub at_end : (size : ℕ) → size ≡ (dinode v b).size → size ≤ k → Takes old mid (cat_text v b)
  unfolding cat_text
  at_end size is past = takes_whole k (bytes_of v b) (omega (arith, few v b, is, past)) first

  -- a piece more
  pub piece_more : (new : SinkState) (n : ℕ) (piece : List ℕ) → piece ≡ take n (drop k (bytes_of v b)) → Takes mid new piece → Takes old new (take (k + n) (bytes_of v b))
  piece_more new n piece is next =
      takes_as (ap (λ (p : List ℕ). take k (bytes_of v b) ++ p) is ∙ sym (take-add k n (bytes_of v b))) (takes_both first next)

  -- some of a piece
  pub some_more : (new : SinkState) (n : ℕ) (piece : List ℕ) → piece ≡ take n (drop k (bytes_of v b)) → TakesSome mid new piece → TakesSome old new (cat_text v b)
  unfolding cat_text
  some_more new n piece is next =
      let rest = drop n (drop k (bytes_of v b)) in
      some_as (
      ap (λ (p : List ℕ). take k (bytes_of v b) ++ (p ++ rest)) is
      ∙ ap (λ (p : List ℕ). take k (bytes_of v b) ++ p) (take-append-drop n (drop k (bytes_of v b)))
      ∙ take-append-drop k (bytes_of v b)
      ) (some_of_next first (some_of_both rest next))
