-- Sector by sector into a slice.
use Rattle.std.proofs.Common.{◌≡◌, ◌≢◌, Option, Some, None, IsSome, unwrap_or, ◌&&◌, nat_le, nat_lt, if◌then◌else◌, drop, inl, inr, ℕ, ◌+◌, ◌-◌, ◌*◌, ◌/◌, ◌%◌, ◌<◌, ◌≤◌, List, ◌++◌, length, take, get_or, refl, sym, ◌∙◌, ap, subst, arith}
use Rattle.std.proofs.lemmas.List.{get_or_append_left, get_or-append_right, get_or-take, length-take-le}
use Rattle.std.proofs.lemmas.Bool.{cases_lt, cases_eq}
use Rattle.std.proofs.lemmas.Bool.Decides.{nat_tests}
use Rattle.o2_disk.specs.Image.{piece}
use borrow.Rule.Slice.PartMut.{put_mid, post_of}

pub copied_more : (f : ℕ → List ℕ) (at k n : ℕ) (out new : List ℕ) → 512 * k + 512 ≤ length out → n ≡ 512 → length new ≡ 512 → new ≡ f (at + k)
    → ((i : ℕ) → i < 512 * k → get_or out i 0 ≡ get_or (f (at + i / 512)) (i % 512) 0)
    → (i : ℕ) → i < 512 * (k + 1) → get_or (put_mid (512 * k) n out new) i 0 ≡ get_or (f (at + i / 512)) (i % 512) 0
copied_more f at k n out new fits is long same so_far i h = elim (cases_lt i (512 * k)) [
  | inl before ↦ get_or_append_left (take (512 * k) out) (new ++ post_of (512 * k) n out) 0 i (omega (arith, front, before)) ∙ get_or-take (512 * k) out i 0 before ∙ so_far i before
  | inr from ↦
      let low : i - 512 * k ≡ i % 512 = omega (arith, h, from) in
      let which : at + k ≡ at + i / 512 = omega (arith, h, from) in
      get_or-append_right (take (512 * k) out) (new ++ post_of (512 * k) n out) (512 * k) i 0 front from
      ∙ get_or_append_left new (post_of (512 * k) n out) 0 (i - 512 * k) (omega (arith, long, h, from))
      ∙ ap (λ (l : List ℕ). get_or l (i - 512 * k) 0) same
      ∙ ap (λ (s : ℕ). get_or (f s) (i - 512 * k) 0) which
      ∙ ap (λ (j : ℕ). get_or (f (at + i / 512)) j 0) low
]
  where
    front : length (take (512 * k) out) ≡ 512 * k
    front = length-take-le (512 * k) out (omega (arith, fits))

-- one sector more that is put
pub put_more : (bytes : List ℕ) (at k n : ℕ) (zero : List ℕ) (old : ℕ → List ℕ) (now new : ℕ → Option (List ℕ)) → n ≡ 512
    → new (at + k) ≡ Some (take n (drop (512 * k) bytes)) → ((q : ℕ) → q ≢ at + k → new q ≡ now q)
    → ((s : ℕ) → unwrap_or (now s) zero ≡ (if nat_le at s && nat_lt s (at + k) then piece bytes (s - at) else old s))
    → (s : ℕ) → unwrap_or (new s) zero ≡ (if nat_le at s && nat_lt s (at + (k + 1)) then piece bytes (s - at) else old s)
put_more bytes at k n zero old now new whole here others so_far s = elim (cases_eq s (at + k)) [
  | inl is ↦
      let place : s - at ≡ k = omega (arith, is) in
      ap (λ (q : ℕ). unwrap_or (new q) zero) is ∙ ap (λ (o : Option (List ℕ)). unwrap_or o zero) here
      ∙ ap (λ (m : ℕ). take m (drop (512 * k) bytes)) whole ∙ sym (ap (λ (j : ℕ). piece bytes j) place) ∙ sym (inside is)
  | inr apart ↦ ap (λ (o : Option (List ℕ)). unwrap_or o zero) (others s apart) ∙ so_far s ∙ same apart
]
  where
    inside : s ≡ at + k → (if nat_le at s && nat_lt s (at + (k + 1)) then piece bytes (s - at) else old s) ≡ piece bytes (s - at)
    inside is = grind (arith, nat_tests)

    same : s ≢ at + k → (if nat_le at s && nat_lt s (at + k) then piece bytes (s - at) else old s) ≡ (if nat_le at s && nat_lt s (at + (k + 1)) then piece bytes (s - at) else old s)
    same apart = grind (arith, nat_tests)

pub room_more : (at k n : ℕ) (v : List ℕ) (now new : ℕ → Option (List ℕ)) → new (at + k) ≡ Some v → ((q : ℕ) → q ≢ at + k → new q ≡ now q)
    → ((s : ℕ) → at ≤ s → s < at + n → IsSome (now s)) → (s : ℕ) → at ≤ s → s < at + n → IsSome (new s)
room_more at k n v now new here others room s from within = elim (cases_eq s (at + k)) [
  | inl is ↦ subst (λ (q : ℕ). IsSome (new q)) (sym is) (subst (λ (o : Option (List ℕ)). IsSome o) (sym here) refl)
  | inr apart ↦ subst (λ (o : Option (List ℕ)). IsSome o) (sym (others s apart)) (room s from within)
]

-- a sector that has room keeps it
pub keys_set : (a : ℕ) (old now new : ℕ → Option (List ℕ)) (v : List ℕ) → (IsSome (now a) → new a ≡ Some v) → ((q : ℕ) → q ≢ a → new q ≡ now q)
    → ((q : ℕ) → now q ≡ None → old q ≡ None) → (q : ℕ) → new q ≡ None → old q ≡ None
keys_set a old now new v here others keys q none = elim (cases_eq q a) [
  | inl is ↦ subst (λ (j : ℕ). old j ≡ None) (sym is) (keys a (at_place (subst (λ (j : ℕ). new j ≡ None) is none) (now a) refl))
  | inr apart ↦ keys q (sym (others q apart) ∙ none)
]
  where
    at_place : new a ≡ None → (o : Option (List ℕ)) → now a ≡ o → now a ≡ None
    at_place gone None was = was
    at_place gone (Some w) was =
        let filled : new a ≡ Some v = here (subst (λ (x : Option (List ℕ)). IsSome x) (sym was) refl) in
        cc

-- one sector more that is cleared, where it has room
pub clear_more : (at k : ℕ) (zero : List ℕ) (old : ℕ → List ℕ) (now new : ℕ → Option (List ℕ)) → at ≤ k
    → (IsSome (now k) → new k ≡ Some zero) → (now k ≡ None → new k ≡ None) → ((q : ℕ) → q ≢ k → new q ≡ now q)
    → ((s : ℕ) → unwrap_or (now s) zero ≡ (if nat_le at s && nat_lt s k then zero else old s))
    → (s : ℕ) → unwrap_or (new s) zero ≡ (if nat_le at s && nat_lt s (k + 1) then zero else old s)
clear_more at k zero old now new from here absent others so_far s = elim (cases_eq s k) [
  | inl is ↦ ap (λ (q : ℕ). unwrap_or (new q) zero) is ∙ at_place (now k) refl ∙ sym (inside is)
  | inr apart ↦ ap (λ (o : Option (List ℕ)). unwrap_or o zero) (others s apart) ∙ so_far s ∙ same apart
]
  where
    at_place : (o : Option (List ℕ)) → now k ≡ o → unwrap_or (new k) zero ≡ zero
    at_place None was = ap (λ (o : Option (List ℕ)). unwrap_or o zero) (absent was)
    at_place (Some w) was = ap (λ (o : Option (List ℕ)). unwrap_or o zero) (here (subst (λ (x : Option (List ℕ)). IsSome x) (sym was) refl))

    inside : s ≡ k → (if nat_le at s && nat_lt s (k + 1) then zero else old s) ≡ zero
    inside is = grind (arith, nat_tests)

    same : s ≢ k → (if nat_le at s && nat_lt s k then zero else old s) ≡ (if nat_le at s && nat_lt s (k + 1) then zero else old s)
    same apart = grind (arith, nat_tests)
