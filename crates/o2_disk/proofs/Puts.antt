-- What one call more does to what each sector may hold.
use Rattle.std.proofs.Common.{◌≡◌, ◌⊎◌, inl, inr, ℕ, ◌+◌, ◌-◌, ◌*◌, ◌<◌, ◌≤◌, ◌&&◌, List, [], ◌∷◌, ◌++◌, length, drop, get_or, Option, Some, None, unwrap_or, option_to_list, refl, sym, ◌∙◌, ap, subst, arith}
use Rattle.std.proofs.lemmas.List.{length_push, get_or_past, get_or-take, get_or-drop, get_or-replicate, ext_get_or, length-take-le, length-drop, append-nil}
use Rattle.std.proofs.Math.Seq.{get_or-append_seam}
use Rattle.std.proofs.lemmas.Bool.{cases_lt}
use Rattle.std.proofs.lemmas.Bool.Decides.{nat_tests}
use Rattle.std.specs.Prelude.{nat_le, nat_lt, if◌then◌else◌}
use Rattle.o2_disk.specs.Image.{Image, IsSector, sector, image_of, sectors_in, piece, InRange, zero_sector}
use Rattle.o2_disk.proofs.Images.{length-image_of, sector-image_of, same_image, in_or_out, length-zero_sector}
use Rattle.o2_disk.specs.declared.call.Call.{Call}
use Rattle.o2_disk.specs.declared.call.Call.TheVariants.{Read, Write, Zeros, Sync, FailedSync}
use Rattle.o2_disk.specs.Calls.{Choices, newest, put_into, put_by, step, run, shown, AreZeros, RecordsWrite}
use Rattle.o2_disk.specs.Recorded.{length-shown, sector-shown}

-- what is put last is the newest
newest_more : (xs : List (List ℕ)) (o : Option (List ℕ)) → newest (xs ++ option_to_list o) ≡ unwrap_or o (newest xs)
newest_more xs None = ap newest (append-nil xs)
newest_more xs (Some y) =
    let last : length (xs ++ y ∷ []) - 1 ≡ length xs = omega (arith, length_push xs y) in
    ap (λ (k : ℕ). get_or (xs ++ y ∷ []) k []) last ∙ get_or-append_seam xs y [] []

pub newest_step : (c : Call) (may : Choices) (s : ℕ) → newest (step c may s) ≡ unwrap_or (put_by c s) (newest (may s))
newest_step Read may s = refl
newest_step (Write at bytes) may s = newest_more (may s) (put_by (Write at bytes) s)
newest_step (Zeros at sectors) may s = newest_more (may s) (put_by (Zeros at sectors) s)
newest_step Sync may s = refl
newest_step FailedSync may s = refl

-- two that show the same sectors
pub shown-same : (n : ℕ) (f g : Choices) → ((s : ℕ) → newest (f s) ≡ newest (g s)) → shown n f ≡ shown n g
shown-same n f g same = same_image (shown n f) (shown n g) (length-shown n f ∙ sym (length-shown n g)) (λ s h.
    let k : s < n = omega (arith, h, length-shown n f) in
    sector-shown n f s k ∙ same s ∙ sym (sector-shown n g s k))

-- ---- one call more
pub run_more : (may : Choices) (calls : List Call) (c : Call) → run may (calls ++ c ∷ []) ≡ step c (run may calls)
run_more may [] c = refl
run_more may (x ∷ calls) c = run_more (step x may) calls c

-- a sector for each place makes an image
pub choose : (n : ℕ) (R : ℕ → List ℕ → Type 0) → ((s : ℕ) → s < n → (y : List ℕ) × R s y) → (Y : Image) × (length Y ≡ n) × ((s : ℕ) → s < n → R s (sector Y s))
choose n R pick = (image_of n (λ s. of s (cases_lt s n)), length-image_of n (λ s. of s (cases_lt s n)), λ s h. subst (R s) (sym (sector-image_of n (λ s. of s (cases_lt s n)) s h)) (fits s (cases_lt s n) h))
  where
    of : (s : ℕ) → (s < n) ⊎ (n ≤ s) → List ℕ
    of s (inl h) = (pick s h).0
    of s (inr past) = []

    fits : (s : ℕ) (x : (s < n) ⊎ (n ≤ s)) → s < n → R s (of s x)
    fits s (inl h) h' = (pick s h).1
    fits s (inr past) h = absurd (omega (arith, h, past))

-- ---- zeros
pub get_or-zero_sector : (i : ℕ) → i < 512 → get_or zero_sector i 0 ≡ 0
unfolding zero_sector
get_or-zero_sector i h = get_or-replicate 512 i 0 0 h

pub is_sector_zero : IsSector zero_sector
is_sector_zero = record {
  whole = length-zero_sector;
  are_bytes = λ i. elim (cases_lt i 512) [
    | inl h ↦ omega (arith, get_or-zero_sector i h)
    | inr past ↦ omega (arith, get_or_past zero_sector i 0 (omega (arith, length-zero_sector, past)))
  ];
}

pub length-piece : (bytes : List ℕ) (k : ℕ) → k < sectors_in bytes → length (piece bytes k) ≡ 512
length-piece bytes k h = length-take-le 512 (drop (512 * k) bytes) (omega (arith, length-drop (512 * k) bytes, h))

pub get_or-piece : (bytes : List ℕ) (k i : ℕ) → i < 512 → get_or (piece bytes k) i 0 ≡ get_or bytes (512 * k + i) 0
get_or-piece bytes k i h = get_or-take 512 (drop (512 * k) bytes) i 0 h ∙ get_or-drop (512 * k) bytes i 0

pub zero_piece : (bytes : List ℕ) (k : ℕ) → k < sectors_in bytes → AreZeros bytes → piece bytes k ≡ zero_sector
zero_piece bytes k h zeros = ext_get_or 0 (piece bytes k) zero_sector (length-piece bytes k h ∙ sym length-zero_sector) (λ i within.
    let low : i < 512 = omega (arith, within, length-piece bytes k h) in
    get_or-piece bytes k i low ∙ zeros (512 * k + i) (omega (arith, h, low)) ∙ sym (get_or-zero_sector i low))

pub is_sector_piece : (bytes : List ℕ) (k : ℕ) → k < sectors_in bytes → ((i : ℕ) → get_or bytes i 0 < 256) → IsSector (piece bytes k)
is_sector_piece bytes k h low = record {
  whole = length-piece bytes k h;
  are_bytes = λ i. elim (cases_lt i 512) [
    | inl in_it ↦ omega (arith, get_or-piece bytes k i in_it, low (512 * k + i))
    | inr past ↦ omega (arith, get_or_past (piece bytes k) i 0 (omega (arith, length-piece bytes k h, past)))
  ];
}

-- ---- a call that writes these bytes
pub inside : (at : ℕ) (bytes : List ℕ) (s : ℕ) → InRange at bytes s → put_into at bytes s ≡ Some (piece bytes (s - at))
inside at bytes s r = grind (arith, nat_tests)

pub outside : (at : ℕ) (bytes : List ℕ) (s : ℕ) → (InRange at bytes s → ⊥) → put_into at bytes s ≡ None
outside at bytes s out = grind (arith, nat_tests)

pub record IsPut (at : ℕ) (bytes : List ℕ) (c : Call) : Type 0 where
  pub puts : (s : ℕ) → put_by c s ≡ put_into at bytes s
  pub adds : (may : Choices) (s : ℕ) → step c may s ≡ may s ++ option_to_list (put_by c s)

zeros_put : (at sectors s : ℕ) (bytes : List ℕ) → sectors ≡ sectors_in bytes → AreZeros bytes → put_by (Zeros at sectors) s ≡ put_into at bytes s
zeros_put at sectors s bytes size zeros = elim (in_or_out at bytes s) [
  | inl r ↦ yes r ∙ ap (λ (l : List ℕ). Some l) (sym (zero_piece bytes (s - at) (omega (arith, r.0, r.1)) zeros)) ∙ sym (inside at bytes s r)
  | inr out ↦ no out ∙ sym (outside at bytes s out)
]
  where
    yes : InRange at bytes s → put_by (Zeros at sectors) s ≡ Some zero_sector
    yes r = grind (arith, nat_tests)

    no : (InRange at bytes s → ⊥) → put_by (Zeros at sectors) s ≡ None
    no out = grind (arith, nat_tests)

pub is_put : (at : ℕ) (bytes : List ℕ) (c : Call) → RecordsWrite at bytes c → IsPut at bytes c
is_put at bytes Read none = absurd none
is_put at bytes (Write from kept) is = record {
  puts = λ s. ap (λ (a : ℕ). put_into a kept.items s) is.0 ∙ ap (λ (l : List ℕ). put_into at l s) is.1;
  adds = λ may s. refl;
}
is_put at bytes (Zeros from sectors) is = record {
  puts = λ s. ap (λ (a : ℕ). put_by (Zeros a sectors) s) is.0 ∙ zeros_put at sectors s bytes is.1 is.2;
  adds = λ may s. refl;
}
is_put at bytes Sync none = absurd none
is_put at bytes FailedSync none = absurd none

-- a write of zeros, as it is put into the map
pub cleared : (at count : ℕ) (bytes old new : List ℕ) (s : ℕ) → count ≡ sectors_in bytes → AreZeros bytes → new ≡ (if nat_le at s && nat_lt s (at + count) then zero_sector else old) → new ≡ unwrap_or (put_into at bytes s) old
cleared at count bytes old new s size zeros is = elim (in_or_out at bytes s) [
  | inl r ↦ is ∙ yes r ∙ sym (zero_piece bytes (s - at) (omega (arith, r.0, r.1)) zeros) ∙ sym (ap (λ (o : Option (List ℕ)). unwrap_or o old) (inside at bytes s r))
  | inr out ↦ is ∙ no out ∙ sym (ap (λ (o : Option (List ℕ)). unwrap_or o old) (outside at bytes s out))
]
  where
    yes : InRange at bytes s → (if nat_le at s && nat_lt s (at + count) then zero_sector else old) ≡ zero_sector
    yes r = grind (arith, nat_tests)

    no : (InRange at bytes s → ⊥) → (if nat_le at s && nat_lt s (at + count) then zero_sector else old) ≡ old
    no out = grind (arith, nat_tests)
