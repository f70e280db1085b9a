-- A disk in memory that no call has reached yet.
use Rattle.std.proofs.Common.{◌≡◌, inl, inr, ℕ, ◌<◌, ◌≤◌, List, [], ◌∷◌, length, get_or, Option, Some, None, unwrap_or, refl, sym, ◌∙◌, ap, subst, arith}
use Rattle.std.proofs.lemmas.Bool.{cases_lt}
use Rattle.std.proofs.lemmas.Bool.Decides.{nat_tests}
use Rattle.std.specs.Prelude.{nat_lt, if◌then◌else◌, min}
use Rattle.std.specs.List.{Contains}
use Rattle.std.specs.Ordering.{nat_cmp}
use Rattle.std.specs.BTreeMap.{BTreeMap, get, IsEmpty}
use Rattle.o2_disk.specs.Image.{Image, IsSector, sector, image_of, zeros, zero_sector}
use Rattle.o2_disk.specs.Device.{IsSettled}
use Rattle.o2_disk.specs.declared.disk.How.{How}
use Rattle.o2_disk.specs.declared.call.Call.{Call}
use Rattle.o2_disk.specs.Stored.{stored}
use Rattle.o2_disk.specs.Attaches.{Attachment}
use Rattle.o2_disk.specs.Calls.{newest, put_or_zeros, run, start, IsOutcome, shown, mem_state}
use Rattle.o2_disk.specs.Recorded.{length-shown, sector-shown}
use Rattle.o2_disk.proofs.Images.{same_image, length-image_of, sector-image_of}
use Rattle.o2_disk.proofs.Puts.{is_sector_zero}

shown_base : (n : ℕ) (base : BTreeMap ℕ (List ℕ)) → shown n (start base) ≡ image_of n (λ s. stored base s)
unfolding shown
shown_base n base = refl

only_one : (a x : List ℕ) → Contains (a ∷ []) x → x ≡ a
only_one a x found =
    let first : found.0 ≡ 0 = omega (arith, found.1) in
    sym found.2 ∙ ap (λ (k : ℕ). get_or (a ∷ []) k x) first

pub settled_base : (attaches : List Attachment) (attached : Option How) (n : ℕ) (base : BTreeMap ℕ (List ℕ)) (calls : List Call) (faults : ℕ) → calls ≡ [] → IsSettled (mem_state attaches attached n base calls faults) (image_of n (λ s. stored base s))
settled_base attaches attached n base calls faults none = record {
  content = ap (λ (l : List Call). Some (shown n (run (start base) l))) none ∙ ap (λ (I : Image). Some I) (shown_base n base);
  only = λ X out.
      let o = subst (λ (l : List Call). IsOutcome n (run (start base) l) X) none out in
      same_image X (image_of n (λ s. stored base s)) (o.size ∙ sym (length-image_of n (λ s. stored base s))) (λ s h.
      let k : s < n = omega (arith, h, o.size) in
      only_one (stored base s) (sector X s) (o.each s k) ∙ sym (sector-image_of n (λ s. stored base s) s k));
}

-- the ghost fields
pub agrees_base : (base held : BTreeMap ℕ (List ℕ)) (calls : List Call) → calls ≡ [] → ((s : ℕ) → stored held s ≡ stored base s) → (s : ℕ) → stored held s ≡ newest (run (start base) calls s)
agrees_base base held calls none same s = same s ∙ sym (ap (λ (l : List Call). newest (run (start base) l s)) none)

pub untouched_base : (base held : BTreeMap ℕ (List ℕ)) → ((s : ℕ) → stored held s ≡ stored base s) → (s : ℕ) → get nat_cmp held s ≡ None → stored base s ≡ zero_sector
untouched_base base held same s none = sym (same s) ∙ ap (λ (o : Option (List ℕ)). unwrap_or o zero_sector) none

pub touched_none : (held : BTreeMap ℕ (List ℕ)) (calls : List Call) → calls ≡ [] → (s k : ℕ) → get nat_cmp held s ≡ None → k < length calls → put_or_zeros calls k s ≡ zero_sector
touched_none held calls none s k gone within = absurd (omega (arith, within, ap length none))

-- ---- an empty map
pub stored_empty : (m : BTreeMap ℕ (List ℕ)) → IsEmpty m → (s : ℕ) → stored m s ≡ zero_sector
stored_empty m empty s = grind (arith, empty)

pub sound_empty : (m : BTreeMap ℕ (List ℕ)) → IsEmpty m → (s : ℕ) → IsSector (stored m s)
sound_empty m empty s = subst IsSector (sym (stored_empty m empty s)) is_sector_zero

-- two maps that hold the same give the same image
pub image_same : (n : ℕ) (f g : ℕ → List ℕ) → ((s : ℕ) → s < n → f s ≡ g s) → image_of n f ≡ image_of n g
image_same n f g same = same_image (image_of n f) (image_of n g) (length-image_of n f ∙ sym (length-image_of n g)) (λ s h.
    let k : s < n = omega (arith, h, length-image_of n f) in
    sector-image_of n f s k ∙ same s k ∙ sym (sector-image_of n g s k))

pub zeros_all : (n : ℕ) (m : BTreeMap ℕ (List ℕ)) → ((s : ℕ) → stored m s ≡ zero_sector) → image_of n (λ s. stored m s) ≡ zeros n
unfolding zeros
zeros_all n m empty = image_same n (λ s. stored m s) (λ s. zero_sector) (λ s h. empty s)

-- ---- a disk of another size
pub resized_same : (n old limit : ℕ) (base held new : BTreeMap ℕ (List ℕ)) (calls : List Call) (I : Image) → limit ≡ min old n → ((s : ℕ) → stored held s ≡ newest (run (start base) calls s)) → Some (shown old (run (start base) calls)) ≡ Some I
    → ((s : ℕ) → stored new s ≡ (if nat_lt s limit then stored held s else zero_sector)) → image_of n (λ s. stored new s) ≡ image_of n (λ s. if nat_lt s (length I) then sector I s else zero_sector)
resized_same n old limit base held new calls I is agrees told copied = image_same n (λ s. stored new s) (λ s. if nat_lt s (length I) then sector I s else zero_sector) (λ s h. elim (cases_lt s old) [
  | inl inside ↦ copied s ∙ yes s (omega (arith, is, h, inside)) ∙ agrees s ∙ sym (sector-shown old (run (start base) calls) s inside) ∙ ap (λ (J : Image). sector J s) here ∙ sym (within s (omega (arith, size, inside)))
  | inr past ↦ copied s ∙ no s (omega (arith, is, past)) ∙ sym (without s (omega (arith, size, past)))
])
  where
    here : shown old (run (start base) calls) ≡ I
    here = cc

    size : length I ≡ old
    size = ap length (sym here) ∙ length-shown old (run (start base) calls)

    yes : (s : ℕ) → s < limit → (if nat_lt s limit then stored held s else zero_sector) ≡ stored held s
    yes s h = grind (arith, nat_tests)

    no : (s : ℕ) → limit ≤ s → (if nat_lt s limit then stored held s else zero_sector) ≡ zero_sector
    no s h = grind (arith, nat_tests)

    within : (s : ℕ) → s < length I → (if nat_lt s (length I) then sector I s else zero_sector) ≡ sector I s
    within s h = grind (arith, nat_tests)

    without : (s : ℕ) → length I ≤ s → (if nat_lt s (length I) then sector I s else zero_sector) ≡ zero_sector
    without s h = grind (arith, nat_tests)
