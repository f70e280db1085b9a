-- The counts of chains, group by group.
use Rattle.std.proofs.Common.{◌≡◌, ℕ, zero, suc, ◌+◌, ◌*◌, ◌%◌, ◌^◌, ◌<◌, ◌≤◌, ◌==◌, Bool, true, false, cond, List, [], ◌∷◌, ◌++◌, map, take, filter, length, drop, get_or, refl, sym, ◌∙◌, ap, subst, arith}
use Rattle.std.specs.List.{range_with_len, enumerate_from}
use Rattle.std.specs.Prelude.{◌≢◌}
use Rattle.std.proofs.lemmas.Bool.Decides.{nat_tests}
use Rattle.std.proofs.lemmas.List.{get_or-drop, take_more, map-append}
use Rattle.std.proofs.lemmas.List.Elements.{filter-append}
use Rattle.std.proofs.lemmas.List.Sums.{sum_by-append, sum_by_push}
use Rattle.o2_ondisk.specs.Fields.{IsOutsideSpan}
use Rattle.o2_ondisk.specs.Number.{number_at}
use Rattle.o2_ondisk.specs.ChainRecs.{chain_rec_of}
use Rattle.o2_ondisk.specs.Dinodes.{list_records_place}
use Rattle.o2_ondisk.specs.declared.chain_rec.ChainRec.{ChainRec}
use Rattle.o2_ondisk.proofs.NumberLaws.{number_at-same, number_at-drop, number_at-lt}
use Rattle.o2_model.specs.declared.allocator.Allocator.{Allocator}
use Rattle.o2_model.specs.declared.allocator.Group.{Group as Walked}
use Rattle.o2_model.specs.Volume.{Volume}
use Rattle.o2_view.specs.declared.run.Run.{Run}
use Rattle.o2_chain.specs.declared.group.Group.{Group}
use Rattle.o2_chain.specs.Walks.{group_in}
use Rattle.o2_chain.specs.Edits.{shared_bits, shared_by, edited_chain, clear_after, set_after}

-- ---- counts
-- two changes are one of both counts
clear_both : (set : Bool) (old m n : ℕ) → clear_after (2 ^ 32) set (clear_after (2 ^ 32) set old m) n ≡ clear_after (2 ^ 32) set old (m + n)
clear_both true old m n = omega arith
clear_both false old m n = omega arith

-- a count as it is held alone matters
pub set_modulo : (set : Bool) (old n : ℕ) → set_after (2 ^ 32) set old (n % 2 ^ 32) ≡ set_after (2 ^ 32) set old n
set_modulo true old n = omega arith
set_modulo false old n = omega arith

pub clear_none : (set : Bool) (old : ℕ) → old < 2 ^ 32 → clear_after (2 ^ 32) set old 0 ≡ old
clear_none true old small = omega arith
clear_none false old small = omega arith

-- ---- one group more
module _ (v : Volume) (run : Run) (groups : List Walked) (g : Walked) where
  pub shared_more : shared_by v run (groups ++ g ∷ []) ≡ shared_by v run groups + shared_bits v run g
  shared_more = sum_by_push (shared_bits v run) groups g

  module _ (k : ℕ) where
    abbrev of_chain : List Walked → List Walked
    of_chain = filter (λ x. x.chain == k)

    shared_other : g.chain ≢ k → shared_by v run (of_chain (groups ++ g ∷ [])) ≡ shared_by v run (of_chain groups)
    shared_other apart =
        let no_more : (g.chain == k) ≡ false = grind (arith, nat_tests) in
        ap (shared_by v run) (filter-append (λ x. x.chain == k) groups (g ∷ [])) ∙ (sum_by-append (shared_bits v run) (of_chain groups) (of_chain (g ∷ [])) ∙ (ap (λ b. shared_by v run (of_chain groups) + shared_by v run (cond b (g ∷ []) [])) no_more ∙ omega arith))

    shared_here : g.chain ≡ k → shared_by v run (of_chain (groups ++ g ∷ [])) ≡ shared_by v run (of_chain groups) + shared_bits v run g
    shared_here same =
        let one_more : (g.chain == k) ≡ true = grind (arith, nat_tests) in
        ap (shared_by v run) (filter-append (λ x. x.chain == k) groups (g ∷ [])) ∙ (sum_by-append (shared_bits v run) (of_chain groups) (of_chain (g ∷ [])) ∙ (ap (λ b. shared_by v run (of_chain groups) + shared_by v run (cond b (g ∷ []) [])) one_more ∙ omega arith))

    module _ (set : Bool) (r : ChainRec) where
      abbrev with_free : ℕ → ChainRec
      with_free n = record r { free = n }

      pub chain_other : g.chain ≢ k → edited_chain v set run (groups ++ g ∷ []) (k, r) ≡ edited_chain v set run groups (k, r)
      chain_other apart = ap (λ n. with_free (clear_after (2 ^ 32) set r.free n)) (shared_other apart)

      pub chain_more : g.chain ≡ k → edited_chain v set run (groups ++ g ∷ []) (k, r) ≡ record r { free = clear_after (2 ^ 32) set (edited_chain v set run groups (k, r)).free (shared_bits v run g) }
      chain_more same = ap (λ n. with_free (clear_after (2 ^ 32) set r.free n)) (shared_here same) ∙ ap with_free (sym (clear_both set r.free (shared_by v run (of_chain groups)) (shared_bits v run g)))

-- ---- records in bytes
-- chain record k of a dinode
abbrev pub record_at : List ℕ → ℕ → ChainRec
record_at bytes k = chain_rec_of (drop (list_records_place + 16 * k) bytes)

-- a record is told by its bytes
pub same_record : (xs ys : List ℕ) (k : ℕ) → ((i : ℕ) → list_records_place + 16 * k ≤ i → i < list_records_place + 16 * k + 16 → get_or xs i 0 ≡ get_or ys i 0) → record_at xs k ≡ record_at ys k
same_record xs ys k same i = record {
  free = same_number 0x0 4 (omega arith) i;
  total = same_number 0x4 4 (omega arith) i;
  blkno = same_number 0x8 8 (omega arith) i;
}
  where
    same_number : (at width : ℕ) → at + width ≤ 16 → number_at at width (drop (list_records_place + 16 * k) xs) ≡ number_at at width (drop (list_records_place + 16 * k) ys)
    same_number at width within =
        number_at-drop at width (list_records_place + 16 * k) xs
        ∙ (number_at-same (list_records_place + 16 * k + at) width xs ys (λ j from to. same j (omega (arith, from)) (omega (arith, to, within))) ∙ sym (number_at-drop at width (list_records_place + 16 * k) ys))

-- the count of a record fits
pub small_free : (bytes : List ℕ) (k : ℕ) → ((i : ℕ) → get_or bytes i 0 < 256) → (record_at bytes k).free < 2 ^ 32
small_free bytes k fits = number_at-lt 0 4 (drop (list_records_place + 16 * k) bytes) (λ i. subst (λ b. b < 256) (sym (get_or-drop (list_records_place + 16 * k) bytes i 0)) (fits (list_records_place + 16 * k + i)))

-- no group changes nothing
pub chain_none : (v : Volume) (set : Bool) (run : Run) (k : ℕ) (r : ChainRec) → r.free < 2 ^ 32 → r ≡ edited_chain v set run [] (k, r)
chain_none v set run k r small = ap (λ (n : ℕ). let x : ChainRec = record r { free = n } in x) (sym (clear_none set r.free small))

-- ---- a step of the loop
pub walked_more : (a : Allocator) (groups : List Group) (i : ℕ) (d : Group) → i < length groups → map (group_in a) (take (i + 1) groups) ≡ map (group_in a) (take i groups) ++ group_in a (get_or groups i d) ∷ []
walked_more a groups i d low = ap (map (group_in a)) (take_more groups i d low) ∙ map-append (group_in a) (take i groups) (get_or groups i d ∷ [])

-- a chain record with so many bits more counted
abbrev pub counted : Bool → ℕ → ChainRec → ChainRec
counted set n r = record r { free = clear_after (2 ^ 32) set r.free n }

module _ (v : Volume) (set : Bool) (run : Run) (groups : List Walked) (g : Walked) (old mid new : List ℕ) (k : ℕ) (so_far : record_at mid k ≡ edited_chain v set run groups (k, record_at old k)) where
  -- the group's own chain
  pub step_here : (n : ℕ) → record_at new k ≡ counted set n (record_at mid k) → shared_bits v run g ≡ n → g.chain ≡ k → record_at new k ≡ edited_chain v set run (groups ++ g ∷ []) (k, record_at old k)
  step_here n put count same =
      put ∙ (ap (counted set n) so_far ∙ (ap (λ m. counted set m (edited_chain v set run groups (k, record_at old k))) (sym count) ∙ sym (chain_more v run groups g k set (record_at old k) same)))

  -- another chain
  pub step_other : ((i : ℕ) → IsOutsideSpan (list_records_place + 16 * g.chain) 16 i → get_or new i 0 ≡ get_or mid i 0) → g.chain ≢ k → record_at new k ≡ edited_chain v set run (groups ++ g ∷ []) (k, record_at old k)
  step_other others apart =
      same_record new mid k (λ i low high. others i (λ from under. omega (arith, low, high, from, under, apart))) ∙ (so_far ∙ sym (chain_other v run groups g k set (record_at old k) apart))

-- ---- tables
-- a table of records is told one by one
from_there : {A B : Type 0} (f : ℕ → A) (g : ℕ → B) (h : ℕ × A → B) (a n : ℕ) → ((k : ℕ) → a ≤ k → k < a + n → g k ≡ h (k, f k)) → map g (range_with_len a n) ≡ map h (enumerate_from a (map f (range_with_len a n)))
from_there f g h a zero each = refl
from_there f g h a (suc n) each = let rest = from_there f g h (a + 1) n (λ k low high. each k (omega (arith, low)) (omega (arith, high))) in λ i. each a (omega arith) (omega arith) i ∷ rest i

pub each_record : (old new : List ℕ) (h : ℕ × ChainRec → ChainRec) (n : ℕ) → ((k : ℕ) → k < n → record_at new k ≡ h (k, record_at old k)) → map (record_at new) (range_with_len 0 n) ≡ map h (enumerate_from 0 (map (record_at old) (range_with_len 0 n)))
each_record old new h n each = from_there (record_at old) (record_at new) h 0 n (λ k low high. each k (omega (arith, high)))
