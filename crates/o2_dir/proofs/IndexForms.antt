-- The form of an index, by what its root, its list and its leaves tell.
use Rattle.std.proofs.Common.{◌≡◌, ◌≢◌, ℕ, Bool, true, false, List, [], inl, Some, None, unwrap_or, refl, sym, ap, arith, if◌then◌else◌}
use Rattle.std.proofs.lemmas.Bool.{false≢true}
use Rattle.std.proofs.lemmas.Option.{none-some}
use Rattle.std.proofs.lemmas.Bool.Decides.{nat_tests}
use Rattle.o2_ondisk.specs.declared.dx_entry.DxEntry.{DxEntry}
use Rattle.o2_ondisk.specs.DxRoots.{dx_root_list_place}
use Rattle.o2_model.specs.declared.leaf.Leaf.{Leaf}
use Rattle.o2_model.specs.Orders.{is_none_of}
use Rattle.o2_model.specs.Volume.{Volume, is_in_range}
use Rattle.o2_model.specs.Indexes.{index_root, dx_root, is_index_root, is_inline_index, is_sound_dx_list, index_entries, is_indexed}
use Rattle.o2_extent.specs.Owners.{is_some_index_root, index_list, is_sound_index_root, where_sound}
use Rattle.o2_extent.proofs.Owners.{list_of_index}
use Rattle.o2_model.specs.declared.check.Check.TheVariants.{Dx}
use Rattle.o2_view.specs.OwnChecks.{NoneFails, FailsFirst}
use Rattle.o2_dir.specs.IndexForms.{has_index_form, index_found, found_in_root, index_checks, entries_of_index}
use Rattle.o2_dir.proofs.Whole.{fails_there}

-- ---- a root that is none
pub out_of_range : (v : Volume) (d : ℕ) → is_in_range v (index_root v d) ≡ false → None ≡ index_found v d
unfolding has_index_form is_index_root
out_of_range v d outside = rw outside refl

pub of_another : (v : Volume) (d : ℕ) → (dx_root v (index_root v d)).dir_blkno ≢ d → None ≡ index_found v d
unfolding has_index_form is_index_root
of_another v d other = by_root _ refl
  where
    no : is_index_root v d (index_root v d) ≡ false
    no = grind (arith, nat_tests)

    by_root : (is : Bool) → is_index_root v d (index_root v d) ≡ is → None ≡ index_found v d
    by_root is same = rw no refl

-- ---- a root that is the directory's
-- what is asked of the list in the root, or of the one of entries there
abbrev pub has_list : Volume → ℕ → Bool
has_list v b = if is_inline_index v b then is_sound_dx_list v dx_root_list_place b else is_none_of (index_list v b).faults

module _ (v : Volume) (d : ℕ) (of : (dx_root v (index_root v d)).dir_blkno ≡ d) where
  same_root : is_some_index_root v (index_root v d) ≡ is_index_root v d (index_root v d)
  same_root = ap (λ n. is_index_root v n (index_root v d)) of

  no_root : is_index_root v d (index_root v d) ≡ false → None ≡ index_found v d
  unfolding has_index_form
  no_root other = rw other refl

  no_entries : is_index_root v d (index_root v d) ≡ true → is_inline_index v (index_root v d) ≡ true → is_sound_dx_list v dx_root_list_place (index_root v d) ≡ false → None ≡ index_found v d
  unfolding has_index_form
  no_entries is inline bad = rw (is, inline, bad) refl

  no_list : is_index_root v d (index_root v d) ≡ true → is_inline_index v (index_root v d) ≡ false → is_none_of (index_list v (index_root v d)).faults ≡ false → None ≡ index_found v d
  unfolding has_index_form
  no_list is outside bad = let list = list_of_index v d is in rw (is, outside, list, bad) refl

  entries : is_index_root v d (index_root v d) ≡ true → is_inline_index v (index_root v d) ≡ true → is_sound_dx_list v dx_root_list_place (index_root v d) ≡ true
      → (leaves : List Leaf) → found_in_root v (index_root v d) leaves ≡ index_found v d
  unfolding has_index_form index_entries
  entries is inline good leaves = rw (is, inline, good) refl

  leaves : is_index_root v d (index_root v d) ≡ true → is_inline_index v (index_root v d) ≡ false → is_none_of (index_list v (index_root v d)).faults ≡ true
      → found_in_root v (index_root v d) (index_list v (index_root v d)).leaves ≡ index_found v d
  unfolding has_index_form index_entries
  leaves is outside good = let list = list_of_index v d is in rw (is, outside, list, good) refl

  pub not_sound : is_sound_index_root v (index_root v d) ≡ false → None ≡ index_found v d
  unfolding is_sound_index_root
  not_sound bad = by_root (is_index_root v d (index_root v d)) refl
    where
      by_root : (is : Bool) → is_index_root v d (index_root v d) ≡ is → None ≡ index_found v d
      by_root false other = no_root other
      by_root true is = by_place (is_inline_index v (index_root v d)) refl
        where
          by_place : (inline : Bool) → is_inline_index v (index_root v d) ≡ inline → None ≡ index_found v d
          by_place true inline = no_entries is inline (rw (same_root, is, inline) at bad)
          by_place false outside = no_list is outside (rw (same_root, is, outside) at bad)

  pub as_found : is_sound_index_root v (index_root v d) ≡ true → found_in_root v (index_root v d) (index_list v (index_root v d)).leaves ≡ index_found v d
  unfolding is_sound_index_root
  as_found good = by_root (is_index_root v d (index_root v d)) refl
    where
      by_root : (is : Bool) → is_index_root v d (index_root v d) ≡ is → found_in_root v (index_root v d) (index_list v (index_root v d)).leaves ≡ index_found v d
      by_root false other = absurd (false≢true (rw (same_root, other) at good))
      by_root true is = by_place (is_inline_index v (index_root v d)) refl
        where
          by_place : (inline : Bool) → is_inline_index v (index_root v d) ≡ inline → found_in_root v (index_root v d) (index_list v (index_root v d)).leaves ≡ index_found v d
          by_place true inline = entries is inline (rw (same_root, is, inline) at good) (index_list v (index_root v d)).leaves
          by_place false outside = leaves is outside (rw (same_root, is, outside) at good)

-- ---- what is answered of a root
-- the records of a root that is not sound, or of one that is
pub none_where : (sound : Bool) (found : List Leaf) → None ≡ where_sound sound found → sound ≡ false
none_where false found none = refl
none_where true found none = absurd (none-some found none)

pub some_where : (sound : Bool) (found answer : List Leaf) → Some answer ≡ where_sound sound found → (sound ≡ true) × (answer ≡ found)
some_where true found answer some = (refl, ap (λ o. unwrap_or o answer) some)
some_where false found answer some = absurd (none-some answer (sym some))

-- ---- what is answered of a directory
pub no_index : (v : Volume) (d : ℕ) → is_indexed v d ≡ false → NoneFails (index_checks d) v × ([] ≡ entries_of_index v d)
no_index v d none = rw none ((refl, tt), refl)

pub bad_form : (v : Volume) (d : ℕ) → is_indexed v d ≡ true → None ≡ index_found v d → FailsFirst (index_checks d) v Dx d
bad_form v d indexed none = by_form (has_index_form v d) refl
  where
    by_form : (form : Bool) → has_index_form v d ≡ form → FailsFirst (index_checks d) v Dx d
    by_form false bad = inl (refl, rw indexed (fails_there d (has_index_form v d) bad))
    by_form true good = absurd (none-some (index_entries v d) (rw good at none))

pub good_form : (v : Volume) (d : ℕ) → is_indexed v d ≡ true → (entries : List DxEntry) → Some entries ≡ index_found v d → NoneFails (index_checks d) v × (entries ≡ entries_of_index v d)
good_form v d indexed entries found = by_form (has_index_form v d) refl
  where
    by_form : (form : Bool) → has_index_form v d ≡ form → NoneFails (index_checks d) v × (entries ≡ entries_of_index v d)
    by_form false bad = absurd (none-some entries (sym (rw bad at found)))
    by_form true good = rw (indexed, good) ((refl, tt), ap (λ o. unwrap_or o entries) (rw good at found))
