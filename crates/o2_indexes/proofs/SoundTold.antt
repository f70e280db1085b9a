-- Whether an index is sound by itself, from what is judged of it one by one.
use Rattle.std.proofs.Common.{◌≡◌, ℕ, Bool, true, false, ◌&&◌, List, Some, None, unwrap_or, refl, sym, ap, if◌then◌else◌}
use Rattle.std.proofs.lemmas.Option.{none-some}
use Rattle.o2_model.specs.declared.leaf.Leaf.{Leaf}
use Rattle.o2_model.specs.Indexes.{index_root, is_index_root, is_inline_index, index_extents, is_sound_dx_list, index_entries}
use Rattle.o2_model.specs.Orders.{is_none_of}
use Rattle.o2_model.specs.SoundIndexes.{has_trailers, has_sound_index_counts, is_found_in_index}
use Rattle.o2_model.specs.Volume.{Volume}
use Rattle.o2_ondisk.specs.DxRoots.{dx_root_list_place}
use Rattle.o2_dir.specs.IndexForms.{found_in_root}
use Rattle.o2_tree.specs.TreeRows.{has_sound_form, is_sound_index_alone}
use Rattle.o2_indexes.specs.Readings.{has_sound_root_list, entries_where_sound}

-- ---- its entries
pub entries_found : (v : Volume) (d : ℕ) (leaves : List Leaf) → has_sound_root_list v d ≡ true → leaves ≡ (index_extents v d).leaves
    → found_in_root v (index_root v d) leaves ≡ entries_where_sound v d
unfolding index_entries
entries_found v d leaves good same = by_place (is_inline_index v (index_root v d)) refl
  where
    by_place : (inline : Bool) → is_inline_index v (index_root v d) ≡ inline → found_in_root v (index_root v d) leaves ≡ entries_where_sound v d
    by_place true inline =
        let sound : is_sound_dx_list v dx_root_list_place (index_root v d) ≡ true = rw inline at good in
        rw (inline, sound) refl
    by_place false outside =
        let none : is_none_of (index_extents v d).faults ≡ true = rw outside at good in
        rw (outside, same, none) refl

-- ---- what was found
pub none_where : {A : Type 0} (sound : Bool) (x : A) → None ≡ (if sound then Some x else None) → sound ≡ false
none_where false x none = refl
none_where true x none = absurd (none-some x none)

pub some_where : {A : Type 0} (sound : Bool) (x found : A) → Some found ≡ (if sound then Some x else None) → (sound ≡ true) × (found ≡ x)
some_where true x found some = (refl, ap (λ o. unwrap_or o found) some)
some_where false x found some = absurd (none-some found (sym some))

-- ---- what fails ends it
second_fails : (a b : Bool) → b ≡ false → (a && b) ≡ false
second_fails true b fails = fails
second_fails false b fails = refl

pub bad_form : (v : Volume) (d : ℕ) → has_sound_form v d ≡ false → false ≡ is_sound_index_alone v d
unfolding is_sound_index_alone
bad_form v d bad = sym (ap (λ so_far. so_far && has_trailers v d && has_sound_index_counts v d && is_found_in_index v d) (second_fails (is_index_root v d (index_root v d)) _ bad))

pub no_trailers : (v : Volume) (d : ℕ) → has_trailers v d ≡ false → false ≡ is_sound_index_alone v d
unfolding is_sound_index_alone
no_trailers v d none = sym (ap (λ so_far. so_far && has_sound_index_counts v d && is_found_in_index v d) (second_fails (is_index_root v d (index_root v d) && has_sound_form v d) _ none))

pub other_counts : (v : Volume) (d : ℕ) → has_sound_index_counts v d ≡ false → false ≡ is_sound_index_alone v d
unfolding is_sound_index_alone
other_counts v d other =
    sym (ap (λ so_far. so_far && is_found_in_index v d) (second_fails (is_index_root v d (index_root v d) && has_sound_form v d && has_trailers v d) _ other))

pub found_decides : (v : Volume) (d : ℕ) → is_index_root v d (index_root v d) ≡ true → has_sound_form v d ≡ true → has_trailers v d ≡ true → has_sound_index_counts v d ≡ true
    → is_found_in_index v d ≡ is_sound_index_alone v d
unfolding is_sound_index_alone
found_decides v d is form trailers counts = sym (ap (λ so_far. so_far && is_found_in_index v d) (all_hold _ _ _ _ is form trailers counts))
  where
    all_hold : (a b c e : Bool) → a ≡ true → b ≡ true → c ≡ true → e ≡ true → (a && b && c && e) ≡ true
    all_hold a b c e p q r s = rw (p, q, r, s) refl
