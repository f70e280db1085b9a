-- Rows of groups, one more at a time, and the bits of a row.
use Rattle.std.proofs.Common.{◌≡◌, ℕ, ◌+◌, ◌-◌, ◌/◌, ◌%◌, ◌^◌, ◌<◌, ◌==◌, Bool, List, [], ◌∷◌, ◌++◌, map, filter, length, take, drop, get_or, sym, subst, ◌∙◌, ap, arith}
use Rattle.std.specs.List.{AllByRecursion, slice_range}
use Rattle.std.proofs.lemmas.List.{map-append, map_more, take_more, get_or-take, get_or-drop}
use Rattle.std.proofs.lemmas.List.Elements.{filter-append}
use Rattle.o2_model.specs.declared.allocator.Group.{Group}
use Rattle.o2_model.specs.Words.{push}
use Rattle.o2_model.specs.Volume.{Volume}
use Rattle.o2_model.specs.Groups.{is_bit_set_in}
use Rattle.o2_tables.specs.Rows.{IsGroupRow}
use Rattle.o2_tables.specs.declared.groups.GroupRow.{GroupRow}
use Rattle.o2_survey.specs.GroupRows.{AreGroupRows}

each_push : {A : Type 0} (P : A → Type 0) (xs : List A) (x : A) → AllByRecursion P xs → P x → AllByRecursion P (push xs x)
each_push P [] x all is = (is, tt)
each_push P (y ∷ ys) x all is = (all.0, each_push P ys x all.1 is)

pub one_row_more : (v : Volume) (before : List Group) (g : Group) (rows more : List GroupRow) (row : GroupRow) → row.group ≡ g → IsGroupRow v row → more ≡ push rows row
    → AreGroupRows v before rows → AreGroupRows v (push before g) more
one_row_more v before g rows more row of is put are =
    rw put (record {
      listed = map-append (λ (r : GroupRow). r.group) rows (row ∷ []) ∙ (ap (λ gs. gs ++ row.group ∷ []) are.listed ∙ ap (λ h. before ++ h ∷ []) of);
      each = each_push (IsGroupRow v) rows row are.each is;
    })

-- ---- the first groups of some
pub one_group_more : (v : Volume) (groups : List Group) (i : ℕ) (d : Group) (rows : List GroupRow) → i < length groups
    → AreGroupRows v (push (take i groups) (get_or groups i d)) rows → AreGroupRows v (take (i + 1) groups) rows
one_group_more v groups i d rows low are = subst (λ those. AreGroupRows v those rows) (sym (take_more groups i d low)) are

-- their blocks that pass
pub one_block_more : (p : ℕ → Bool) (groups : List Group) (i : ℕ) (d : Group) (found more : List ℕ) → i < length groups → found ≡ filter p (map (λ g. g.block) (take i groups))
    → more ≡ found ++ filter p ((get_or groups i d).block ∷ []) → more ≡ filter p (map (λ g. g.block) (take (i + 1) groups))
one_block_more p groups i d found more low are put =
    let block_of = λ (g : Group). g.block in
    put
    ∙ (ap (λ bs. bs ++ filter p ((get_or groups i d).block ∷ [])) are
    ∙ (sym (filter-append p (map block_of (take i groups)) ((get_or groups i d).block ∷ []))
    ∙ ap (filter p) (sym (map_more block_of groups i d low))))

-- the bits of the bytes from `at` on
pub bits_of_part : (bytes : List ℕ) (at end k : ℕ) → k / 8 < end - at → is_bit_set_in 0 (slice_range bytes at end) k ≡ is_bit_set_in at bytes k
bits_of_part bytes at end k low =
    let start : 0 + k / 8 ≡ k / 8 = omega arith in
    rw start (ap (λ n. n / 2 ^ (k % 8) % 2 == 1) (get_or-take (end - at) (drop at bytes) (k / 8) 0 low ∙ get_or-drop at bytes (k / 8) 0))
