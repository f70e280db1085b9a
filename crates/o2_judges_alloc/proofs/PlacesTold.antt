-- The places of groups that were not reached.
use Rattle.std.proofs.Common.{◌≡◌, ℕ, ◌+◌, Bool, List, [], ◌∷◌, ◌++◌, map, filter, sym, ◌∙◌, ap, arith}
use Rattle.std.specs.BTreeSet.{BTreeSet}
use Rattle.std.specs.List.{range_with_len}
use Rattle.std.proofs.lemmas.List.{map-append}
use Rattle.std.proofs.lemmas.List.Elements.{filter-append}
use Rattle.o2_model.specs.declared.check.Check.TheVariants as check
use Rattle.o2_model.specs.declared.geo.Geo.{Geo}
use Rattle.o2_model.specs.Words.{among, push}
use Rattle.o2_model.specs.Faults.{those_not}
use Rattle.o2_model.specs.Volume.{Volume}
use Rattle.o2_model.specs.Groups.{is_of_clusters}
use Rattle.o2_model.specs.Failing.{faults}
use Rattle.o2_model.specs.Checks.GroupMissing.{bitmap_places, is_reached}
use Rattle.o2_tally.specs.Again.{has_number}
use Rattle.o2_tables.specs.declared.groups.GroupRow.{GroupRow}
use Rattle.o2_tables.specs.Rows.{IsGroupTable}
use Rattle.o2_view.specs.Geos.{bare}
use Rattle.o2_judges_alloc.specs.GroupRows.{AreReached}
use Rattle.o2_judges_alloc.proofs.Ranges.{range_push}
use Rattle.o2_judges_alloc.proofs.RowsTold.{same_those, places_of}

-- one place more
pub next_place : (p : ℕ → Bool) (place : ℕ → ℕ) (i : ℕ) (told more : List ℕ)
    → told ≡ those_not p (map place (range_with_len 0 i)) → more ≡ told ++ those_not p (place i ∷ [])
    → more ≡ those_not p (map place (range_with_len 0 (i + 1)))
next_place p place i told more is next =
    let last : 0 + i ≡ i = omega arith in
    next ∙ (ap (λ ns. ns ++ those_not p (place i ∷ [])) is
    ∙ (sym (filter-append _ (map place (range_with_len 0 i)) (place i ∷ []))
    ∙ ap (those_not p) (sym (map-append place (range_with_len 0 i) (i ∷ [])) ∙ ap (map place) (sym (range_push 0 i ∙ ap (push (range_with_len 0 i)) last)))))

reached_is : (v : Volume) (rows : List GroupRow) (kept : BTreeSet ℕ) → IsGroupTable v rows → AreReached rows kept → (b : ℕ) → has_number kept b ≡ is_reached v b
reached_is v rows kept table are b =
    are.each b ∙ ap (λ ns. among ns b) (places_of (λ r. r.group) (λ g. g.block) is_of_clusters rows ∙ ap (λ gs. map (λ g. g.block) (filter is_of_clusters gs)) table.groups)

pub missing_told : (v : Volume) (geo : Geo) (rows : List GroupRow) (kept : BTreeSet ℕ) → v.geo ≡ geo → IsGroupTable v rows → AreReached rows kept
    → those_not (has_number kept) (bitmap_places (bare geo)) ≡ faults v check.GroupMissing
unfolding faults
missing_told v geo rows kept same table are =
    ap (λ g. those_not (has_number kept) (bitmap_places (bare g))) (sym same)
    ∙ same_those (has_number kept) (is_reached v) (reached_is v rows kept table are) (bitmap_places v)
