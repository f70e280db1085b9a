-- What is told of an index by itself, of its blocks and of its clusters tells whether it holds.
use Rattle.std.proofs.Common.{◌≡◌, inl, inr, Bool, true, false, ◌&&◌, if◌then◌else◌, List, refl, sym, ◌∙◌, ap, ℕ, arith}
use Rattle.std.specs.List.{list_all}
use Rattle.std.proofs.lemmas.Bool.{cases_Bool}
use Rattle.std.proofs.lemmas.Bool.Decides.{nat_tests}
use Rattle.o2_model.specs.Orders.{is_none_of}
use Rattle.o2_model.specs.Volume.{Volume}
use Rattle.o2_model.specs.Extents.{nothing_read}
use Rattle.o2_model.specs.Indexes.{index_root, index_extents, index_leaves, is_index_root, is_inline_index, is_sound_dx_list, is_sound_index_leaf}
use Rattle.o2_model.specs.Metadata.{extent_block_origin}
use Rattle.o2_model.specs.SoundIndexes.{is_own_block, index_root_origin, is_sound_index, has_own_index_clusters, has_trailers, has_sound_index_counts, is_found_in_index}
use Rattle.o2_ondisk.specs.DxRoots.{dx_root_list_place}
use Rattle.o2_tree.specs.declared.indexes.IndexRow.{IndexRow}
use Rattle.o2_tree.specs.TreeRows.{IsIndexRow, is_sound_index_alone}
use Rattle.o2_judges_index.specs.IndexRows.{has_own_index_blocks}
use Rattle.o2_judges_index.proofs.BlocksTold.{own_rows}

-- an index with its entries in the root has no list
no_list : (v : Volume) (d : ℕ) → is_inline_index v (index_root v d) ≡ true → index_extents v d ≡ nothing_read
unfolding index_extents
no_list v d inline = elim (cases_Bool (is_index_root v d (index_root v d))) [ inl is ↦ rw (is, inline) refl | inr none ↦ rw none refl ]

-- so that none of its extent blocks is another's
own_extents : (v : Volume) (d : ℕ) → is_inline_index v (index_root v d) ≡ true → list_all (λ b. is_own_block v (extent_block_origin v b) b) (index_extents v d).blocks ≡ true
own_extents v d inline = ap (λ t. list_all (λ b. is_own_block v (extent_block_origin v b) b) t.blocks) (no_list v d inline)

regrouped : (root own inline form none extents leaves clusters trailers counts found : Bool) → (inline ≡ true → extents ≡ true)
    → ((root && own) && (if inline then form else (none && extents && leaves)) && clusters && trailers && counts && found)
    ≡ (((root && (if inline then form else (none && leaves)) && trailers && counts && found) && own && extents) && clusters)
regrouped root own true form none extents leaves clusters trailers counts found h = rw (h refl) (by_form root own form clusters trailers counts found)
  where
    by_form : (root own form clusters trailers counts found : Bool)
        → ((root && own) && form && clusters && trailers && counts && found) ≡ (((root && form && trailers && counts && found) && own && true) && clusters)
    by_form root own form clusters trailers counts found = grind (arith, nat_tests)
regrouped root own false form none extents leaves clusters trailers counts found h = by_list root own none extents leaves clusters trailers counts found
  where
    by_list : (root own none extents leaves clusters trailers counts found : Bool)
        → ((root && own) && (none && extents && leaves) && clusters && trailers && counts && found) ≡ (((root && (none && leaves) && trailers && counts && found) && own && extents) && clusters)
    by_list root own none extents leaves clusters trailers counts found = grind (arith, nat_tests)

pub sound_is : (v : Volume) (claimed : List ℕ) (d : ℕ) → is_sound_index v claimed d ≡ (has_own_index_blocks v d && has_own_index_clusters v claimed d)
unfolding is_sound_index is_sound_index_alone
sound_is v claimed d =
    regrouped (is_index_root v d (index_root v d)) (is_own_block v (index_root_origin v (index_root v d)) (index_root v d)) (is_inline_index v (index_root v d))
    (is_sound_dx_list v dx_root_list_place (index_root v d)) (is_none_of (index_extents v d).faults) (list_all (λ b. is_own_block v (extent_block_origin v b) b) (index_extents v d).blocks)
    (list_all (is_sound_index_leaf v) (index_leaves v d)) (has_own_index_clusters v claimed d) (has_trailers v d) (has_sound_index_counts v d) (is_found_in_index v d) (own_extents v d)

-- ---- step by step
-- where the root is the index's own, its extent blocks decide
pub own_told : (v : Volume) (r : IndexRow) (root extents : Bool) → IsIndexRow v r → r.is_sound_alone ≡ true → root ≡ is_own_block v r.root.origin r.root.block → root ≡ true
    → extents ≡ list_all (λ x. is_own_block v x.origin x.block) r.extent_blocks → extents ≡ has_own_index_blocks v r.directory
own_told v r root extents is alone told own rows =
    let sound : is_sound_index_alone v r.directory ≡ true = sym is.alone ∙ alone in
    let place = index_root v r.directory in
    let its : is_own_block v (index_root_origin v place) place ≡ true = ap (is_own_block v (index_root_origin v place)) (sym is.root) ∙ (ap (λ o. is_own_block v o r.root.block) (sym (is.origin alone)) ∙ (sym told ∙ own)) in
    rw (sound, its) (rows ∙ own_rows v (index_extents v r.directory).blocks r.extent_blocks is.extent_blocks)

-- an index with blocks that are not its own does not hold
pub unsound_told : (v : Volume) (claimed : List ℕ) (d : ℕ) (own : Bool) → own ≡ has_own_index_blocks v d → own ≡ false → false ≡ is_sound_index v claimed d
unsound_told v claimed d own told bad = sym (sound_is v claimed d ∙ ap (λ b. b && has_own_index_clusters v claimed d) (sym told ∙ bad))

-- of any other its clusters decide
pub sound_told : (v : Volume) (claimed : List ℕ) (d : ℕ) (own clusters : Bool) → own ≡ has_own_index_blocks v d → own ≡ true → clusters ≡ has_own_index_clusters v claimed d
    → clusters ≡ is_sound_index v claimed d
sound_told v claimed d own clusters told good are = are ∙ sym (sound_is v claimed d ∙ ap (λ b. b && has_own_index_clusters v claimed d) (sym told ∙ good))
