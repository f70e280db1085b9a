-- The lines that are printed of a volume as a whole, and their text.
use Rattle.std.proofs.Common.{◌≡◌, ℕ, ◌+◌, List, [], ◌∷◌, ◌++◌, map, get_or, Option, None, sym, ◌∙◌, ap}
use Rattle.std.specs.Prelude.{flat_map}
use Rattle.std.specs.List.{concat, range_with_len}
use Rattle.std.specs.Option.{option_map_or}
use Rattle.std.proofs.lemmas.List.Concat.{flat_map_single}
use Rattle.std.proofs.lemmas.Option.{unwrap_or-slice_get}
use Rattle.o2_ondisk.specs.declared.superblock.Super.{Super}
use Rattle.o2_model.specs.AfterReplay.{super_of_volume, journal_length}
use Rattle.o2_model.specs.SystemFiles.{slots}
use Rattle.o2_model.specs.Volume.{Volume}
use Rattle.o2_survey.proofs.SlotLists.{one_slot_more}
use Rattle.o2_debug.specs.Lines.{pair_line}
use Rattle.o2_debug.specs.OwnFiles.{clusters_in_use, slot_nodes}
use Rattle.o2_debug.specs.Texts.{stats_text, slot_map_text}
use Rattle.o2_debug.specs.VolumeLines.{volume_lines, journal_line, slot_line, slot_lines}

-- ---- journals
pub journal_more : (v : Volume) (k n : ℕ) (lines new : List (List ℕ)) → lines ≡ map (λ slot. journal_line slot (journal_length v slot)) (range_with_len 0 k) → n ≡ journal_length v k → new ≡ lines ++ journal_line k n ∷ []
    → new ≡ map (λ slot. journal_line slot (journal_length v slot)) (range_with_len 0 (k + 1))
journal_more v k n lines new before is more =
    let line : ℕ → List ℕ = λ slot. journal_line slot (journal_length v slot) in
    more
    ∙ (ap (λ (ls : List (List ℕ)). ls ++ journal_line k n ∷ []) (before ∙ sym (flat_map_single line (range_with_len 0 k)))
    ∙ (ap (λ (m : ℕ). flat_map (λ slot. line slot ∷ []) (range_with_len 0 k) ++ journal_line k m ∷ []) is
    ∙ (sym (one_slot_more (λ slot. line slot ∷ []) k)
    ∙ flat_map_single line (range_with_len 0 (k + 1)))))

-- ---- slots
-- one slot more, with its line where it has a node
pub slot_more : (nodes : List (Option ℕ)) (k : ℕ) (o : Option ℕ) (lines new : List (List ℕ)) → get_or nodes k None ≡ o → lines ≡ flat_map (slot_line nodes) (range_with_len 0 k) → new ≡ lines ++ option_map_or (λ node. pair_line [] k node ∷ []) o []
    → new ≡ flat_map (slot_line nodes) (range_with_len 0 (k + 1))
slot_more nodes k o lines new is before more =
    let line : Option ℕ → List (List ℕ) = λ p. option_map_or (λ node. pair_line [] k node ∷ []) p [] in
    more
    ∙ (ap (λ (ls : List (List ℕ)). ls ++ line o) before
    ∙ (ap (λ (p : Option ℕ). flat_map (slot_line nodes) (range_with_len 0 k) ++ line p) (sym (unwrap_or-slice_get nodes k None ∙ is))
    ∙ sym (one_slot_more (slot_line nodes) k)))

-- ---- the texts
pub stats_is : (v : Volume) (part : Super) (used : ℕ) (first others lines : List (List ℕ)) → part ≡ super_of_volume v → used ≡ clusters_in_use v → first ≡ volume_lines v.geo part used
    → others ≡ map (λ slot. journal_line slot (journal_length v slot)) (slots v) → lines ≡ first ++ others → concat lines ≡ stats_text v
unfolding stats_text
stats_is v part used first others lines part_is used_is first_is others_are are =
    ap concat (
    are
    ∙ (ap (λ (ls : List (List ℕ)). ls ++ others) (first_is ∙ (ap (λ (p : Super). volume_lines v.geo p used) part_is ∙ ap (λ (n : ℕ). volume_lines v.geo (super_of_volume v) n) used_is))
    ∙ ap (λ (ls : List (List ℕ)). volume_lines v.geo (super_of_volume v) (clusters_in_use v) ++ ls) others_are)
    )

pub slot_map_is : (v : Volume) (map : List (Option ℕ)) (lines : List (List ℕ)) → map ≡ slot_nodes v → lines ≡ slot_lines map → concat lines ≡ slot_map_text v
unfolding slot_map_text
slot_map_is v map lines are is = ap concat (is ∙ ap slot_lines are)
