-- Lines, and the text that they are.
use Rattle.std.proofs.Common.{◌≡◌, ℕ, List, ◌++◌, map, ◌∙◌, ap}
use Rattle.std.specs.List.{concat}
use Rattle.o2_ondisk.specs.declared.dinode.Dinode.{Dinode}
use Rattle.o2_model.specs.Volume.{Volume, dinode}
use Rattle.o2_model.specs.Inodes.{leaf_records}
use Rattle.o2_model.specs.Directories.{directory_entries}
use Rattle.o2_model.specs.declared.leaf.Leaf.{Leaf}
use Rattle.o2_model.specs.declared.entry.Entry.{Entry}
use Rattle.o2_model.specs.declared.placed_refcount.PlacedRefcount.{PlacedRefcount}
use Rattle.o2_model.specs.RefcountTrees.{refcounts}
use Rattle.o2_debug.specs.Lines.{entry_line, dinode_lines, extent_line, refcount_line}
use Rattle.o2_debug.specs.Texts.{ls_text, stat_text, refcount_text}

pub ls_is : (v : Volume) (d : ℕ) (entries : List Entry) (lines : List (List ℕ)) → entries ≡ directory_entries v d → lines ≡ map entry_line entries → concat lines ≡ ls_text v d
unfolding ls_text
ls_is v d entries lines are is = ap concat (is ∙ ap (map entry_line) are)

pub stat_is : (v : Volume) (b : ℕ) (d : Dinode) (leaves : List Leaf) (lines : List (List ℕ)) → d ≡ dinode v b → leaves ≡ leaf_records v b → lines ≡ dinode_lines b d ++ map extent_line leaves → concat lines ≡ stat_text v b
unfolding stat_text
stat_is v b d leaves lines tells are is =
    ap concat (is ∙ ap (λ (e : Dinode). dinode_lines b e ++ map extent_line leaves) tells ∙ ap (λ (ls : List Leaf). dinode_lines b (dinode v b) ++ map extent_line ls) are)

pub refcount_is : (v : Volume) (b : ℕ) (records : List PlacedRefcount) (lines : List (List ℕ)) → records ≡ (refcounts v (dinode v b).refcount_loc).records → lines ≡ map refcount_line records → concat lines ≡ refcount_text v b
unfolding refcount_text
refcount_is v b records lines are is = ap concat (is ∙ ap (map refcount_line) are)
