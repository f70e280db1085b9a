-- What the entries of the entered directories name is what the entries of the tree name.
use Rattle.std.proofs.Common.{◌≡◌, List, [], ◌∷◌, ◌++◌, map, refl, sym, ◌∙◌, ap}
use Rattle.std.specs.Prelude.{flat_map}
use Rattle.std.proofs.lemmas.List.{map-append}
use Rattle.o2_model.specs.declared.entry.Entry.{Entry}
use Rattle.o2_model.specs.Volume.{Volume}
use Rattle.o2_model.specs.Directories.{directory_entries}
use Rattle.o2_model.specs.Tree.{Entered, tree_walk, tree_entries}
use Rattle.o2_tree.specs.TreeWalks.{entered_row}
use Rattle.o2_tree.specs.declared.entered.EnteredRow.{EnteredRow}
use Rattle.o2_walk.specs.TreeWalked.{named_by}

named_in : (v : Volume) (ds : List Entered) → flat_map (λ r. named_by v r.inode) (map entered_row ds) ≡ map (λ e. e.inode) (flat_map (directory_entries v) (map (λ d. d.inode) ds))
named_in v [] = refl
named_in v (d ∷ ds) =
    ap (λ ns. named_by v d.inode ++ ns) (named_in v ds)
    ∙ sym (map-append (λ (e : Entry). e.inode) (directory_entries v d.inode) (flat_map (directory_entries v) (map (λ (x : Entered). x.inode) ds)))

pub links_are : (v : Volume) (rows : List EnteredRow) → rows ≡ map entered_row (tree_walk v).entered → flat_map (λ r. named_by v r.inode) rows ≡ map (λ e. e.inode) (tree_entries v)
unfolding tree_entries
links_are v rows are = ap (flat_map (λ r. named_by v r.inode)) are ∙ named_in v (tree_walk v).entered
