-- The walk has met all that the tree has, and the links are counted over the directories that it entered.
use Rattle.std.proofs.Common.{ℕ, List, ◌∙◌, ap, subst}
use Rattle.std.specs.List.{list_all}
use Rattle.std.proofs.lemmas.List.Folds.{list_all-map}
use Rattle.o2_model.specs.Words.{among}
use Rattle.o2_model.specs.Tree.{tree_walk}
use Rattle.o2_tally.specs.Gathered.{IsCount}
use Rattle.o2_tree.specs.TreeRows.{all_directories}
use Rattle.o2_tree.specs.TreeWalks.{entered_row}
use Rattle.o2_tree.specs.declared.entered.EnteredRow.{EnteredRow}
use Rattle.o2_walk.proofs.LinksCounted.{links_are}
use Rattle.o2_walk.proofs.MetInodes.{entered_are_directories, met_are_inodes}
use Rattle.o2_walk.proofs.walk.walk_tree.Goals as goal

pub returns : goal.returns
returns c = λ v geo inodes own directories root.
    let start = c.in_ok-progress.ensures v (ap (λ g. g.root) geo) in
    let has = c.in_ok-walk_levels.ensures v inodes own directories (c.in_ok-blocks.ensures v geo) start in
    let links = links_are v c.as_slice.result.now (c.as_slice.ensures.value ∙ has.entered) in
    record {
      entered = record {
        listed = has.entered;
        directories =
            ap (list_all (λ (r : EnteredRow). among (all_directories v) r.inode)) has.entered
            ∙ (list_all-map (λ (r : EnteredRow). among (all_directories v) r.inode) entered_row (tree_walk v).entered
            ∙ entered_are_directories v root);
      };
      second = has.second;
      tree = record {
        links = subst (λ (ns : List ℕ). IsCount ns c.in_ok-links.links) links (c.in_ok-links.ensures v directories);
        met = has.met;
        inodes = met_are_inodes v root;
      };
    }
