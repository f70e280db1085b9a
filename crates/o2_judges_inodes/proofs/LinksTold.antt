-- INODE_COUNT by the rows of the inodes that were met.
use Rattle.std.proofs.Common.{◌≡◌, ℕ, ◌+◌, ◌%◌, ◌^◌, cond, ◌&&◌, not, ◌==◌, List, [], ◌∷◌, map, filter, count_by, refl, sym, ◌∙◌, ap}
use Rattle.std.proofs.lemmas.List.Sums.{sum_by-cons}
use Rattle.o2_model.specs.declared.check.Check.TheVariants as check
use Rattle.o2_model.specs.declared.entry.Entry.{Entry}
use Rattle.o2_model.specs.Orders.{rising}
use Rattle.o2_model.specs.Volume.{Volume, dinode}
use Rattle.o2_model.specs.Files.{links_of, times_in}
use Rattle.o2_model.specs.Tree.{tree_entries, link_count}
use Rattle.o2_model.specs.Failing.{faults}
use Rattle.o2_tables.specs.declared.inodes.InodeRow.{InodeRow}
use Rattle.o2_tables.specs.declared.tree.TreeTable.{TreeTable}
use Rattle.o2_tables.specs.Rows.{IsInodeRow, IsInodeTable, IsTreeTable}
use Rattle.o2_tally.specs.Again.{has_number}
use Rattle.o2_tally.specs.Gathered.{count_of}
use Rattle.o2_judges_inodes.specs.LinkRows.{has_links}
use Rattle.o2_judges_inodes.proofs.MetRows.{met_told}

named_so_often : (es : List Entry) (b : ℕ) → times_in (map (λ e. e.inode) es) b ≡ count_by (λ e. e.inode == b) es
named_so_often [] b = refl
named_so_often (e ∷ es) b =
    sum_by-cons (λ (d : ℕ). cond (d == b) 1 0) e.inode (map (λ (x : Entry). x.inode) es)
    ∙ (ap (λ n. cond (e.inode == b) 1 0 + n) (named_so_often es b) ∙ sym (sum_by-cons (λ (x : Entry). cond (x.inode == b) 1 0) e es))

row_links : (v : Volume) (tree : TreeTable) (r : InodeRow) → IsTreeTable v tree → IsInodeRow v r → has_links tree r ≡ (links_of (dinode v r.block) == link_count v r.block % 2 ^ 32)
row_links v tree r met is =
    ap (λ n. n == count_of tree.links r.block % 2 ^ 32) is.links
    ∙ ap (λ n. links_of (dinode v r.block) == n % 2 ^ 32) (met.links.each r.block ∙ named_so_often (tree_entries v) r.block)

pub links_told : (v : Volume) (tree : TreeTable) (rows : List InodeRow) → IsInodeTable v rows → IsTreeTable v tree
    → rising (map (λ r. r.block) (filter (λ r. has_number tree.met r.block && not (has_links tree r)) rows)) ≡ rising (faults v check.InodeCount)
unfolding faults
links_told v tree rows table met =
    met_told v tree rows (λ b. links_of (dinode v b) == link_count v b % 2 ^ 32) (λ r. not (has_links tree r)) table met (λ r is. ap not (row_links v tree r met is))
