-- No directory, one that was entered, and one that is new.
use Rattle.std.proofs.Common.{◌≡◌, true, false, sym, ◌∙◌, ap}
use Rattle.std.proofs.lemmas.Result.{on_ok_weaker}
use Rattle.o2_model.specs.Inodes.{is_directory}
use Rattle.o2_model.specs.Tree.{is_entered, with_name}
use Rattle.o2_tally.specs.Again.{has_number}
use Rattle.o2_walk.proofs.RowsMet.{directory_is}
use Rattle.o2_walk.proofs.progress.Progress.follow.Goals as goal

pub returns-then-not-is_directory : goal.returns-then-not-is_directory
returns-then-not-is_directory c = on_ok_weaker c.meet.result
    (λ met v w d e has from row at.
    let other : is_directory v e.inode ≡ false = sym (directory_is v e.inode c.args.inode.now at) ∙ (sym c.is_directory.ensures ∙ c.if-not-is_directory.true) in
    rw other (met w d e has (ap (λ r. r.inode) row)))
    c.meet.ensures

pub returns-then-contains : goal.returns-then-contains
returns-then-contains c = on_ok_weaker c.meet_again.result
    (λ again v w d e has from row at.
    let is : is_directory v e.inode ≡ true = sym (directory_is v e.inode c.args.inode.now at) ∙ (sym c.is_directory.ensures ∙ c.if-not-is_directory.false) in
    let entered : is_entered w e.inode ≡ true =
    sym (has.directories e.inode) ∙ (ap (has_number c.args.self.now.directories) (ap (λ r. r.inode) row) ∙ (sym c.contains.ensures ∙ c.if-contains.true)) in
    rw (is, entered) (again w e has (ap (λ r. r.block) row)))
    c.meet_again.ensures

pub returns : goal.returns
returns c = on_ok_weaker c.enter.result
    (λ entered v w d e has from row at.
    let is : is_directory v e.inode ≡ true = sym (directory_is v e.inode c.args.inode.now at) ∙ (sym c.is_directory.ensures ∙ c.if-not-is_directory.false) in
    let same = ap (λ r. r.inode) row in
    let new : is_entered w e.inode ≡ false =
    sym (has.directories e.inode) ∙ (ap (has_number c.args.self.now.directories) same ∙ (sym c.contains.ensures ∙ c.if-contains.false)) in
    rw (is, new) (entered (with_name d e w) d e (c.in_ok-meet.ensures w d e has same) same from))
    c.enter.ensures
