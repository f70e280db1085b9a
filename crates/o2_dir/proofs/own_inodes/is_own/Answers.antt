-- The entries of the system directory name the others.
use Rattle.std.proofs.Common.{◌≡◌, sym, ◌∙◌, ap, subst}
use Rattle.o2_model.specs.declared.geo.Geo.{Geo}
use Rattle.o2_view.proofs.Shown.{still_shows}
use Rattle.o2_dir.specs.Fails.{HoldsLeaves}
use Rattle.o2_dir.specs.WholeDirectories.{IsWholeDirectory}
use Rattle.o2_dir.proofs.OwnInodes.{names, sysdir_is_own, others_are_named}
use Rattle.o2_dir.proofs.own_inodes.is_own.Goals as goal

pub returns-then-inode-geo-clause-own : goal.returns-then-inode-geo-clause-own
returns-then-inode-geo-clause-own g c v shows = sym (sysdir_is_own v c.args.inode (c.if-inode-geo.true ∙ ap (λ (geo : Geo). geo.sysdir) (sym shows.numbers)))

pub returns-clause-own : goal.returns-clause-own
returns-clause-own g c v shows =
    let is : c.args.geo.now.sysdir ≡ v.geo.sysdir = ap (λ (geo : Geo). geo.sysdir) (sym shows.numbers) in
    let held : HoldsLeaves v c.args.geo.now.sysdir c.as_slice-bytes.result.now c.deref.result.now = record { holds = c.as_slice-bytes.ensures ∙ c.in_ok-found.ensures.block v shows; are = c.deref.ensures.value ∙ (c.in_ok-found.ensures.read v shows).leaves } in
    let read = c.in_ok-directory.ensures.told v (still_shows c.read_inode.ensures.reads shows) held in
    let whole : IsWholeDirectory v v.geo.sysdir c.in_ok-directory.directory = subst (λ d. IsWholeDirectory v d c.in_ok-directory.directory) is read in
    c.are_naming.ensures
    ∙ (ap (λ es. names es c.args.inode) c.as_slice.ensures
    ∙ others_are_named v c.args.inode c.in_ok-directory.directory.entries (λ same. c.if-inode-geo.false (same ∙ sym is)) whole.entries)
