-- Where there is no list of leaves, nothing is read.
use Rattle.std.proofs.Common.{◌≡◌, sym, ◌∙◌, ap}
use Rattle.o2_ondisk.specs.DxRoots.{dx_root_of}
use Rattle.o2_model.specs.Indexes.{dx_root}
use Rattle.o2_extent.proofs.Owners.{no_leaves}
use Rattle.o2_extent.proofs.index_roots.index_list.Goals as goal

pub returns-then-not-has_leaves-clause-read : goal.returns-then-not-has_leaves-clause-read
returns-then-not-has_leaves-clause-read g c v seen =
    let b = c.args.b in
    let fields : c.read_dx_root-root.result ≡ dx_root v b = c.read_dx_root-root.ensures ∙ ap dx_root_of seen.is in
    rw (no_leaves v b (sym (c.has_leaves.ensures v seen.shows.numbers fields) ∙ c.if-not-has_leaves.true)) (c.start.ensures.keeps v)
