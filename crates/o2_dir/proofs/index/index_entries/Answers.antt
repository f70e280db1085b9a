-- A directory without an index has no entries in it; of another the root tells.
use Rattle.std.proofs.Common.{◌≡◌, ℕ, Bool, true, inl, refl, sym, ◌∙◌, ap}
use Rattle.o2_ondisk.specs.Dinodes.{dinode_of}
use Rattle.o2_ondisk.specs.Bits.{has_bits, indexed_dir_dyn_feature}
use Rattle.o2_ondisk.specs.declared.dinode.Dinode.{Dinode}
use Rattle.o2_model.specs.Volume.{Volume, dinode}
use Rattle.o2_model.specs.Inodes.{is_directory}
use Rattle.o2_model.specs.Indexes.{is_indexed}
use Rattle.o2_view.proofs.Shown.{still_shows}
use Rattle.o2_dir.proofs.IndexForms.{no_index, bad_form, good_form}
use Rattle.o2_dir.proofs.index.index_entries.Goals as goal

-- a directory has an index where its flag says so
by_flag : (v : Volume) (d : ℕ) (flag : Bool) → is_directory v d ≡ true → flag ≡ has_bits (dinode v d).dyn_features.0 indexed_dir_dyn_feature → is_indexed v d ≡ flag
unfolding is_indexed
by_flag v d flag directory is = rw (directory, sym is) refl

pub returns-then-not-has-clause-told : goal.returns-then-not-has-clause-told
returns-then-not-has-clause-told g c v shows =
    let d = c.args.inode in
    let fields : c.read_dinode-dinode.result ≡ dinode v d = c.read_dinode-dinode.ensures ∙ ap dinode_of (c.as_slice.ensures ∙ c.in_ok-block.ensures.bytes v shows) in
    let flag = c.has.ensures ∙ ap (λ (x : Dinode). has_bits x.dyn_features.0 indexed_dir_dyn_feature) fields in
    let none = no_index v d (by_flag v d c.has.result (c.requires.directory v shows) flag ∙ c.if-not-has.true) in
    (none.0, c.from.ensures ∙ (c.new.ensures.items ∙ none.1))

pub returns-in_default-clause-fails : goal.returns-in_default-clause-fails
returns-in_default-clause-fails g c = record {
  own = inl refl;
  first = λ v shows.
      let d = c.args.inode in
      let fields : c.read_dinode-dinode.result ≡ dinode v d = c.read_dinode-dinode.ensures ∙ ap dinode_of (c.as_slice.ensures ∙ c.in_ok-block.ensures.bytes v shows) in
      let flag = c.has.ensures ∙ ap (λ (x : Dinode). has_bits x.dyn_features.0 indexed_dir_dyn_feature) fields in
      let root = ap (λ (x : Dinode). x.dx_root) (sym fields) in
      bad_form v d (by_flag v d c.has.result (c.requires.directory v shows) flag ∙ c.if-not-has.false)
      ((rw c.in_default.is at c.in_ok-entries.ensures.told) v (still_shows c.look.ensures.reads shows) root);
}

pub returns-clause-told : goal.returns-clause-told
returns-clause-told g c v shows =
    let d = c.args.inode in
    let fields : c.read_dinode-dinode.result ≡ dinode v d = c.read_dinode-dinode.ensures ∙ ap dinode_of (c.as_slice.ensures ∙ c.in_ok-block.ensures.bytes v shows) in
    let flag = c.has.ensures ∙ ap (λ (x : Dinode). has_bits x.dyn_features.0 indexed_dir_dyn_feature) fields in
    let root = ap (λ (x : Dinode). x.dx_root) (sym fields) in
    good_form v d (by_flag v d c.has.result (c.requires.directory v shows) flag ∙ c.if-not-has.false) c.in-Some.entries
    ((rw c.in-Some.is at c.in_ok-entries.ensures.told) v (still_shows c.look.ensures.reads shows) root)
