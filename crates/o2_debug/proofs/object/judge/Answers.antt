-- An inode of some kind is what its reading tells.
use Rattle.std.proofs.Common.{◌≡◌, inl, refl, sym, ◌∙◌, ap}
use Rattle.std.proofs.lemmas.Result.{IfOk-weaker, IfErr-weaker}
use Rattle.o2_ondisk.specs.Dinodes.{dinode_of}
use Rattle.o2_model.specs.Volume.{dinode}
use Rattle.o2_debug.proofs.Judged.{kind_fails, some_kind, sound_reading, reading_fails}
use Rattle.o2_view.proofs.Shown.{still_shows}
use Rattle.o2_debug.proofs.object.judge.Goals as goal

pub returns-then-not-has_kind-clause-fails : goal.returns-then-not-has_kind-clause-fails
returns-then-not-has_kind-clause-fails g c = record {
  own = inl refl;
  first = λ v shows.
      let is : c.read_dinode.result ≡ dinode v c.args.inode = c.read_dinode.ensures ∙ ap dinode_of (c.as_slice.ensures ∙ c.in_ok-block.ensures.bytes v shows) in
      kind_fails v c.args.inode c.read_dinode.result is (sym c.has_kind.ensures ∙ c.if-not-has_kind.true);
}

pub returns-clause-told : goal.returns-clause-told
returns-clause-told g c = IfOk-weaker c.sound_inode_in.result _ _
    (λ reading told v shows.
    let is : c.read_dinode.result ≡ dinode v c.args.inode = c.read_dinode.ensures ∙ ap dinode_of (c.as_slice.ensures ∙ c.in_ok-block.ensures.bytes v shows) in
    let tells = told v (record { shows = still_shows c.look.ensures.reads shows; is = c.in_ok-block.ensures.bytes v shows }) in
    (sound_reading v c.args.inode reading (some_kind v c.args.inode c.read_dinode.result is (sym c.has_kind.ensures ∙ c.if-not-has_kind.false)) tells, tells))
    c.sound_inode_in.ensures.told

pub returns-clause-fails : goal.returns-clause-fails
returns-clause-fails g c = IfErr-weaker c.sound_inode_in.result _ _
    (reading_fails c.sound_inode_in.new.view c.args.geo.now c.args.inode c.look.ensures.reads
    (λ v shows. record { shows = still_shows c.look.ensures.reads shows; is = c.in_ok-block.ensures.bytes v shows })
    (λ v shows.
    let is : c.read_dinode.result ≡ dinode v c.args.inode = c.read_dinode.ensures ∙ ap dinode_of (c.as_slice.ensures ∙ c.in_ok-block.ensures.bytes v shows) in
    some_kind v c.args.inode c.read_dinode.result is (sym c.has_kind.ensures ∙ c.if-not-has_kind.false)))
    c.sound_inode_in.ensures.fails
