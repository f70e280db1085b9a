-- The text of each query, for an inode that is sound and of its kind.
use Rattle.std.proofs.Common.{◌≡◌, inl, inr, true, subst, arith}
use Rattle.std.proofs.lemmas.Result.{IfErr-weaker, on_ok_weaker}
use Rattle.o2_model.specs.Volume.{dinode}
use Rattle.o2_extent.proofs.Views.{only_none}
use Rattle.o2_debug.specs.Answers.{is_for}
use Rattle.o2_debug.specs.declared.query.PathQuery.{PathQuery}
use Rattle.o2_debug.proofs.AnswerLemmas.{is_directory_of, directory_first, ls_answerable, stat_answerable, cat_answerable, shares, refcount_answerable, tree_first}
use Rattle.o2_debug.proofs.Fails.{answer_fails, lines_fail}
use Rattle.o2_debug.proofs.last_object.put_answer.Goals as goal

pub put_ls-requires : goal.put_ls-requires
put_ls-requires g c = (
  omega arith,
  (
    c.requires.geo,
    (
      c.requires.fits,
      (
        c.requires.read,
        λ v shows. is_directory_of v c.args.reading.now.inode (subst (λ (q : PathQuery). is_for q (dinode v c.args.reading.now.inode) ≡ true) c.in-Ls.is (c.requires.asked v shows)),
      ),
    ),
  ),
)

-- ---- ls
pub returns-in-Ls-clause-told : goal.returns-in-Ls-clause-told
returns-in-Ls-clause-told g c = on_ok_weaker c.put_ls.result (λ takes v shows.
    let is = subst (λ (q : PathQuery). is_for q (dinode v c.args.reading.now.inode) ≡ true) c.in-Ls.is (c.requires.asked v shows) in
    let put = takes v shows in
    rw c.in-Ls.is (record { answered = ls_answerable v c.args.reading.now.inode c.in-Ls.path (c.requires.sound v shows) is put.0; taken = put.1 })) c.put_ls.ensures.told

pub returns-in-Ls-clause-some : goal.returns-in-Ls-clause-some
returns-in-Ls-clause-some g c v shows =
    let is = subst (λ (q : PathQuery). is_for q (dinode v c.args.reading.now.inode) ≡ true) c.in-Ls.is (c.requires.asked v shows) in
    rw c.in-Ls.is (elim (c.put_ls.ensures.some v shows) [
      | inl nothing ↦ inl nothing
      | inr put ↦ inr (record { answered = ls_answerable v c.args.reading.now.inode c.in-Ls.path (c.requires.sound v shows) is put.0; some = put.1 })
    ])

pub returns-in-Ls-clause-fails : goal.returns-in-Ls-clause-fails
returns-in-Ls-clause-fails g c =
    rw c.in-Ls.is (IfErr-weaker c.put_ls.result _ _
    (answer_fails c.put_ls.new.view c.args.geo.now (g.K.Sink.state c.args.out.now) (g.K.Sink.state c.put_ls.new.out) _ _ _ _ _ _ _ (only_none c.args.view.now) (λ check own. inr own)
    (λ v shows. directory_first v c.args.reading.now.inode c.in-Ls.path (c.requires.sound v shows) (subst (λ (q : PathQuery). is_for q (dinode v c.args.reading.now.inode) ≡ true) c.in-Ls.is (c.requires.asked v shows)))
    (λ v shows put. record {
      answered = ls_answerable v c.args.reading.now.inode c.in-Ls.path (c.requires.sound v shows) (subst (λ (q : PathQuery). is_for q (dinode v c.args.reading.now.inode) ≡ true) c.in-Ls.is (c.requires.asked v shows)) put.0;
      some = put.1;
    })
    (λ never. never))
    c.put_ls.ensures.fails)

-- ---- stat
pub returns-in-Stat-clause-told : goal.returns-in-Stat-clause-told
returns-in-Stat-clause-told g c = on_ok_weaker c.put_stat.result (λ takes v shows.
    rw c.in-Stat.is (record { answered = stat_answerable v c.args.reading.now.inode c.in-Stat.path (c.requires.sound v shows); taken = takes v (c.requires.read v shows) })) c.put_stat.ensures.told

pub returns-in-Stat-clause-some : goal.returns-in-Stat-clause-some
returns-in-Stat-clause-some g c v shows =
    rw c.in-Stat.is (inr (record { answered = stat_answerable v c.args.reading.now.inode c.in-Stat.path (c.requires.sound v shows); some = c.put_stat.ensures.some v (c.requires.read v shows) }))

pub returns-in-Stat-clause-fails : goal.returns-in-Stat-clause-fails
returns-in-Stat-clause-fails g c =
    rw c.in-Stat.is (IfErr-weaker c.put_stat.result _ _
    (lines_fail c.args.view.now c.args.view.now c.args.geo.now (g.K.Sink.state c.args.out.now) (g.K.Sink.state c.put_stat.new.out) _ _ _ _
    (λ v shows. record { answered = stat_answerable v c.args.reading.now.inode c.in-Stat.path (c.requires.sound v shows); some = c.put_stat.ensures.some v (c.requires.read v shows) }))
    c.put_stat.ensures.fails)

pub returns-in-Stat-clause-reads : goal.returns-in-Stat-clause-reads
returns-in-Stat-clause-reads g c = only_none _

-- ---- cat: nothing is wrong with the file
pub returns-in-Cat-clause-told : goal.returns-in-Cat-clause-told
returns-in-Cat-clause-told g c = on_ok_weaker c.put_file.result (λ takes v shows.
    let is = subst (λ (q : PathQuery). is_for q (dinode v c.args.reading.now.inode) ≡ true) c.in-Cat.is (c.requires.asked v shows) in
    rw c.in-Cat.is (record { answered = cat_answerable v c.args.reading.now.inode c.in-Cat.path (c.requires.sound v shows) is; taken = takes v shows })) c.put_file.ensures.told

pub returns-in-Cat-clause-some : goal.returns-in-Cat-clause-some
returns-in-Cat-clause-some g c v shows =
    let is = subst (λ (q : PathQuery). is_for q (dinode v c.args.reading.now.inode) ≡ true) c.in-Cat.is (c.requires.asked v shows) in
    rw c.in-Cat.is (inr (record { answered = cat_answerable v c.args.reading.now.inode c.in-Cat.path (c.requires.sound v shows) is; some = c.put_file.ensures.some v shows }))

pub returns-in-Cat-clause-fails : goal.returns-in-Cat-clause-fails
returns-in-Cat-clause-fails g c =
    rw c.in-Cat.is (IfErr-weaker c.put_file.result _ _
    (answer_fails c.put_file.new.view c.args.geo.now (g.K.Sink.state c.args.out.now) (g.K.Sink.state c.put_file.new.out) _ _ _ _ _ _ _ (only_none c.args.view.now) (λ check own. absurd own) (λ v shows check b never. absurd never)
    (λ v shows some. record {
      answered = cat_answerable v c.args.reading.now.inode c.in-Cat.path (c.requires.sound v shows) (subst (λ (q : PathQuery). is_for q (dinode v c.args.reading.now.inode) ≡ true) c.in-Cat.is (c.requires.asked v shows));
      some = some;
    })
    (λ never. never))
    c.put_file.ensures.fails)

-- ---- refcount
pub put_refcount-requires : goal.put_refcount-requires
put_refcount-requires g c = (
  omega arith,
  (
    c.requires.geo,
    (
      c.requires.read,
      λ v shows. shares v c.args.reading.now.inode (subst (λ (q : PathQuery). is_for q (dinode v c.args.reading.now.inode) ≡ true) c.in-Refcount.is (c.requires.asked v shows)),
    ),
  ),
)

pub returns-in-Refcount-clause-told : goal.returns-in-Refcount-clause-told
returns-in-Refcount-clause-told g c = on_ok_weaker c.put_refcount.result (λ takes v shows.
    let is = subst (λ (q : PathQuery). is_for q (dinode v c.args.reading.now.inode) ≡ true) c.in-Refcount.is (c.requires.asked v shows) in
    let put = takes v shows in
    rw c.in-Refcount.is (record { answered = refcount_answerable v c.args.reading.now.inode c.in-Refcount.path (c.requires.sound v shows) is put.0; taken = put.1 })) c.put_refcount.ensures.told

pub returns-in-Refcount-clause-some : goal.returns-in-Refcount-clause-some
returns-in-Refcount-clause-some g c v shows =
    let is = subst (λ (q : PathQuery). is_for q (dinode v c.args.reading.now.inode) ≡ true) c.in-Refcount.is (c.requires.asked v shows) in
    rw c.in-Refcount.is (elim (c.put_refcount.ensures.some v shows) [
      | inl nothing ↦ inl nothing
      | inr put ↦ inr (record { answered = refcount_answerable v c.args.reading.now.inode c.in-Refcount.path (c.requires.sound v shows) is put.0; some = put.1 })
    ])

pub returns-in-Refcount-clause-fails : goal.returns-in-Refcount-clause-fails
returns-in-Refcount-clause-fails g c =
    rw c.in-Refcount.is (IfErr-weaker c.put_refcount.result _ _
    (answer_fails c.put_refcount.new.view c.args.geo.now (g.K.Sink.state c.args.out.now) (g.K.Sink.state c.put_refcount.new.out) _ _ _ _ _ _ _ (only_none c.args.view.now)
    (λ check own. elim own [
      | inl same ↦ inr (inr (inr (inl same)))
      | inr none ↦ absurd none
    ])
    (λ v shows. tree_first v c.args.reading.now.inode c.in-Refcount.path (c.requires.sound v shows) (subst (λ (q : PathQuery). is_for q (dinode v c.args.reading.now.inode) ≡ true) c.in-Refcount.is (c.requires.asked v shows)))
    (λ v shows put. record {
      answered = refcount_answerable v c.args.reading.now.inode c.in-Refcount.path (c.requires.sound v shows) (subst (λ (q : PathQuery). is_for q (dinode v c.args.reading.now.inode) ≡ true) c.in-Refcount.is (c.requires.asked v shows)) put.0;
      some = put.1;
    })
    (λ never. never))
    c.put_refcount.ensures.fails)
