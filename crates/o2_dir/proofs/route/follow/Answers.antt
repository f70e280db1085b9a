-- One name less.
use Rattle.std.proofs.Common.{ℕ, List, take, refl, sym, subst, arith}
use Rattle.o2_view.proofs.Shown.{still_shows}
use Rattle.o2_extent.proofs.Views.{only_none, only_both}
use Rattle.o2_dir.specs.Paths.{AtName, OnNames}
use Rattle.o2_dir.proofs.Faults.{path_fails}
use Rattle.o2_dir.proofs.PathWays.{Remains, all_remain, one_less, holds_here, none_left, empty_is, some_are, rest_behind}
use Rattle.o2_dir.proofs.route.follow.Goals as goal

pub loop-rest-init : goal.loop-rest-init
loop-rest-init g c = record {
  inside = c.requires.start.inside;
  only = only_none c.args.view.now;
  way = λ v shows names h. all_remain v c.args.start names c.args.text.now h;
}

pub returns-in-Err-clause-fails : goal.returns-in-Err-clause-fails
returns-in-Err-clause-fails g c = path_fails c.step.new.view (AtName c.loop-rest.view c.args.geo.now c.loop-rest.inode (take c.name_length-count.result c.loop-rest.rest.now)) (OnNames c.args.view.now c.args.geo.now c.args.start c.args.text.now) c.loop-rest.invariant.only
    (λ Holds here v shows names h.
    let some = some_are c.loop-rest.rest.now c.is_empty.result c.is_empty.ensures c.loop-rest-test.true in
    holds_here Holds v c.args.start names c.loop-rest.inode c.loop-rest.rest.now c.name_length-count.result some c.name_length-count.ensures.first
    (here v (still_shows c.loop-rest.invariant.only shows)) (c.loop-rest.invariant.way v shows names h))
    c.in-Err.fault c.in-Err.ensures.fails

pub loop-rest-preserved : goal.loop-rest-preserved
loop-rest-preserved g c = record {
  inside = omega (arith, c.in-Ok.ensures.inside, c.loop-rest.invariant.only.same.blocks);
  only = only_both c.loop-rest.invariant.only c.step.ensures.reads;
  way = λ v shows names h.
      let k = c.name_length-count.result in
      let text = c.loop-rest.rest.now in
      let some = some_are text c.is_empty.result c.is_empty.ensures c.loop-rest-test.true in
      let to = c.in-Ok.ensures.to v (still_shows c.loop-rest.invariant.only shows) in
      let rest = rest_behind k text _ c.behind-rest.result.now refl c.behind-rest.ensures in
      let less = one_less v c.args.start names c.loop-rest.inode text k to.0 some c.name_length-count.ensures.first to.1 (c.loop-rest.invariant.way v shows names h) in
      subst (λ (n : ℕ). Remains v c.args.start names n c.behind-rest.result.now) (sym to.2) (subst (λ (t : List ℕ). Remains v c.args.start names to.0.inode t) (sym rest) less);
}

pub returns-clause-leads : goal.returns-clause-leads
returns-clause-leads g c v shows names h =
    none_left v c.args.start names c.loop-rest.inode c.loop-rest.rest.now (empty_is c.loop-rest.rest.now c.is_empty.result c.is_empty.ensures c.loop-rest-test.false) (c.loop-rest.invariant.way v shows names h)
