-- The path's names are those of its text behind the slashes at its front.
use Rattle.std.proofs.Common.{ℕ, sym, subst}
use Rattle.std.proofs.lemmas.Result.{IfOk-weaker, IfErr-weaker}
use Rattle.o2_extent.proofs.Views.{only_none}
use Rattle.o2_dir.specs.Paths.{Leads, OnTheWay, OnNames, OnPath}
use Rattle.o2_dir.proofs.Faults.{path_fails}
use Rattle.o2_dir.proofs.PathWays.{of_system, of_root}
use Rattle.o2_dir.proofs.route.path.Goals as goal

pub returns-then-begins_at_system_directory-clause-leads : goal.returns-then-begins_at_system_directory-clause-leads
returns-then-begins_at_system_directory-clause-leads g c = IfOk-weaker c.follow.result _ _
    (λ i leads v shows start names h.
    let of = of_system c.args.geo.now c.args.text.now c.behind.result.now start names (c.begins_at_system_directory.ensures.yes c.if-begins_at_system_directory.true) c.behind.ensures h in
    subst (λ (d : ℕ). Leads v d names i) (sym of.0) (leads v shows names of.1))
    c.follow.ensures.leads

pub returns-then-begins_at_system_directory-clause-fails : goal.returns-then-begins_at_system_directory-clause-fails
returns-then-begins_at_system_directory-clause-fails g c = IfErr-weaker c.follow.result _ _
    (path_fails c.follow.new.view (OnNames c.args.view.now c.args.geo.now c.args.geo.now.sysdir c.behind.result.now) (OnPath c.args.view.now c.args.geo.now c.args.text.now) (only_none c.args.view.now) (λ Holds met v shows start names h.
    let of = of_system c.args.geo.now c.args.text.now c.behind.result.now start names (c.begins_at_system_directory.ensures.yes c.if-begins_at_system_directory.true) c.behind.ensures h in
    subst (λ (d : ℕ). OnTheWay Holds v d names) (sym of.0) (met v shows names of.1)))
    c.follow.ensures.fails

pub returns-clause-leads : goal.returns-clause-leads
returns-clause-leads g c = IfOk-weaker c.follow-2.result _ _
    (λ i leads v shows start names h.
    let of = of_root c.args.geo.now c.args.text.now c.behind-2.result.now start names (c.begins_at_system_directory.ensures.no c.if-begins_at_system_directory.false) c.behind-2.ensures h in
    subst (λ (d : ℕ). Leads v d names i) (sym of.0) (leads v shows names of.1))
    c.follow-2.ensures.leads

pub returns-clause-fails : goal.returns-clause-fails
returns-clause-fails g c = IfErr-weaker c.follow-2.result _ _
    (path_fails c.follow-2.new.view (OnNames c.args.view.now c.args.geo.now c.args.geo.now.root c.behind-2.result.now) (OnPath c.args.view.now c.args.geo.now c.args.text.now) (only_none c.args.view.now) (λ Holds met v shows start names h.
    let of = of_root c.args.geo.now c.args.text.now c.behind-2.result.now start names (c.begins_at_system_directory.ensures.no c.if-begins_at_system_directory.false) c.behind-2.ensures h in
    subst (λ (d : ℕ). OnTheWay Holds v d names) (sym of.0) (met v shows names of.1)))
    c.follow-2.ensures.fails
