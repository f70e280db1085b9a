-- A record that is added lies within the volume.
use Rattle.std.proofs.Common.{◌≡◌, ◌==◌, ne_eqb, true, false, refl, sym, ◌∙◌, subst}
use Rattle.std.proofs.lemmas.List.Elements.{All-push}
use Rattle.o2_model.specs.Extents.{leaf_of, leaf_clusters, may_follow, with_leaf}
use Rattle.o2_extent.specs.Readings.{IsWithin, Within}
use Rattle.o2_extent.specs.Rules.{rule_of}
use Rattle.o2_extent.proofs.tree.read_leaf.Goals as goal

pub returns-clause-within : goal.returns-clause-within
returns-clause-within c clusters h =
    subst (Within c.args.geo.now) (sym c.in_ok-add_leaf.ensures.leaves)
    (All-push (IsWithin c.args.geo.now) c.args.reading.now.leaves.items (leaf_of c.args.r.now) h
    (c.allows.ensures.within c.if-not-allows.false clusters))

pub returns-clause-good : goal.returns-clause-good
returns-clause-good c good v numbers t k =
    let some : (leaf_clusters c.args.r.now == 0) ≡ false = ne_eqb (leaf_clusters c.args.r.now) 0 (λ none. c.if-leaf_clusters-eq0.false (c.leaf_clusters.ensures ∙ none)) in
    let follows : may_follow v (rule_of c.args.rule) t.leaves (leaf_of c.args.r.now) ≡ true = sym (c.allows.ensures.follows v numbers t.leaves k.end) ∙ c.if-not-allows.false in
    record { now = with_leaf t (leaf_of c.args.r.now); keeps = c.in_ok-add_leaf.ensures.added v t k; gives = λ holder low rs. rw (some, follows) refl }
