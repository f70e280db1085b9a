-- The root is a valid directory, or not.
use Rattle.std.proofs.Common.{inl, refl, ap}
use Rattle.o2_skeleton.proofs.Skeletons.{root_holds, root_fails}
use Rattle.o2_skeleton.proofs.steps.judge_root.Goals as goal

pub returns-in_default-clause-fails : goal.returns-in_default-clause-fails
returns-in_default-clause-fails g c = record {
  own = inl refl;
  first = λ v shows. let none = rw c.in_default.is at c.in_ok-_root.ensures.none in inl (refl, root_fails v _ (ap (λ geo. geo.root) shows.numbers) (none v shows));
}

pub returns-clause-told : goal.returns-clause-told
returns-clause-told g c v shows =
    let some = rw c.in-Some.is at c.in_ok-_root.ensures.some in
    root_holds v _ (ap (λ geo. geo.root) shows.numbers) (some v shows).0
