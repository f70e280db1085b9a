-- A block out of range is no group, nor is one that was looked at or counts as walked.
use Rattle.std.proofs.Common.{◌≡◌, Bool, true, false, refl, sym, ◌∙◌, arith}
use Rattle.std.specs.Prelude.{not}
use Rattle.std.proofs.lemmas.Bool.Decides.{nat_tests}
use Rattle.o2_chain.proofs.GoodGroups.{out_of_range, start_bad}
use Rattle.o2_chain.proofs.good.may_look.Goals.{then-b-eq0-via-then-b-eq0, then-b-eq0-via-else-b-eq0+then-volume_blocks-b}
use Rattle.o2_chain.proofs.good.may_look.Goals as goal

pub returns-then-b-eq0-clause-bad : goal.returns-then-b-eq0-clause-bad
returns-then-b-eq0-clause-bad c unmet v same a before w h = elim c.then-b-eq0.branch [
  | then-b-eq0-via-then-b-eq0 w2 ↦ out_of_range v a w.groups c.args.b (let none = w2.if-b-eq0.true in grind (arith, nat_tests, none))
  | then-b-eq0-via-else-b-eq0+then-volume_blocks-b w2 ↦
      let far = w2.if-volume_blocks-b.true in
      let blocks = w2.volume_blocks.ensures.blocks in
      out_of_range v a w.groups c.args.b (rw same (grind (arith, nat_tests, far, blocks)))
]

pub returns-clause-bad : goal.returns-clause-bad
returns-clause-bad c start v same a before w h = start_bad v a before c.args.walked.now w h c.args.b (sym c.has-2.ensures ∙ is_set c.has-2.result start)
  where
    is_set : (x : Bool) → not x ≡ false → x ≡ true
    is_set true h = refl
    is_set false h = sym h
