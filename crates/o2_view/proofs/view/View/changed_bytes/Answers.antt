-- Each piece of bytes of a plan is a block's.
use Rattle.std.proofs.Common.{◌≡◌, sym, ◌∙◌, subst, length, ◌^◌, Some}
use Rattle.std.specs.Prelude.{IfSome}
use Rattle.std.proofs.lemmas.Result.{IfOk-weaker}
use Rattle.o2_view.specs.Plans.{planned_at}
use Rattle.o2_view.proofs.PlannedBlocks.{whole_at}
use Rattle.o2_view.proofs.view.View.changed_bytes.Goals as goal

pub returns-in-Some-clause-length : goal.returns-in-Some-clause-length
returns-in-Some-clause-length g c =
    let size = 2 ^ c.args.self.now.block_bits in
    let is : Some c.in-Some.block ≡ planned_at size c.args.self.now.plan c.args.b = sym c.in-Some.is ∙ rw c.block_size-size.ensures at c.in_ok-block.ensures in
    subst (λ found. IfSome found (λ block. length block ≡ size)) (sym is) (whole_at size c.args.self.now.plan c.args.b c.args.self.now.whole)

pub returns-in-None-clause-length : goal.returns-in-None-clause-length
returns-in-None-clause-length g c =
    let size = 2 ^ c.args.self.now.block_bits in
    IfOk-weaker c.bytes_at-in-None.result _ _
    (λ found is. subst (λ found. IfSome found (λ block. length block ≡ size)) (sym (rw c.block_size-size.ensures at is)) (whole_at size c.args.self.now.closed c.args.b c.args.self.now.closed_whole))
    c.bytes_at-in-None.ensures
