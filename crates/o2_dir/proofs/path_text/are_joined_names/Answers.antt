-- What the loop found, at its end and where a name is missing.
use Rattle.std.proofs.Common.{sym, ◌∙◌, arith}
use Rattle.o2_dir.proofs.PathNames.{are_joined, joined_go_on, no_names, at_end}
use Rattle.o2_dir.proofs.path_text.are_joined_names.Goals as goal

pub returns-then-is_name_due : goal.returns-then-is_name_due
returns-then-is_name_due c = (
  λ is. absurd (let none : ⊥ = cc is in none),
  λ joined. absurd (no_names c.args.text.now c.loop-byte.byte-index c.loop-byte.is_name_due c.loop-byte-test.true c.if-byte-eq47.true c.if-is_name_due.true c.loop-byte.invariant joined),
)

pub returns : goal.returns
returns c =
    let ended = at_end c.args.text.now c.loop-byte.byte-index c.loop-byte.is_name_due (omega (arith, c.loop-byte-test.false)) c.loop-byte.invariant in
    (λ is. are_joined c.args.text.now (ended ∙ is), λ joined. sym ended ∙ joined_go_on c.args.text.now joined)
