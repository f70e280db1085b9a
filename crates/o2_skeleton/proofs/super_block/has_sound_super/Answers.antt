-- The numbers, and then the dinode.
use Rattle.std.proofs.Common.{sym, ◌∙◌}
use Rattle.std.proofs.lemmas.Result.{IfOk-weaker}
use Rattle.o2_skeleton.proofs.Supers.{bad_numbers, good_numbers}
use Rattle.o2_skeleton.proofs.super_block.has_sound_super.Goals as goal

pub returns-then-not-are_sound_numbers-clause-is : goal.returns-then-not-are_sound_numbers-clause-is
returns-then-not-are_sound_numbers-clause-is g c v shows =
    sym (bad_numbers v (sym (c.are_sound_numbers.ensures.told v shows.numbers (c.blocks-2.ensures ∙ c.requires.device v shows)) ∙ c.if-not-are_sound_numbers.true))

pub returns-clause-is : goal.returns-clause-is
returns-clause-is g c = IfOk-weaker c.is_super_dinode.result _ _
    (λ is decides v shows.
    decides v shows
    ∙ sym (good_numbers v (sym (c.are_sound_numbers.ensures.told v shows.numbers (c.blocks-2.ensures ∙ c.requires.device v shows)) ∙ c.if-not-are_sound_numbers.false)))
    c.is_super_dinode.ensures.is
