-- The lines of what was read are the inode's.
use Rattle.std.proofs.Common.{◌∙◌}
use Rattle.std.proofs.lemmas.Result.{IfOk-weaker}
use Rattle.o2_debug.proofs.TextLemmas.{stat_is}
use Rattle.o2_debug.proofs.text.stat_lines.Goals as goal

pub returns : goal.returns
returns c = IfOk-weaker c.told_lines.result _ _
    (λ lines is v tells. stat_is v c.args.reading.now.inode c.args.reading.now.dinode c.as_slice.result.now lines tells.dinode (c.as_slice.ensures ∙ tells.read.are) is)
    c.told_lines.ensures
