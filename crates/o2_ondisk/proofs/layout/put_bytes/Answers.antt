use Rattle.std.proofs.Common.{arith, ap, ◌∙◌, length, List, ℕ, get_or}
use Rattle.o2_ondisk.specs.Number.{number_at}
use Rattle.o2_ondisk.specs.Fields.{put_at, numbers_at, bytes_at}
use Rattle.o2_ondisk.proofs.PasteLaws.{put_mid_pastes, bytes_at-paste_at, bytes_at-paste_at_apart, get_or-paste_at_outside}
use Rattle.o2_ondisk.proofs.TableLaws.{low_first, numbers_at-paste_at}
use Rattle.o2_ondisk.proofs.layout.put_bytes.Goals as goal

pub returns-clause-put : goal.returns-clause-put
returns-clause-put c = put_mid_pastes c.args.at _ c.args.block.now c.copy_from_slice.new.self c.args.new.now (omega arith) c.copy_from_slice.ensures.after

pub returns-clause-back : goal.returns-clause-back
returns-clause-back c = ap (bytes_at c.args.at (length c.args.new.now)) (returns-clause-put c) ∙ bytes_at-paste_at c.args.at c.args.new.now c.args.block.now c.requires

pub returns-clause-numbers : goal.returns-clause-numbers
returns-clause-numbers c fields apart = ap (numbers_at fields) (returns-clause-put c) ∙ numbers_at-paste_at number_at put_at low_first c.args.at c.args.new.now c.args.block.now c.requires fields apart

pub returns-clause-others : goal.returns-clause-others
returns-clause-others c from count side = ap (bytes_at from count) (returns-clause-put c) ∙ bytes_at-paste_at_apart c.args.at c.args.new.now c.args.block.now c.requires from count side

pub returns-clause-alone : goal.returns-clause-alone
returns-clause-alone c i out = ap (λ (l : List ℕ). get_or l i 0) (returns-clause-put c) ∙ get_or-paste_at_outside c.args.at c.args.new.now c.args.block.now c.requires i out
