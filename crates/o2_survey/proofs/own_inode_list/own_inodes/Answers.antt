-- All entries were met.
use Rattle.std.proofs.Common.{◌∷◌, map, filter, not, ◌∙◌, ap, sym}
use Rattle.std.proofs.lemmas.List.{take_all}
use Rattle.o2_model.specs.Words.{among}
use Rattle.o2_model.specs.Directories.{is_dot}
use Rattle.o2_model.specs.declared.entry.Entry.{Entry}
use Rattle.o2_model.specs.declared.geo.Geo.{Geo}
use Rattle.o2_survey.proofs.OwnInodes.{all_own}
use Rattle.o2_survey.proofs.own_inode_list.own_inodes.Goals as goal

pub returns : goal.returns
returns c v numbers are b =
    c.loop-entry.invariant b
    ∙ (ap (λ es. among (c.args.geo.now.sysdir ∷ map (λ (e : Entry). e.inode) (filter (λ (e : Entry). not (is_dot e)) es)) b) (take_all c.loop-entry.entry-index c.args.entries.now c.loop-entry-test.false)
    ∙ all_own v c.args.geo.now.sysdir c.args.entries.now b (ap (λ (geo : Geo). geo.sysdir) (sym numbers)) are)
