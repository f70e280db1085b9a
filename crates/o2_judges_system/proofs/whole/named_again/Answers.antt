-- Numbers that come again are inodes that do.
use Rattle.std.proofs.Common.{◌==◌, List, map, not, filter, ◌∙◌, ap}
use Rattle.std.proofs.lemmas.Result.{IfOk-weaker}
use Rattle.o2_tally.specs.declared.again.Numbered.{Numbered}
use Rattle.o2_model.specs.declared.entry.Entry.{Entry}
use Rattle.o2_model.specs.Directories.{is_dot}
use Rattle.o2_model.specs.Orders.{later_like, rising}
use Rattle.o2_judges_system.proofs.Entries.{later_places}
use Rattle.o2_judges_system.proofs.whole.named_again.Goals as goal

abbrev numbered : Entry → Numbered
numbered e = record { number = e.inode; place = e.inode }

pub returns : goal.returns
returns c = IfOk-weaker c.later_numbers.result _ _
    (λ again told.
    told
    ∙ ap rising
    (ap (λ (xs : List Numbered). map (λ (x : Numbered). x.place) (later_like (λ (x y : Numbered). x.number == y.number) xs)) (c.as_slice.ensures.value ∙ c.in_ok-named.ensures)
    ∙ later_places numbered (λ (x : Numbered). x.place) (λ (x y : Numbered). x.number == y.number) (filter (λ e. not (is_dot e)) c.args.entries.now)))
    c.later_numbers.ensures.later
