-- The three parts.
use Rattle.std.proofs.Common.{◌++◌, List, ℕ, ◌∙◌, ap}
use Rattle.o2_judges_system.proofs.Entries.{sysfile_parts}
use Rattle.o2_judges_system.proofs.whole.sysfile.Goals as goal

pub returns : goal.returns
returns c v numbers entries names inodes bits =
    sysfile_parts v c.args.entries.now c.in_ok-found.found.items c.in_ok-bad.bad.items c.in_ok-again.again.items c.add_all-2.new.found.items entries
    (c.in_ok-found.ensures v numbers names bits) (c.in_ok-bad.ensures v numbers inodes bits) c.in_ok-again.ensures
    (c.in_ok-add_all-2.ensures ∙ (ap (λ (bs : List ℕ). bs ++ c.as_slice-2.result.now) (c.in_ok-add_all.ensures ∙ ap (λ (bs : List ℕ). c.in_ok-found.found.items ++ bs) c.as_slice.ensures.value) ∙ ap (λ (bs : List ℕ). (c.in_ok-found.found.items ++ c.in_ok-bad.bad.items) ++ bs) c.as_slice-2.ensures.value))
