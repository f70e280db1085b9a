-- The entry that was found is the step's.
use Rattle.std.proofs.Common.{inr, refl, sym, ◌∙◌}
use Rattle.o2_view.proofs.Shown.{still_shows}
use Rattle.o2_dir.proofs.Faults.{step_fails}
use Rattle.o2_dir.proofs.path_step.step.Goals as goal

-- of the directory
pub returns-in_err-entry-clause-fails : goal.returns-in_err-entry-clause-fails
returns-in_err-entry-clause-fails g c =
    let yes = rw c.in-Some.is at c.in_ok-block.ensures.yes in
    let holds = rw c.in-Some.is at c.in_ok-block.ensures.holds in
    step_fails c.from_residual-in_err-entry.result c.look_up_in.new.view c.args.geo.now c.args.inode c.args.name.now c.directory_block.ensures.reads
    (λ v shows. record { shows = still_shows c.directory_block.ensures.reads shows; is = c.as_slice.ensures ∙ holds v shows }) yes c.in_err-entry.field-0.0 c.in_err-entry.ensures.fails c.from_residual-in_err-entry.ensures.1

-- the entry is in hand
pub returns-then-not-branch-clause-fails : goal.returns-then-not-branch-clause-fails
returns-then-not-branch-clause-fails g c = (
  inr (inr (inr refl)),
  λ v shows.
      let looked = still_shows c.directory_block.ensures.reads shows in
      let yes = rw c.in-Some.is at c.in_ok-block.ensures.yes in
      let holds = rw c.in-Some.is at c.in_ok-block.ensures.holds in
      let told = c.in_ok-entry.ensures.told v (record { shows = looked; is = c.as_slice.ensures ∙ holds v shows }) in
      inr (
        refl,
        record {
          directory = yes v shows;
          sound = told.0;
          entry = c.in_ok-entry.entry;
          first = told.1;
          invalid = sym (c.in_ok-is_valid_at.ensures.is v (still_shows c.look_up_in.ensures.reads looked)) ∙ c.if-not-branch.true;
          place = refl;
        },
      ),
)

pub returns-clause-to : goal.returns-clause-to
returns-clause-to g c v shows =
    let looked = still_shows c.directory_block.ensures.reads shows in
    let yes = rw c.in-Some.is at c.in_ok-block.ensures.yes in
    let holds = rw c.in-Some.is at c.in_ok-block.ensures.holds in
    let told = c.in_ok-entry.ensures.told v (record { shows = looked; is = c.as_slice.ensures ∙ holds v shows }) in (
      c.in_ok-entry.entry,
      record {
        directory = yes v shows;
        sound = told.0;
        first = told.1;
        valid = sym (c.in_ok-is_valid_at.ensures.is v (still_shows c.look_up_in.ensures.reads looked)) ∙ c.if-not-branch.false;
      },
      refl,
    )
