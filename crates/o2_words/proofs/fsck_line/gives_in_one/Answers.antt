-- Three words.
use Rattle.std.proofs.Common.{List, ℕ, [], ◌∷◌, sym, subst}
use Rattle.o2_words.specs.CommandLine.{IsFsckOf}
use Rattle.o2_words.proofs.FsckLines.{in_one, of_three}
use Rattle.o2_words.proofs.fsck_line.gives_in_one.Goals as goal

pub returns : goal.returns
returns c =
    let tool = c.args.tool.now in
    let letters = c.args.letters.now in
    let device = c.args.device.now in (
      λ is. (let stands = c.is_in_one.ensures.0 is in subst (λ (t : List ℕ). IsFsckOf c.args.answer (t ∷ letters ∷ device ∷ [])) (sym stands.0) (in_one c.args.answer letters device stands.1.0 stands.1.1)),
      λ line. (let three = of_three c.args.answer tool letters device line in c.is_in_one.ensures.1 (three.0, (three.1, three.2))),
    )
