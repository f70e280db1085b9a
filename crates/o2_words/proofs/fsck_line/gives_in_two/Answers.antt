-- Four words.
use Rattle.std.proofs.Common.{◌≡◌, ◌⊎◌, List, ℕ, [], ◌∷◌, codes, sym, ◌∙◌, subst}
use Rattle.o2_words.specs.CommandLine.{IsFsckOf}
use Rattle.o2_words.proofs.FsckLines.{AreApart, in_two, of_four}
use Rattle.o2_words.proofs.fsck_line.gives_in_two.Goals as goal

pub returns : goal.returns
returns c =
    let tool = c.args.tool.now in
    let first = c.args.first.now in
    let second = c.args.second.now in
    let device = c.args.device.now in (
      λ is. (
          let stands = c.is_in_two.ensures.0 is in
          let apart : AreApart c.args.answer first second = subst (λ (w : List ℕ). ((first ≡ codes "-f") × (second ≡ w)) ⊎ ((first ≡ w) × (second ≡ codes "-f"))) c.name.ensures stands.1.0 in
          subst (λ (t : List ℕ). IsFsckOf c.args.answer (t ∷ first ∷ second ∷ device ∷ [])) (sym stands.0) (in_two c.args.answer first second device apart stands.1.1)),
      λ line. (
          let four = of_four c.args.answer tool first second device line in
          c.is_in_two.ensures.1 (four.0, (subst (λ (w : List ℕ). ((first ≡ codes "-f") × (second ≡ w)) ⊎ ((first ≡ w) × (second ≡ codes "-f"))) (sym c.name.ensures) four.1, four.2))),
    )
