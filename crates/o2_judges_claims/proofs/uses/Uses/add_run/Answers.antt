-- One cluster more.
use Rattle.std.proofs.Common.{◌≡◌, ◌+◌, ◌++◌, map, subst, sym, ◌∙◌, ap, arith}
use Rattle.std.specs.List.{range_with_len}
use Rattle.std.proofs.lemmas.List.{append-nil}
use Rattle.o2_judges_claims.specs.Uses.{AreUses, use_at}
use Rattle.o2_model.specs.Words.{push}
use Rattle.o2_judges_claims.proofs.Lists.{one_more}
use Rattle.o2_judges_claims.proofs.uses.Uses.add_run.Goals as goal

pub loop-k-init : goal.loop-k-init
loop-k-init c = λ us are. subst (λ ws. AreUses ws c.args.self.now) (sym (append-nil us)) are

pub loop-k-preserved : goal.loop-k-preserved
loop-k-preserved c = λ us are.
    let front = us ++ map (use_at c.args.by c.args.run) (range_with_len 0 c.loop-k.k) in
    let here : 0 + c.loop-k.k ≡ c.loop-k.k = omega arith in
    subst (λ ws. AreUses ws c.add.new.self) (ap (push front) (c.use_at-one.ensures ∙ ap (use_at c.args.by c.args.run) (sym here)) ∙ one_more (use_at c.args.by c.args.run) 0 c.loop-k.k us)
    (c.in_ok-add.ensures front (c.loop-k.invariant us are))
