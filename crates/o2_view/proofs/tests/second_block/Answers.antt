-- With nothing planned the view shows the bare device.
use Rattle.std.proofs.Common.{◌∙◌, ◌^◌, ap}
use Rattle.std.proofs.lemmas.Result.{IfOk-weaker}
use Rattle.o2_disk.specs.Image.{block_at}
use Rattle.o2_model.specs.declared.geo.Geo.{Geo}
use Rattle.o2_view.proofs.Shown.{bare_volume}
use Rattle.o2_view.proofs.tests.second_block.Goals as goal

pub returns-clause-bytes : goal.returns-clause-bytes
returns-clause-bytes g c = IfOk-weaker c.block-block.result _ _
    (λ block shown I told.
    let geo : Geo = record { block_bits = 0; cluster_bits = 0; clusters = 0; slots = 0; root = 0; sysdir = 0; first_group = 0; generation = 0; compat = 0; incompat = 0; seed = record { first = 0; second = 0; third = 0 } } in
    shown geo _ (bare_volume c.in_ok-view.view geo I (ap (λ d. (g.D.Disk.state d).content) c.in_ok-view.ensures.disk ∙ told) c.in_ok-view.ensures.plan c.in_ok-view.ensures.closed)
    ∙ ap (λ bits. block_at (2 ^ bits) I 1) c.in_ok-view.ensures.bits)
    c.block-block.ensures.shown
