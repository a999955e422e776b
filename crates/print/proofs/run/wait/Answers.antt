use mathlib.Core.Path.{refl, ◌∙◌}
use native.Mathlib.Omega.{arith}
use lib.Seq.{take-append_seam}
use Rattle.print.proofs.run.Laws.{wrote, stage_of}
use Rattle.print.proofs.run.wait.Goals as goal

pub returns : goal.returns
returns c =
    let l = c.waiting_line-line in
    let e = wrote l.result l.ensures.0 c.requires in
    let n = c.unwrap_or.ensures ∙ e.0 in
    record {
      stage = stage_of c.args.state refl (rw (n, e.1) (take-append_seam _ _));
      room = omega (arith, l.ensures.0.short);
    }
