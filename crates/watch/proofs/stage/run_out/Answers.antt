use native.Mathlib.Omega.{arith}
use mathlib.Core.Path.{refl}
use Rattle.watch.proofs.stage.Laws.{stands}
use Rattle.watch.proofs.stage.run_out.Goals as goal

pub returns : goal.returns
returns c =
    stands c.args.r c.waiting_line-line.result refl c.unwrap_or.ensures c.waiting_line-line.ensures.0 (omega arith)
