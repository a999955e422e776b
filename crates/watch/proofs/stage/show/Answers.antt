use native.Mathlib.Omega.{arith}
use Rattle.watch.proofs.stage.Laws.{stands}
use Rattle.watch.proofs.stage.show.Goals as goal

pub returns : goal.returns
returns c =
    stands c.args.r c.shown_line-line.result (cc) c.unwrap_or.ensures c.shown_line-line.ensures (omega arith)
