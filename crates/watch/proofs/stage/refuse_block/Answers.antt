use native.Mathlib.Omega.{arith}
use mathlib.Core.Path.{refl}
use Rattle.watch.proofs.stage.Laws.{stands}
use Rattle.watch.proofs.stage.refuse_block.Goals as goal

pub returns : goal.returns
returns c =
    stands c.args.r c.refused_line-line.result refl c.unwrap_or.ensures c.refused_line-line.ensures (omega arith)
