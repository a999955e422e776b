use Rattle.std.proofs.Common.{arith}
use Rattle.mmc.proofs.sheet.Reading.{more_tracks}
use Rattle.mmc.proofs.sheet.tracks_for.Goals as goal

pub loop-i-preserved : goal.loop-i-preserved
loop-i-preserved c = more_tracks _ _ _ _ c.loop-i.invariant (omega arith) (omega arith)
