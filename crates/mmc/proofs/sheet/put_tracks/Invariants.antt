use Rattle.mmc.proofs.sheet.Entries.{Putting}
use Rattle.mmc.proofs.sheet.put_tracks.Given as goal

abbrev pub invariant-loop-i : goal.invariant-loop-i
invariant-loop-i l = Putting l.kind l.tracks l.initial.out l.out l.at l.i
