use Rattle.std.proofs.Common.{◌≡◌, ◌++◌, ◌-◌, replicate}
use Rattle.mmc.specs.Order.{most_tracks}
use Rattle.mmc.specs.Sheet.{lengths_in, no_length}
use Rattle.mmc.proofs.sheet.lengths_in.Given as goal

abbrev pub invariant-loop-i : goal.invariant-loop-i
invariant-loop-i l = l.lengths ≡ lengths_in l.i l.b ++ replicate (most_tracks - l.i) no_length
