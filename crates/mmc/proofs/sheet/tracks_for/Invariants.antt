use Rattle.std.proofs.Common.{◌≡◌, ◌++◌, ◌-◌, map, take, replicate}
use Rattle.mmc.specs.Order.{most_tracks, no_track}
use Rattle.mmc.specs.Sheet.{track_for}
use Rattle.mmc.proofs.sheet.tracks_for.Given as goal

abbrev pub invariant-loop-i : goal.invariant-loop-i
invariant-loop-i l = l.tracks ≡ map (track_for l.kind) (take l.i l.lengths) ++ replicate (most_tracks - l.i) no_track
