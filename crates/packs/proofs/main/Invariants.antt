use mathlib.Core.Path.{◌≡◌}
use Prim.Native.Nat.{◌+◌}
use lib.ListN.{length}
use Rattle.packs.specs.Requests.{most_room, most_size}
use Rattle.packs.proofs.main.Given as goal

-- The program ends: the measure is the number of turns that are left. From turn to turn the two spaces keep their lengths.
abbrev pub invariant-loop-turns : goal.invariant-loop-turns
invariant-loop-turns l = (length l.payload ≡ most_size) × (length l.out ≡ 3 + most_room)

abbrev pub decreases-loop-turns : goal.decreases-loop-turns
decreases-loop-turns l = l.turns
