use mathlib.Core.Path.{◌≡◌}
use Prim.Native.Nat.{◌<◌}
use lib.ListN.{drop}
use Rattle.cdtext.specs.Check.{remainder_from}
use Rattle.cdtext.proofs.check.check_of.Given as goal

abbrev pub invariant-loop-x : goal.invariant-loop-x
invariant-loop-x l = (l.r < 65536) × (remainder_from l.r (drop l.x-index l.b) ≡ remainder_from 0 l.b)
