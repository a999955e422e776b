use mathlib.Core.Path.{◌≡◌}
use Prim.Native.Nat.{◌+◌, ◌*◌}
use lib.Seq.{paste}
use Rattle.ascii.specs.Text.{parted}
use Rattle.ascii.proofs.put_hex.Given as goal

abbrev pub invariant-loop-byte : goal.invariant-loop-byte
invariant-loop-byte l = (l.end ≡ l.at + 3 * l.byte-index) × (l.out ≡ paste l.initial.out l.at (parted l.bytes) (3 * l.byte-index))
