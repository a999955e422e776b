-- The frames to an address of four bytes.
use Prim.Native.Nat.{◌<◌, ◌^◌}
use native.Mathlib.Omega.{arith}
use mathlib.Core.Path.{◌≡◌, refl}
use lib.IntN.{pos, ◌+ℤ◌}
use Rattle.mmc.specs.Times.{frames_to}
use Rattle.mmc.specs.declared.units.BlockAddress.{BlockAddress}
use Rattle.recorder.specs.Replies.{Unsigned}

pub frames : (a : BlockAddress) → Unsigned a → (a.0 +ℤ pos 150 ≡ pos (frames_to a).0) × ((frames_to a).0 < 2 ^ 33)
unfolding frames_to
frames a h = let small = h.1.1 in rw h.1.0 (refl, omega (arith, small))
