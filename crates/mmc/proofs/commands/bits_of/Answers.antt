use Prim.Native.Nat.{◌<◌, ◌^◌, ◌%◌}
use native.Mathlib.Omega.{arith}
use mathlib.Core.Path.{◌≡◌}
use lib.IntN.{pos, ◌+ℤ◌}
use mir.Syntax.{w64}
use mir.Val.{to_z, of_z}
use Rattle.mmc.specs.Commands.{twos}
use Rattle.basics.proofs.Signed.{sum_fits, sum_is}
use Rattle.mmc.proofs.times.Signed.{raised, raise}
use Rattle.mmc.specs.declared.units.BlockAddress.{BlockAddress}
use borrow.Author.Rules.{rules}
use Rattle.mmc.proofs.commands.bits_of.Goals as goal

pub overflow_add-result : goal.overflow_add-result
overflow_add-result c =
    let A : BlockAddress = c.args.a in
    let here : (A.0 +ℤ pos 4294967296 ≡ pos (raised A.0)) × (raised A.0 < 2 ^ 33) × (raised A.0 % 4294967296 ≡ twos A.0) = raise A c.requires in
    sum_fits A.0 4294967296 (raised A.0) (search rules) here.0 (omega (arith, here.1))

pub overflow_cast-result : goal.overflow_cast-result
overflow_cast-result c =
    let A : BlockAddress = c.args.a in
    let here : (A.0 +ℤ pos 4294967296 ≡ pos (raised A.0)) × (raised A.0 < 2 ^ 33) × (raised A.0 % 4294967296 ≡ twos A.0) = raise A c.requires in
    let back : to_z w64 (of_z w64 (to_z w64 (of_z w64 A.0) +ℤ pos 4294967296)) ≡ pos (raised A.0) = sum_is A.0 4294967296 (raised A.0) (search rules) here.0 (omega (arith, here.1)) in
    rw back (tt, record { fits = omega (arith, here.1) })

pub returns : goal.returns
returns c =
    let A : BlockAddress = c.args.a in
    let here : (A.0 +ℤ pos 4294967296 ≡ pos (raised A.0)) × (raised A.0 < 2 ^ 33) × (raised A.0 % 4294967296 ≡ twos A.0) = raise A c.requires in
    let back : to_z w64 (of_z w64 (to_z w64 (of_z w64 A.0) +ℤ pos 4294967296)) ≡ pos (raised A.0) = sum_is A.0 4294967296 (raised A.0) (search rules) here.0 (omega (arith, here.1)) in
    rw back here.2
