use Prim.Native.Nat.{◌<◌, ◌^◌}
use native.Mathlib.Omega.{arith}
use mir.Syntax.{w64}
use mir.Facts.{to_z_pos}
use borrow.Author.Rules.{rules}
use Rattle.recorder.proofs.replies.information_of.Goals as goal

pub returns-clause-unsigned : goal.returns-clause-unsigned
returns-clause-unsigned c =
    let small : c.number32.result < 2 ^ 32 = search rules in
    (c.number32.result, (to_z_pos w64 (omega (arith, small)), small))
