use mathlib.Core.Path.{refl}
use Prim.Native.Nat.{◌+◌, ◌-◌, ◌≤◌}
use native.Mathlib.Omega.{arith}
use lib.ListN.{length}
use Rattle.basics.proofs.Bytes.{part_is}
use Rattle.ascii.proofs.Laws.{fitting, unfitting}
use Rattle.ascii.proofs.add.Goals as goal

pub returns-then-out-at : goal.returns-then-out-at
returns-then-out-at c = let a = c.args in unfitting a.text.now a.out.now a.at (omega arith)

pub returns : goal.returns
returns c =
    let a = c.args in
    let h : a.at + length a.text.now ≤ length a.out.now = omega arith in
    fitting a.text.now a.out.now a.at h refl (rw c.copy_from_slice.ensures.after (part_is a.out.now a.text.now a.at (a.at + length a.text.now - a.at) (omega arith)))
