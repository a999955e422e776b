use mathlib.Core.Path.{◌≡◌, ◌∙◌}
use Prim.Native.Nat.{◌+◌, ◌-◌, ◌*◌}
use native.Mathlib.Omega.{arith}
use Rattle.cdtext.specs.Packs.{size_pack}
use Rattle.cdtext.proofs.packs.size_pack.Goals as goal

pub returns : goal.returns
unfolding size_pack
returns c =
    let a = c.args in
    let e : 12 * a.i + 12 - 12 * a.i ≡ 12 = omega arith in
    c.pack_of.ensures ∙ rw e
