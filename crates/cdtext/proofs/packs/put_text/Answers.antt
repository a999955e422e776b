use Prim.Native.Nat.{◌+◌, ◌-◌, ◌*◌}
use native.Mathlib.Omega.{arith}
use Rattle.cdtext.proofs.packs.Reading.{gathering_start, gathering_next, gathering_end}
use Rattle.cdtext.proofs.packs.put_text.Goals as goal

pub loop-k-init : goal.loop-k-init
loop-k-init c =
    let a = c.args in
    gathering_start a.b.now a.n a.text.now c.requires.0 c.requires.1

pub loop-k-preserved : goal.loop-k-preserved
loop-k-preserved c =
    let a = c.args in
    let v = c.loop-k in
    let k = v.k in
    gathering_next a.b.now a.n a.text.now v.text k v.invariant (omega arith) (18 * k + 4 + 12 - (18 * k + 4)) (12 * k + 12 - 12 * k) (omega arith) (omega arith) c.copy_from_slice.new.self c.copy_from_slice.ensures.after

pub shape_of-text : goal.shape_of-text
shape_of-text c = c.loop-k.invariant.long

pub returns : goal.returns
returns c =
    let a = c.args in
    let v = c.loop-k in
    gathering_end a.b.now a.n a.text.now v.text v.k v.invariant (omega arith)
