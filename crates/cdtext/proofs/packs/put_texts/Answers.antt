use native.Mathlib.Omega.{arith}
use Rattle.cdtext.proofs.packs.Putting.{putting_start, putting_next, putting_end}
use Rattle.cdtext.proofs.packs.put_texts.Goals as goal

pub loop-k-init : goal.loop-k-init
loop-k-init c =
    let a = c.args in
    putting_start a.run.now a.n a.out.now c.requires.0 c.requires.1

pub loop-k-preserved : goal.loop-k-preserved
loop-k-preserved c =
    let a = c.args in
    let v = c.loop-k in
    putting_next a.run.now a.n a.out.now v.out v.place v.k v.invariant (omega arith) c.min.result c.position.result c.min.ensures c.position.ensures c.pack_of.result c.put_pack.new.out c.pack_of.ensures c.put_pack.ensures c.put_pack.auto.out c.after-place.result c.after-place.ensures

pub shape_of-out : goal.shape_of-out
shape_of-out c = c.loop-k.invariant.long

pub returns : goal.returns
returns c =
    let a = c.args in
    let v = c.loop-k in
    putting_end a.run.now a.n a.out.now v.out v.place v.k v.invariant (omega arith)
