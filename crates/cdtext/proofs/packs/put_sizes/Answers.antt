use native.Mathlib.Omega.{arith}
use Rattle.cdtext.proofs.packs.Texts.{no_sizes, more_sizes, all_sizes}
use Rattle.cdtext.proofs.packs.put_sizes.Goals as goal

pub loop-i-init : goal.loop-i-init
loop-i-init c = no_sizes c.size_record-sizes.result c.args.out.now c.args.n

pub loop-i-preserved : goal.loop-i-preserved
loop-i-preserved c =
    let v = c.loop-i in
    more_sizes c.size_record-sizes.result c.args.out.now v.out c.put_pack.new.out c.size_pack.result c.args.n v.i v.invariant c.size_pack.ensures c.put_pack.ensures

pub returns : goal.returns
returns c =
    let v = c.loop-i in
    all_sizes c.size_record-sizes.result _ c.args.out.now v.out c.args.n v.i (omega arith) (omega arith) c.size_record-sizes.ensures v.invariant
