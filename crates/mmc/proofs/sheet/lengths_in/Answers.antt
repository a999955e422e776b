use Rattle.std.proofs.Common.{ap, arith, ◌∙◌, ◌*◌}
use Rattle.basics.proofs.Lists.{rest}
use Rattle.mmc.specs.Sheet.{length_in}
use Rattle.mmc.proofs.sheet.Reading.{more_lengths}
use Rattle.mmc.proofs.sheet.lengths_in.Goals as goal

pub loop-i-preserved : goal.loop-i-preserved
loop-i-preserved c =
    let e = ap length_in (rest c.args.b.now (8 * c.loop-i.i)) in
    more_lengths _ _ _ _ c.loop-i.invariant (omega arith) (c.length_in.ensures ∙ e)
