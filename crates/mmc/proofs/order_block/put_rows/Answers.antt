use Rattle.std.proofs.Common.{◌≡◌, ◌∙◌, arith, rules, length}
use Rattle.basics.proofs.Lists.{mapped_length}
use Rattle.mmc.specs.Order.{no_track}
use Rattle.mmc.proofs.order_block.Rows.{rows_start, rows_next, rows_end}
use Rattle.mmc.proofs.order_block.put_rows.Goals as goal

pub loop-i-init : goal.loop-i-init
loop-i-init c = rows_start c.args.o.now.tracks c.args.out.now

pub loop-i-preserved : goal.loop-i-preserved
loop-i-preserved c =
    let ts = c.args.o.now.tracks in
    let sized : length ts ≡ 99 = search (rules, mapped_length) in
    rows_next no_track c.loop-i.i ts c.args.out.now (omega arith) (omega arith)
    c.row_of.ensures c.loop-i.invariant c.put.ensures

pub returns : goal.returns
returns c =
    let ts = c.args.o.now.tracks in
    let sized : length ts ≡ 99 = search (rules, mapped_length) in
    c.loop-i.invariant ∙ rows_end c.loop-i.i ts c.args.out.now sized (omega arith)
