use Rattle.std.proofs.Common.{◌≡◌, length, rules}
use Rattle.basics.proofs.Lists.{mapped_length}
use Rattle.mmc.proofs.order_block.Rows.{body_steps}
use Rattle.mmc.proofs.order_block.put_body.Goals as goal

pub returns : goal.returns
returns c =
    let sized : length c.args.o.now.tracks ≡ 99 = search (rules, mapped_length) in
    body_steps c.args.o.now sized c.args.out.now c.into.ensures c.flags.ensures c.into-2.ensures c.put.ensures c.put_rows.ensures c.put-2.ensures
