use Rattle.std.proofs.Common.{arith, ◌≡◌, ◌/◌, ◌%◌}
use Rattle.mmc.specs.OrderBlock.{row}
use Rattle.basics.specs.Bytes.{bytes32}
use Rattle.mmc.proofs.order_block.row_of.Goals as goal

pub returns : goal.returns
unfolding row bytes32
returns c =
    let n = c.args.t.length.0 in
    let high : n / 16777216 % 256 ≡ n / 16777216 = omega arith in
    simp (c.into.ensures, c.to_be_bytes.ensures, high)
