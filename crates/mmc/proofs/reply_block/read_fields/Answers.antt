use Rattle.std.proofs.Common.{arith}
use Rattle.std.proofs.lemmas.Grind.{common_steps}
use Rattle.std.proofs.lemmas.Bool.Decides.{nat_tests}
use Rattle.basics.specs.Bytes.{part_of}
use Rattle.mmc.specs.ReplyBlock.{reply_ok, reply_in}
use Rattle.mmc.proofs.reply_block.read_fields.Goals as goal

pub returns-then-b-ne2 : goal.returns-then-b-ne2
unfolding reply_ok
returns-then-b-ne2 c = grind (arith, common_steps, nat_tests)

pub returns-in-0 : goal.returns-in-0
unfolding reply_ok reply_in part_of
returns-in-0 c = grind (arith, common_steps, nat_tests)

pub returns-in-1 : goal.returns-in-1
unfolding reply_ok reply_in part_of
returns-in-1 c = grind (arith, common_steps, nat_tests)

pub returns-in_default : goal.returns-in_default
unfolding reply_ok
returns-in_default c = grind (arith, common_steps, nat_tests)
