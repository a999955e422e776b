use Rattle.std.proofs.Common.{◌≡◌, ◌∙◌, rules, sum}
use Rattle.basics.proofs.Bytes.{total_is}
use Rattle.mmc.proofs.bytes.byte_sum.Goals as goal

pub returns : goal.returns
returns c = let e : c.sum.result ≡ sum c.args.s.now = search rules in e ∙ total_is c.args.s.now
