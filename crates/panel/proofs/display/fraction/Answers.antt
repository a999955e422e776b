use Rattle.std.proofs.Common.{rules}
use lib.Ieee.{of_bits, of_int, round}
use Rattle.panel.proofs.Halving.{fraction_is}
use Rattle.panel.proofs.display.fraction.Goals as goal

pub returns : goal.returns
unfolding of_bits of_int round
returns c = fraction_is c.args.progress (search rules)
