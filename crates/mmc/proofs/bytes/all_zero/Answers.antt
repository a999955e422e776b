use Rattle.std.proofs.Common.{◌∙◌, nat_eq, List, ℕ, ap, arith}
use Rattle.std.specs.List.{list_all}
use lib.Seq.{take_all}
use Rattle.basics.proofs.Bytes.{all_zero_is}
use Rattle.mmc.proofs.bytes.all_zero.Goals as goal

pub returns : goal.returns
returns c =
    c.loop-x.invariant
    ∙ ap (λ (s : List ℕ). list_all (λ x. nat_eq x 0) s) (take_all c.loop-x.x-index c.args.s.now (omega arith))
    ∙ all_zero_is c.args.s.now
