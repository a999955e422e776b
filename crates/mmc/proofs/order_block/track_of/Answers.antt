use Rattle.basics.proofs.Lists.{rest}
use Rattle.mmc.specs.OrderBlock.{kinds_ok, track_of}
use Rattle.mmc.proofs.order_block.Listed.{was_listed, left}
use Rattle.mmc.proofs.order_block.track_of.Goals as goal

pub returns-in_err-try_from : goal.returns-in_err-try_from
unfolding kinds_ok
returns-in_err-try_from c = left _ _ c.from_residual.ensures.1 c.in_err-try_from.ensures (λ f. simp f)

pub returns : goal.returns
unfolding kinds_ok track_of
returns c =
    let w = was_listed _ _ _ c.in_ok-try_from.ensures in
    simp (c.number32.ensures, rest, w.0, w.1)
