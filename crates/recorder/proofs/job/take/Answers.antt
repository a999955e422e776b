use Rattle.recorder.proofs.Histories.{takes}
use Rattle.recorder.proofs.job.Laws.{taken, taken_not}
use Rattle.recorder.proofs.job.take.Goals as goal

pub returns-in-Ok : goal.returns-in-Ok
returns-in-Ok c =
    takes _ _ (taken _ c.in-Ok.order c.in-Ok.ensures.answer (rw c.opened.ensures at c.stepped.ensures))

pub returns-in-Err : goal.returns-in-Err
returns-in-Err c =
    takes _ _ (taken_not _ c.in-Err.refusal c.in-Err.ensures.answer (rw (c.opened-in-Err.ensures, c.no_order.ensures) at c.stepped-in-Err.ensures))
