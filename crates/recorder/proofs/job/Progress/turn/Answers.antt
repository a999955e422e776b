use Prim.Native.Nat.{◌<◌, ◌^◌}
use Rattle.recorder.proofs.job.Laws.{seen_by}
use borrow.Author.Rules.{rules}
use Rattle.recorder.proofs.job.Progress.turn.Goals as goal

pub see_reply-seen-requires-clause-v_bound : goal.see_reply-seen-requires-clause-v_bound
see_reply-seen-requires-clause-v_bound c =
    let a = c.args in
    let fits : a.self.seen.at.0 < 2 ^ 32 = search rules in
    seen_by a.o.now a.self a.reading c.in_ok-verdict.verdict c.due-op.ensures fits c.requires.passes c.in_ok-verdict.ensures
