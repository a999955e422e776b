use mathlib.Core.Path.{◌≡◌, sym, ◌∙◌}
use Rattle.mmc.specs.ReplyBlock.{Reply, reply_said}
use Rattle.recorder.specs.Replies.{reading}
use Rattle.recorder.specs.Job.{due_in}
use Rattle.recorder.proofs.Histories.{gives}
use Rattle.recorder.proofs.job.Laws.{for_track, has_ended, fails, goes_on}
use Rattle.recorder.proofs.job.Recorder.give.Goals as goal

pub returns-then-rests : goal.returns-then-rests
returns-then-rests c =
    let r = c.args.self in
    let y : Reply = reply_said c.args.reply in
    gives r y.good y.bytes _ (has_ended r y.good y.bytes (sym c.rests.ensures ∙ c.if-rests.true) c.answered.ensures)

pub returns-then-not-stands : goal.returns-then-not-stands
returns-then-not-stands c =
    let r = c.args.self in
    let y : Reply = reply_said c.args.reply in
    gives r y.good y.bytes _ (fails r y.good y.bytes (sym c.rests.ensures ∙ c.if-rests.false) (sym c.stands.ensures ∙ c.if-not-stands.true) c.answered-then-not-stands.ensures)

pub turn-requires : goal.turn-requires
turn-requires c =
    let r = c.args.self in
    let y : Reply = reply_said c.args.reply in
    let stood = sym c.stands.ensures ∙ c.if-not-stands.false in
    let read : c.read_reply-reading.result ≡ reading (due_in r.progress) y = rw c.due.ensures at c.read_reply-reading.ensures.0 in
    record { passes = stood; unsigned = c.read_reply-reading.ensures.1; for_track = rw read (for_track r.order r.progress y.good y.bytes stood) }

pub returns : goal.returns
returns c =
    let r = c.args.self in
    let y : Reply = reply_said c.args.reply in
    let read : c.read_reply-reading.result ≡ reading (due_in r.progress) y = rw c.due.ensures at c.read_reply-reading.ensures.0 in
    gives r y.good y.bytes _ (goes_on r y.good y.bytes (sym c.rests.ensures ∙ c.if-rests.false) (sym c.stands.ensures ∙ c.if-not-stands.false) (rw (c.turn.ensures, read) at c.stepped.ensures))
