use mathlib.Core.Path.{◌≡◌, refl, ap, ◌∙◌}
use mathlib.Core.Bool.{true}
use mathlib.Core.List.{List, [], ◌∷◌}
use Prim.Native.Nat.{ℕ}
use native.Mathlib.Omega.{arith}
use lib.ListN.{take}
use Rattle.std.specs.Prelude.{Ok, Err, is_ok}
use Rattle.print.specs.Run.{Stage, Read, Sent, read_on, sent_at, after_reads, stage_in, Sends}
use Rattle.print.specs.declared.run.Run.{Run}
use Rattle.print.proofs.Bench.{example_texts}
use Rattle.print.proofs.finish.Goals as goal

-- what was sent stands where its run does
sent_is : (next : Run) (o : Sent) (buffer : List ℕ) → Sends next o → o ≡ sent_at (stage_in next buffer) (is_ok o)
sent_is next (Ok r) buffer f = rw (← f.state, ← f.waiting, ← f.used) refl
sent_is next (Err lost) buffer f = rw (← f.state, ← f.waiting, ← f.used) refl

-- a read more, where the program reads on, and its text written
one_more :
    (first sent : Sent) (run next : Run) (o : Sent) (reads : List Read) (s buffer : List ℕ) →
    sent ≡ after_reads first reads → sent ≡ Ok run → run.waiting ≡ true →
    stage_in next buffer ≡ read_on run.state s → Sends next o →
    o ≡ after_reads first (record { bytes = s; out = is_ok o } ∷ reads)
unfolding after_reads
one_more first sent run next o reads s buffer e k w h f =
    sent_is next o buffer f ∙ ap (λ (g : Stage). sent_at g (is_ok o)) h ∙ rw (← e, k, w) refl

pub loop-init : goal.loop-init
unfolding after_reads
loop-init c = (c.requires.0, ([], refl, refl))

pub loop-preserved : goal.loop-preserved
loop-preserved c =
    let i = c.loop.invariant in
    let r = i.1 in
    let next = c.go_on-next in
    let sent = c.flush-sent in
    let on = c.in-Some.ensures in
    let read = take c.read_blocks-n.result c.read_blocks-n.new.input in (
      sent.ensures.used,
      (
        record { bytes = read; out = is_ok sent.result } ∷ r.0,
        one_more c.args.first c.loop.sent c.in-Some.run' next.result sent.result r.0 read next.new.text
            r.1 on.0 on.1 next.ensures.reaches.stage sent.ensures,
        omega arith,
      ),
    )

pub returns-in_default : goal.returns-in_default
returns-in_default c =
    let r = c.loop.invariant.1 in
    (record { reads = r.0; sent = r.1; ended = λ h. c.in_default.ensures }, example_texts)

pub returns-after-loop : goal.returns-after-loop
returns-after-loop c =
    let r = c.loop.invariant.1 in
    (record { reads = r.0; sent = r.1; ended = λ h. absurd (omega arith) }, example_texts)
