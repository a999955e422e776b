use mathlib.Core.Path.{refl}
use mathlib.Core.List.{[], ◌∷◌}
use native.Mathlib.Omega.{arith}
use lib.ListN.{take}
use Rattle.std.specs.Prelude.{is_ok}
use Rattle.watch.specs.Watch.{after_reads, written_in}
use Rattle.watch.proofs.Bench.{example_stages}
use Rattle.watch.proofs.stage.Laws.{again}
use Rattle.watch.proofs.finish.Goals as goal

pub loop-init : goal.loop-init
unfolding after_reads
loop-init c = ([], refl, refl)

pub loop-preserved : goal.loop-preserved
loop-preserved c =
    let r = c.loop.invariant in
    let next = c.go_on-next in
    let shown = c.flush-shown in
    let on = c.in-Some.ensures in
    let read = take c.read_full-n.result c.read_full-n.new.buf in (
      record { bytes = read; out = is_ok shown.result } ∷ r.0,
      again (written_in c.args.first c.args.text.now) c.loop.shown shown.result c.in-Some.w next.result
          c.loop.text next.new.text read r.0 r.1 on.0 on.1 next.ensures shown.ensures,
      omega arith,
    )

pub returns-in_default : goal.returns-in_default
returns-in_default c =
    let r = c.loop.invariant in
    (record { reads = r.0; written = r.1; ended = λ h. c.in_default.ensures }, example_stages)

pub returns-after-loop : goal.returns-after-loop
returns-after-loop c =
    let r = c.loop.invariant in
    (record { reads = r.0; written = r.1; ended = λ h. absurd (omega arith) }, example_stages)
