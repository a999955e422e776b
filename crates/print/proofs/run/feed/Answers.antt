use mathlib.Core.Path.{◌≡◌, sym, ap, ◌∙◌}
use Prim.Native.Nat.{◌-◌, min}
use native.Mathlib.Omega.{arith}
use lib.ListN.{length, length-append}
use borrow.Author.Tests.{not-true, not-false}
use Rattle.std.specs.Slice.Iter.{chunks_rest}
use Rattle.print.specs.Run.{stage_in}
use Rattle.print.proofs.run.Laws.{room_next, fed_ended, fed_step, fed_all}
use Rattle.print.proofs.run.feed.Goals as goal

pub returns-then-not-current : goal.returns-then-not-current
returns-then-not-current c =
    let i = c.loop-block.invariant in
    let at = stage_in c.loop-block.current c.loop-block.text in
    record {
      stage = sym (fed_ended at _ (not-true _ c.if-not-current.true)) ∙ i.3;
      room = omega arith;
    }

pub loop-block-preserved : goal.loop-block-preserved
loop-block-preserved c =
    let i = c.loop-block.invariant in
    let s = c.in-Some.ensures.steps in
    let run = c.next_block-current in
    let block = c.in-Some.block.now in
    let rest = chunks_rest c.loop-block.block-iterator in
    let left = chunks_rest c.next.new.self in
    let size : length block ≡ min 512 (length rest) = cc in
    let parts = ap length s.1.0 in
    let behind : length left ≡ length rest - min 512 (length rest) = omega (arith, parts, length-append block left) in
    let on = not-false _ c.if-not-current.false in
    let room = room_next (length rest) (length left) s.1.2 behind in (
      s.0 ∙ i.0,
      run.auto.text ∙ i.1,
      omega (arith, run.ensures.room),
      fed_step (stage_in c.loop-block.current c.loop-block.text) _ rest block left s.1.2 s.1.0 size on run.ensures.stage
          ∙ i.3,
    )

pub returns : goal.returns
returns c =
    let i = c.loop-block.invariant in
    let at = stage_in c.loop-block.current c.loop-block.text in
    record {
      stage = sym (fed_all at (chunks_rest c.loop-block.block-iterator) c.in-None.ensures.steps.1.0) ∙ i.3;
      room = omega arith;
    }
