use Rattle.std.proofs.Common.{◌≡◌, ◌+◌, ◌≤◌, length}
use Rattle.std.specs.Slice.Iter.{chunks_rest, chunks_size}
use Rattle.print.specs.Run.{stage_in, room_for, fed, input_blocks}
use Rattle.print.proofs.run.feed.Given as goal

abbrev pub invariant-loop-block : goal.invariant-loop-block
invariant-loop-block l = (chunks_size l.block-iterator ≡ 512)
    × (length l.text ≡ length l.initial.text)
    × (l.current.used + room_for (length (chunks_rest l.block-iterator)) ≤ length l.initial.text)
    × (fed (stage_in l.current l.text) (input_blocks (chunks_rest l.block-iterator))
    ≡ fed (stage_in l.initial.current l.initial.text) (input_blocks l.input))
