use Rattle.std.proofs.Common.{◌≡◌, ◌++◌, ◌+◌, ◌*◌, drop, take}
use Rattle.mmc.specs.OrderBlock.{rows}
use Rattle.mmc.proofs.order_block.put_rows.Given as goal

abbrev pub invariant-loop-i : goal.invariant-loop-i
invariant-loop-i l = l.out ≡ take 4 l.initial.out ++ rows (take l.i l.o.tracks) ++ drop (4 + 5 * l.i) l.initial.out
