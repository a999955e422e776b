use Rattle.std.proofs.Common.{◌≡◌, ◌++◌, ◌+◌, ◌-◌, ◌*◌, length, drop, take}
use Rattle.mmc.specs.OrderBlock.{kinds_ok, tracks_of}
use Rattle.mmc.proofs.order_block.tracks_of.Given as goal

abbrev pub invariant-loop-i : goal.invariant-loop-i
invariant-loop-i l =
    record {
      kinds : kinds_ok (99 - l.i) (drop (4 + 5 * l.i) l.b) ≡ kinds_ok 99 (drop 4 l.b);
      tracks : take l.i l.t-items ++ tracks_of (99 - l.i) (drop (4 + 5 * l.i) l.b) ≡ tracks_of 99 (drop 4 l.b);
      sized : length l.t-items ≡ 99;
    }
