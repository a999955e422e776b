use mathlib.Core.Path.{◌≡◌}
use mathlib.Core.List.{List}
use Prim.Native.Nat.{ℕ}
use lib.ListN.{length}
use Rattle.print.specs.Run.{Read, Sent, run_in, after_reads}
use Rattle.print.proofs.finish.Given as goal

-- the reads so far, one a turn
abbrev ReadsSoFar : Sent → Sent → ℕ → Type 0
ReadsSoFar first sent turns = (reads : List Read) × (sent ≡ after_reads first reads) × (length reads ≡ turns)

abbrev pub invariant-loop : goal.invariant-loop
invariant-loop l = ((run_in l.sent).used ≡ 0) × ReadsSoFar l.initial.sent l.sent l.counter
