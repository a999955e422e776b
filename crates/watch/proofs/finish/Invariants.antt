use mathlib.Core.Path.{◌≡◌}
use mathlib.Core.List.{List}
use Prim.Native.Nat.{ℕ}
use lib.ListN.{length}
use Rattle.watch.specs.Watch.{Read, Written, Sent, after_reads, written_in}
use Rattle.watch.proofs.finish.Given as goal

-- the reads so far, one a turn
abbrev ReadsSoFar : Written → Sent → List ℕ → ℕ → Type 0
ReadsSoFar first shown text turns =
    (reads : List Read) × (written_in shown text ≡ after_reads first reads) × (length reads ≡ turns)

abbrev pub invariant-loop : goal.invariant-loop
invariant-loop l = ReadsSoFar (written_in l.initial.shown l.initial.text) l.shown l.text l.counter
