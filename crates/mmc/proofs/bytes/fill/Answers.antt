use mathlib.Core.Path.{◌∙◌}
use native.Mathlib.Nat.{zero-add}
use borrow.Author.Tests.{lt-leb, le-leb}
use Rattle.basics.specs.Bytes.{put_at}
use Rattle.mmc.specs.Refusals.{answer_of, buffer_of}
use Rattle.mmc.proofs.bytes.fill.Goals as goal

pub returns-then-out-s : goal.returns-then-out-s
unfolding answer_of buffer_of
returns-then-out-s c = let l = lt-leb _ _ c.if-out-s.true in record { answer = simp l; buffer = simp l }

pub returns : goal.returns
unfolding answer_of buffer_of put_at
returns c =
    let l = le-leb _ _ c.if-out-s.false in
    record { answer = simp l; buffer = c.put.ensures ∙ simp (l, zero-add) }
