use native.Mathlib.Omega.{arith}
use Rattle.ascii.specs.Text.{codes}
use Rattle.lines.specs.Shown.{waiting_shown}
use Rattle.lines.proofs.Bench.{example_shown}
use Rattle.lines.proofs.shown.waiting_line.Goals as goal

pub returns : goal.returns
unfolding codes waiting_shown
returns c = (record { filled = c.counted_line.ensures.filled; short = omega arith }, example_shown)
