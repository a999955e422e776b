-- Short inputs, as one statement about the definitions.
use Rattle.std.specs.Prelude.{◌≡◌, Bool, true, false, List, [], ◌∷◌, ℕ, take}
use Rattle.mmc.specs.OrderBlock.{order_bytes}
use Rattle.mmc.specs.ReplyBlock.{reply_of, reply_bytes}
use Rattle.mmc.specs.Bench.{one_data}
use Rattle.recorder.specs.Job.{take_of}
use Rattle.ascii.specs.Text.{codes}
use Rattle.watch.specs.Watch.{Stage, at_first, begun_with, read_on}

-- document 01's first order, taken, and then a read
abbrev pub order : List ℕ
order = order_bytes (one_data 300)

abbrev pub after : List ℕ → Stage
after s = read_on (take_of order).state s

-- a line is shown, and whether a reply is awaited then
abbrev pub Shows : Stage → List ℕ → Bool → Type 0
Shows g line waiting = (g.line ≡ line) × (g.waiting ≡ waiting)

pub record ExampleStages : Type 0 where
  -- idle; no order, a short one, and one that is taken
  pub before : Shows at_first (codes "idle\n") false
  pub none : Shows (begun_with []) (codes "stopped: 1, block not of 512 bytes, commands given: 0\n") false
  pub short : Shows (begun_with (take 511 order)) (codes "stopped: 1, block not of 512 bytes, commands given: 0\n") false
  pub taken : Shows (begun_with order) (codes "busy: GET CONFIGURATION\n") true
  -- replies run out, a piece of a block, and an order where a reply is awaited
  pub runs_out : Shows (after []) (codes "waiting, commands given: 1\n") false
  pub piece : Shows (after (2 ∷ [])) (codes "stopped: 1, block not of 512 bytes, commands given: 1\n") false
  pub two_orders : Shows (after order) (codes "stopped: 3, field value not allowed, commands given: 1\n") false
  -- a reply that passes, and one that fails
  pub good : Shows (after (reply_bytes (reply_of true (0 ∷ 0 ∷ 0 ∷ 4 ∷ 0 ∷ 0 ∷ 0 ∷ 9 ∷ [])))) (codes "busy: READ DISC INFORMATION\n") true
  pub failed : Shows (after (reply_bytes (reply_of false []))) (codes "stopped: 12, drive failed with 00 00 00, commands given: 1\n") false
