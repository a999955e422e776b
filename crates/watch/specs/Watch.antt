-- The panel program: what it shows, line by line.
use Rattle.std.specs.Prelude.{◌≡◌, Bool, false, not, ◌&&◌, List, [], ◌∷◌, ℕ, ◌-◌, ◌≤◌, ◌<◌, length, take}
use Rattle.std.specs.Prelude.{Result, Ok, Err, is_ok}
use Rattle.basics.specs.Bytes.{if}
use Rattle.mmc.specs.Refusals.{Outcome, pass, refuse}
use Rattle.mmc.specs.ReplyBlock.{Reply, read_reply}
use Rattle.recorder.specs.Replies.{no_sense}
use Rattle.recorder.specs.Job.{rests_at, idle_recorder, take_of, give_of}
use Rattle.recorder.specs.declared.job.Recorder.{Recorder}
use Rattle.ascii.specs.Text.{codes}
use Rattle.lines.specs.Shown.{waiting_shown, stopped_line, shown_line, widest}
use Rattle.watch.specs.declared.stage.Watch.{Watch}
use Rattle.watch.specs.declared.OutputLost.{OutputLost}

-- ---- where the program stands: the recorder that it holds, whether a reply is awaited, and the line that it shows

pub record Stage : Type 0 where
  pub recorder : Recorder
  pub waiting : Bool
  pub line : List ℕ

-- what the panel shows of a recorder
abbrev pub standing : Recorder → Stage
standing r = record { recorder = r; waiting = not (rests_at r.phase); line = shown_line r }

-- "Idle is before any order"
abbrev pub at_first : Stage
at_first = standing idle_recorder

-- an order block is taken
abbrev pub begun_with : List ℕ → Stage
begun_with b = standing (take_of b).state

-- "The panel's program holds one recorder, lends it with each reply and finds it moved on, to an end too"; a block that is no reply block
-- stops the program with 1, 2 or 3, and the recorder stays as it was
abbrev pub replied_of : Recorder → Outcome Reply → Stage
replied_of r (pass y) = standing (give_of r y.good y.bytes).state
replied_of r (refuse n) = record { recorder = r; waiting = false; line = stopped_line n no_sense r.count }

-- a read of at most a block; one of no bytes says that the input has ended
abbrev pub read_on : Recorder → List ℕ → Stage
read_on r [] = record { recorder = r; waiting = false; line = waiting_shown r.count }
read_on r (x ∷ s) = replied_of r (read_reply (x ∷ s))

-- a read, and whether the output took all of the line that it led to
pub record Read : Type 0 where
  pub bytes : List ℕ
  pub out : Bool

-- where the program stands once its line is written, and whether the output took all of it
pub record Written : Type 0 where
  pub stage : Stage
  pub out : Bool

-- the program reads on where a reply is awaited, unless the output could not be written
abbrev pub reads_on : Written → Bool
reads_on w = w.out && w.stage.waiting

-- after these reads, the latest first
unfoldable pub after_reads : Written → List Read → Written
after_reads w [] = w
after_reads w (r ∷ rs) = if (reads_on (after_reads w rs)) (record { stage = read_on (after_reads w rs).stage.recorder r.bytes; out = r.out }) (after_reads w rs)

-- on a terminal each line goes over the one before, and only the last one ends
abbrev pub drawn_over : Bool → List ℕ → List ℕ
drawn_over last line = if last line (take (length line - 1) line)

-- what standard error is told, once and at the end, where the output could not be written; nothing else is
abbrev pub complaint : List ℕ
complaint = codes "watch: the output could not be written\n"

-- ---- the contracts

-- where the program stands whose line is in a buffer
abbrev pub stage_in : Watch → List ℕ → Stage
stage_in w buffer = record { recorder = w.recorder; waiting = w.waiting; line = take w.used buffer }

-- where the program stands once its line is written: Ok where the output took all of it
abbrev pub Sent : Type 0
Sent = Result Watch OutputLost

abbrev pub watch_in : Sent → Watch
watch_in (Ok w) = w
watch_in (Err lost) = lost.watch

-- the same with the line that is in the buffer
abbrev pub written_in : Sent → List ℕ → Written
written_in s buffer = record { stage = stage_in (watch_in s) buffer; out = is_ok s }

-- what is promised of each step: where the program stands then, and how long its line can be
pub record Stands (g : Stage) (w : Watch) (after : List ℕ) : Type 0 where
  pub stage : stage_in w after ≡ g
  pub room : w.used ≤ widest

-- what is promised of the loop: it reads on until no reply is awaited or the output could not be written, or 2^64 - 1 times, and each
-- line that it shows is that of the reads so far
pub record Finishes (before : Written) (s : Sent) (after : List ℕ) : Type 0 where
  pub reads : List Read
  pub written : written_in s after ≡ after_reads before reads
  pub ended : length reads < 18446744073709551615 → reads_on (written_in s after) ≡ false
