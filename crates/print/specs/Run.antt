-- The print program: the text that an input leads to.
use Rattle.std.specs.Prelude.{Bool, true, false, List, [], ◌∷◌, ◌++◌, ℕ, zero, suc, length, take, drop}
use Rattle.std.specs.Prelude.{◌≡◌, ◌⊎◌, ◌+◌, ◌*◌, ◌/◌, ◌%◌, ◌≤◌, ◌<◌}
use Rattle.std.specs.Prelude.{Result, Ok, Err}
use Rattle.basics.specs.Bytes.{if}
use Rattle.mmc.specs.Refusals.{Outcome, pass, refuse}
use Rattle.mmc.specs.ReplyBlock.{Reply, read_reply}
use Rattle.recorder.specs.Answers.{Ruling, issue, done, stop}
use Rattle.recorder.specs.Job.{Next, unchanged, take_of, give_of}
use Rattle.recorder.specs.declared.answers.Cdb.{Cdb}
use Rattle.recorder.specs.declared.job.Recorder.{Recorder}
use Rattle.ascii.specs.Text.{codes}
use Rattle.lines.specs.Lines.{longest, line_of, waiting_line}
use Rattle.print.specs.declared.run.Run.{Run}
use Rattle.print.specs.declared.OutputLost.{OutputLost}

-- ---- one block

-- what a reply block leads to: the recorder's step; "A bad block stops it with 1, 2 or 3", and nothing changes
abbrev pub replied_of : Recorder → Outcome Reply → Next
replied_of r (pass y) = give_of r y.good y.bytes
replied_of r (refuse n) = unchanged r n

-- after a command a reply is awaited
abbrev pub waits : Ruling → Bool
waits (issue c) = true
waits done = false
waits (stop w) = false

-- where a run stands: the recorder's state, whether it waits for a reply, and the text so far
pub record Stage : Type 0 where
  pub state : Recorder
  pub waiting : Bool
  pub text : List ℕ

-- the line of an answer goes behind the text
abbrev pub answered_of : Next → List ℕ → Stage
answered_of n text = record { state = n.state; waiting = waits n.answer; text = text ++ line_of n.answer n.cdb n.count }

abbrev pub replied_to : Stage → List ℕ → Stage
replied_to g b = answered_of (replied_of g.state (read_reply b)) g.text

-- ---- the blocks of an input

-- at most k blocks of 512 bytes, the last of which can be short
unfoldable pub cut : ℕ → List ℕ → List (List ℕ)
cut zero s = []
cut (suc k) [] = []
cut (suc k) (x ∷ s) = take 512 (x ∷ s) ∷ cut k (drop 512 (x ∷ s))

-- no input has more blocks than bytes
unfoldable pub input_blocks : List ℕ → List (List ℕ)
input_blocks s = cut (length s) s

-- reply blocks one after another; "Later blocks are not read."
unfoldable pub fed : Stage → List (List ℕ) → Stage
fed g [] = g
fed g (b ∷ bs) = if g.waiting (fed (replied_to g b) bs) g

-- an order block and the reply blocks behind it
unfoldable pub begun_with : List ℕ → Stage
begun_with s = fed (answered_of (take_of (take 512 s)) []) (input_blocks (drop 512 s))

-- "`waiting N` where replies run out"
abbrev pub waiting_for : Recorder → Stage
waiting_for r = record { state = r; waiting = false; text = waiting_line r.count }

-- the whole text of a run, if the input ends at a stage
abbrev pub ending : Stage → List ℕ
ending g = g.text ++ if g.waiting (waiting_for g.state).text []

-- "The print program reads an order block and then reply blocks": the whole text of a whole input
abbrev pub printed : List ℕ → List ℕ
printed s = ending (begun_with s)

-- ---- an input that is read in pieces

-- a reply is awaited, and all text is written out
abbrev pub awaiting : Recorder → Stage
awaiting r = record { state = r; waiting = true; text = [] }

-- where the next read leads; one of no bytes says that the input has ended
abbrev pub read_on : Recorder → List ℕ → Stage
read_on r [] = waiting_for r
read_on r (x ∷ s) = fed (awaiting r) (input_blocks (x ∷ s))

-- the text still to come, if these bytes are all that is left of the input
abbrev pub following : Recorder → List ℕ → List ℕ
following r s = ending (fed (awaiting r) (input_blocks s))

-- a read brings whole blocks, at least one, or all that is left of the input, so that no byte comes after it
abbrev pub Brings : List ℕ → List ℕ → Type 0
Brings s t = ((0 < length s) × (length s % 512 ≡ 0)) ⊎ (t ≡ [])

-- a read, and whether the output took all the text that it led to
pub record Read : Type 0 where
  pub bytes : List ℕ
  pub out : Bool

-- a run once its text is written: Ok where the output took all of it
abbrev pub Sent : Type 0
Sent = Result Run OutputLost

abbrev pub run_in : Sent → Run
run_in (Ok r) = r
run_in (Err lost) = lost.run

-- a run that stands at a stage, once its text is written, and whether the output took all of it
abbrev pub sent_at : Stage → Bool → Sent
sent_at g true = Ok (record { state = g.state; waiting = g.waiting; used = 0 })
sent_at g false = Err (record { run = record { state = g.state; waiting = g.waiting; used = 0 } })

-- the program reads on where a reply is awaited, unless the output could not be written
abbrev pub reads_on : Sent → Bool
reads_on (Ok r) = r.waiting
reads_on (Err lost) = false

-- a run after later reads, the latest first
unfoldable pub after_reads : Sent → List Read → Sent
after_reads s [] = s
after_reads s (r ∷ rs) =
    let before = after_reads s rs in
    if (reads_on before) (sent_at (read_on (run_in before).state r.bytes) r.out) before

-- what standard error is told, once and at the end, where the output could not be written; nothing else is
abbrev pub complaint : List ℕ
complaint = codes "print: the output could not be written\n"

-- ---- the contracts

-- where a run stands whose text is in a buffer
abbrev pub stage_in : Run → List ℕ → Stage
stage_in r buffer = record { state = r.state; waiting = r.waiting; text = take r.used buffer }

-- what the maker of a line promises: whether a reply is awaited then, the line behind the text, and how much of the buffer is used at most
pub record AddsLine (a : Ruling) (k : Cdb) (count used : ℕ) (before : List ℕ) (r : Run) (after : List ℕ) : Type 0 where
  pub waiting : r.waiting ≡ waits a
  pub text : take r.used after ≡ take used before ++ line_of a k count
  pub room : r.used ≤ used + longest

-- 64 bytes for the line of each block of an input of n bytes
abbrev pub room_for : ℕ → ℕ
room_for n = longest * ((n + 511) / 512)

-- what is promised of a run: where it stands then, and how much of the buffer is used at most
pub record Reaches (g : Stage) (most : ℕ) (r : Run) (after : List ℕ) : Type 0 where
  pub stage : stage_in r after ≡ g
  pub room : r.used ≤ most

-- the same of a read of the bytes s, and that where the bytes t come after it, the text of both is the text of this read and then, if a
-- reply is still awaited, the text that follows from t
pub record Reads (g : Stage) (text_of : List ℕ → List ℕ) (s : List ℕ) (most : ℕ) (r : Run) (after : List ℕ) : Type 0 where
  pub reaches : Reaches g most r after
  pub goes_on : (t : List ℕ) → Brings s t → text_of (s ++ t) ≡ take r.used after ++ if r.waiting (following r.state t) []

-- of the first read
abbrev pub Begins : List ℕ → ℕ → Run → List ℕ → Type 0
Begins s = Reads (begun_with s) printed s

-- of a later read
abbrev pub GoesOn : Recorder → List ℕ → ℕ → Run → List ℕ → Type 0
GoesOn r s = Reads (read_on r s) (following r) s

-- what is promised of a read of the rest of a block: it stands behind the first n bytes, and is shorter than a block
pub record ReadsRest (n : ℕ) (before : List ℕ) (r : ℕ) (after : List ℕ) : Type 0 where
  pub kept : take n after ≡ take n before
  pub from : n ≤ r
  pub to : r < n + 512
  pub room : r ≤ length after

-- what is promised of the writing of a run's text: the run as it was, with no text left to write; the output alone
-- decides whether it is Ok
pub record Sends (run : Run) (s : Sent) : Type 0 where
  pub state : (run_in s).state ≡ run.state
  pub waiting : (run_in s).waiting ≡ run.waiting
  pub used : (run_in s).used ≡ 0

-- what is promised of the loop: it reads on until no reply is awaited or the output could not be written, or 2^64 - 1 times
pub record Finishes (before after : Sent) : Type 0 where
  pub reads : List Read
  pub sent : after ≡ after_reads before reads
  pub ended : length reads < 18446744073709551615 → reads_on after ≡ false
