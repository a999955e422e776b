-- The plain job: "It holds the order, the fields read, its place in the sequence of commands above, start and end of the latest
-- track, and the command count."
use Rattle.std.specs.Prelude.{◌≡◌, Bool, true, false, not, ◌&&◌, ◌||◌, List, [], ◌∷◌, ℕ, suc, ◌+◌, ◌-◌, ◌^◌, min, ltb, leb, eqb, Option, Some, None, Result, Ok, Err}
use Rattle.basics.specs.Bytes.{if}
use Rattle.mmc.specs.Refusals.{Outcome, pass, refuse}
use Rattle.mmc.specs.Order.{most_tracks, no_order}
use Rattle.mmc.specs.OrderBlock.{read_order}
use Rattle.mmc.specs.Times.{address_at}
use Rattle.mmc.specs.ReplyBlock.{reply_of}
use Rattle.mmc.specs.declared.units.FrameCount.{FrameCount}
use Rattle.mmc.specs.declared.order.Order.{Order}
use Rattle.mmc.specs.declared.order.Method.{Method}
use Rattle.mmc.specs.declared.order.Method.TheVariants.{Tao, Sao}
use Rattle.mmc.specs.declared.order.Recipe.{Recipe}
use Rattle.recorder.specs.declared.script.Op.{Op}
use Rattle.recorder.specs.declared.script.Op.TheVariants.{GetConfiguration, ReadDiscInformation, ReadTrackInformation, ModeSelect, SendCueSheet, Write, SynchronizeCache, CloseTrack, CloseSession, Blank, TestUnitReady, RequestSense}
use Rattle.recorder.specs.declared.answers.Command.{Command}
use Rattle.recorder.specs.declared.answers.Cdb.{Cdb}
use Rattle.recorder.specs.declared.replies.Reading.{Reading}
use Rattle.recorder.specs.declared.exchanges.Seen.{Seen}
use Rattle.recorder.specs.declared.job.Phase.{Phase}
use Rattle.recorder.specs.declared.job.Phase.TheVariants.{Idle, Going, Finished, Stopped, Failed}
use Rattle.recorder.specs.declared.job.Poll.{Poll}
use Rattle.recorder.specs.declared.job.Poll.TheVariants.{Off, Ready, Sense}
use Rattle.recorder.specs.declared.rules.Stop.{Stop}
use Rattle.recorder.specs.declared.job.Progress.{Progress}
use Rattle.recorder.specs.declared.job.Recorder.{Recorder}
use Rattle.recorder.specs.declared.job.Step.{Step}
use Rattle.recorder.specs.Replies.{reading, UnsignedIn, ForTrack}
use Rattle.recorder.specs.Answers.{Why, because, drive_failed, Ruling, issue, done, stop, said, bytes_of, cdb_of}
use Rattle.recorder.specs.Script.{portion, track_in, is_poll, is_erasing, is_polled, stepwise, closes_tracks}
use Rattle.recorder.specs.Places.{piece_of, after_in}
use Rattle.recorder.specs.Exchanges.{nothing_seen, see}
use Rattle.recorder.specs.Rules.{last_frame, Judgement, again, onward, refused, why, judge}

-- ---- what a reply leads to

-- the operation whose reply the job waits for: that of its place, or a poll
abbrev pub due_at : Op → Poll → Op
due_at x Off = x
due_at x Ready = TestUnitReady
due_at x Sense = RequestSense

abbrev pub due_in : Progress → Op
due_in s = due_at s.place s.poll

-- and its command
abbrev pub command_of : Progress → Command
command_of s = record { op = due_in s; address = address_at s.seen.at }

-- the next command, the end as done, or a stop
pub data Turn : Type 0 where
  goes : Progress → Turn
  finish : Turn
  halt : Why → Turn

-- what a place to go to says, or that there is none
abbrev pub went : Option Progress → Turn
went (Some s) = goes s
went None = finish

-- and a stop in its place
abbrev pub turn_in : Result (Option Progress) Stop → Turn
turn_in (Ok s) = went s
turn_in (Err e) = halt (why e)

abbrev pub advanced : Option Op → Seen → Turn
advanced (Some x) v = goes (record { place = x; poll = Off; seen = v })
advanced None v = finish

-- "00h and then 03h"; else the polling, or an operation that is not polled, has ended
abbrev pub onward_by : Poll → Op → Option Op → Seen → Turn
onward_by Off x f v = advanced f v
onward_by Ready x f v = goes (record { place = x; poll = Sense; seen = v })
onward_by Sense x f v = advanced f v

-- with polls in front the job stays where it is; else A1h comes in front
abbrev pub aside : Bool → Op → Seen → Progress
aside true x v = record { place = x; poll = Ready; seen = v }
aside false x v = record { place = Blank; poll = Off; seen = v }

abbrev pub onward_with : List Op → Poll → Op → Option Op → Seen → Turn
onward_with [] p x f v = onward_by p x f v
onward_with (y ∷ ys) p x f v = goes (aside (is_poll y) x v)

-- "Busy: the same command again. Failed otherwise: the end ..  Good: if numbers judged there apply, the end with the one that comes
-- first; else the next command by the rules above, and after the last one the end as done."
abbrev pub turn_by : Judgement → Order → Progress → Reading → Turn
turn_by again o s r = goes s
turn_by (onward xs) o s r = onward_with xs s.poll s.place (after_in o s.place) (see o.method (due_in s) r s.seen)
turn_by (refused w) o s r = halt w

abbrev pub turn_of : Order → Progress → Reading → Turn
turn_of o s r = turn_by (judge o s.seen (due_in s) r) o s r

-- ---- the step

-- what comes out of a call, and what a step says of it
pub record Next : Type 0 where
  pub state : Recorder
  pub answer : Ruling
  pub count : ℕ
  pub cdb : Cdb

abbrev pub next_in : Step → Next
next_in s = record { state = s.state; answer = said s.answer; count = s.count; cdb = s.cdb }

-- "Each command given, repeats too, adds 1 to the command count, up to 2^64 - 1"
abbrev pub most_commands : ℕ
most_commands = 2 ^ 64 - 1

abbrev pub one_more : ℕ → ℕ
one_more n = min (n + 1) most_commands

abbrev pub state_of : Order → Progress → Phase → ℕ → Recorder
state_of o s p n = record { order = o; progress = s; phase = p; count = n }

abbrev pub next_of : Recorder → Ruling → Next
next_of r a = record { state = r; answer = a; count = r.count; cdb = cdb_of (bytes_of r.order.immed r.order.count a) }

-- how a stopped job stays
abbrev pub phase_of : Why → Phase
phase_of (because n) = Stopped n
phase_of (drive_failed x) = Failed x

-- a command is given, the job is done, or it stops
abbrev pub step_of : Order → Progress → ℕ → Turn → Next
step_of o s n (goes t) = next_of (state_of o t Going (one_more n)) (issue (command_of t))
step_of o s n finish = next_of (state_of o s Finished n) done
step_of o s n (halt w) = next_of (state_of o s (phase_of w) n) (stop w)

-- a refusal that leaves the state as it was
abbrev pub unchanged : Recorder → ℕ → Next
unchanged r n = next_of r (stop (because n))

-- "the latest progress of a polling under way, else 0"
abbrev pub latest_by : Poll → ℕ → ℕ
latest_by Off n = 0
latest_by Ready n = n
latest_by Sense n = n

abbrev pub latest_progress : Progress → ℕ
latest_progress s = latest_by s.poll s.seen.progress

-- ---- "the recorder's own test"

-- t is a track of n
unfoldable pub in_order : ℕ → ℕ → Bool
in_order n t = leb 1 t && leb t n

-- l blocks from a frame on end at most at the last frame
unfoldable pub in_time : ℕ → FrameCount → Bool
in_time l at = leb (at.0 + l) last_frame

-- t is a piece that is written: a track; or, in SAO, the pause too, and the next track has a block
unfoldable pub in_piece : Method → ℕ → ℕ → ℕ → Bool
in_piece Tao n k t = in_order n t
in_piece Sao n k t = if (ltb t n) (ltb 0 k) (eqb t n)

-- c blocks from the block f on are a WRITE of a piece of l blocks, which ends in time
unfoldable pub is_write : ℕ → ℕ → ℕ → FrameCount → Bool
is_write l f c at = ltb f l && (eqb c (portion l f) && in_time (l - f) at)

-- what an operation needs: its method and recipe, its track, and the address where the next block goes
abbrev pub stands_at : Method → Recipe → ℕ → ℕ → ℕ → FrameCount → Op → Bool
stands_at m q n l k at GetConfiguration = true
stands_at m q n l k at ReadDiscInformation = true
stands_at m q n l k at (ReadTrackInformation t) = in_order n t.0
stands_at m q n l k at (ModeSelect t) = in_order n t.0 && in_time l at
stands_at m q n l k at SendCueSheet = not (stepwise m) && in_time l at
stands_at m q n l k at (Write t f c) = in_piece m n k t.0 && is_write l f.0 c.0 at
stands_at m q n l k at (SynchronizeCache t) = in_order n t.0
stands_at m q n l k at (CloseTrack t) = closes_tracks m q && in_order n t.0
stands_at m q n l k at CloseSession = stepwise m
stands_at m q n l k at Blank = true
stands_at m q n l k at TestUnitReady = false
stands_at m q n l k at RequestSense = false

-- in an order of 1 to 99 tracks
unfoldable pub stands_in : Method → Recipe → ℕ → ℕ → ℕ → FrameCount → Op → Bool
stands_in m q n l k at x = leb 1 n && (leb n most_tracks && stands_at m q n l k at x)

-- the same in an order
abbrev pub waits_at : Order → FrameCount → Op → Bool
waits_at o at x = stands_at o.method o.recipe o.count (piece_of o (track_in x)) (piece_of o (suc (track_in x))) at x

abbrev pub waits_in : Order → FrameCount → Op → Bool
waits_in o at x = stands_in o.method o.recipe o.count (piece_of o (track_in x)) (piece_of o (suc (track_in x))) at x

-- a poll is of an operation that is polled
abbrev pub stands_polled : Bool → Op → Poll → Bool
stands_polled immed x Off = true
stands_polled immed x Ready = is_polled immed x
stands_polled immed x Sense = is_polled immed x

-- and A1h is of an order with flag bit 3
abbrev pub stands_erasing : Bool → Op → Bool
stands_erasing erase x = not (is_erasing x) || erase

abbrev pub stands : Order → Progress → Bool
stands o s =
    stands_polled o.immed s.place s.poll &&
    (stands_erasing o.erase s.place &&
    stands_in o.method o.recipe o.count (piece_of o (track_in s.place)) (piece_of o (suc (track_in s.place))) s.seen.at s.place)

-- no reply is awaited
abbrev pub rests_at : Phase → Bool
rests_at Idle = true
rests_at Going = false
rests_at Finished = true
rests_at (Stopped n) = true
rests_at (Failed x) = true

-- such a one passes, whatever it holds
unfoldable pub valid_of : Recorder → Bool
valid_of r = if (rests_at r.phase) true (stands r.order r.progress)

-- ---- taking an order, and giving a reply

abbrev pub opening : Progress
opening = record { place = GetConfiguration; poll = Off; seen = nothing_seen }

-- "Idle is before any order"
abbrev pub idle_recorder : Recorder
idle_recorder = state_of no_order opening Idle 0

-- "An order that 1 to 3 refuse gives no command: the job ends at once with that number, and the command count is 0. For any other,
-- 46h comes first and the command count is 1."
abbrev pub taken_as : Outcome Order → Next
taken_as (pass o) = step_of o opening 0 (goes opening)
taken_as (refuse n) = step_of no_order opening 0 (halt (because n))

unfoldable pub take_of : List ℕ → Next
take_of b = taken_as (read_order b)

-- "Then each reply is one step. To an ended job: 13, and nothing changes." Idle: "a reply then is 13". 3 for a state that fails the test,
-- which these pass.
unfoldable pub give_of : Recorder → Bool → List ℕ → Next
give_of r good d =
    if (rests_at r.phase)
    (unchanged r 13)
    (if (stands r.order r.progress)
    (step_of r.order r.progress r.count (turn_of r.order r.progress (reading (due_in r.progress) (reply_of good d))))
    (unchanged r 3))

-- what the inner step asks for: a state that passes the test, and a reading of a reply to its command
pub record Prepared (o : Order) (s : Progress) (r : Reading) : Type 0 where
  pub passes : stands o s ≡ true
  pub unsigned : UnsignedIn r
  pub for_track : ForTrack (track_in (due_in s)) r
