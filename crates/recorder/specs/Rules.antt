-- The recording rules, over the order and the exchanges alone: what is left of the plan, moved by the judgement of each reply.
use Rattle.std.specs.Prelude.{◌≡◌, Bool, true, false, not, ◌&&◌, ◌||◌, List, [], ◌∷◌, ◌++◌, ℕ, ◌+◌, ◌-◌, ◌*◌, Result, Ok, Err, length, drop, ltb, leb, eqb}
use Rattle.basics.specs.Bytes.{if}
use Rattle.mmc.specs.Refusals.{Outcome, pass, refuse, number_of, Test, test}
use Rattle.mmc.specs.Order.{tracks_in, all_kind, blocks_of, mixed_or_kept, short_track}
use Rattle.mmc.specs.Times.{last_address, lead_frames, frames_to, address_at}
use Rattle.mmc.specs.ReplyBlock.{Reply}
use Rattle.mmc.specs.declared.refusals.Refusal.{Refusal}
use Rattle.mmc.specs.declared.units.FrameCount.{FrameCount}
use Rattle.mmc.specs.declared.order.Order.{Order}
use Rattle.mmc.specs.declared.order.Track.{Track}
use Rattle.mmc.specs.declared.order.Kind.TheVariants.{Data}
use Rattle.mmc.specs.declared.order.Method.{Method}
use Rattle.mmc.specs.declared.order.Method.TheVariants.{Tao, Sao}
use Rattle.recorder.specs.declared.script.Op.{Op}
use Rattle.recorder.specs.declared.answers.Command.{Command}
use Rattle.recorder.specs.declared.replies.DiscInformation.{DiscInformation}
use Rattle.recorder.specs.declared.replies.TrackInformation.{TrackInformation}
use Rattle.recorder.specs.declared.replies.Reading.{Reading}
use Rattle.recorder.specs.declared.replies.Reading.TheVariants.{Busy, NotReady, Failed, Malformed, Profile, Disc, Information, ProgressIndication, Unread}
use Rattle.recorder.specs.declared.exchanges.Seen.{Seen}
use Rattle.recorder.specs.declared.rules.Verdict.{Verdict}
use Rattle.recorder.specs.declared.rules.Verdict.TheVariants as D
use Rattle.recorder.specs.declared.rules.Stop.{Stop}
use Rattle.recorder.specs.declared.rules.Stop.TheVariants as S
use Rattle.recorder.specs.Replies.{of_disc, of_information}
use Rattle.recorder.specs.Answers.{Why, because, drive_failed, Ruling, issue, done, stop}
use Rattle.recorder.specs.Script.{track_in, polls, erasing, is_polled, stepwise, Block, script, ordered, closings}
use Rattle.recorder.specs.Exchanges.{Exchange, read, recorded, closed, polling, seen}

-- ---- judgements

-- the same command again; the operation is answered, and others come before what is left; or a refusal
pub data Judgement : Type 0 where
  again : Judgement
  onward : List Op → Judgement
  refused : Why → Judgement

-- "The lowest applying number is given": the first of these; without one the operation is answered, and these operations come next
abbrev pub tested : List Test → List Op → Judgement
tested [] xs = onward xs
tested (t ∷ ts) xs = if t.applies (refused (because t.number)) (tested ts xs)

-- "The lowest applying number is given", 24 "just before 8", 16 behind the others: the numbers in the order of their tests
abbrev pub turns : List ℕ
turns = 5 ∷ 6 ∷ 7 ∷ 24 ∷ 8 ∷ 9 ∷ 10 ∷ 16 ∷ []

-- whether tests stand in an order of numbers
abbrev pub in_turn : List ℕ → List Test → Bool
in_turn ns [] = true
in_turn [] (t ∷ ts) = false
in_turn (n ∷ ns) (t ∷ ts) = if (eqb n t.number) (in_turn ns ts) (in_turn ns (t ∷ ts))

-- the rows of a table of tests, each with the number of its refusal
abbrev pub tests_in : List (Bool × Refusal) → List Test
tests_in [] = []
tests_in (t ∷ ts) = test t.0 (number_of t.1) ∷ tests_in ts

-- what the tests of a table come to, where these operations come next
abbrev pub answered : List Op → Result Unit Refusal → Judgement
answered xs (Ok u) = onward xs
answered xs (Err r) = refused (because (number_of r))

-- what each case of a verdict says
abbrev pub verdict_in : Verdict → Judgement
verdict_in D.Again = again
verdict_in D.Onward = onward []
verdict_in D.Poll = onward polls
verdict_in D.Erase = onward erasing

-- and of a stop
abbrev pub why : Stop → Why
why (S.Refused r) = because (number_of r)
why (S.Failed s) = drive_failed s

-- a verdict, or a refusal in its place
abbrev pub judgement_by : Result Verdict Refusal → Judgement
judgement_by (Ok v) = verdict_in v
judgement_by (Err r) = refused (because (number_of r))

-- a verdict, or a stop in its place
abbrev pub judgement_in : Result Verdict Stop → Judgement
judgement_in (Ok v) = verdict_in v
judgement_in (Err e) = refused (why e)

-- ---- the numbers 5, 6, 7, 10 and 16, of what was read; 24 is of the order alone, as 8 and 9 are (mmc's `Order`)

-- "CD-R (profile 0009h) and CD-RW (000Ah)"
abbrev pub cd_r : ℕ
cd_r = 0x0009

abbrev pub cd_rw : ℕ
cd_rw = 0x000A

-- 5: "the profile is neither 0009h nor 000Ah"
unfoldable pub other_profile : ℕ → Bool
other_profile p = not (eqb p cd_r) && not (eqb p cd_rw)

-- a disc's status: "0 blank, 1 appendable, 2 finalized, 3 other"
abbrev pub blank : ℕ
blank = 0

abbrev pub appendable : ℕ
appendable = 1

abbrev pub finalized : ℕ
finalized = 2

-- 6: "disc status unsuitable: TAO needs 0 or 1, SAO needs 0"
abbrev pub last_status : Method → ℕ
last_status Tao = appendable
last_status Sao = blank

unfoldable pub unsuitable : Method → ℕ → Bool
unsuitable m status = ltb (last_status m) status

-- 7: "Damage set; or, in TAO, NWA_V clear or an address below the end of the job's previous track", where the next block would go
unfoldable pub unusable : Method → FrameCount → TrackInformation → Bool
unusable m end i = i.damaged || (stepwise m && (not i.addressed || ltb (frames_to i.address).0 end.0))

-- ---- 24, of the order alone

-- "TAO with an audio track", "for one audio track among data tracks too"; of SAO never
abbrev pub audio_by : Method → List Track → Bool
audio_by Tao xs = not (all_kind Data xs)
audio_by Sao xs = false

abbrev pub audio_in_tao : Order → Bool
audio_in_tao o = audio_by o.method (tracks_in o)

-- ---- what is needed from the track t on

-- the tracks "still to come", this one among them
abbrev pub to_come : Order → ℕ → List Track
to_come o t = drop (t - 1) (tracks_in o)

-- "the sum S of the lengths still to be recorded"
abbrev pub still : Order → ℕ → ℕ
still o t = blocks_of (to_come o t)

-- "Our drives start a track 152 blocks after the last one ends": what "Every TAO track after the first" is charged, SAO not
abbrev pub gap : Method → ℕ
gap Tao = 152
gap Sao = 0

-- "With m tracks still to come S is charged 152 (m - 1)"
abbrev pub charge : Method → ℕ → ℕ
charge w m = gap w * (m - 1)

-- the charged sum, "for Free Blocks and for the lead-out limit"
abbrev pub needed : Order → ℕ → ℕ
needed o t = still o t + charge o.method (length (to_come o t))

-- ---- 10

-- "the lead-out address .. In TAO that address is Next Writable Address plus S; in SAO it is S", in frames; s is the charged sum
abbrev pub lead_out : Method → ℕ → TrackInformation → ℕ
lead_out m s i = if (stepwise m) ((frames_to i.address).0 + s) (s + lead_frames)

-- the frames to the last address
abbrev pub last_frame : ℕ
last_frame = last_address + lead_frames

-- 10: "Fits means: the sum S .. is at most Free Blocks, and the lead-out address is at most" the last address
unfoldable pub fits : Method → ℕ → TrackInformation → Bool
fits m s i = leb s i.free.0 && leb (lead_out m s i) last_frame

-- 10 "for S alone": "S above the lead-out limit, without address and Free Blocks (charged ..)"
unfoldable pub too_long : Order → Bool
too_long o = ltb last_address (needed o 1)

-- ---- 16

-- "a disc of status 1 or 2"
unfoldable pub used : ℕ → Bool
used status = eqb status appendable || eqb status finalized

-- 16: "disc of status 1 or 2, and either profile not 000Ah or Erasable .. clear"
unfoldable pub not_erasable : ℕ → DiscInformation → Bool
not_erasable p d = used d.status && (not (eqb p cd_rw) || not d.erasable)

-- ---- a reply to 51h, with flag bit 3

-- "with the flag the order after the first 51h is 4, 5, 6 for status 3, 8, 9, 10 for S alone, 16"; 24 "just before 8, and with Ask 2's flag also
-- before erasing"
abbrev pub erasing_tests : Order → ℕ → DiscInformation → List Test
erasing_tests o p d =
    test (other_profile p) 5
    ∷ test (ltb finalized d.status) 6
    ∷ test (audio_in_tao o) 24
    ∷ test (mixed_or_kept o) 8
    ∷ test (short_track o) 9
    ∷ test (too_long o) 10
    ∷ test (not_erasable p d) 16
    ∷ []

-- "51h is asked anew and must say blank"
abbrev pub blank_tests : DiscInformation → List Test
blank_tests d = test (ltb blank d.status) 6 ∷ []

-- with the flag by whether an erasing took place; without it 51h is not tested
abbrev pub disc_tests : Bool → Order → Seen → DiscInformation → List Test
disc_tests erase o v d = if erase (if v.erased (blank_tests d) (erasing_tests o v.profile d)) []

-- "With flag bit 3, a disc of status 1 or 2 is erased before recording", once
abbrev pub erases : Bool → Bool → ℕ → Bool
erases erase erased status = erase && (not erased && used status)

abbrev pub erasing_if : Bool → List Op
erasing_if due = if due erasing []

abbrev pub judge_disc : Order → Seen → DiscInformation → Judgement
judge_disc o v d = tested (disc_tests o.erase o v d) (erasing_if (erases o.erase v.erased d.status))

-- ---- a reply to 52h, before the track t

-- "5 to 10 are judged after the third", 24 "just before 8"
abbrev pub opening_tests : Order → ℕ → Seen → TrackInformation → List Test
opening_tests o t v i =
    test (other_profile v.profile) 5
    ∷ test (unsuitable o.method v.status) 6
    ∷ test (unusable o.method v.at i) 7
    ∷ test (audio_in_tao o) 24
    ∷ test (mixed_or_kept o) 8
    ∷ test (short_track o) 9
    ∷ test (not (fits o.method (needed o t) i)) 10
    ∷ []

-- a fresh 52h: "judged for 4, 7, 10"
abbrev pub later_tests : Order → ℕ → Seen → TrackInformation → List Test
later_tests o t v i = test (unusable o.method v.at i) 7 ∷ test (not (fits o.method (needed o t) i)) 10 ∷ []

-- with flag bit 3 the first too: "at the 52h 4, 7, 10"
abbrev pub track_tests : Order → ℕ → Seen → TrackInformation → List Test
track_tests o t v i = if (eqb t 1 && not o.erase) (opening_tests o t v i) (later_tests o t v i)

-- ---- any reply to an operation, by what was seen before

-- with a round of polls in front, or without
abbrev pub polls_if : Bool → Judgement
polls_if due = onward (if due polls [])

-- "until 00h succeeds and the 03h after it reports progress 0"
abbrev pub is_last : Bool → ℕ → Bool
is_last ready n = ready && eqb n 0

-- what it leads to where no test is due, by whether its operation is polled and whether the drive was ready: "Busy: the same command again.
-- Failed otherwise: the end, 12 with its triple." 4 "stops at once". "After each such good reply the recorder sends 00h and then 03h";
-- where the 00h fails, not ready, "the 03h follows all the same"
abbrev pub untested : Bool → Bool → Reading → Judgement
untested polled ready Busy = again
untested polled ready NotReady = onward []
untested polled ready (Failed s) = refused (drive_failed s)
untested polled ready Malformed = refused (because 4)
untested polled ready (Profile p) = onward []
untested polled ready (Disc d) = onward []
untested polled ready (Information i) = onward []
untested polled ready (ProgressIndication n) = polls_if (not (is_last ready n))
untested polled ready Unread = polls_if polled

-- disc and track information are tested
abbrev pub judge : Order → Seen → Op → Reading → Judgement
judge o v x r =
    of_disc (of_information (untested (is_polled o.immed x) v.ready r) (λ i. tested (track_tests o (track_in x) v i) []) r) (judge_disc o v) r

-- an exchange, given those before it
abbrev pub judged : Order → List Exchange → Exchange → Judgement
judged o es e = judge o (seen o.method es) e.command.op (read e)

-- ---- what is left of the plan

-- all but the head
abbrev pub rest : List Op → List Op
rest [] = []
rest (x ∷ l) = l

abbrev pub move : Judgement → List Op → List Op
move again l = l
move (onward xs) l = xs ++ rest l
move (refused w) l = l

-- the script, moved by each judgement; its head is the operation due
abbrev pub left : Order → List Exchange → List Op
left o [] = script o
left o (e ∷ es) = move (judged o es e) (left o es)

-- ---- the first refusal

pub data Found : Type 0 where
  none : Found
  found : Why → Found

abbrev pub or_else : Found → Found → Found
or_else none y = y
or_else (found w) y = found w

abbrev pub refused_by : Judgement → Found
refused_by again = none
refused_by (onward xs) = none
refused_by (refused w) = found w

abbrev pub first_refused : Order → List Exchange → Found
first_refused o [] = none
first_refused o (e ∷ es) = or_else (first_refused o es) (refused_by (judged o es e))

-- of an order block as it was read: 1 to 3, or the first refused reply
abbrev pub refusal : Outcome Order → List Exchange → Found
refusal (pass o) es = first_refused o es
refusal (refuse n) es = found (because n)

-- ---- the answer

-- the command of an operation: a WRITE starts where the next block goes
abbrev pub command : Order → List Exchange → Op → Command
command o es x = record { op = x; address = address_at (seen o.method es).at }

abbrev pub answer_to : Order → List Exchange → Found → List Op → Ruling
answer_to o es (found w) l = stop w
answer_to o es none [] = done
answer_to o es none (x ∷ l) = issue (command o es x)

-- "An order that 1 to 3 refuse gives no command"; for any other: the first refusal, the command of the operation due, or done
abbrev pub ruled : Outcome Order → List Exchange → Ruling
ruled (pass o) es = answer_to o es (first_refused o es) (left o es)
ruled (refuse n) es = stop (because n)

-- a reply answers the command that was given, if one was
abbrev pub exchanged : Ruling → Reply → List Exchange → List Exchange
exchanged (issue c) y es = record { command = c; reply = y } ∷ es
exchanged done y es = es
exchanged (stop w) y es = es

-- the exchanges that replies lead to by the rules, after those before them
abbrev pub play : Outcome Order → List Exchange → List Reply → List Exchange
play q es [] = es
play q es (y ∷ ys) = play q (exchanged (ruled q es) y es) ys

-- ---- recorded and closed

-- the ordered blocks of an order block as it was read
abbrev pub ordered_in : Outcome Order → List Block
ordered_in (pass o) = ordered o
ordered_in (refuse n) = []

-- "all are recorded and closed", and "closed takes in the end of each polling"; "a job whose order 1 to 3 refuse is never closed"
abbrev pub AllClosed : Outcome Order → List Exchange → Type 0
AllClosed (pass o) es = (recorded es ≡ ordered o) × ((closed es ≡ closings o) × (polling o.immed es ≡ false))
AllClosed (refuse n) es = ⊥
