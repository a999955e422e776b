-- Commands and the replies to them, the latest first, and what is read off a list of them.
use Rattle.std.specs.Prelude.{Bool, true, false, not, ◌&&◌, ◌||◌, List, [], ◌∷◌, ◌++◌, ℕ, zero, suc, ◌+◌, eqb}
use Rattle.basics.specs.Bytes.{if}
use Rattle.mmc.specs.Times.{frames_to}
use Rattle.mmc.specs.ReplyBlock.{Reply}
use Rattle.mmc.specs.declared.units.FrameCount.{FrameCount}
use Rattle.mmc.specs.declared.order.Method.{Method}
use Rattle.recorder.specs.declared.script.Op.{Op}
use Rattle.recorder.specs.declared.answers.Command.{Command}
use Rattle.recorder.specs.declared.replies.DiscInformation.{DiscInformation}
use Rattle.recorder.specs.declared.replies.TrackInformation.{TrackInformation}
use Rattle.recorder.specs.declared.replies.Reading.{Reading}
use Rattle.recorder.specs.declared.replies.Reading.TheVariants.{Busy, NotReady, Failed, Malformed, Profile, Disc, Information, ProgressIndication, Unread}
use Rattle.recorder.specs.declared.exchanges.Seen.{Seen}
use Rattle.recorder.specs.Replies.{is_busy, reading, of_profile, of_disc, of_information, of_progress}
use Rattle.recorder.specs.Script.{track_in, of_write, count_in, asks_ready, is_erasing, takes_immed, is_polled, stepwise, Block, blocks_in, closing_in}

-- "the commands given so far and the replies to them"
pub record Exchange : Type 0 where
  pub command : Command
  pub reply : Reply

-- what its reply says
abbrev pub read : Exchange → Reading
read e = reading e.command.op e.reply

-- ---- recorded, occupied, closed

-- each exchange's part, from the first exchange to the latest
abbrev pub gathered : {B : Type 0} → (Exchange → List B) → List Exchange → List B
gathered f [] = []
gathered f (e ∷ es) = gathered f es ++ f e

-- what belongs to an exchange answered good
abbrev pub if_good : {B : Type 0} → Exchange → List B → List B
if_good e x = if e.reply.good x []

abbrev pub done_in : {B : Type 0} → (Op → List B) → Exchange → List B
done_in g e = if_good e (g e.command.op)

-- "A WRITE answered good puts its blocks one after another from its address; its track blocks are then recorded"
abbrev pub recorded : List Exchange → List Block
recorded es = gathered (done_in blocks_in) es

-- k frames from a on
abbrev pub upward : ℕ → ℕ → List ℕ
upward a zero = []
upward a (suc k) = a ∷ upward (suc a) k

abbrev pub places_in : Exchange → List ℕ
places_in e = if_good e (upward (frames_to e.command.address).0 (count_in e.command.op))

-- the frames that blocks were put at, the pause's too
abbrev pub occupied : List Exchange → List ℕ
occupied es = gathered places_in es

-- "every 35h and 5Bh .. answered good"
abbrev pub closed : List Exchange → List Op
closed es = gathered (done_in closing_in) es

-- ---- the polling

-- the latest 00h was answered good, and what came after it was busy
abbrev pub was_ready : List Exchange → Bool
was_ready [] = false
was_ready (e ∷ es) = if (asks_ready e.command.op) e.reply.good ((not e.reply.good && is_busy e.reply.bytes) && was_ready es)

-- "After each such good reply the recorder sends 00h and then 03h ..
abbrev pub begins : Bool → Exchange → Bool
begins immed e = e.reply.good && is_polled immed e.command.op

-- .. until 00h succeeds and the 03h after it reports progress 0"
abbrev pub ends : List Exchange → Exchange → Bool
ends es e = of_progress false (λ n. eqb n 0) (read e) && was_ready es

-- a polling is under way
abbrev pub polling : Bool → List Exchange → Bool
polling immed [] = false
polling immed (e ∷ es) = if (begins immed e) true (if (ends es e) false (polling immed es))

-- "the latest progress of a polling under way"; it is 0 before the first 03h
abbrev pub progress : List Exchange → ℕ
progress [] = 0
progress (e ∷ es) = if (e.reply.good && takes_immed e.command.op) 0 (of_progress (progress es) (λ n. n) (read e))

-- ---- the disc, and its erasing

-- what the latest 46h and the latest 51h said
abbrev pub profile : List Exchange → ℕ
profile [] = 0
profile (e ∷ es) = of_profile (profile es) (λ p. p) (read e)

abbrev pub disc : List Exchange → DiscInformation
disc [] = record { status = 0; erasable = false }
disc (e ∷ es) = of_disc (disc es) (λ d. d) (read e)

-- "an erasing took place": an A1h was answered good
abbrev pub erased : List Exchange → Bool
erased [] = false
erased (e ∷ es) = (e.reply.good && is_erasing e.command.op) || erased es

-- an A1h was given, and no 51h has said blank since
abbrev pub unblank : List Exchange → Bool
unblank [] = false
unblank (e ∷ es) = if (is_erasing e.command.op) true (of_disc (unblank es) (λ d. not (eqb d.status 0) && unblank es) (read e))

-- ---- what was seen: all that the rules look at, where the next block goes in frames, and the latest progress, for the panel

abbrev pub nothing_seen : Seen
nothing_seen = record { profile = 0; status = 0; at = record { 0 = 0 }; erased = false; ready = false; progress = 0 }

-- "In TAO a track starts at the address of its latest 52h"
abbrev pub start_at : Method → FrameCount → TrackInformation → FrameCount
start_at m at i = if (stepwise m) (frames_to i.address) at

-- "elsewhere each WRITE starts where the last good one ended", the pause "from -150", which is frame 0
abbrev pub past : Op → FrameCount → FrameCount
past x at = of_write at (λ t f k. record { 0 = at.0 + k }) x

-- a polling begins anew with each command that takes Immed
abbrev pub progress_past : Op → ℕ → ℕ
progress_past x n = if (takes_immed x) 0 n

-- no 00h was answered good since
abbrev pub unready_seen : Seen → Seen
unready_seen v = record { profile = v.profile; status = v.status; at = v.at; erased = v.erased; ready = false; progress = v.progress }

-- by what a reply to an operation says
abbrev pub see : Method → Op → Reading → Seen → Seen
see m x Busy v = v
see m x NotReady v = unready_seen v
see m x (Failed s) v = unready_seen v
see m x Malformed v = unready_seen v
see m x (Profile p) v = record { profile = p; status = v.status; at = v.at; erased = v.erased; ready = false; progress = v.progress }
see m x (Disc d) v = record { profile = v.profile; status = d.status; at = v.at; erased = v.erased; ready = false; progress = v.progress }
see m x (Information i) v = record { profile = v.profile; status = v.status; at = start_at m v.at i; erased = v.erased; ready = false; progress = v.progress }
see m x (ProgressIndication n) v = record { profile = v.profile; status = v.status; at = v.at; erased = v.erased; ready = false; progress = n }
see m x Unread v = record { profile = v.profile; status = v.status; at = past x v.at; erased = is_erasing x || v.erased; ready = asks_ready x; progress = progress_past x v.progress }

abbrev pub seen : Method → List Exchange → Seen
seen m [] = nothing_seen
seen m (e ∷ es) = see m e.command.op (read e) (seen m es)

-- ---- what the latest 52h named: for which track, the address in frames, the free blocks

pub record Named : Type 0 where
  pub track : ℕ
  pub start : ℕ
  pub free : ℕ

abbrev pub name : Op → Reading → Named → Named
name x r n = of_information n (λ i. record { track = track_in x; start = (frames_to i.address).0; free = i.free.0 }) r

abbrev pub named : List Exchange → Named
named [] = record { track = 0; start = 0; free = 0 }
named (e ∷ es) = name e.command.op (read e) (named es)
