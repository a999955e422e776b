-- A whole history: an order is taken, then replies are given, each with the state that the last call gave back. Demand 3 is what
-- holds of every history.
use Rattle.std.specs.Prelude.{◌≡◌, ◌↔◌, Bool, true, false, not, ◌&&◌, ◌||◌, List, [], ◌∷◌, ◌++◌, ℕ, suc, ◌+◌, ◌-◌, ◌≤◌, ◌<◌, min, length, get_or, ltb, eqb}
use Rattle.basics.specs.Bytes.{if}
use Rattle.mmc.specs.Refusals.{pass}
use Rattle.mmc.specs.Order.{no_track, tracks_in, all_long, mixed_or_kept}
use Rattle.mmc.specs.OrderBlock.{read_order}
use Rattle.mmc.specs.Page.{mode_data}
use Rattle.mmc.specs.Sheet.{sheet_bytes, cue_sheet}
use Rattle.mmc.specs.Times.{last_address, frames_to}
use Rattle.mmc.specs.ReplyBlock.{Reply, reply_of}
use Rattle.mmc.specs.declared.units.TrackNumber.{TrackNumber}
use Rattle.mmc.specs.declared.order.Order.{Order}
use Rattle.mmc.specs.declared.order.Track.{Track}
use Rattle.mmc.specs.declared.order.Kind.{Kind}
use Rattle.mmc.specs.declared.order.Kind.TheVariants.{Audio}
use Rattle.mmc.specs.declared.order.Method.{Method}
use Rattle.mmc.specs.declared.order.Method.TheVariants.{Tao, Sao}
use Rattle.mmc.specs.declared.order.Recipe.TheVariants.{Old, New}
use Rattle.recorder.specs.declared.script.Op.{Op}
use Rattle.recorder.specs.declared.script.Op.TheVariants.{ModeSelect, SendCueSheet, Blank}
use Rattle.recorder.specs.declared.answers.Command.{Command}
use Rattle.recorder.specs.declared.replies.DiscInformation.{DiscInformation}
use Rattle.recorder.specs.declared.replies.TrackInformation.{TrackInformation}
use Rattle.recorder.specs.declared.replies.Reading.{Reading}
use Rattle.recorder.specs.declared.job.Phase.{Phase}
use Rattle.recorder.specs.declared.job.Phase.TheVariants.{Idle, Going, Finished, Stopped, Failed}
use Rattle.recorder.specs.declared.job.Recorder.{Recorder}
use Rattle.recorder.specs.declared.job.Step.{Step}
use Rattle.recorder.specs.Answers.{Why, because, drive_failed, Ruling, issue, done, stop, made_for, bytes_in}
use Rattle.recorder.specs.Script.{code, gather, asks_ready, is_poll, stepwise, write, Block, script, expected}
use Rattle.recorder.specs.Replies.{of_disc, of_information}
use Rattle.recorder.specs.Places.{piece_of}
use Rattle.recorder.specs.Exchanges.{Exchange, read, gathered, recorded, occupied, polling, progress, profile, disc, erased, unblank, Named, named}
use Rattle.recorder.specs.Rules.{cd_rw, finalized, other_profile, unsuitable, to_come, needed, used, not_erasable, none, found, refusal, ruled, exchanged, play, ordered_in, AllClosed}
use Rattle.recorder.specs.Recipes.{under, other_ops, others, latest_of_function1, replies_in, bytes_given}
use Rattle.recorder.specs.Job.{Next, next_in, most_commands, latest_progress, unchanged, valid_of, idle_recorder, take_of, give_of}

-- what the calls gave back since the order was taken: the last step; all answers, and the commands with the replies to them, the
-- latest first
pub record History : Type 0 where
  pub last : Next
  pub answers : List Ruling
  pub exchanges : List Exchange

unfoldable pub taken : List ℕ → History
taken b = record { last = take_of b; answers = (take_of b).answer ∷ []; exchanges = [] }

-- "Each reply goes in with the state that the last call gave back"
unfoldable pub given : History → Reply → History
given h y =
    record {
      last = give_of h.last.state y.good y.bytes;
      answers = (give_of h.last.state y.good y.bytes).answer ∷ h.answers;
      exchanges = exchanged h.last.answer y h.exchanges;
    }

unfoldable pub given_all : History → List Reply → History
given_all h [] = h
given_all h (y ∷ ys) = given_all (given h y) ys

-- the history of an order block and the replies given after it
unfoldable pub history : List ℕ → List Reply → History
history b rs = given_all (taken b) rs

-- ---- what is read off the answers

abbrev pub command_in : Ruling → List Command
command_in (issue c) = c ∷ []
command_in done = []
command_in (stop w) = []

-- the commands given, repeats too
abbrev pub commands : List Ruling → List Command
commands xs = gather command_in xs

pub data Ending : Type 0 where
  going : Ending
  as_done : Ending
  as_stop : Why → Ending

abbrev pub ending : Ruling → Ending
ending (issue c) = going
ending done = as_done
ending (stop w) = as_stop w

abbrev pub sooner : Ending → Ending → Ending
sooner going x = x
sooner as_done x = as_done
sooner (as_stop w) x = as_stop w

-- how the job has ended: by the first answer that is no command
abbrev pub ended : List Ruling → Ending
ended [] = going
ended (a ∷ xs) = sooner (ended xs) (ending a)

-- how the recorder's state says so: "stopped with its number", 12 with its triple
abbrev pub stopped_by : Why → Phase
stopped_by (because n) = Stopped n
stopped_by (drive_failed s) = Failed s

abbrev pub phase_in : Ending → Phase
phase_in going = Going
phase_in as_done = Finished
phase_in (as_stop w) = stopped_by w

-- ---- what goes with a command that is given

-- "55h goes with the mode data of the order and its track's kind, 5Dh with the order's cue sheet; the host gets both from their makers",
-- which refuse neither
pub record Accompanied (o : Order) (x : Op) : Type 0 where
  pub page : (t : TrackNumber) → x ≡ ModeSelect t → (bytes : List ℕ) × (mode_data o (get_or o.tracks (t.0 - 1) no_track).kind ≡ pass bytes)
  pub sheet : x ≡ SendCueSheet → (bytes : List ℕ) × ((cue_sheet o ≡ pass bytes) × (length bytes ≡ sheet_bytes o.count))

-- ---- of every command: of each that was answered, and of the one that is given, with the exchanges before it

abbrev pub Each : (List Exchange → Command → Type 0) → List Exchange → Type 0
Each P [] = Unit {0}
Each P (e ∷ es) = P es e.command × Each P es

abbrev pub OfAnswer : (Command → Type 0) → Ruling → Type 0
OfAnswer P (issue c) = P c
OfAnswer P done = Unit {0}
OfAnswer P (stop w) = Unit {0}

abbrev pub Every : (List Exchange → Command → Type 0) → List Exchange → Ruling → Type 0
Every P es a = Each P es × OfAnswer (P es) a

-- ---- no track is begun at a stale address

-- a WRITE of k blocks of the track t from its block f on, given what the latest 52h named: it was named for this track, the WRITE lies
-- at the named address plus its first block, and it ends within the free blocks
pub record FreshWrite (n : Named) (c : Command) (t f k : ℕ) : Type 0 where
  pub of_track : t ≡ n.track
  pub at_address : (frames_to c.address).0 ≡ n.start + f
  pub within : f + k ≤ n.free

-- a command, given the exchanges before it
abbrev pub Fresh : List Exchange → Command → Type 0
Fresh before c = (t f k : ℕ) → c.op ≡ write t f k → FreshWrite (named before) c t f k

-- ---- progress never skips a step: between a polled command and the end of its polling every command is a poll, and elsewhere none is

abbrev pub Unskipped : Bool → List Exchange → Command → Type 0
Unskipped immed before c = is_poll c.op ≡ polling immed before

-- ---- "No disc may be wiped for an order known to be bad"

-- one of these tracks is audio, whatever stands before and after it
pub record HasAudio (xs : List Track) : Type 0 where
  pub before : List Track
  pub track : Track
  pub after : List Track
  pub among : xs ≡ before ++ (track ∷ after)
  pub is_audio : track.kind ≡ Audio

-- an order that passes 24, 8, 9 and, with what lies between its tracks, the lead-out limit
pub record Recordable (o : Order) : Type 0 where
  pub no_audio : o.method ≡ Tao → HasAudio (tracks_in o) → ⊥
  pub alike : mixed_or_kept o ≡ false
  pub long : all_long (tracks_in o) ≡ true
  pub ends : needed o 1 ≤ last_address

-- an A1h, where 46h said the profile p and 51h the disc d: the order has flag bit 3 and passes 24, 8, 9 and the lead-out limit; the profile is
-- 000Ah, so 5 passes too; the disc is erasable, and of status 1 or 2; and no erasing has taken place
pub record RightlyErased (o : Order) (p : ℕ) (d : DiscInformation) (before : Bool) : Type 0 where
  pub flagged : o.erase ≡ true
  pub recordable : Recordable o
  pub cd_rw_profile : p ≡ cd_rw
  pub passes_5 : other_profile p ≡ false
  pub erasable : d.erasable ≡ true
  pub not_blank : 1 ≤ d.status
  pub at_most_2 : d.status ≤ finalized
  pub once : before ≡ false

-- a command, given the exchanges before it
abbrev pub ErasesRightly : Order → List Exchange → Command → Type 0
ErasesRightly o before c = c.op ≡ Blank → RightlyErased o (profile before) (disc before) (erased before)

-- ---- "Afterwards 51h is asked anew and must say blank"

-- a WRITE, where 51h said the disc d: no A1h was given, or a 51h has said blank since; with flag bit 3 the latest 51h said so in any case
pub record BlankBefore (o : Order) (d : DiscInformation) (unblank : Bool) : Type 0 where
  pub said_blank : unblank ≡ false
  pub is_blank : o.erase ≡ true → d.status ≡ 0

abbrev pub WritesOnBlank : Order → List Exchange → Command → Type 0
WritesOnBlank o before c = (t f k : ℕ) → c.op ≡ write t f k → BlankBefore o (disc before) (unblank before)

-- ---- "No more spoken tracks in TAO"

-- "no command but 46h, 51h and 52h", with flag bit 3 no 52h either
abbrev pub is_opening : Bool → Op → Bool
is_opening erase x = eqb (code x) 0x46 || (eqb (code x) 0x51 || (eqb (code x) 0x52 && not erase))

abbrev pub OnlyOpens : Order → List Exchange → Command → Type 0
OnlyOpens o before c = is_opening o.erase c.op ≡ true

-- ---- "Count what lies between tracks"

-- what the replies to 52h said, from the first on
abbrev pub informations_in : Reading → List TrackInformation
informations_in r = of_information [] (λ i. i ∷ []) r

abbrev pub informations : List Exchange → List TrackInformation
informations es = gathered (λ e. informations_in (read e)) es

-- without the latest exchange
abbrev pub earlier : List Exchange → List Exchange
earlier [] = []
earlier (e ∷ es) = es

-- "Our drives start a track 152 blocks after the last one ends: two run-out blocks and a pause of 150"
abbrev pub drive_gap : ℕ
drive_gap = 2 + 150

-- what is said of a track of l blocks and then of the next one: that starts so many blocks after the first ends, and Free Blocks falls by
-- what was taken
pub record Follows (l : ℕ) (i j : TrackInformation) : Type 0 where
  pub starts : (frames_to j.address).0 ≡ (frames_to i.address).0 + l + drive_gap
  pub falls : i.free.0 ≡ j.free.0 + (l + drive_gap)

-- of each two of these that are neighbours
abbrev pub Spaced : Order → List TrackInformation → Type 0
Spaced o is = (before after : List TrackInformation) (i j : TrackInformation) → is ≡ before ++ (i ∷ j ∷ after) → Follows (piece_of o (suc (length before))) i j

-- where a track starts if the one before it ends at a, on such a drive; in SAO "each later one where its forerunner ends"
abbrev pub start_after : Method → ℕ → ℕ
start_after Tao a = a + drive_gap
start_after Sao a = a

-- where the last of these tracks ends if the first starts at a
abbrev pub last_end : Method → ℕ → List Track → ℕ
last_end m a [] = a
last_end m a (x ∷ []) = a + x.length.0
last_end m a (x ∷ y ∷ xs) = last_end m (start_after m (a + x.length.0)) (y ∷ xs)

-- ---- "Two ways to close a track"

-- a job by the old recipe, and one by the new of the same order, whose drive replies the same; what was replied to function 1 and to the polls
-- after it is left out
pub record ButFunction1 (o : Order) (old new : History) : Type 0 where
  -- the new one has the same commands, with the same addresses, but those
  pub exchanges : new.exchanges ≡ others old.exchanges
  -- of the same bytes, and the same mode data goes with 55h
  pub bytes : bytes_given (under New o) new.exchanges ≡ bytes_given o (others old.exchanges)
  pub page : (k : Kind) → mode_data (under New o) k ≡ mode_data o k
  -- it is done where the old one is, and stops as the old one does at a reply to any other command
  pub as_well_done : ended old.answers ≡ as_done → ended new.answers ≡ as_done
  pub as_well_stopped : (w : Why) → ended old.answers ≡ as_stop w → latest_of_function1 old.exchanges ≡ false → ended new.answers ≡ as_stop w

-- ---- part 7

-- "The exact count grows by 2 where an erasing took place"
abbrev pub exact_count : Order → List Exchange → ℕ
exact_count o es = expected o + if (erased es) 2 0

-- "all replies, each good", but a 00h that says not ready belongs to a polling
abbrev pub AllWell : List Exchange → Type 0
AllWell [] = Unit {0}
AllWell (e ∷ es) = (e.reply.good || asks_ready e.command.op ≡ true) × AllWell es

-- "the exact count excludes polls"
abbrev pub unpolled : List Command → ℕ
unpolled [] = 0
unpolled (c ∷ cs) = if (is_poll c.op) (unpolled cs) (suc (unpolled cs))

-- the commands that were answered
abbrev pub answered : List Exchange → List Command
answered [] = []
answered (e ∷ es) = e.command ∷ answered es

-- "it is done after exactly the count in document 01", "where every polling ends", and 2 more "where an erasing took place": of k replies
pub record AllGood (o : Order) (k : ℕ) (es : List Exchange) (answers : List Ruling) : Type 0 where
  -- the commands that are no polls are exactly the count when it is done
  pub exact : ended answers ≡ as_done → unpolled (commands answers) ≡ exact_count o es
  -- and on the way: one more than those answered, up to the count, and none more while a polling is under way
  pub given_count : unpolled (commands answers) ≡ if (polling o.immed es) (unpolled (answered es)) (min (unpolled (answered es) + 1) (exact_count o es))
  -- it is done as soon as the whole count is answered and the last polling has ended, and not before; each reply answers a command until then
  pub done_at : exact_count o es ≤ unpolled (answered es) → polling o.immed es ≡ false → ended answers ≡ as_done
  pub not_before : unpolled (answered es) < exact_count o es → ended answers ≡ going
  pub not_polling : polling o.immed es ≡ true → ended answers ≡ going
  pub each_reply : ended answers ≡ going → length es ≡ k
  -- without the flag no command is a poll: done after k replies, if that is the count, and not before
  pub no_polls : o.immed ≡ false → (polling o.immed es ≡ false) × ((unpolled (answered es) ≡ min k (exact_count o es)) × (length (commands answers) ≡ min (k + 1) (exact_count o es)))

-- ---- demand 3

pub record Whole (b : List ℕ) (rs : List Reply) (h : History) : Type 0 where
  -- 1: the commands and the answer are those of the rules; "To an ended job: 13, and nothing changes"
  pub played : h.exchanges ≡ play (read_order b) [] rs
  pub in_turn : length h.exchanges ≤ length rs
  pub as_ruled : length h.exchanges ≡ length rs → h.last.answer ≡ ruled (read_order b) h.exchanges
  pub after_end : length h.exchanges < length rs → h.last.answer ≡ stop (because 13)
  pub unmoved : (ended h.answers ≡ going → ⊥) → (y : Reply) → (given h y).last ≡ unchanged h.last.state 13
  -- the bytes of a command are those of its maker, which refuses none; so are the mode data and the cue sheet that go with it
  pub made : (o : Order) → read_order b ≡ pass o → (c : Command) → h.last.answer ≡ issue c → made_for o.immed o.count c ≡ pass (bytes_in h.last.cdb)
  pub accompanied : (o : Order) → read_order b ≡ pass o → (c : Command) → h.last.answer ≡ issue c → Accompanied o c.op
  -- 2: "The track blocks answered good are always a beginning of the ordered ones, each once, in order"
  pub in_order : (rest : List Block) × (recorded h.exchanges ++ rest ≡ ordered_in (read_order b))
  -- 3: "within a job no address takes two blocks"
  pub apart : (i j : ℕ) → i < j → j < length (occupied h.exchanges) → get_or (occupied h.exchanges) i 0 ≡ get_or (occupied h.exchanges) j 0 → ⊥
  -- 4: "The job ends as done exactly when all are recorded and closed by the recording rules"
  pub done_when : (ended h.answers ≡ as_done) ↔ AllClosed (read_order b) h.exchanges
  -- 5: "It stops early exactly when, before that, those rules refuse the order or a reply, and with the first such refusal's number"
  pub stop_when : (w : Why) → (ended h.answers ≡ as_stop w) ↔ (refusal (read_order b) h.exchanges ≡ found w)
  -- 6: the count in state and result is "the number of those commands", up to 2^64 - 1
  pub counted : h.last.state.count ≡ min (length (commands h.answers)) most_commands
  pub reported : h.last.count ≡ min (length (commands h.answers)) most_commands
  -- 7: "If the order and all replies, each good and well formed, pass the checks, it is done after exactly the count in document 01", "where
  -- every polling ends"
  pub all_good : (o : Order) → read_order b ≡ pass o → AllWell h.exchanges → refusal (pass o) h.exchanges ≡ none → AllGood o (length rs) h.exchanges h.answers
  -- 8: "every state that a history gives passes it", the recorder's own test
  pub is_valid : valid_of h.last.state ≡ true
  -- "a track begun at a stale address spoils the disc": of every WRITE that is given
  pub never_stale : (o : Order) → read_order b ≡ pass o → stepwise o.method ≡ true → Every Fresh h.exchanges h.last.answer
  -- "TAO discs of many tracks stopped in the last with 10": on a drive that starts each track 152 blocks after the last one ends and whose
  -- Free Blocks falls by what was taken, 10 stops no job after its first 52h has passed: none had told of a track before the reply that 10 refused
  pub room_lasts : (o : Order) → read_order b ≡ pass o → o.method ≡ Tao → Spaced o (informations h.exchanges) → ended h.answers ≡ as_stop (because 10) → informations (earlier h.exchanges) ≡ []
  -- "progress never skips a step"
  pub never_skips : (o : Order) → read_order b ≡ pass o → Every (Unskipped o.immed) h.exchanges h.last.answer
  -- "No disc may be wiped for an order known to be bad"
  pub erases_rightly : (o : Order) → read_order b ≡ pass o → Every (ErasesRightly o) h.exchanges h.last.answer
  -- and nothing is written on one that was erased before "51h is asked anew and must say blank"
  pub writes_on_blank : (o : Order) → read_order b ≡ pass o → Every (WritesOnBlank o) h.exchanges h.last.answer
  -- "audio in TAO is retired .. A job with one gets no command but 46h, 51h and 52h"
  pub only_opens : (o : Order) → read_order b ≡ pass o → o.method ≡ Tao → HasAudio (tracks_in o) → Every (OnlyOpens o) h.exchanges h.last.answer
  -- "0 the old, 1 the new without function 1": the recipes differ in nothing else. Of any replies, and a block c that holds the same order by the new one
  pub but_function_1 : (o : Order) → read_order b ≡ pass o → o.method ≡ Tao → o.recipe ≡ Old → (c : List ℕ) → read_order c ≡ pass (under New o) → ButFunction1 o h (history c (replies_in (others h.exchanges)))
  -- what the panel shows: how the job stands, and while it goes on the progress of the polling under way
  pub phase_so : h.last.state.phase ≡ phase_in (ended h.answers)
  pub shows : (o : Order) → read_order b ≡ pass o → ended h.answers ≡ going → latest_progress h.last.state.progress ≡ if (polling o.immed h.exchanges) (progress h.exchanges) 0

-- ---- part 7 speaks of something

abbrev pub Bytes : List ℕ → Type 0
Bytes d = (k : ℕ) → get_or d k 0 < 256

abbrev pub AllBytes : List Reply → Type 0
AllBytes [] = Unit {0}
AllBytes (y ∷ ys) = Bytes y.bytes × AllBytes ys

abbrev pub AllMarkedGood : List Reply → Type 0
AllMarkedGood [] = Unit {0}
AllMarkedGood (y ∷ ys) = (y.good ≡ true) × AllMarkedGood ys

-- what the replies to 51h said, from the first on
abbrev pub discs_in : Reading → List DiscInformation
discs_in r = of_disc [] (λ d. d ∷ []) r

abbrev pub discs : List Exchange → List DiscInformation
discs es = gathered (λ e. discs_in (read e)) es

-- replies that are bytes, good ones that the rules pass and that lead to the end as done, of a drive that says this profile and, first, this
-- disc, and that starts each track 152 blocks after the last one ends; with flag bit 3 and a disc of status 1 or 2 an erasing takes place
pub record Passing (o : Order) (p : ℕ) (d : DiscInformation) (rs : List Reply) : Type 0 where
  pub all_bytes : AllBytes rs
  pub marked : AllMarkedGood rs
  pub unrefused : refusal (pass o) (play (pass o) [] rs) ≡ none
  pub enough : ruled (pass o) (play (pass o) [] rs) ≡ done
  pub of_profile : profile (play (pass o) [] rs) ≡ p
  pub of_disc : (more : List DiscInformation) × (discs (play (pass o) [] rs) ≡ d ∷ more)
  pub erases_so : erased (play (pass o) [] rs) ≡ (o.erase && used d.status)
  pub spaces : o.method ≡ Tao → Spaced o (informations (play (pass o) [] rs))

-- with flag bit 3 all but status 3 and a used disc that can't be erased; without it what the method takes
abbrev pub unfit : Order → ℕ → DiscInformation → Bool
unfit o p d = if o.erase (ltb finalized d.status || not_erasable p d) (unsuitable o.method d.status)

-- a disc that passes 5, 6 and 16
pub record Suitable (o : Order) (p : ℕ) (d : DiscInformation) : Type 0 where
  pub profile_so : other_profile p ≡ false
  pub disc_so : unfit o p d ≡ false

-- ---- what the calls promise

-- what a call gives back is the last step of a history, and all of demand 3 holds of that history
pub record OfHistory (b : List ℕ) (rs : List Reply) (s : Next) : Type 0 where
  pub is_last : s ≡ (history b rs).last
  pub whole : Whole b rs (history b rs)

-- `take`: the plain job's step, demand 3 of the empty list of replies, the exact count, that the scripts of the two recipes differ in function 1
-- alone and that a block holds the order by the new one, that what is needed is what such a drive takes, and that replies exist for part 7
pub record Takes (b : List ℕ) (s : Step) : Type 0 where
  pub step : next_in s ≡ take_of b
  pub begins : OfHistory b [] (next_in s)
  pub script_length : (o : Order) → read_order b ≡ pass o → length (script o) ≡ expected o
  pub scripts_agree : (o : Order) → read_order b ≡ pass o → other_ops (script (under Old o)) ≡ script (under New o)
  pub newer : (o : Order) → read_order b ≡ pass o → o.method ≡ Tao → (c : List ℕ) × (read_order c ≡ pass (under New o))
  pub needs : (o : Order) → read_order b ≡ pass o → (t a : ℕ) → a + needed o t ≡ last_end o.method a (to_come o t)
  pub can_pass : (o : Order) → read_order b ≡ pass o → Recordable o → (p : ℕ) (d : DiscInformation) → Suitable o p d → (rs : List Reply) × Passing o p d rs

-- `give`: the plain job's step; demand 3 of every history that this reply goes on with; and of every state, also one that no history
-- gives: the bytes of a command that is given are those of its maker, which refuses none
pub record Gives (r : Recorder) (good : Bool) (d : List ℕ) (s : Step) : Type 0 where
  pub step : next_in s ≡ give_of r good d
  pub goes_on : (b : List ℕ) (rs : List Reply) → r ≡ (history b rs).last.state → OfHistory b (rs ++ (reply_of good d ∷ [])) (next_in s)
  pub made : (c : Command) → (next_in s).answer ≡ issue c → made_for r.order.immed r.order.count c ≡ pass (bytes_in s.cdb)

-- `idle`: "Idle is before any order; a reply then is 13", and it stays idle
pub record Rests (r : Recorder) : Type 0 where
  pub state : r ≡ idle_recorder
  pub unmoved : (good : Bool) (d : List ℕ) → give_of r good d ≡ unchanged r 13
  -- the panel shows it as idle, it has given no command, and it passes the recorder's own test
  pub is_idle : r.phase ≡ Idle
  pub none_given : r.count ≡ 0
  pub is_valid : valid_of r ≡ true
