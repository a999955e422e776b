-- One exchange by the rules: the only place where operations and replies are told apart for the plan.
use mathlib.Core.Path.{◌≡◌, refl, ap, subst, ◌∙◌}
use mathlib.Core.Bool.{Bool, true, false, not, ◌&&◌, ◌||◌}
use mathlib.Core.List.{List, [], ◌∷◌}
use Prim.Native.Nat.{ℕ}
use lib.Dec.{leb, eqb}
use lib.ListN.{length}
use Rattle.basics.specs.Bytes.{if}
use Rattle.mmc.specs.Refusals.{pass, Test}
use Rattle.mmc.specs.ReplyBlock.{Reply}
use Rattle.mmc.specs.declared.units.TrackNumber.{TrackNumber}
use Rattle.mmc.specs.declared.order.Order.{Order}
use Rattle.mmc.specs.declared.order.Method.{Method}
use Rattle.recorder.specs.declared.script.Op.{Op}
use Rattle.recorder.specs.declared.script.Op.TheVariants.{GetConfiguration, ReadDiscInformation, ReadTrackInformation, ModeSelect, SendCueSheet, Write, SynchronizeCache, CloseTrack, CloseSession, Blank, TestUnitReady, RequestSense}
use Rattle.recorder.specs.declared.replies.Sense.{Sense}
use Rattle.recorder.specs.declared.replies.DiscInformation.{DiscInformation}
use Rattle.recorder.specs.declared.replies.TrackInformation.{TrackInformation}
use Rattle.recorder.specs.declared.replies.Reading.{Reading}
use Rattle.recorder.specs.declared.replies.Reading.TheVariants.{Busy, NotReady, Failed, Malformed, Profile, Disc, Information, ProgressIndication, Unread}
use Rattle.recorder.specs.declared.exchanges.Seen.{Seen}
use Rattle.recorder.specs.Answers.{Why}
use Rattle.recorder.specs.Replies.{sense_of, is_busy, read_failed, is_unready, read_unready, whole_profile, read_profile, whole_disc, read_disc, whole_information, read_information, read_progress, read_good, failed_by, reading, of_profile, of_progress}
use Rattle.recorder.specs.Script.{code, asks_ready, is_poll, is_erasing, erasing, takes_immed, is_polled, polls}
use Rattle.recorder.specs.Exchanges.{Exchange, was_ready, polling, progress, profile as profileSaid, erased, see, seen}
use Rattle.recorder.specs.Rules.{Judgement, again, onward, refused, tested, disc_tests, erases, erasing_if, track_tests, polls_if, judge, judged, left, Found, none, found, first_refused, command, answer_to, ruled, exchanged, play}
use Rattle.recorder.proofs.Lists.{tested_by}

-- ---- the exchanges that the rules make

-- an operation's command with the reply to it
abbrev pub made : Order → List Exchange → Op → Reply → Exchange
made o es x y = record { command = command o es x; reply = y }

pub data Played (o : Order) : List Exchange → Type 0 where
  nothing : Played o []
  then : {es : List Exchange} {x : Op} {l : List Op} → Played o es → first_refused o es ≡ none → left o es ≡ x ∷ l → (y : Reply) → Played o (made o es x y ∷ es)

pub played_turn : (o : Order) (es : List Exchange) (y : Reply) → Played o es → Played o (exchanged (ruled (pass o) es) y es)
played_turn o es y p = go (first_refused o es) (left o es) refl refl
  where
    go : (f : Found) (l : List Op) → first_refused o es ≡ f → left o es ≡ l → Played o (exchanged (answer_to o es f l) y es)
    go (found w) l u e = p
    go none [] u e = p
    go none (x ∷ l) u e = then p u e y

played_on : (o : Order) (rs : List Reply) (es : List Exchange) → Played o es → Played o (play (pass o) es rs)
played_on o [] es p = p
played_on o (y ∷ rs) es p = played_on o rs (exchanged (ruled (pass o) es) y es) (played_turn o es y p)

pub played : (o : Order) (rs : List Reply) → Played o (play (pass o) [] rs)
played o rs = played_on o rs [] nothing

-- ---- what a reply to an operation may say, by its mark

-- the operations that ask, and whose good reply may be refused
pub data Asks : Op → Type 0 where
  a46 : Asks GetConfiguration
  a51 : Asks ReadDiscInformation
  a52 : {t : TrackNumber} → Asks (ReadTrackInformation t)
  a03 : Asks RequestSense

abbrev pub is_asking : Op → Bool
is_asking x = eqb (code x) 0x46 || (eqb (code x) 0x51 || (eqb (code x) 0x52 || eqb (code x) 0x03))

pub data Reads : Op → Bool → Reading → Type 0 where
  busy : {x : Op} → asks_ready x ≡ false → Reads x false Busy
  not_ready_lem : Reads TestUnitReady false NotReady
  failed : {x : Op} {s : Sense} → Reads x false (Failed s)
  malformed : {x : Op} → Asks x → Reads x true Malformed
  profile : {p : ℕ} → Reads GetConfiguration true (Profile p)
  status : {d : DiscInformation} → Reads ReadDiscInformation true (Disc d)
  information : {t : TrackNumber} {i : TrackInformation} → Reads (ReadTrackInformation t) true (Information i)
  indication : {n : ℕ} → Reads RequestSense true (ProgressIndication n)
  ready : Reads TestUnitReady true Unread
  unread : {x : Op} → is_asking x ≡ false → is_poll x ≡ false → Reads x true Unread

-- a whole reply, or a malformed one
by_form : (x : Op) (b : Bool) (r : Reading) → Asks x → Reads x true r → Reads x true (if b r Malformed)
by_form x true r a w = w
by_form x false r a w = malformed a

reads_good : (x : Op) (d : List ℕ) → Reads x true (read_good x d)
unfolding read_profile read_disc read_information read_progress
reads_good GetConfiguration d = by_form GetConfiguration (whole_profile d) _ a46 profile
reads_good ReadDiscInformation d = by_form ReadDiscInformation (whole_disc d) _ a51 status
reads_good (ReadTrackInformation t) d = by_form (ReadTrackInformation t) (whole_information d) _ a52 information
reads_good (ModeSelect t) d = unread refl refl
reads_good SendCueSheet d = unread refl refl
reads_good (Write t f k) d = unread refl refl
reads_good (SynchronizeCache t) d = unread refl refl
reads_good (CloseTrack t) d = unread refl refl
reads_good CloseSession d = unread refl refl
reads_good Blank d = unread refl refl
reads_good TestUnitReady d = ready
reads_good RequestSense d = by_form RequestSense (leb 18 (length d)) _ a03 indication

reads_busy : (x : Op) (d : List ℕ) → asks_ready x ≡ false → Reads x false (read_failed d)
unfolding read_failed
reads_busy x d q = go (is_busy d)
  where
    go : (b : Bool) → Reads x false (if b Busy (Failed (sense_of d)))
    go true = busy q
    go false = failed

reads_unready : (d : List ℕ) → Reads TestUnitReady false (read_unready d)
unfolding read_unready
reads_unready d = go (is_unready d)
  where
    go : (b : Bool) → Reads TestUnitReady false (if b NotReady (Failed (sense_of d)))
    go true = not_ready_lem
    go false = failed

reads_failed : (x : Op) (d : List ℕ) → Reads x false (failed_by x d)
reads_failed GetConfiguration d = reads_busy GetConfiguration d refl
reads_failed ReadDiscInformation d = reads_busy ReadDiscInformation d refl
reads_failed (ReadTrackInformation t) d = reads_busy (ReadTrackInformation t) d refl
reads_failed (ModeSelect t) d = reads_busy (ModeSelect t) d refl
reads_failed SendCueSheet d = reads_busy SendCueSheet d refl
reads_failed (Write t f k) d = reads_busy (Write t f k) d refl
reads_failed (SynchronizeCache t) d = reads_busy (SynchronizeCache t) d refl
reads_failed (CloseTrack t) d = reads_busy (CloseTrack t) d refl
reads_failed CloseSession d = reads_busy CloseSession d refl
reads_failed Blank d = reads_busy Blank d refl
reads_failed TestUnitReady d = reads_unready d
reads_failed RequestSense d = reads_busy RequestSense d refl

pub reads : (x : Op) (y : Reply) → Reads x y.good (reading x y)
reads x y = go y.good
  where
    go : (g : Bool) → Reads x g (if g (read_good x y.bytes) (failed_by x y.bytes))
    go true = reads_good x y.bytes
    go false = reads_failed x y.bytes

-- ---- what it may do to the plan, and to a polling

-- a reply that gets nothing done
pub data Idle (x : Op) : Bool → Type 0 where
  not_good : Idle x false
  only_asked : {g : Bool} → Asks x → Idle x g

-- with a polling under way before it (p), by its mark (g), and with one under way after it (q)
pub data Turn (p : Bool) : Op → Bool → Bool → Judgement → Type 0 where
  repeats : {x : Op} → asks_ready x ≡ false → Turn p x false p again
  refuses : {x : Op} {g : Bool} {w : Why} → Idle x g → Turn p x g p (refused w)
  works : {x : Op} → is_poll x ≡ false → Turn p x true p (onward [])
  polls_begin : {x : Op} → is_poll x ≡ false → Turn p x true true (onward polls)
  erases_first : Turn p ReadDiscInformation true p (onward erasing)
  asks : {g : Bool} → Turn p TestUnitReady g p (onward [])
  polls_on : Turn p RequestSense true p (onward polls)
  polls_end : Turn p RequestSense true false (onward [])

turn_tested : (p : Bool) (x : Op) (ts : List Test) (xs : List Op) → Asks x → Turn p x true p (onward xs) → Turn p x true p (tested ts xs)
turn_tested p x ts xs a n = tested_by (Turn p x true p) ts xs (λ c. n) (λ k. refuses (only_asked a))

-- a disc that passes is erased first, or not
turn_erasing : (p b : Bool) → Turn p ReadDiscInformation true p (onward (erasing_if b))
turn_erasing p true = erases_first
turn_erasing p false = works refl

-- a polling after a reply
abbrev polling_by : Bool → Bool → Bool → Op → Bool → Reading → Bool
polling_by p immed was x g r = if (g && is_polled immed x) true (if (of_progress false (λ n. eqb n 0) r && was) false p)

-- a good reply that is not read, by whether its operation is polled
turn_worked : (p : Bool) (x : Op) (b : Bool) → is_poll x ≡ false → Turn p x true (if b true p) (polls_if b)
turn_worked p x true n = polls_begin n
turn_worked p x false n = works n

turn_heard : (p was zero : Bool) → Turn p RequestSense true (if (zero && was) false p) (polls_if (not (was && zero)))
turn_heard p true true = polls_end
turn_heard p true false = polls_on
turn_heard p false true = polls_on
turn_heard p false false = polls_on

pub turn_by_lem : (p : Bool) (o : Order) (v : Seen) (x : Op) (g : Bool) (r : Reading) → Reads x g r → Turn p x g (polling_by p o.immed v.ready x g r) (judge o v x r)
turn_by_lem p o v x g r (busy n) = repeats n
turn_by_lem p o v x g r not_ready_lem = asks
turn_by_lem p o v x g r failed = refuses not_good
turn_by_lem p o v x g r (malformed a46) = refuses (only_asked a46)
turn_by_lem p o v x g r (malformed a51) = refuses (only_asked a51)
turn_by_lem p o v x g r (malformed a52) = refuses (only_asked a52)
turn_by_lem p o v x g r (malformed a03) = refuses (only_asked a03)
turn_by_lem p o v x g r profile = works refl
turn_by_lem p o v x g r (status {d = d}) = turn_tested p ReadDiscInformation (disc_tests o.erase o v d) _ a51 (turn_erasing p (erases o.erase v.erased d.status))
turn_by_lem p o v x g r (information {t = t} {i = i}) = turn_tested p (ReadTrackInformation t) (track_tests o t.0 v i) [] a52 (works refl)
turn_by_lem p o v x g r (indication {n = n}) = turn_heard p v.ready (eqb n 0)
turn_by_lem p o v x g r ready = asks
turn_by_lem p o v x g r (unread q n) = turn_worked p x (is_polled o.immed x) n

-- ---- whether the drive was ready, as it was seen

as_asked : (b : Bool) → b ≡ if b true false
as_asked true = refl
as_asked false = refl

ready_good : (m : Method) (x : Op) (v : Seen) (r : Reading) → Reads x true r → (see m x r v).ready ≡ if (asks_ready x) true false
ready_good m x v r (malformed a46) = refl
ready_good m x v r (malformed a51) = refl
ready_good m x v r (malformed a52) = refl
ready_good m x v r (malformed a03) = refl
ready_good m x v r profile = refl
ready_good m x v r status = refl
ready_good m x v r information = refl
ready_good m x v r indication = refl
ready_good m x v r ready = refl
ready_good m x v r (unread q n) = as_asked (asks_ready x)

ready_failed : (m : Method) (x : Op) (v : Seen) (d : List ℕ) (b : Bool) → (see m x (if b (read_unready d) (read_failed d)) v).ready ≡ if b false (is_busy d && v.ready)
unfolding read_unready read_failed
ready_failed m x v d true = go (is_unready d)
  where
    go : (b : Bool) → (see m x (if b NotReady (Failed (sense_of d))) v).ready ≡ false
    go true = refl
    go false = refl
ready_failed m x v d false = go (is_busy d)
  where
    go : (b : Bool) → (see m x (if b Busy (Failed (sense_of d))) v).ready ≡ b && v.ready
    go true = refl
    go false = refl

ready_after : (m : Method) (x : Op) (y : Reply) (v : Seen) → (see m x (reading x y) v).ready ≡ if (asks_ready x) y.good ((not y.good && is_busy y.bytes) && v.ready)
ready_after m x y v = go y.good
  where
    go : (g : Bool) → (see m x (if g (read_good x y.bytes) (failed_by x y.bytes)) v).ready ≡ if (asks_ready x) g ((not g && is_busy y.bytes) && v.ready)
    go true = ready_good m x v (read_good x y.bytes) (reads_good x y.bytes)
    go false = ready_failed m x v y.bytes (asks_ready x)

was_ready_lem : (m : Method) (es : List Exchange) → (seen m es).ready ≡ was_ready es
was_ready_lem m [] = refl
was_ready_lem m (e ∷ es) =
    ready_after m e.command.op e.reply (seen m es) ∙
    ap (λ (b : Bool). if (asks_ready e.command.op) e.reply.good ((not e.reply.good && is_busy e.reply.bytes) && b)) (was_ready_lem m es)

pub turn : (o : Order) (es : List Exchange) (x : Op) (y : Reply) → Turn (polling o.immed es) x y.good (polling o.immed (made o es x y ∷ es)) (judged o es (made o es x y))
turn o es x y =
    subst (λ (b : Bool). Turn (polling o.immed es) x y.good (polling_by (polling o.immed es) o.immed b x y.good (reading x y)) (judged o es (made o es x y))) (was_ready_lem o.method es)
    (turn_by_lem (polling o.immed es) o (seen o.method es) x y.good (reading x y) (reads x y))

-- ---- the latest progress, as it was seen

progress_by : (m : Method) (x : Op) (v : Seen) (g : Bool) (r : Reading) → Reads x g r → (see m x r v).progress ≡ if (g && takes_immed x) 0 (of_progress v.progress (λ n. n) r)
progress_by m x v g r (busy n) = refl
progress_by m x v g r not_ready_lem = refl
progress_by m x v g r failed = refl
progress_by m x v g r (malformed a46) = refl
progress_by m x v g r (malformed a51) = refl
progress_by m x v g r (malformed a52) = refl
progress_by m x v g r (malformed a03) = refl
progress_by m x v g r profile = refl
progress_by m x v g r status = refl
progress_by m x v g r information = refl
progress_by m x v g r indication = refl
progress_by m x v g r ready = refl
progress_by m x v g r (unread q n) = refl

pub progress_seen : (m : Method) (es : List Exchange) → (seen m es).progress ≡ progress es
progress_seen m [] = refl
progress_seen m (e ∷ es) =
    progress_by m e.command.op (seen m es) e.reply.good (reading e.command.op e.reply) (reads e.command.op e.reply) ∙
    ap (λ (n : ℕ). if (e.reply.good && takes_immed e.command.op) 0 (of_progress n (λ k. k) (reading e.command.op e.reply))) (progress_seen m es)

-- ---- the disc and its erasing, as they were seen

pub profile_seen : (m : Method) (es : List Exchange) → (seen m es).profile ≡ profileSaid es
profile_seen m [] = refl
profile_seen m (e ∷ es) = go (reading e.command.op e.reply) ∙ ap (λ (p : ℕ). of_profile p (λ q. q) (reading e.command.op e.reply)) (profile_seen m es)
  where
    go : (r : Reading) → (see m e.command.op r (seen m es)).profile ≡ of_profile (seen m es).profile (λ q. q) r
    go Busy = refl
    go NotReady = refl
    go (Failed s) = refl
    go Malformed = refl
    go (Profile p) = refl
    go (Disc d) = refl
    go (Information i) = refl
    go (ProgressIndication n) = refl
    go Unread = refl

erased_by : (m : Method) (x : Op) (v : Seen) (g : Bool) (r : Reading) → Reads x g r → (see m x r v).erased ≡ (g && is_erasing x) || v.erased
erased_by m x v g r (busy n) = refl
erased_by m x v g r not_ready_lem = refl
erased_by m x v g r failed = refl
erased_by m x v g r (malformed a46) = refl
erased_by m x v g r (malformed a51) = refl
erased_by m x v g r (malformed a52) = refl
erased_by m x v g r (malformed a03) = refl
erased_by m x v g r profile = refl
erased_by m x v g r status = refl
erased_by m x v g r information = refl
erased_by m x v g r indication = refl
erased_by m x v g r ready = refl
erased_by m x v g r (unread q n) = refl

pub erased_seen : (m : Method) (es : List Exchange) → (seen m es).erased ≡ erased es
erased_seen m [] = refl
erased_seen m (e ∷ es) =
    erased_by m e.command.op (seen m es) e.reply.good (reading e.command.op e.reply) (reads e.command.op e.reply) ∙
    ap (λ (b : Bool). (e.reply.good && is_erasing e.command.op) || b) (erased_seen m es)
