-- The lines of the panel program, in the words of its form. Each ends in one line feed.
use Rattle.std.specs.Prelude.{List, [], ◌∷◌, ◌++◌, ℕ, zero, suc, ◌*◌, ◌/◌, ◌%◌, get_or, eqb}
use Rattle.basics.specs.Bytes.{if}
use Rattle.recorder.specs.Answers.{number}
use Rattle.recorder.specs.Script.{track_in}
use Rattle.recorder.specs.Places.{piece_of}
use Rattle.recorder.specs.Job.{due_in}
use Rattle.recorder.specs.declared.replies.Sense.{Sense}
use Rattle.recorder.specs.declared.script.Op.{Op}
use Rattle.recorder.specs.declared.script.Op.TheVariants.{GetConfiguration, ReadDiscInformation, ReadTrackInformation, ModeSelect, SendCueSheet, Write, SynchronizeCache, CloseTrack, CloseSession, Blank, TestUnitReady, RequestSense}
use Rattle.recorder.specs.declared.job.Recorder.{Recorder}
use Rattle.panel.specs.Panel.{Shown, idle, busy, finished, stopped, shown_of, sense_in}
use Rattle.ascii.specs.Text.{codes, parted, decimal}
use Rattle.lines.specs.Lines.{counted_line}

-- ---- a command that waits for its reply

-- two numbers, each behind its words
unfoldable pub pair : List ℕ → ℕ → List ℕ → ℕ → List ℕ
pair before x between y = before ++ decimal x ++ between ++ decimal y

-- "track T of n"
abbrev pub of_tracks : ℕ → ℕ → List ℕ
of_tracks t n = pair (codes ", track ") t (codes " of ") n

-- where a WRITE is: in the track T of n, or in the pause
abbrev pub in_piece : ℕ → ℕ → List ℕ
in_piece zero n = codes ", pause"
in_piece (suc t) n = of_tracks (suc t) n

-- "F of L blocks, F the WRITE's first block in the track (so the blocks behind it), L the track's length"
unfoldable pub how_far : ℕ → ℕ → List ℕ
how_far f l = pair (codes ", ") f (codes " of ") l ++ codes " blocks"

-- "d = p * 1000 / 65536 rounded down, P = d/10 `.` d modulo 10"
abbrev pub tenths : ℕ → ℕ
tenths p = p * 1000 / 65536

unfoldable pub percent : ℕ → List ℕ
percent p = pair (codes ", ") (tenths p / 10) (codes ".") (tenths p % 10) ++ codes " %"

-- "NAME and what follows it", in a job of n tracks; the WRITE's piece has l blocks, and p is the latest progress
abbrev pub command_text : Op → ℕ → ℕ → ℕ → List ℕ
command_text GetConfiguration n l p = codes "GET CONFIGURATION"
command_text ReadDiscInformation n l p = codes "READ DISC INFORMATION"
command_text (ReadTrackInformation t) n l p = codes "READ TRACK INFORMATION" ++ of_tracks t.0 n
command_text (ModeSelect t) n l p = codes "MODE SELECT" ++ of_tracks t.0 n
command_text SendCueSheet n l p = codes "SEND CUE SHEET"
command_text (Write t f c) n l p = codes "WRITE" ++ in_piece t.0 n ++ how_far f.0 l
command_text (SynchronizeCache t) n l p = codes "SYNCHRONIZE CACHE" ++ of_tracks t.0 n
command_text (CloseTrack t) n l p = codes "CLOSE TRACK SESSION" ++ of_tracks t.0 n
command_text CloseSession n l p = codes "CLOSE TRACK SESSION, session"
command_text Blank n l p = codes "BLANK"
command_text TestUnitReady n l p = codes "TEST UNIT READY" ++ percent p
command_text RequestSense n l p = codes "REQUEST SENSE" ++ percent p

unfoldable pub busy_line : Op → ℕ → ℕ → ℕ → List ℕ
busy_line x n l p = codes "busy: " ++ command_text x n l p ++ codes "\n"

-- ---- the other lines

unfoldable pub idle_line : List ℕ
idle_line = codes "idle\n"

-- "commands given: N"
unfoldable pub finished_line : ℕ → List ℕ
finished_line n = counted_line (codes "finished, commands given: ") n

unfoldable pub waiting_shown : ℕ → List ℕ
waiting_shown n = counted_line (codes "waiting, commands given: ") n

-- the triple of 12, "two-digit capital hex bytes"
unfoldable pub failure : Sense → List ℕ
failure s = codes "drive failed with " ++ parted (s.key ∷ s.asc ∷ s.ascq ∷ [])

-- "WORDS by number", from 1 on
abbrev pub words : Sense → List (List ℕ)
words s =
    codes "block not of 512 bytes" ∷
    codes "block check differs" ∷
    codes "field value not allowed" ∷
    codes "reply too short or of another type" ∷
    codes "neither CD-R nor CD-RW" ∷
    codes "disc status unsuitable" ∷
    codes "track information unusable" ∷
    codes "session at once of mixed kinds or kept appendable" ∷
    codes "track of fewer than 300 blocks" ∷
    codes "does not fit" ∷
    codes "lent buffer too short" ∷
    failure s ∷
    codes "job already ended" ∷
    codes "no cue sheet" ∷
    codes "number out of range" ∷
    codes "disc cannot be erased" ∷
    []

-- 24 stands apart: 17 to 23 stop no job. A number that is none of these is out of range too
unfoldable pub words_of : ℕ → Sense → List ℕ
words_of zero s = codes "number out of range"
words_of (suc r) s = if (eqb (suc r) 24) (codes "track at once with an audio track") (get_or (words s) r (codes "number out of range"))

-- "R, WORDS, commands given:"
unfoldable pub reason : ℕ → Sense → List ℕ
reason r s = codes "stopped: " ++ decimal r ++ codes ", " ++ words_of r s ++ codes ", commands given: "

unfoldable pub stopped_line : ℕ → Sense → ℕ → List ℕ
stopped_line r s n = counted_line (reason r s) n

-- ---- the line of a recorder: by what its panel shows

-- with the command due, n tracks, the blocks of the piece that is written, and the count k
abbrev pub line_as : Shown → Op → ℕ → ℕ → ℕ → List ℕ
line_as idle x n l k = idle_line
line_as (busy p) x n l k = busy_line x n l p
line_as finished x n l k = finished_line k
line_as (stopped w) x n l k = stopped_line (number w) (sense_in w) k

abbrev pub shown_with : Recorder → ℕ → List ℕ
shown_with r l = line_as (shown_of r) (due_in r.progress) r.order.count l r.count

abbrev pub shown_line : Recorder → List ℕ
shown_line r = shown_with r (piece_of r.order (track_in (due_in r.progress)))

-- a lent buffer of so many bytes is long enough for any of them
abbrev pub widest : ℕ
widest = 128
