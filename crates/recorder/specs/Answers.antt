-- What the answers say, in document 01's numbers and values.
use Rattle.std.specs.Prelude.{Bool, List, [], ◌++◌, ℕ, ◌-◌, length, take, replicate}
use Rattle.mmc.specs.Refusals.{Outcome, pass, number_of, value_or}
use Rattle.mmc.specs.Sheet.{sheet_bytes}
use Rattle.mmc.specs.Commands.{get_configuration, read_disc_information, read_track_information, mode_select, send_cue_sheet, write_command, synchronize_cache, close_track_session, test_unit_ready, request_sense, blank}
use Rattle.recorder.specs.declared.replies.Sense.{Sense}
use Rattle.recorder.specs.declared.script.Op.{Op}
use Rattle.recorder.specs.declared.script.Op.TheVariants.{GetConfiguration, ReadDiscInformation, ReadTrackInformation, ModeSelect, SendCueSheet, Write, SynchronizeCache, CloseTrack, CloseSession, Blank, TestUnitReady, RequestSense}
use Rattle.mmc.specs.declared.units.BlockAddress.{BlockAddress}
use Rattle.recorder.specs.declared.answers.Command.{Command}
use Rattle.recorder.specs.declared.answers.Cdb.{Cdb}
use Rattle.recorder.specs.declared.answers.Answer.{Answer}
use Rattle.recorder.specs.declared.answers.Answer.TheVariants as A

-- why a job stops: "A refusal returns its number (12 also its triple)"
pub data Why : Type 0 where
  because : ℕ → Why
  drive_failed : Sense → Why

abbrev pub number : Why → ℕ
number (because n) = n
number (drive_failed s) = 12

-- "the answer, be it a command, an end or a refusal"
pub data Ruling : Type 0 where
  issue : Command → Ruling
  done : Ruling
  stop : Why → Ruling

-- what each case of an answer says
abbrev pub said : Answer → Ruling
said (A.Issue c) = issue c
said A.Done = done
said (A.Stop r) = stop (because (number_of r))
said (A.DriveFailed s) = stop (drive_failed s)

-- ---- the bytes of a command

-- those of its maker, in a job of n tracks: a WRITE starts at the command's address, "5Bh function 1, track FFh", "5Bh function 2, track 0",
-- "With flag bit 2, Immed is set in 35h .. and 5Bh"; A1h is "01h in byte 1 (11h with Ask 1's flag ..)"
abbrev pub made_by : Bool → ℕ → BlockAddress → Op → Outcome (List ℕ)
made_by immed n a GetConfiguration = pass get_configuration
made_by immed n a ReadDiscInformation = pass read_disc_information
made_by immed n a (ReadTrackInformation t) = pass read_track_information
made_by immed n a (ModeSelect t) = pass mode_select
made_by immed n a SendCueSheet = send_cue_sheet (sheet_bytes n)
made_by immed n a (Write t f k) = write_command a k
made_by immed n a (SynchronizeCache t) = pass (synchronize_cache immed)
made_by immed n a (CloseTrack t) = close_track_session immed 1 (record { 0 = 0xFF })
made_by immed n a CloseSession = close_track_session immed 2 (record { 0 = 0 })
made_by immed n a Blank = pass (blank immed)
made_by immed n a TestUnitReady = pass test_unit_ready
made_by immed n a RequestSense = pass request_sense

abbrev pub made_for : Bool → ℕ → Command → Outcome (List ℕ)
made_for immed n c = made_by immed n c.address c.op

-- the bytes that go with an answer: none where no command is given
abbrev pub bytes_of : Bool → ℕ → Ruling → List ℕ
bytes_of immed n (issue c) = value_or [] (made_for immed n c)
bytes_of immed n done = []
bytes_of immed n (stop w) = []

-- a command descriptor block of these bytes, with zeros up to twelve
unfoldable pub cdb_of : List ℕ → Cdb
cdb_of bytes = record { bytes = bytes ++ replicate (12 - length bytes) 0; length = length bytes }

-- and the bytes of one
abbrev pub bytes_in : Cdb → List ℕ
bytes_in c = take c.length c.bytes
