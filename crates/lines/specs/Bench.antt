-- Lines as they are to be printed, as one statement about the definitions.
use Rattle.std.specs.Prelude.{◌≡◌, false, List, [], ℕ, replicate}
use Rattle.mmc.specs.Commands.{get_configuration}
use Rattle.mmc.specs.Order.{no_order}
use Rattle.recorder.specs.Answers.{because, drive_failed, issue, done, stop, cdb_of}
use Rattle.recorder.specs.Replies.{no_sense}
use Rattle.recorder.specs.Job.{command_of, opening, idle_recorder, state_of}
use Rattle.recorder.specs.declared.script.Op.TheVariants.{ReadTrackInformation, Write, CloseSession, Blank}
use Rattle.recorder.specs.declared.job.Phase.TheVariants.{Going}
use Rattle.recorder.specs.declared.job.Poll.{Poll}
use Rattle.recorder.specs.declared.job.Poll.TheVariants.{Off, Ready, Sense}
use Rattle.ascii.specs.Text.{codes}
use Rattle.lines.specs.Lines.{waiting_line, line_of}
use Rattle.lines.specs.Shown.{busy_line, finished_line, waiting_shown, stopped_line, shown_line}

pub record ExampleLines : Type 0 where
  -- document 01's first command and its stop
  pub command : line_of (issue (command_of opening)) (cdb_of get_configuration) 1 ≡ codes "46 00 00 00 00 00 00 00 08 00\n"
  pub stopped : line_of (stop (because 6)) (cdb_of []) 3 ≡ codes "stop 6 3\n"
  -- six bytes, as those of TEST UNIT READY
  pub six : line_of (issue (command_of opening)) (cdb_of (replicate 6 0)) 1 ≡ codes "00 00 00 00 00 00\n"
  -- a drive that failed
  pub failed : line_of (stop (drive_failed (record { key = 0x03; asc = 0x0C; ascq = 0x00 }))) (cdb_of []) 9 ≡ codes "stop 12 9 03 0C 00\n"
  -- a job that is done
  pub ended : line_of done (cdb_of []) 26 ≡ codes "done 26\n"
  -- no order, and the largest count
  pub none : waiting_line 0 ≡ codes "waiting 0\n"
  pub largest : line_of done (cdb_of []) 18446744073709551615 ≡ codes "done 18446744073709551615\n"

-- the line of a job that closes the session, with its polling and the progress that was seen last
abbrev pub closing : Poll → ℕ → List ℕ
closing p n =
    shown_line (state_of no_order (record { place = CloseSession; poll = p; seen = record { profile = 0; status = 0; at = record { 0 = 0 }; erased = false; ready = false; progress = n } }) Going 30)

pub record ExampleShown : Type 0 where
  -- before any order, and the first command
  pub before_order : shown_line idle_recorder ≡ codes "idle\n"
  pub first : shown_line (state_of no_order opening Going 1) ≡ codes "busy: GET CONFIGURATION\n"
  -- a track's own commands; the pause
  pub information : busy_line (ReadTrackInformation (record { 0 = 1 })) 2 0 0 ≡ codes "busy: READ TRACK INFORMATION, track 1 of 2\n"
  pub write : busy_line (Write (record { 0 = 1 }) (record { 0 = 288 }) (record { 0 = 12 })) 2 300 0 ≡ codes "busy: WRITE, track 1 of 2, 288 of 300 blocks\n"
  pub pause : shown_line (state_of no_order (record { place = Write (record { 0 = 0 }) (record { 0 = 144 }) (record { 0 = 6 }); poll = Off; seen = opening.seen }) Going 9) ≡ codes "busy: WRITE, pause, 144 of 150 blocks\n"
  -- a polling: before its first progress, half of the way, all but one step of it; and no polling
  pub begun : closing Ready 0 ≡ codes "busy: TEST UNIT READY, 0.0 %\n"
  pub half : closing Ready 0x8000 ≡ codes "busy: TEST UNIT READY, 50.0 %\n"
  pub nearly : closing Sense 0xFFFF ≡ codes "busy: REQUEST SENSE, 99.9 %\n"
  pub unpolled : closing Off 0x8000 ≡ codes "busy: CLOSE TRACK SESSION, session\n"
  -- an erasing, and a disc that can't be erased
  pub erased : busy_line Blank 2 0 0 ≡ codes "busy: BLANK\n"
  pub not_erasable : stopped_line 16 no_sense 2 ≡ codes "stopped: 16, disc cannot be erased, commands given: 2\n"
  -- audio in a track at once
  pub audio : stopped_line 24 no_sense 3 ≡ codes "stopped: 24, track at once with an audio track, commands given: 3\n"
  -- the ends
  pub ended : finished_line 26 ≡ codes "finished, commands given: 26\n"
  pub awaited : waiting_shown 0 ≡ codes "waiting, commands given: 0\n"
  pub refused : stopped_line 6 no_sense 3 ≡ codes "stopped: 6, disc status unsuitable, commands given: 3\n"
  pub failed : stopped_line 12 (record { key = 0x03; asc = 0x0C; ascq = 0x00 }) 30 ≡ codes "stopped: 12, drive failed with 03 0C 00, commands given: 30\n"
