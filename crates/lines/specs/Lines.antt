-- The lines of the print program. Each ends in one line feed.
use Rattle.std.specs.Prelude.{List, [], ◌∷◌, ◌++◌, ℕ, ◌≤◌, Result, length}
use Rattle.mmc.specs.Refusals.{pass, Fills}
use Rattle.mmc.specs.declared.refusals.Refusal.{Refusal}
use Rattle.recorder.specs.Answers.{because, drive_failed, Ruling, issue, done, stop, bytes_in}
use Rattle.recorder.specs.declared.answers.Cdb.{Cdb}
use Rattle.recorder.specs.declared.replies.Sense.{Sense}
use Rattle.ascii.specs.Text.{codes, parted, decimal}

-- "Each command is a line of two-digit capital hex bytes parted by single spaces"
unfoldable pub command_line : List ℕ → List ℕ
command_line bytes = parted bytes ++ codes "\n"

-- some words and the count of commands, N
unfoldable pub counted_line : List ℕ → ℕ → List ℕ
counted_line words n = words ++ decimal n ++ codes "\n"

-- "the last line is `done N`, `stop R N`, or `waiting N` where replies run out"
unfoldable pub done_line : ℕ → List ℕ
done_line n = counted_line (codes "done ") n

unfoldable pub waiting_line : ℕ → List ℕ
waiting_line n = counted_line (codes "waiting ") n

unfoldable pub stop_text : ℕ → ℕ → List ℕ
stop_text r n = codes "stop " ++ decimal r ++ codes " " ++ decimal n

unfoldable pub stop_line : ℕ → ℕ → List ℕ
stop_line r n = stop_text r n ++ codes "\n"

-- "`stop 12 N` bears the triple as three hex bytes after N"
unfoldable pub failed_line : Sense → ℕ → List ℕ
failed_line s n = stop_text 12 n ++ codes " " ++ parted (s.key ∷ s.asc ∷ s.ascq ∷ []) ++ codes "\n"

-- the line of an answer, with its command's descriptor block and the count: the bytes of the command, not the zeros behind them
abbrev pub line_of : Ruling → Cdb → ℕ → List ℕ
line_of (issue c) k n = command_line (bytes_in k)
line_of done k n = done_line n
line_of (stop (because r)) k n = stop_line r n
line_of (stop (drive_failed s)) k n = failed_line s n

-- a lent buffer of so many bytes is long enough for any line
abbrev pub longest : ℕ
longest = 64

-- what the makers promise: of a line, the answer, and the lent buffer before and after; 11 where it is too short, and how long a line can be
pub record Writes (most : ℕ) (line : List ℕ) (r : Result ℕ Refusal) (before after : List ℕ) : Type 0 where
  pub filled : Fills (pass line) r before after
  pub short : length line ≤ most
