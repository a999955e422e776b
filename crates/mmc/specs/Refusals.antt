-- The numbers a refusal bears, and what the answers that can be a refusal say.
use Rattle.std.specs.Prelude.{◌≡◌, Bool, List, [], ◌∷◌, ◌++◌, ℕ, Result, Ok, Err, length, drop, leb, eqb}
use Rattle.basics.specs.Bytes.{if}
use Rattle.mmc.specs.declared.refusals.Refusal.{Refusal}
use Rattle.mmc.specs.declared.refusals.Refusal.TheVariants.{BlockLength, BlockCheck, FieldValue, ReplyForm, Profile, DiscStatus, TrackInformation, MixedOrKept, ShortTrack, NoRoom, ShortBuffer, DriveFailed, JobEnded, NoCueSheet, OutOfRange, NotErasable, AudioInTao}

-- what a routine comes to: a value, or the number of a refusal
pub data Outcome (A : Type 0) : Type 0 where
  pass : A → Outcome A
  refuse : ℕ → Outcome A

-- "Numbers a refusal bears"
abbrev pub number_of : Refusal → ℕ
number_of BlockLength = 1
number_of BlockCheck = 2
number_of FieldValue = 3
number_of ReplyForm = 4
number_of Profile = 5
number_of DiscStatus = 6
number_of TrackInformation = 7
number_of MixedOrKept = 8
number_of ShortTrack = 9
number_of NoRoom = 10
number_of ShortBuffer = 11
number_of DriveFailed = 12
number_of JobEnded = 13
number_of NoCueSheet = 14
number_of OutOfRange = 15
number_of NotErasable = 16
number_of AudioInTao = 24

-- a number of the table, and whether it applies
pub record Test : Type 0 where
  pub applies : Bool
  pub number : ℕ

abbrev pub test : Bool → ℕ → Test
test b n = record { applies = b; number = n }

-- "The lowest applying number is given": the first of these; 0 where none applies
abbrev pub fault_of : List Test → ℕ
fault_of [] = 0
fault_of (t ∷ ts) = if t.applies t.number (fault_of ts)

-- what an answer says: the value, or the number of the refusal
abbrev pub outcome_of : {A : Type 0} → Result A Refusal → Outcome A
outcome_of (Ok a) = pass a
outcome_of (Err r) = refuse (number_of r)

-- what a test's answer says: the number, 0 where it passed
abbrev pub fault_in : {A : Type 0} → Result A Refusal → ℕ
fault_in (Ok a) = 0
fault_in (Err r) = number_of r

-- the value, or what stands in its place
abbrev pub value_or : {A : Type 0} → A → Outcome A → A
value_or none (pass a) = a
value_or none (refuse n) = none

-- the value where there is no fault
abbrev pub unless : {A : Type 0} → ℕ → A → Outcome A
unless fault a = if (eqb fault 0) (pass a) (refuse fault)

-- bytes go into a lent buffer whole: else 11, tried last
unfoldable pub answer_of : Outcome (List ℕ) → List ℕ → Outcome ℕ
answer_of (pass bytes) buffer = if (leb (length bytes) (length buffer)) (pass (length bytes)) (refuse 11)
answer_of (refuse n) buffer = refuse n

-- the buffer after that: a longer one keeps its tail, and a refusal changes nothing
unfoldable pub buffer_of : Outcome (List ℕ) → List ℕ → List ℕ
buffer_of (pass bytes) buffer = if (leb (length bytes) (length buffer)) (bytes ++ drop (length bytes) buffer) buffer
buffer_of (refuse n) buffer = buffer

-- what every maker promises: of the bytes that it has to make, its answer, and the lent buffer before and after
pub record Fills (bytes : Outcome (List ℕ)) (r : Result ℕ Refusal) (before after : List ℕ) : Type 0 where
  pub answer : outcome_of r ≡ answer_of bytes before
  pub buffer : after ≡ buffer_of bytes before
