-- The plan of a job: its operations if all replies are good, from the order alone and before their addresses are known.
use Rattle.std.specs.Prelude.{Bool, true, false, not, ◌&&◌, ◌||◌, List, [], ◌∷◌, ◌++◌, ℕ, zero, suc, ◌+◌, ◌-◌, ◌*◌, ◌/◌, min, eqb}
use Rattle.basics.specs.Bytes.{if}
use Rattle.mmc.specs.Order.{is_new, tracks_in}
use Rattle.mmc.specs.Times.{lead_frames}
use Rattle.mmc.specs.Commands.{most_blocks}
use Rattle.mmc.specs.declared.order.Order.{Order}
use Rattle.mmc.specs.declared.order.Track.{Track}
use Rattle.mmc.specs.declared.order.Method.{Method}
use Rattle.mmc.specs.declared.order.Method.TheVariants.{Tao, Sao}
use Rattle.mmc.specs.declared.order.Recipe.{Recipe}
use Rattle.mmc.specs.declared.order.Recipe.TheVariants.{Old, New}
use Rattle.recorder.specs.declared.script.Op.{Op}
use Rattle.recorder.specs.declared.script.Op.TheVariants.{GetConfiguration, ReadDiscInformation, ReadTrackInformation, ModeSelect, SendCueSheet, Write, SynchronizeCache, CloseTrack, CloseSession, Blank, TestUnitReady, RequestSense}

-- ---- an operation: a command without its address

-- MMC's operation codes
abbrev pub code : Op → ℕ
code GetConfiguration = 0x46
code ReadDiscInformation = 0x51
code (ReadTrackInformation t) = 0x52
code (ModeSelect t) = 0x55
code SendCueSheet = 0x5D
code (Write t f k) = 0x2A
code (SynchronizeCache t) = 0x35
code (CloseTrack t) = 0x5B
code CloseSession = 0x5B
code Blank = 0xA1
code TestUnitReady = 0x00
code RequestSense = 0x03

-- its track: 0 for the pause, and where it has none
abbrev pub track_in : Op → ℕ
track_in GetConfiguration = 0
track_in ReadDiscInformation = 0
track_in (ReadTrackInformation t) = t.0
track_in (ModeSelect t) = t.0
track_in SendCueSheet = 0
track_in (Write t f k) = t.0
track_in (SynchronizeCache t) = t.0
track_in (CloseTrack t) = t.0
track_in CloseSession = 0
track_in Blank = 0
track_in TestUnitReady = 0
track_in RequestSense = 0

-- what belongs to a WRITE of a track, first block and count, and to no other operation
abbrev pub of_write : {B : Type 0} → B → (ℕ → ℕ → ℕ → B) → Op → B
of_write z g GetConfiguration = z
of_write z g ReadDiscInformation = z
of_write z g (ReadTrackInformation t) = z
of_write z g (ModeSelect t) = z
of_write z g SendCueSheet = z
of_write z g (Write t f k) = g t.0 f.0 k.0
of_write z g (SynchronizeCache t) = z
of_write z g (CloseTrack t) = z
of_write z g CloseSession = z
of_write z g Blank = z
of_write z g TestUnitReady = z
of_write z g RequestSense = z

-- how many blocks it puts, in the pause too
abbrev pub count_in : Op → ℕ
count_in x = of_write 0 (λ t f k. k) x

-- "every 35h and 5Bh"
abbrev pub is_closing : Op → Bool
is_closing x = eqb (code x) 0x35 || eqb (code x) 0x5B

-- 00h asks whether the drive is ready
abbrev pub asks_ready : Op → Bool
asks_ready x = eqb (code x) 0x00

-- the polls: "00h and then 03h"
abbrev pub is_poll : Op → Bool
is_poll x = eqb (code x) 0x00 || eqb (code x) 0x03

abbrev pub polls : List Op
polls = TestUnitReady ∷ RequestSense ∷ []

-- A1h erases the disc
abbrev pub is_erasing : Op → Bool
is_erasing x = eqb (code x) 0xA1

-- "a disc of status 1 or 2 is erased before recording by A1h ..  Afterwards 51h is asked anew"
abbrev pub erasing : List Op
erasing = Blank ∷ ReadDiscInformation ∷ []

-- "With flag bit 2, Immed is set in 35h .. and 5Bh", and in A1h ("11h with Ask 1's flag")
abbrev pub takes_immed : Op → Bool
takes_immed x = is_closing x || is_erasing x

-- these are polled
abbrev pub is_polled : Bool → Op → Bool
is_polled immed x = takes_immed x && immed

-- each element's part, one after another
abbrev pub gather : {A B : Type 0} → (A → List B) → List A → List B
gather f [] = []
gather f (x ∷ xs) = f x ++ gather f xs

-- ---- the WRITEs of a piece: of the pause, which is track 0, or of a track

abbrev pub write : ℕ → ℕ → ℕ → Op
write t f k = Write (record { 0 = t }) (record { 0 = f }) (record { 0 = k })

-- "A WRITE takes the lesser of 16 and what is left of its pause or track": of l blocks, those from the block f on
abbrev pub portion : ℕ → ℕ → ℕ
portion l f = min (l - f) most_blocks

-- "length/16 rounded up"
abbrev pub writes_for : ℕ → ℕ
writes_for l = (l + (most_blocks - 1)) / most_blocks

-- k WRITEs of the piece t, of l blocks, from its block f on
abbrev pub writes : ℕ → ℕ → ℕ → ℕ → List Op
writes t l f zero = []
writes t l f (suc k) = write t f (portion l f) ∷ writes t l (f + portion l f) k

-- all of its WRITEs from the block f on
abbrev pub writes_from : ℕ → ℕ → ℕ → List Op
writes_from t l f = writes t l f (writes_for (l - f))

-- ---- the parts of the script, each with what comes after it

-- a track has its own 52h, and starts where that says: "In TAO a track starts at the address of its latest 52h"
abbrev pub stepwise : Method → Bool
stepwise Tao = true
stepwise Sao = false

-- SAO: the opening 52h, "55h; 5Dh; ten WRITEs of zero-filled blocks for the pause"; TAO: the opening 52h is the first track's
abbrev pub before_by : Method → List Op → List Op
before_by Tao after = after
before_by Sao after = ReadTrackInformation (record { 0 = 1 }) ∷ ModeSelect (record { 0 = 1 }) ∷ SendCueSheet ∷ (writes_from 0 lead_frames 0 ++ after)

-- the closing of the track t after its 35h, by recipe: "0 the old, 1 the new without function 1"
abbrev pub close_by : Recipe → ℕ → List Op → List Op
close_by Old t after = CloseTrack (record { 0 = t }) ∷ after
close_by New t after = after

-- whether function 1 closes the tracks
abbrev pub closes_tracks : Method → Recipe → Bool
closes_tracks Tao q = not (is_new q)
closes_tracks Sao q = false

-- the track t, of l blocks. TAO: "a fresh 52h before each but the first; 55h; WRITEs; 35h; 5Bh function 1", this by the recipe; SAO: its WRITEs
abbrev pub track_by : Method → Recipe → ℕ → ℕ → List Op → List Op
track_by Tao q t l after =
    ReadTrackInformation (record { 0 = t }) ∷ ModeSelect (record { 0 = t }) ∷ (writes_from t l 0 ++ (SynchronizeCache (record { 0 = t }) ∷ close_by q t after))
track_by Sao q t l after = writes_from t l 0 ++ after

-- TAO: "After the last track: 5Bh function 2"; SAO: "35h. No 5Bh"
abbrev pub end_by : Method → ℕ → List Op
end_by Tao n = CloseSession ∷ []
end_by Sao n = SynchronizeCache (record { 0 = n }) ∷ []

abbrev pub before_tracks : Order → List Op → List Op
before_tracks o after = before_by o.method after

abbrev pub one_track : Order → ℕ → ℕ → List Op → List Op
one_track o t l after = track_by o.method o.recipe t l after

-- these tracks, which come after the first t, and the end
abbrev pub each_track : Order → ℕ → List Track → List Op
each_track o t [] = end_by o.method o.count
each_track o t (x ∷ xs) = one_track o (suc t) x.length.0 (each_track o (suc t) xs)

-- "46h, 51h, 52h open a job, once each in this order", and what comes before the tracks, or the first track, begins with the 52h
abbrev pub script : Order → List Op
script o = GetConfiguration ∷ ReadDiscInformation ∷ before_tracks o (each_track o 0 (tracks_in o))

-- ---- the exact count

-- W, "the sum over tracks of length/16 rounded up"
abbrev pub writes_in : List Track → ℕ
writes_in [] = 0
writes_in (x ∷ xs) = writes_for x.length.0 + writes_in xs

-- "an all-good job has 4n+3+W commands in TAO, 16+W in SAO"; "Under recipe 1 the count in TAO is 3n+3+W"
abbrev pub expected_by : Method → Recipe → ℕ → ℕ → ℕ
expected_by Tao Old n w = 4 * n + 3 + w
expected_by Tao New n w = 3 * n + 3 + w
expected_by Sao q n w = 16 + w

abbrev pub expected : Order → ℕ
expected o = expected_by o.method o.recipe o.count (writes_in (tracks_in o))

-- ---- the ordered blocks and the closing commands

-- a block of a track: the track's number, and which of its blocks, from 0 on
pub record Block : Type 0 where
  pub track : ℕ
  pub number : ℕ

-- k blocks of the track t from its block f on
abbrev pub blocks : ℕ → ℕ → ℕ → List Block
blocks t f zero = []
blocks t f (suc k) = record { track = t; number = f } ∷ blocks t (suc f) k

-- "The ordered blocks are each track's from first to last, track after track": those of these tracks, which come after the first t
abbrev pub blocks_from : ℕ → List Track → List Block
blocks_from t [] = []
blocks_from t (x ∷ xs) = blocks (suc t) 0 x.length.0 ++ blocks_from (suc t) xs

abbrev pub ordered : Order → List Block
ordered o = blocks_from 0 (tracks_in o)

-- "its track blocks": the pause has none
abbrev pub track_blocks : ℕ → ℕ → ℕ → List Block
track_blocks zero f k = []
track_blocks (suc t) f k = blocks (suc t) f k

abbrev pub blocks_in : Op → List Block
blocks_in x = of_write [] track_blocks x

abbrev pub closing_in : Op → List Op
closing_in x = if (is_closing x) (x ∷ []) []

-- "every 35h and 5Bh of the rules": those of the script
abbrev pub closings : Order → List Op
closings o = gather closing_in (script o)
