-- What the bytes of the replies say: "Reading the replies".
use Rattle.std.specs.Prelude.{◌≡◌, ℕ, ◌/◌, ◌%◌, ◌≤◌, ◌<◌, ◌^◌, List, Bool, ◌&&◌, ◌||◌, length, get_or, drop, leb, eqb, pos}
use Rattle.basics.specs.Bytes.{if, be16, be32}
use Rattle.mmc.specs.ReplyBlock.{Reply}
use Rattle.mmc.specs.declared.units.BlockAddress.{BlockAddress}
use Rattle.recorder.specs.declared.script.Op.{Op}
use Rattle.recorder.specs.Script.{asks_ready}
use Rattle.recorder.specs.declared.script.Op.TheVariants.{GetConfiguration, ReadDiscInformation, ReadTrackInformation, ModeSelect, SendCueSheet, Write, SynchronizeCache, CloseTrack, CloseSession, Blank, TestUnitReady, RequestSense}
use Rattle.recorder.specs.declared.replies.Sense.{Sense}
use Rattle.recorder.specs.declared.replies.DiscInformation.{DiscInformation}
use Rattle.recorder.specs.declared.replies.TrackInformation.{TrackInformation}
use Rattle.recorder.specs.declared.replies.Reading.{Reading}
use Rattle.recorder.specs.declared.replies.Reading.TheVariants.{Busy, NotReady, Failed, Malformed, Profile, Disc, Information, ProgressIndication, Unread}

abbrev pub byte : List ℕ → ℕ → ℕ
byte d i = get_or d i 0

-- ---- a failed reply

-- "byte 0 modulo 128" is the response code, "with 14 bytes or more"
abbrev pub response_code : List ℕ → ℕ
response_code d = byte d 0 % 128

unfoldable pub has_sense : List ℕ → Bool
has_sense d = leb 14 (length d) && (eqb (response_code d) 0x70 || eqb (response_code d) 0x71)

abbrev pub no_sense : Sense
no_sense = record { key = 0; asc = 0; ascq = 0 }

-- "the triple is byte 2 modulo 16, byte 12, byte 13; else 0, 0, 0"
unfoldable pub sense_of : List ℕ → Sense
sense_of d = if (has_sense d) (record { key = byte d 2 % 16; asc = byte d 12; ascq = byte d 13 }) no_sense

-- "Busy is code 70h with 02h/04h/08h"
unfoldable pub long_write : Sense → Bool
long_write s = eqb s.key 0x02 && (eqb s.asc 0x04 && eqb s.ascq 0x08)

unfoldable pub is_busy : List ℕ → Bool
is_busy d = eqb (response_code d) 0x70 && long_write (sense_of d)

unfoldable pub read_failed : List ℕ → Reading
read_failed d = if (is_busy d) Busy (Failed (sense_of d))

-- "a 00h that fails with code 70h and 02h/04h, any ASCQ (a 00h is never busy)"
unfoldable pub not_ready : Sense → Bool
not_ready s = eqb s.key 0x02 && eqb s.asc 0x04

unfoldable pub is_unready : List ℕ → Bool
is_unready d = eqb (response_code d) 0x70 && not_ready (sense_of d)

unfoldable pub read_unready : List ℕ → Reading
read_unready d = if (is_unready d) NotReady (Failed (sense_of d))

-- ---- the good replies to 46h, 51h, 52h and 03h: malformed, which is 4, where "too short or of another type"

-- 46h: "at least 8 bytes, length field (bytes 0 to 3) at least 4; profile in bytes 6 and 7"
unfoldable pub whole_profile : List ℕ → Bool
whole_profile d = leb 8 (length d) && leb 4 (be32 d)

abbrev pub profile_of : List ℕ → ℕ
profile_of d = be16 (drop 6 d)

unfoldable pub read_profile : List ℕ → Reading
read_profile d = if (whole_profile d) (Profile (profile_of d)) Malformed

-- 51h: "at least 34 bytes, length field (0, 1) at least 32; in byte 2, bits 7 to 5 are 0 and bits 1, 0 are the status", and bit 4 is Erasable
unfoldable pub whole_disc : List ℕ → Bool
whole_disc d = leb 34 (length d) && (leb 32 (be16 d) && eqb (byte d 2 / 32) 0)

unfoldable pub disc_of : List ℕ → DiscInformation
disc_of d = record { status = byte d 2 % 4; erasable = eqb (byte d 2 / 16 % 2) 1 }

unfoldable pub read_disc : List ℕ → Reading
read_disc d = if (whole_disc d) (Disc (disc_of d)) Malformed

-- 52h: "at least 28 bytes, length field (0, 1) at least 26; Damage is bit 5 of byte 5, NWA_V bit 0 of byte 7, Next Writable
-- Address bytes 12 to 15, Free Blocks 16 to 19, both unsigned"
unfoldable pub whole_information : List ℕ → Bool
whole_information d = leb 28 (length d) && leb 26 (be16 d)

unfoldable pub information_of : List ℕ → TrackInformation
information_of d =
    record {
      damaged = eqb (byte d 5 / 32 % 2) 1;
      addressed = eqb (byte d 7 % 2) 1;
      address = record { 0 = pos (be32 (drop 12 d)) };
      free = record { 0 = be32 (drop 16 d) };
    }

unfoldable pub read_information : List ℕ → Reading
read_information d = if (whole_information d) (Information (information_of d)) Malformed

-- 03h: "4 for a good 03h reply under 18 bytes"; "Progress is bytes 16 and 17 .. when bit 7 of byte 15 is set, else 0"
unfoldable pub progress_of : List ℕ → ℕ
progress_of d = if (eqb (byte d 15 / 128 % 2) 1) (be16 (drop 16 d)) 0

unfoldable pub read_progress : List ℕ → Reading
read_progress d = if (leb 18 (length d)) (ProgressIndication (progress_of d)) Malformed

-- ---- a reply to an operation

-- "A data-less command's reply data is ignored."
abbrev pub read_good : Op → List ℕ → Reading
read_good GetConfiguration d = read_profile d
read_good ReadDiscInformation d = read_disc d
read_good (ReadTrackInformation t) d = read_information d
read_good (ModeSelect t) d = Unread
read_good SendCueSheet d = Unread
read_good (Write t f k) d = Unread
read_good (SynchronizeCache t) d = Unread
read_good (CloseTrack t) d = Unread
read_good CloseSession d = Unread
read_good Blank d = Unread
read_good TestUnitReady d = Unread
read_good RequestSense d = read_progress d

abbrev pub failed_by : Op → List ℕ → Reading
failed_by x d = if (asks_ready x) (read_unready d) (read_failed d)

abbrev pub reading : Op → Reply → Reading
reading x y = if y.good (read_good x y.bytes) (failed_by x y.bytes)

-- what belongs to a profile, and what to any other reading
abbrev pub of_profile : {B : Type 0} → B → (ℕ → B) → Reading → B
of_profile z g Busy = z
of_profile z g NotReady = z
of_profile z g (Failed s) = z
of_profile z g Malformed = z
of_profile z g (Profile p) = g p
of_profile z g (Disc q) = z
of_profile z g (Information i) = z
of_profile z g (ProgressIndication p) = z
of_profile z g Unread = z

-- what belongs to disc information, and what to any other reading
abbrev pub of_disc : {B : Type 0} → B → (DiscInformation → B) → Reading → B
of_disc z g Busy = z
of_disc z g NotReady = z
of_disc z g (Failed s) = z
of_disc z g Malformed = z
of_disc z g (Profile p) = z
of_disc z g (Disc q) = g q
of_disc z g (Information i) = z
of_disc z g (ProgressIndication p) = z
of_disc z g Unread = z

-- what belongs to track information, and what to any other reading
abbrev pub of_information : {B : Type 0} → B → (TrackInformation → B) → Reading → B
of_information z g Busy = z
of_information z g NotReady = z
of_information z g (Failed s) = z
of_information z g Malformed = z
of_information z g (Profile p) = z
of_information z g (Disc q) = z
of_information z g (Information i) = g i
of_information z g (ProgressIndication p) = z
of_information z g Unread = z

-- what belongs to a progress indication, and what to any other reading
abbrev pub of_progress : {B : Type 0} → B → (ℕ → B) → Reading → B
of_progress z g Busy = z
of_progress z g NotReady = z
of_progress z g (Failed s) = z
of_progress z g Malformed = z
of_progress z g (Profile p) = z
of_progress z g (Disc q) = z
of_progress z g (Information i) = z
of_progress z g (ProgressIndication p) = g p
of_progress z g Unread = z

-- ---- what the inner routines ask for: of track information an address of four bytes, and a track

abbrev pub OfInformation : (TrackInformation → Type 0) → Reading → Type 0
OfInformation P Busy = Unit {0}
OfInformation P NotReady = Unit {0}
OfInformation P (Failed s) = Unit {0}
OfInformation P Malformed = Unit {0}
OfInformation P (Profile p) = Unit {0}
OfInformation P (Disc q) = Unit {0}
OfInformation P (Information i) = P i
OfInformation P (ProgressIndication p) = Unit {0}
OfInformation P Unread = Unit {0}

abbrev pub Unsigned : BlockAddress → Type 0
Unsigned a = (n : ℕ) × ((a.0 ≡ pos n) × (n < 2 ^ 32))

abbrev pub UnsignedIn : Reading → Type 0
UnsignedIn r = OfInformation (λ i. Unsigned i.address) r

abbrev pub ForTrack : ℕ → Reading → Type 0
ForTrack t r = OfInformation (λ i. 1 ≤ t) r
