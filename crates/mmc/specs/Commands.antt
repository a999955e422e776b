-- "Command bytes": ten bytes each, but 00h and 03h six and A1h twelve; unnamed ones 0.
use Rattle.std.specs.Prelude.{ℕ, suc, ◌+◌, ◌-◌, ◌/◌, ◌%◌, ◌^◌, List, [], ◌∷◌, ◌++◌, Bool, ◌&&◌, replicate, ℤ, pos, negsuc, leb}
use Rattle.basics.specs.Bytes.{if, bytes16, bytes32}
use Rattle.mmc.specs.Refusals.{Outcome, pass, refuse}
use Rattle.mmc.specs.Page.{mode_length}
use Rattle.mmc.specs.Sheet.{sheet_size}
use Rattle.mmc.specs.Times.{in_range}
use Rattle.mmc.specs.declared.units.BlockAddress.{BlockAddress}
use Rattle.mmc.specs.declared.units.BlockCount.{BlockCount}
use Rattle.mmc.specs.declared.units.TrackNumber.{TrackNumber}

-- GET CONFIGURATION: 46h, length 8 in 7, 8
abbrev pub get_configuration : List ℕ
get_configuration = 0x46 ∷ replicate 6 0 ++ bytes16 8 ++ 0 ∷ []

-- READ DISC INFORMATION: 51h, length 34 in 7, 8
abbrev pub read_disc_information : List ℕ
read_disc_information = 0x51 ∷ replicate 6 0 ++ bytes16 34 ++ 0 ∷ []

-- READ TRACK INFORMATION: 52h, 01h in 1, FFh in 5, length 48 in 7, 8
abbrev pub read_track_information : List ℕ
read_track_information = 0x52 ∷ 0x01 ∷ replicate 3 0 ++ 0xFF ∷ 0 ∷ bytes16 48 ++ 0 ∷ []

-- MODE SELECT: 55h, 10h in 1, length 60 in 7, 8
abbrev pub mode_select : List ℕ
mode_select = 0x55 ∷ 0x10 ∷ replicate 5 0 ++ bytes16 mode_length ++ 0 ∷ []

-- SEND CUE SHEET: 5Dh, length (8 times 4 to 102) in 6 to 8
unfoldable pub send_cue_sheet : ℕ → Outcome (List ℕ)
send_cue_sheet n = if (sheet_size n) (pass (0x5D ∷ replicate 5 0 ++ n / 65536 ∷ n / 256 % 256 ∷ n % 256 ∷ 0 ∷ [])) (refuse 15)

-- a number's 32 bits in two's complement
abbrev pub twos : ℤ → ℕ
twos (pos n) = n
twos (negsuc n) = 2 ^ 32 - suc n

-- WRITE: 2Ah, address (-150 to 404,849) in 2 to 5, count 1 to 16 in 7, 8
abbrev pub most_blocks : ℕ
most_blocks = 16

unfoldable pub write_range : BlockAddress → BlockCount → Bool
write_range a n = in_range a && (leb 1 n.0 && leb n.0 most_blocks)

unfoldable pub write_bytes : BlockAddress → BlockCount → List ℕ
write_bytes a n = 0x2A ∷ 0 ∷ bytes32 (twos a.0) ++ 0 ∷ bytes16 n.0 ++ 0 ∷ []

unfoldable pub write_command : BlockAddress → BlockCount → Outcome (List ℕ)
write_command a n = if (write_range a n) (pass (write_bytes a n)) (refuse 15)

-- SYNCHRONIZE CACHE: 35h, Immed in bit 1 of 1
abbrev pub synchronize_cache : Bool → List ℕ
synchronize_cache immed = 0x35 ∷ if immed 0x02 0 ∷ replicate 8 0

-- CLOSE TRACK SESSION: 5Bh, Immed in bit 0 of 1, function 1 or 2 in 2, track (16 bits) in 4, 5
unfoldable pub close_track_session : Bool → ℕ → TrackNumber → Outcome (List ℕ)
close_track_session immed f t = if (leb 1 f && leb f 2) (pass (0x5B ∷ if immed 0x01 0 ∷ f ∷ 0 ∷ bytes16 t.0 ++ replicate 4 0)) (refuse 15)

-- TEST UNIT READY: 00h, six bytes
abbrev pub test_unit_ready : List ℕ
test_unit_ready = replicate 6 0

-- REQUEST SENSE: 03h, 12h in 4, six bytes
abbrev pub request_sense : List ℕ
request_sense = 0x03 ∷ 0 ∷ 0 ∷ 0 ∷ 0x12 ∷ 0 ∷ []

-- BLANK: A1h, 01h (minimal) in 1, Immed in bit 4 of 1, twelve bytes
abbrev pub blank : Bool → List ℕ
blank immed = 0xA1 ∷ (0x01 + if immed 0x10 0) ∷ replicate 10 0
