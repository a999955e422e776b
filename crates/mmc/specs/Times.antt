-- Block addresses and times, both ways, 75 frames a second, 60 seconds a minute: "minutes 90 to 99 stand for the addresses -45,150 to
-- -151, and time in frames is address plus 450,150. Minutes 0 to 89 keep the old sum", address plus 150.
use Rattle.std.specs.Prelude.{◌≡◌, ℕ, ◌+◌, ◌*◌, ◌/◌, ◌%◌, Bool, ◌&&◌, ℤ, pos, negsuc, ◌+ℤ◌, ◌-ℤ◌, nat_abs, Result, leb}
use Rattle.std.specs.Int.Signed.{le_z}
use Rattle.basics.specs.Bytes.{if}
use Rattle.mmc.specs.Refusals.{Outcome, pass, refuse, outcome_of}
use Rattle.mmc.specs.declared.units.BlockAddress.{BlockAddress}
use Rattle.mmc.specs.declared.units.FrameCount.{FrameCount}
use Rattle.mmc.specs.declared.times.Time.{Time}
use Rattle.mmc.specs.declared.refusals.Refusal.{Refusal}

-- the last address that has a time, 89:59:74, also the last for a lead-out
abbrev pub last_address : ℕ
last_address = 404849

-- the frames before address 0
abbrev pub lead_frames : ℕ
lead_frames = 150

-- the frames that have a time: 00:00:00 to 99:59:74
abbrev pub all_frames : ℕ
all_frames = 450000

-- the first address of the program area, 00:00:00, where the pause of a session at once starts (`negsuc n` is -(n + 1))
abbrev pub first_address : ℤ
first_address = negsuc 149

-- the first address of the lead-in that has a time, 90:00:00
abbrev pub lead_in_address : ℤ
lead_in_address = negsuc 45149

-- from this minute on a time lies in the lead-in, so many frames ahead of its address
abbrev pub lead_in_minute : ℕ
lead_in_minute = 90

abbrev pub lead_in_frames : ℕ
lead_in_frames = 450150

-- the program area: -150 to 404,849
unfoldable pub in_range : BlockAddress → Bool
in_range a = le_z first_address a.0 && le_z a.0 (pos last_address)

-- the lead-in and the program area: -45,150 to 404,849
unfoldable pub has_time : BlockAddress → Bool
has_time a = le_z lead_in_address a.0 && le_z a.0 (pos last_address)

-- in the program area, the frames to an address and the address at a count of frames
unfoldable pub frames_to : BlockAddress → FrameCount
frames_to a = record { 0 = nat_abs (a.0 +ℤ pos lead_frames) }

unfoldable pub address_at : FrameCount → BlockAddress
address_at f = record { 0 = pos f.0 -ℤ pos lead_frames }

-- minutes 0 to 99, seconds 0 to 59, frames 0 to 74
unfoldable pub is_time : Time → Bool
is_time t = leb t.minute 99 && (leb t.second 59 && leb t.frame 74)

abbrev pub clock : FrameCount → Time
clock f = record { minute = f.0 / 75 / 60; second = f.0 / 75 % 60; frame = f.0 % 75 }

abbrev pub frames_of : Time → FrameCount
frames_of t = record { 0 = (t.minute * 60 + t.second) * 75 + t.frame }

-- the time of an address in frames, and the address of a time
unfoldable pub time_frames : BlockAddress → FrameCount
time_frames a = if (le_z first_address a.0) (frames_to a) (record { 0 = nat_abs (a.0 +ℤ pos lead_in_frames) })

unfoldable pub address_at_time : Time → BlockAddress
address_at_time t = if (leb lead_in_minute t.minute) (record { 0 = pos (frames_of t).0 -ℤ pos lead_in_frames }) (address_at (frames_of t))

-- the time of an address that has one
abbrev pub time_at : BlockAddress → Time
time_at a = clock (time_frames a)

-- the time of an address and the address of a time: 15 outside the range
unfoldable pub time_of : BlockAddress → Outcome Time
time_of a = if (has_time a) (pass (time_at a)) (refuse 15)

unfoldable pub address_of : Time → Outcome BlockAddress
address_of t = if (is_time t) (pass (address_at_time t)) (refuse 15)

-- what the conversions promise: the time and that its address comes back; the address and that its time comes back
pub record GivesTime (a : BlockAddress) (r : Result Time Refusal) : Type 0 where
  pub answer : outcome_of r ≡ time_of a
  pub comes_back : (t : Time) → time_of a ≡ pass t → address_of t ≡ pass a

pub record GivesAddress (t : Time) (r : Result BlockAddress Refusal) : Type 0 where
  pub answer : outcome_of r ≡ address_of t
  pub comes_back : (a : BlockAddress) → address_of t ≡ pass a → time_of a ≡ pass t
