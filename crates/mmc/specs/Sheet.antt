-- The cue sheet of a session at once: which orders have one, its bytes, and what a reader finds.
use Rattle.std.specs.Prelude.{◌≡◌, ℕ, zero, suc, ◌+◌, ◌*◌, ◌-◌, ◌/◌, ◌%◌, ◌≤◌, ◌<◌, List, [], ◌∷◌, ◌++◌, map, Bool, false, not, ◌&&◌, Result, pos, ◌+ℤ◌, length, get_or, take, drop, replicate, eqb, leb}
use Rattle.basics.specs.Bytes.{if, same_bytes}
use Rattle.mmc.specs.Refusals.{Outcome, pass, refuse, test, fault_of, outcome_of, unless, Fills}
use Rattle.mmc.specs.Order.{most_tracks, no_track, valid_order, is_sao, tracks_in, order_kind, blocks_of, mixed_or_kept, short_track, overlong}
use Rattle.mmc.specs.Times.{first_address, last_address, lead_in_minute, time_at, frames_of, address_of}
use Rattle.mmc.specs.declared.units.BlockAddress.{BlockAddress}
use Rattle.mmc.specs.declared.units.BlockCount.{BlockCount}
use Rattle.mmc.specs.declared.units.FrameCount.{FrameCount}
use Rattle.mmc.specs.declared.units.TrackNumber.{TrackNumber}
use Rattle.mmc.specs.declared.times.Time.{Time}
use Rattle.mmc.specs.declared.order.Order.{Order}
use Rattle.mmc.specs.declared.order.Track.{Track}
use Rattle.mmc.specs.declared.order.Kind.{Kind}
use Rattle.mmc.specs.declared.order.Kind.TheVariants.{Audio, Data}
use Rattle.mmc.specs.declared.order.Method.TheVariants.{Sao}
use Rattle.mmc.specs.declared.order.Recipe.TheVariants.{Old}
use Rattle.mmc.specs.declared.sheet.Sheet.{Sheet}
use Rattle.mmc.specs.declared.refusals.Refusal.{Refusal}

-- ---- which orders have a sheet

-- "the sheet maker 3 (a TAO order too), 8, 9, 10 for the lead-out limit alone"; 0: none of them
unfoldable pub sheet_fault : Order → ℕ
sheet_fault o =
    fault_of (
    test (not (valid_order o)) 3
    ∷ test (not (is_sao o.method)) 3
    ∷ test (mixed_or_kept o) 8
    ∷ test (short_track o) 9
    ∷ test (overlong o) 10
    ∷ [])

-- ---- the sheet

-- "CTL|ADR is 41h for data, 01h for audio"
abbrev pub control_of : Kind → ℕ
control_of Audio = 0x01
control_of Data = 0x41

-- index 0 and index 1: "form 10h data, 00h audio"
abbrev pub track_form : Kind → ℕ
track_form Audio = 0x00
track_form Data = 0x10

-- lead-in and lead-out: "form 14h data, 01h audio"
abbrev pub edge_form : Kind → ℕ
edge_form Audio = 0x01
edge_form Data = 0x14

-- "Entries of 8 bytes: CTL|ADR, TNO, INDEX, form, 0, M, S, F, in plain binary."
unfoldable pub cue_entry : Kind → TrackNumber → ℕ → ℕ → BlockAddress → List ℕ
cue_entry k track index form at =
    control_of k ∷ track.0 ∷ index ∷ form ∷ 0 ∷ (time_at at).minute ∷ (time_at at).second ∷ (time_at at).frame ∷ []

-- lead-in (0, 0), and track 1 index 0, the pause: both at 00:00:00, which is address -150
unfoldable pub lead_in_entry : Kind → List ℕ
lead_in_entry k = cue_entry k (record { 0 = 0 }) 0 (edge_form k) (record { 0 = first_address })

unfoldable pub pause_entry : Kind → List ℕ
pause_entry k = cue_entry k (record { 0 = 1 }) 0 (track_form k) (record { 0 = first_address })

-- index 1 of a track, at an address; and the lead-out (AAh, 1) at one
unfoldable pub start_entry : Kind → TrackNumber → BlockAddress → List ℕ
start_entry k track at = cue_entry k track 1 (track_form k) at

unfoldable pub lead_out_entry : Kind → BlockAddress → List ℕ
lead_out_entry k at = cue_entry k (record { 0 = 0xAA }) 1 (edge_form k) at

abbrev pub next_track : TrackNumber → TrackNumber
next_track n = record { 0 = n.0 + 1 }

-- the address behind so many blocks from an address on
abbrev pub behind : BlockAddress → BlockCount → BlockAddress
behind at n = record { 0 = at.0 +ℤ pos n.0 }

-- each track's index 1, the first with a number at an address, "each later one where its forerunner ends"; then the lead-out
unfoldable pub track_entries : Kind → TrackNumber → BlockAddress → List Track → List ℕ
track_entries k n at [] = lead_out_entry k at
track_entries k n at (t ∷ ts) = start_entry k n at ++ track_entries k (next_track n) (behind at t.length) ts

-- "Track 1 starts at address 0"
abbrev pub all_entries : Order → List ℕ
all_entries o = track_entries (order_kind o) (record { 0 = 1 }) (record { 0 = pos 0 }) (tracks_in o)

-- lead-in, pause, tracks, lead-out
unfoldable pub sheet_of : Order → List ℕ
sheet_of o = lead_in_entry (order_kind o) ++ pause_entry (order_kind o) ++ all_entries o

-- "So n+3 entries", of n tracks
abbrev pub sheet_bytes : ℕ → ℕ
sheet_bytes n = 8 * (n + 3)

-- "8 times 4 to 102"
unfoldable pub sheet_size : ℕ → Bool
sheet_size n = leb (sheet_bytes 1) n && (leb n (sheet_bytes most_tracks) && eqb (n % 8) 0)

-- the cue sheet of an order
unfoldable pub cue_sheet : Order → Outcome (List ℕ)
cue_sheet o = unless (sheet_fault o) (sheet_of o)

-- what the inner makers need: the tracks lie in the array, every address has a time, and there is room
pub record HasRoom (o : Order) (room : ℕ) : Type 0 where
  pub few : o.count ≤ most_tracks
  pub ends : blocks_of (tracks_in o) ≤ last_address
  pub holds : sheet_bytes o.count ≤ room

-- ---- what a reader finds: "A sheet reads back to kind and lengths."

abbrev pub kind_in : ℕ → Kind
kind_in control = if (eqb control 0x41) Data Audio

-- the time of an entry, and in frames
abbrev pub entry_time : List ℕ → Time
entry_time b = record { minute = get_or b 5 0; second = get_or b 6 0; frame = get_or b 7 0 }

unfoldable pub frames_in : List ℕ → FrameCount
frames_in b = frames_of (entry_time b)

-- a track is as long as the next entry's time lies behind its own
unfoldable pub length_in : List ℕ → BlockCount
length_in b = record { 0 = (frames_in (drop 8 b)).0 - (frames_in b).0 }

unfoldable pub lengths_in : ℕ → List ℕ → List BlockCount
lengths_in zero b = []
lengths_in (suc n) b = length_in b ∷ lengths_in n (drop 8 b)

abbrev pub no_length : BlockCount
no_length = record { 0 = 0 }

-- one entry a track, but for lead-in, pause and lead-out
abbrev pub tracks_beside : List ℕ → ℕ
tracks_beside b = length b / 8 - 3

-- the kind and the lengths that the bytes give, whatever else they hold
unfoldable pub sheet_in : List ℕ → Sheet
sheet_in b =
    record {
      kind = kind_in (get_or b 0 0);
      count = tracks_beside b;
      lengths = lengths_in (tracks_beside b) (drop 16 b) ++ replicate (most_tracks - tracks_beside b) no_length;
    }

-- the SAO order without flags that a sheet is for
abbrev pub track_for : Kind → BlockCount → Track
track_for k n = record { kind = k; length = n }

unfoldable pub order_for : Sheet → Order
order_for s =
    record {
      method = Sao;
      keep = false;
      protect = false;
      immed = false;
      erase = false;
      recipe = Old;
      count = s.count;
      tracks = map (track_for s.kind) (take s.count s.lengths) ++ replicate (most_tracks - s.count) no_track;
    }

-- the order of kind and lengths has a sheet, and it is these bytes
unfoldable pub is_sheet : List ℕ → Bool
is_sheet b = sheet_size (length b) && (eqb (sheet_fault (order_for (sheet_in b))) 0 && same_bytes (sheet_of (order_for (sheet_in b))) b)

-- 14: "bytes are no cue sheet of an SAO order that passes 3, 8, 9 and the lead-out limit"
unfoldable pub read_sheet : List ℕ → Outcome Sheet
read_sheet b = if (is_sheet b) (pass (sheet_in b)) (refuse 14)

-- kind and lengths of an order
abbrev pub length_of : Track → BlockCount
length_of t = t.length

unfoldable pub sheet_for : Order → Sheet
sheet_for o = record { kind = order_kind o; count = o.count; lengths = map length_of o.tracks }

-- ---- the order of the entries

-- the times of n entries in frames
unfoldable pub times_in : ℕ → List ℕ → List ℕ
times_in zero b = []
times_in (suc n) b = (frames_in b).0 ∷ times_in n (drop 8 b)

-- each number is below the one after it
abbrev pub Below : ℕ → List ℕ → Type 0
Below x [] = Unit {0}
Below x (y ∷ ys) = x < y

unfoldable pub Rising : List ℕ → Type 0
Rising [] = Unit {0}
Rising (x ∷ xs) = Below x xs × Rising xs

-- "Index 1 and lead-out addresses strictly increase; lead-in and pause share one."
pub record Ordered (n : ℕ) (b : List ℕ) : Type 0 where
  pub shared : frames_in b ≡ frames_in (drop 8 b)
  pub rising : Rising (times_in (n + 1) (drop 16 b))

-- ---- what the times stand for

-- the minute of the entry i
abbrev pub minute_in : ℕ → List ℕ → ℕ
minute_in i b = get_or b (8 * i + 5) 0

-- the addresses that the times of n entries stand for
unfoldable pub addresses_in : ℕ → List ℕ → List (Outcome BlockAddress)
addresses_in zero b = []
addresses_in (suc n) b = address_of (entry_time b) ∷ addresses_in n (drop 8 b)

-- where each track starts, the first at an address, and where the lead-out stands
unfoldable pub starts_from : BlockAddress → List Track → List (Outcome BlockAddress)
starts_from at [] = pass at ∷ []
starts_from at (t ∷ ts) = pass at ∷ starts_from (behind at t.length) ts

-- ---- the contracts

-- what the maker promises: the sheet, the length that SEND CUE SHEET bears, that it reads back, that its times are in order, and that
-- whoever turns them into addresses finds pause, tracks and lead-out where they were ordered
pub record MakesSheet (o : Order) (r : Result ℕ Refusal) (before after : List ℕ) : Type 0 where
  pub filled : Fills (cue_sheet o) r before after
  pub size : (b : List ℕ) → cue_sheet o ≡ pass b → length b ≡ sheet_bytes o.count
  pub reads_back : (b : List ℕ) → cue_sheet o ≡ pass b → read_sheet b ≡ pass (sheet_for o)
  pub ordered : (b : List ℕ) → cue_sheet o ≡ pass b → Ordered o.count b
  pub addresses :
      (b : List ℕ) → cue_sheet o ≡ pass b →
      addresses_in (o.count + 3) b
      ≡ pass (record { 0 = first_address }) ∷ pass (record { 0 = first_address }) ∷ starts_from (record { 0 = pos 0 }) (tracks_in o)

-- what the reader promises: kind and lengths, that the bytes are the sheet that is made of them, and "a sheet with a time of minute 90
-- or more is 14", in whichever entry
pub record ReadsSheet (b : List ℕ) (r : Result Sheet Refusal) : Type 0 where
  pub answer : outcome_of r ≡ read_sheet b
  pub made : (s : Sheet) → read_sheet b ≡ pass s → cue_sheet (order_for s) ≡ pass b
  pub late : (i : ℕ) → lead_in_minute ≤ minute_in i b → read_sheet b ≡ refuse 14
