-- Document 01's "Sheets from the bench" that concern the byte layouts: those marked * by name, which the recorder's list of the marked
-- ones takes in; and cases that carry no mark, of document 02.
use Rattle.std.specs.Prelude.{◌≡◌, List, [], ◌∷◌, ◌++◌, map, Bool, true, false, not, ℕ, ◌-◌, min, ℤ, pos, negsuc, take, replicate}
use Rattle.mmc.specs.Refusals.{Outcome, pass, refuse}
use Rattle.mmc.specs.Block.{sealed}
use Rattle.mmc.specs.Order.{no_track}
use Rattle.mmc.specs.OrderBlock.{order_bytes, order_block, read_order}
use Rattle.mmc.specs.Times.{time_of, address_of}
use Rattle.mmc.specs.Page.{page, page_fault}
use Rattle.mmc.specs.Sheet.{sheet_fault, cue_sheet}
use Rattle.mmc.specs.Commands.{write_command, synchronize_cache, close_track_session, test_unit_ready, request_sense, blank}
use Rattle.mmc.specs.declared.units.BlockAddress.{BlockAddress}
use Rattle.mmc.specs.declared.times.Time.{Time}
use Rattle.mmc.specs.declared.order.Order.{Order}
use Rattle.mmc.specs.declared.order.Track.{Track}
use Rattle.mmc.specs.declared.order.Kind.{Kind}
use Rattle.mmc.specs.declared.order.Kind.TheVariants.{Audio, Data}
use Rattle.mmc.specs.declared.order.Method.{Method}
use Rattle.mmc.specs.declared.order.Method.TheVariants.{Tao, Sao}
use Rattle.mmc.specs.declared.order.Recipe.{Recipe}
use Rattle.mmc.specs.declared.order.Recipe.TheVariants.{Old, New}

-- ---- the orders and values that the sheets speak of

abbrev pub track : Kind → ℕ → Track
track k n = record { kind = k; length = record { 0 = n } }

-- an order of the tracks given, of which it says that it has n
abbrev pub order : Method → Bool → Bool → Bool → Bool → ℕ → List Track → Order
order m keep protect immed erase n tracks = record { method = m; keep = keep; protect = protect; immed = immed; erase = erase; recipe = Old; count = n; tracks = tracks }

-- SAO, no flags, one data track
abbrev pub one_data : ℕ → Order
one_data l = order Sao false false false false 1 (track Data l ∷ replicate 98 no_track)

-- n audio tracks; 100 are more than there are rows
abbrev pub counting : ℕ → Order
counting n = order Sao false false false false n (replicate (min n 99) (track Audio 300) ++ replicate (99 - n) no_track)

-- the block of TAO, one data track of 300, with a byte of flags, and the order in it
abbrev pub flags_block : ℕ → List ℕ
flags_block n = sealed (0x01 ∷ 0x01 ∷ n ∷ 0x01 ∷ 0x01 ∷ 0x00 ∷ 0x00 ∷ 0x01 ∷ 0x2C ∷ replicate 501 0)

abbrev pub flags_order : Bool → Bool → Bool → Bool → Order
flags_order keep protect immed erase = order Tao keep protect immed erase 1 (track Data 300 ∷ replicate 98 no_track)

-- the block of a method's number, one data track of 300, with a byte of the recipe and one behind it, and the order in it
abbrev pub recipe_block : ℕ → ℕ → ℕ → List ℕ
recipe_block m n z = sealed (0x01 ∷ m ∷ 0x00 ∷ 0x01 ∷ 0x01 ∷ 0x00 ∷ 0x00 ∷ 0x01 ∷ 0x2C ∷ replicate 490 0 ++ n ∷ z ∷ replicate 9 0)

abbrev pub recipe_order : Method → Recipe → Order
recipe_order m q = record { method = m; keep = false; protect = false; immed = false; erase = false; recipe = q; count = 1; tracks = track Data 300 ∷ replicate 98 no_track }

-- two tracks, the second of another kind or of the first's, kept appendable or not, protected where not kept
abbrev pub mixed : Method → Bool → Order
mixed m keep = order m keep (not keep) false false 2 (track Audio 300 ∷ track Data 300 ∷ replicate 97 no_track)

abbrev pub alike : Method → Bool → Order
alike m keep = order m keep (not keep) false false 2 (track Data 300 ∷ track Data 300 ∷ replicate 97 no_track)

abbrev pub address : ℤ → BlockAddress
address z = record { 0 = z }

abbrev pub time : ℕ → ℕ → ℕ → Time
time m s f = record { minute = m; second = s; frame = f }

-- a WRITE of sixteen blocks
abbrev pub write_most : BlockAddress → Outcome (List ℕ)
write_most a = write_command a (record { 0 = 16 })

-- ---- the sheets marked *

-- what is read of the block that is written of an order
abbrev pub read_of : Order → Outcome Order
read_of o = read_order (order_bytes o)

-- "SAO, no flags, one data track of 300: 01 02 00 01 01 00 00 01 2C, zeros, check 00 32."
abbrev pub Block : Type 0
Block = order_block (one_data 300) ≡ pass (0x01 ∷ 0x02 ∷ 0x00 ∷ 0x01 ∷ 0x01 ∷ 0x00 ∷ 0x00 ∷ 0x01 ∷ 0x2C ∷ replicate 501 0 ++ 0x00 ∷ 0x32 ∷ [])

-- "Track count 0 or 100: 3. 1 and 99 pass." Count 0 stands before 99 empty rows
abbrev pub Counts : Type 0
Counts = map read_of (counting 0 ∷ counting 100 ∷ counting 1 ∷ counting 99 ∷ []) ≡ refuse 3 ∷ refuse 3 ∷ pass (counting 1) ∷ pass (counting 99) ∷ []

-- "Length 299: 9. Length 300 passes."
abbrev pub Lengths : Type 0
Lengths = map sheet_fault (one_data 299 ∷ one_data 300 ∷ []) ≡ 9 ∷ 0 ∷ []

-- "SAO with S 449,849 and room passes; 449,850: 10.", which document 02 moves to 404,849 and 404,850
abbrev pub LeadOuts : Type 0
LeadOuts = map sheet_fault (one_data 404849 ∷ one_data 404850 ∷ []) ≡ 0 ∷ 10 ∷ []

-- "Audio 300 and 450"
abbrev pub Entries : Type 0
Entries =
    cue_sheet (order Sao false false false false 2 (track Audio 300 ∷ track Audio 450 ∷ replicate 97 no_track))
    ≡ pass (
    (0x01 ∷ 0x00 ∷ 0x00 ∷ 0x01 ∷ 0x00 ∷ 0x00 ∷ 0x00 ∷ 0x00 ∷ [])
    ++ (0x01 ∷ 0x01 ∷ 0x00 ∷ 0x00 ∷ 0x00 ∷ 0x00 ∷ 0x00 ∷ 0x00 ∷ [])
    ++ (0x01 ∷ 0x01 ∷ 0x01 ∷ 0x00 ∷ 0x00 ∷ 0x00 ∷ 0x02 ∷ 0x00 ∷ [])
    ++ (0x01 ∷ 0x02 ∷ 0x01 ∷ 0x00 ∷ 0x00 ∷ 0x00 ∷ 0x06 ∷ 0x00 ∷ [])
    ++ (0x01 ∷ 0xAA ∷ 0x01 ∷ 0x01 ∷ 0x00 ∷ 0x00 ∷ 0x0C ∷ 0x00 ∷ []))

-- "TAO data, keep, protected: page starts 05 32 41 C4 08."
abbrev pub PageStart : Type 0
PageStart = take 5 (page (flags_order true true false false) Data) ≡ 0x05 ∷ 0x32 ∷ 0x41 ∷ 0xC4 ∷ 0x08 ∷ []

-- "-150 is 00:00:00, 0 is 00:02:00", and by document 02 "404,849, whose time is 89:59:74", "-151 becomes 99:59:74 and -45,151 is refused, 15"
abbrev pub Times : Type 0
Times =
    map time_of (address (negsuc 149) ∷ address (pos 0) ∷ address (pos 404849) ∷ address (negsuc 150) ∷ address (negsuc 45150) ∷ [])
    ≡ pass (time 0 0 0) ∷ pass (time 0 2 0) ∷ pass (time 89 59 74) ∷ pass (time 99 59 74) ∷ refuse 15 ∷ []

-- "First SAO WRITE: 2A 00 FF FF FF 6A 00 00 10 00."
abbrev pub FirstWrite : Type 0
FirstWrite = write_command (address (negsuc 149)) (record { 0 = 16 }) ≡ pass (0x2A ∷ 0x00 ∷ 0xFF ∷ 0xFF ∷ 0xFF ∷ 0x6A ∷ 0x00 ∷ 0x00 ∷ 0x10 ∷ 0x00 ∷ [])

pub record LayoutSheets : Type 0 where
  pub block : Block
  pub counts : Counts
  pub lengths : Lengths
  pub lead_outs : LeadOuts
  pub entries : Entries
  pub page_start : PageStart
  pub times : Times
  pub first_write : FirstWrite

-- ---- those that carry no mark

pub record LayoutCases : Type 0 where
  -- 8: a session at once of mixed kinds, and one to be kept appendable, of which the page maker judges the second alone; neither in TAO,
  -- for which there is no sheet: 3
  pub mixed_or_kept_case :
      map sheet_fault (mixed Sao false ∷ alike Sao true ∷ alike Sao false ∷ alike Tao false ∷ [])
      ++ map page_fault (mixed Sao false ∷ alike Sao true ∷ alike Sao false ∷ alike Tao true ∷ [])
      ≡ (8 ∷ 8 ∷ 0 ∷ 3 ∷ []) ++ (0 ∷ 8 ∷ 0 ∷ 0 ∷ [])
  -- document 02: "Old order blocks are still read, written", TAO with an audio track among data tracks too, "and the page maker is unchanged"
  pub audio_in_tao : read_of (mixed Tao false) ≡ pass (mixed Tao false)
  pub audio_page : (take 5 (page (mixed Tao false) Audio) ≡ 0x05 ∷ 0x32 ∷ 0x41 ∷ 0x00 ∷ 0x00 ∷ []) × (page_fault (mixed Tao false) ≡ 0)
  -- document 02: addresses "run from -45,150 to 404,849, times convert both ways"; "A WRITE still starts no lower than -150", and no higher
  -- than 404,849, however many blocks it takes
  pub time_ends : map time_of (address (negsuc 45149) ∷ address (pos 404850) ∷ []) ≡ pass (time 90 0 0) ∷ refuse 15 ∷ []
  pub address_ends : map address_of (time 89 59 74 ∷ time 100 0 0 ∷ []) ≡ pass (address (pos 404849)) ∷ refuse 15 ∷ []
  pub write_ends :
      map write_most (address (negsuc 150) ∷ address (pos 404849) ∷ address (pos 404850) ∷ [])
      ≡ refuse 15 ∷ pass (0x2A ∷ 0x00 ∷ 0x00 ∷ 0x06 ∷ 0x2D ∷ 0x71 ∷ 0x00 ∷ 0x00 ∷ 0x10 ∷ 0x00 ∷ []) ∷ refuse 15 ∷ []
  -- document 02: flag bit 2 is Immed, bit 3 erase; flags 15 pass, 16: 3
  pub immed : read_order (flags_block 4) ≡ pass (flags_order false false true false)
  pub erase : read_order (flags_block 8) ≡ pass (flags_order false false false true)
  pub flags : read_order (flags_block 15) ≡ pass (flags_order true true true true)
  pub no_flag : read_order (flags_block 16) ≡ refuse 3
  -- document 02: "Byte 499 of the order block names the recipe: 0 the old, 1 the new"; "3 for other bytes, or for recipe 1 with SAO", "at reading and
  -- at writing", and as for any bad field at the makers of the sheet and the page; behind it all is 0
  pub recipes :
      map read_order (recipe_block 1 0 0 ∷ recipe_block 1 1 0 ∷ recipe_block 1 2 0 ∷ recipe_block 2 0 0 ∷ recipe_block 2 1 0 ∷ recipe_block 1 1 1 ∷ [])
      ≡ pass (recipe_order Tao Old) ∷ pass (recipe_order Tao New) ∷ refuse 3 ∷ pass (recipe_order Sao Old) ∷ refuse 3 ∷ refuse 3 ∷ []
  pub recipes_written : map order_block (recipe_order Tao New ∷ recipe_order Sao New ∷ []) ≡ pass (recipe_block 1 1 0) ∷ refuse 3 ∷ []
  pub recipes_made : map page_fault (recipe_order Tao New ∷ recipe_order Sao New ∷ []) ++ map sheet_fault (recipe_order Sao Old ∷ recipe_order Sao New ∷ []) ≡ (0 ∷ 3 ∷ []) ++ (0 ∷ 3 ∷ [])
  -- 35h and 5Bh with Immed; 00h and 03h; A1h without and with Immed
  pub synchronize : synchronize_cache true ≡ 0x35 ∷ 0x02 ∷ 0x00 ∷ 0x00 ∷ 0x00 ∷ 0x00 ∷ 0x00 ∷ 0x00 ∷ 0x00 ∷ 0x00 ∷ []
  pub close : close_track_session true 1 (record { 0 = 2 }) ≡ pass (0x5B ∷ 0x01 ∷ 0x01 ∷ 0x00 ∷ 0x00 ∷ 0x02 ∷ 0x00 ∷ 0x00 ∷ 0x00 ∷ 0x00 ∷ [])
  pub ready : test_unit_ready ≡ 0x00 ∷ 0x00 ∷ 0x00 ∷ 0x00 ∷ 0x00 ∷ 0x00 ∷ []
  pub sense : request_sense ≡ 0x03 ∷ 0x00 ∷ 0x00 ∷ 0x00 ∷ 0x12 ∷ 0x00 ∷ []
  pub blanks : blank false ≡ 0xA1 ∷ 0x01 ∷ 0x00 ∷ 0x00 ∷ 0x00 ∷ 0x00 ∷ 0x00 ∷ 0x00 ∷ 0x00 ∷ 0x00 ∷ 0x00 ∷ 0x00 ∷ []
  pub blanks_at_once : blank true ≡ 0xA1 ∷ 0x11 ∷ 0x00 ∷ 0x00 ∷ 0x00 ∷ 0x00 ∷ 0x00 ∷ 0x00 ∷ 0x00 ∷ 0x00 ∷ 0x00 ∷ 0x00 ∷ []
