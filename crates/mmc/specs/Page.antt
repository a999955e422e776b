-- The mode data of MODE SELECT: "8 zero bytes, then a page of 52".
use Rattle.std.specs.Prelude.{◌≡◌, ℕ, ◌+◌, List, [], ◌∷◌, ◌++◌, Bool, not, Result, length, replicate}
use Rattle.basics.specs.Bytes.{if, bytes16}
use Rattle.mmc.specs.Refusals.{Outcome, pass, test, fault_of, unless, Fills}
use Rattle.mmc.specs.Order.{valid_order, keeps_sao}
use Rattle.mmc.specs.declared.order.Order.{Order}
use Rattle.mmc.specs.declared.order.Kind.{Kind}
use Rattle.mmc.specs.declared.order.Kind.TheVariants.{Audio, Data}
use Rattle.mmc.specs.declared.refusals.Refusal.{Refusal}
use Rattle.mmc.specs.declared.order.Method.{Method}
use Rattle.mmc.specs.declared.order.Method.TheVariants.{Tao, Sao}

-- "byte 2 underrun protection (40h) plus write type (TAO 1, SAO 2)"
abbrev pub protect_bits : Bool → ℕ
protect_bits protect = if protect 0x40 0

abbrev pub write_type : Method → ℕ
write_type Tao = 1
write_type Sao = 2

-- "byte 3 multi-session (C0h to keep appendable) plus track mode (data 4, audio 0)"
abbrev pub session_bits : Bool → ℕ
session_bits keep = if keep 0xC0 0

abbrev pub track_mode : Kind → ℕ
track_mode Audio = 0
track_mode Data = 4

-- "byte 4 block type (data 8, audio 0)"
abbrev pub block_type : Kind → ℕ
block_type Audio = 0
block_type Data = 8

-- "bytes 14, 15 audio pause 150"
abbrev pub audio_pause : ℕ
audio_pause = 150

-- the write parameters page: 05h, 32h, bytes 2 to 4, the audio pause, and zeros
unfoldable pub page : Order → Kind → List ℕ
page o k =
    0x05 ∷ 0x32
    ∷ (protect_bits o.protect + write_type o.method)
    ∷ (session_bits o.keep + track_mode k)
    ∷ block_type k
    ∷ replicate 9 0 ++ bytes16 audio_pause ++ replicate 36 0

unfoldable pub mode_bytes : Order → Kind → List ℕ
mode_bytes o k = replicate 8 0 ++ page o k

-- 3, then "8 for SAO with keep appendable"; 0: neither
unfoldable pub page_fault : Order → ℕ
page_fault o = fault_of (test (not (valid_order o)) 3 ∷ test (keeps_sao o) 8 ∷ [])

-- the mode data of an order for its tracks of a kind
unfoldable pub mode_data : Order → Kind → Outcome (List ℕ)
mode_data o k = unless (page_fault o) (mode_bytes o k)

-- the "length 60" of MODE SELECT
abbrev pub mode_length : ℕ
mode_length = 60

-- what the maker promises: the mode data, and that they have the length that MODE SELECT bears
pub record MakesModeData (o : Order) (k : Kind) (r : Result ℕ Refusal) (before after : List ℕ) : Type 0 where
  pub filled : Fills (mode_data o k) r before after
  pub size : (b : List ℕ) → mode_data o k ≡ pass b → length b ≡ mode_length
