-- An order of tracks, and what is judged of it.
use Rattle.std.specs.Prelude.{ℕ, ◌+◌, List, [], ◌∷◌, Bool, true, false, not, ◌&&◌, ◌||◌, get_or, take, drop, replicate, eqb, leb, ltb}
use Rattle.mmc.specs.Times.{last_address}
use Rattle.mmc.specs.declared.order.Order.{Order}
use Rattle.mmc.specs.declared.order.Track.{Track}
use Rattle.mmc.specs.declared.order.Kind.{Kind}
use Rattle.mmc.specs.declared.order.Kind.TheVariants.{Audio, Data}
use Rattle.mmc.specs.declared.order.Method.{Method}
use Rattle.mmc.specs.declared.order.Method.TheVariants.{Tao, Sao}
use Rattle.mmc.specs.declared.order.Recipe.{Recipe}
use Rattle.mmc.specs.declared.order.Recipe.TheVariants.{Old, New}

-- "the count n of tracks, 1 to 99"
abbrev pub most_tracks : ℕ
most_tracks = 99

-- the 300 of 9
abbrev pub least_blocks : ℕ
least_blocks = 300

abbrev pub is_audio : Kind → Bool
is_audio Audio = true
is_audio Data = false

abbrev pub is_sao : Method → Bool
is_sao Tao = false
is_sao Sao = true

-- the recipe: "0 the old, 1 the new without function 1"
abbrev pub is_new : Recipe → Bool
is_new Old = false
is_new New = true

-- a row that holds no track is all zeros
abbrev pub no_track : Track
no_track = record { kind = Audio; length = record { 0 = 0 } }

abbrev pub is_none : Track → Bool
is_none t = is_audio t.kind && eqb t.length.0 0

unfoldable pub all_none : List Track → Bool
all_none [] = true
all_none (t ∷ ts) = is_none t && all_none ts

-- what stands where there is no order
unfoldable pub no_order : Order
no_order = record { method = Tao; keep = false; protect = false; immed = false; erase = false; recipe = Old; count = 0; tracks = replicate most_tracks no_track }

-- 3: "recipe 1 with SAO"
abbrev pub new_sao : Order → Bool
new_sao o = is_sao o.method && is_new o.recipe

-- 3: an order has 1 to 99 tracks, no track past them, and a recipe that goes with its method
unfoldable pub valid_order : Order → Bool
valid_order o = leb 1 o.count && (leb o.count most_tracks && (all_none (drop o.count o.tracks) && not (new_sao o)))

-- the ordered tracks
abbrev pub tracks_in : Order → List Track
tracks_in o = take o.count o.tracks

abbrev pub same_kind : Kind → Kind → Bool
same_kind Audio Audio = true
same_kind Audio Data = false
same_kind Data Audio = false
same_kind Data Data = true

-- the first track's kind
abbrev pub order_kind : Order → Kind
order_kind o = (get_or o.tracks 0 no_track).kind

-- "all audio or all data"
unfoldable pub all_kind : Kind → List Track → Bool
all_kind k [] = true
all_kind k (t ∷ ts) = same_kind k t.kind && all_kind k ts

unfoldable pub all_long : List Track → Bool
all_long [] = true
all_long (t ∷ ts) = leb least_blocks t.length.0 && all_long ts

-- the sum of the lengths
unfoldable pub blocks_of : List Track → ℕ
blocks_of [] = 0
blocks_of (t ∷ ts) = t.length.0 + blocks_of ts

-- ---- the numbers 8, 9 and 10, as far as the order alone decides them

-- 8: "SAO with mixed kinds or with keep appendable"; the page maker judges the second alone
abbrev pub keeps_sao : Order → Bool
keeps_sao o = is_sao o.method && o.keep

abbrev pub mixes_sao : Order → Bool
mixes_sao o = is_sao o.method && not (all_kind (order_kind o) (tracks_in o))

unfoldable pub mixed_or_kept : Order → Bool
mixed_or_kept o = keeps_sao o || mixes_sao o

-- 9: "a track has fewer than 300 blocks"
abbrev pub short_track : Order → Bool
short_track o = not (all_long (tracks_in o))

-- 10 for the lead-out limit, where the first track starts at 0: "in SAO it is S"
unfoldable pub overlong : Order → Bool
overlong o = ltb last_address (blocks_of (tracks_in o))
