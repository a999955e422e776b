-- The order block: what is written of an order, and what a reader finds in 512 bytes.
use Rattle.std.specs.Prelude.{◌≡◌, ℕ, zero, suc, ◌+◌, ◌/◌, ◌%◌, List, [], ◌∷◌, ◌++◌, Bool, true, false, ◌&&◌, Result, Ok, Err, get_or, take, drop, replicate, eqb, leb}
use Rattle.basics.specs.Bytes.{if, be32, bytes32, all_zero}
use Rattle.mmc.specs.Refusals.{Outcome, pass, refuse, outcome_of, Fills}
use Rattle.mmc.specs.Block.{sealed, block_read}
use Rattle.mmc.specs.Order.{most_tracks, valid_order}
use Rattle.mmc.specs.declared.order.Order.{Order}
use Rattle.mmc.specs.declared.order.Track.{Track}
use Rattle.mmc.specs.declared.order.Kind.{Kind}
use Rattle.mmc.specs.declared.order.Kind.TheVariants.{Audio, Data}
use Rattle.mmc.specs.declared.order.Method.{Method}
use Rattle.mmc.specs.declared.order.Method.TheVariants.{Tao, Sao}
use Rattle.mmc.specs.declared.order.Recipe.{Recipe}
use Rattle.mmc.specs.declared.order.Recipe.TheVariants.{Old, New}
use Rattle.mmc.specs.declared.refusals.Refusal.{Refusal}
use Rattle.mmc.specs.declared.refusals.Refusal.TheVariants.{FieldValue}

-- "byte 1 the method, 1 TAO or 2 SAO"
abbrev pub method_byte : Method → ℕ
method_byte Tao = 1
method_byte Sao = 2

unfoldable pub method_of : ℕ → Method
method_of n = if (eqb n 1) Tao Sao

-- "byte 2 flags, bit 0 keep appendable, bit 1 buffer underrun protection, bit 2 Immed, bit 3 erase, other bits 0"
abbrev pub flags_byte : Bool → Bool → Bool → Bool → ℕ
flags_byte keep protect immed erase = if keep 1 0 + if protect 2 0 + if immed 4 0 + if erase 8 0

unfoldable pub keep_of : ℕ → Bool
keep_of flags = eqb (flags % 2) 1

unfoldable pub protect_of : ℕ → Bool
protect_of flags = eqb (flags / 2 % 2) 1

unfoldable pub immed_of : ℕ → Bool
immed_of flags = eqb (flags / 4 % 2) 1

unfoldable pub erase_of : ℕ → Bool
erase_of flags = eqb (flags / 8 % 2) 1

-- "Byte 499 of the order block names the recipe: 0 the old, 1 the new"
abbrev pub recipe_byte : Recipe → ℕ
recipe_byte Old = 0
recipe_byte New = 1

abbrev pub recipe_of : ℕ → Recipe
recipe_of n = if (eqb n 0) Old New

-- the last method, the flags with all four bits, and the last recipe
abbrev pub last_method : ℕ
last_method = 2

abbrev pub last_flags : ℕ
last_flags = 15

abbrev pub last_recipe : ℕ
last_recipe = 1

-- "rows of 5 bytes: kind (0 audio, 1 data) and length in blocks (4 bytes, any value)"
abbrev pub kind_byte : Kind → ℕ
kind_byte Audio = 0
kind_byte Data = 1

abbrev pub kind_of : ℕ → Kind
kind_of n = if (eqb n 0) Audio Data

unfoldable pub row : Track → List ℕ
row t = kind_byte t.kind ∷ bytes32 t.length.0

-- a place without a track is a row of zeros, so all 99 rows are written
unfoldable pub rows : List Track → List ℕ
rows [] = []
rows (t ∷ ts) = row t ++ rows ts

-- bytes 0 to 509: "byte 0 is 1", method, flags, count, rows from byte 4 on, recipe, zeros
unfoldable pub order_body : Order → List ℕ
order_body o = 1 ∷ method_byte o.method ∷ flags_byte o.keep o.protect o.immed o.erase ∷ o.count ∷ rows o.tracks ++ recipe_byte o.recipe ∷ replicate 10 0

unfoldable pub order_bytes : Order → List ℕ
order_bytes o = sealed (order_body o)

-- the block of an order: 3 for an order that no block holds
unfoldable pub order_block : Order → Outcome (List ℕ)
order_block o = if (valid_order o) (pass (order_bytes o)) (refuse 3)

-- the track of a row, and the tracks of k rows
unfoldable pub track_of : List ℕ → Track
track_of b = record { kind = kind_of (get_or b 0 0); length = record { 0 = be32 (drop 1 b) } }

unfoldable pub tracks_of : ℕ → List ℕ → List Track
tracks_of zero b = []
tracks_of (suc k) b = track_of b ∷ tracks_of k (drop 5 b)

-- each of k rows starts with a kind's byte
unfoldable pub kinds_ok : ℕ → List ℕ → Bool
kinds_ok zero b = true
kinds_ok (suc k) b = leb (get_or b 0 0) 1 && kinds_ok k (drop 5 b)

-- what a reader of fields comes to: the value where they are listed, else 3
abbrev pub listed : {A : Type 0} → Bool → A → Result A Refusal
listed true a = Ok a
listed false a = Err FieldValue

-- the method, the kind and the recipe of a byte, where it is listed
abbrev pub listed_method : ℕ → Result Method Refusal
listed_method n = listed (leb 1 n && leb n last_method) (method_of n)

abbrev pub listed_kind : ℕ → Result Kind Refusal
listed_kind n = listed (leb n 1) (kind_of n)

abbrev pub listed_recipe : ℕ → Result Recipe Refusal
listed_recipe n = listed (leb n last_recipe) (recipe_of n)

-- the fields of a block, whatever they hold
unfoldable pub fields_of : List ℕ → Order
fields_of b =
    record {
      method = method_of (get_or b 1 0);
      keep = keep_of (get_or b 2 0);
      protect = protect_of (get_or b 2 0);
      immed = immed_of (get_or b 2 0);
      erase = erase_of (get_or b 2 0);
      recipe = recipe_of (get_or b 499 0);
      count = get_or b 3 0;
      tracks = tracks_of most_tracks (drop 4 b);
    }

-- byte 0, method and flags have listed values
unfoldable pub head_ok : List ℕ → Bool
head_ok b = (eqb (get_or b 0 0) 1 && leb 1 (get_or b 1 0)) && (leb (get_or b 1 0) last_method && leb (get_or b 2 0) last_flags)

-- the recipe has a listed value, and "all else up to byte 509 is 0"
abbrev pub rest_ok : List ℕ → Bool
rest_ok b = leb (get_or b 499 0) last_recipe && all_zero (take 10 (drop 500 b))

-- every field has a listed value, and all else is 0
unfoldable pub order_ok : List ℕ → Bool
order_ok b = head_ok b && (kinds_ok most_tracks (drop 4 b) && (valid_order (fields_of b) && rest_ok b))

-- the order in a block
unfoldable pub read_order : List ℕ → Outcome Order
read_order b = block_read b (order_ok b) (fields_of b)

-- what the writer promises: the block, and that it reads back to the order
pub record WritesOrder (o : Order) (r : Result ℕ Refusal) (before after : List ℕ) : Type 0 where
  pub filled : Fills (order_block o) r before after
  pub reads_back : (b : List ℕ) → order_block o ≡ pass b → read_order b ≡ pass o

-- what the reader promises: the order, and that the block is the one that is written of it
pub record ReadsOrder (b : List ℕ) (r : Result Order Refusal) : Type 0 where
  pub answer : outcome_of r ≡ read_order b
  pub written : (o : Order) → read_order b ≡ pass o → order_block o ≡ pass b
