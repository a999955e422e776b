-- Text in ASCII codes: numbers and bytes as text, and a text behind an index of a buffer.
use Rattle.std.specs.Prelude.{◌≡◌, List, [], ◌∷◌, ◌++◌, ℕ, zero, suc, ◌+◌, ◌/◌, ◌%◌, leb, ltb, length}
use Prim.Native.Char.{code}
use Prim.Native.String as S
use Prim.Native.String.{String}
use Rattle.basics.specs.Bytes.{if, put_at}

-- the codes of a text
unfoldable pub codes : String → List ℕ
codes S.[] = []
codes (S.◌∷◌ c s) = code c ∷ codes s

-- a digit: `0` to `9`, then `A` to `F`
abbrev pub digit : ℕ → ℕ
digit d = if (ltb d 10) (48 + d) (55 + d)

-- "two-digit capital hex bytes"
abbrev pub hex_byte : ℕ → List ℕ
hex_byte b = digit (b / 16) ∷ digit (b % 16) ∷ []

-- "parted by single spaces"
unfoldable pub parted : List ℕ → List ℕ
parted [] = []
parted (b ∷ []) = hex_byte b
parted (b ∷ c ∷ bs) = hex_byte b ++ codes " " ++ parted (c ∷ bs)

-- the digits of a number in decimal, none for 0: at most k, and a number has no more digits than itself
unfoldable pub leading : ℕ → ℕ → List ℕ
leading zero n = []
leading (suc k) zero = []
leading (suc k) (suc n) = leading k (suc n / 10) ++ digit (suc n % 10) ∷ []

-- a number in decimal: the digits before its last one, without leading zeros, and its last one
unfoldable pub decimal : ℕ → List ℕ
decimal n = leading n (n / 10) ++ digit (n % 10) ∷ []

-- a text goes into a buffer at an index whole, or not at all: where it ends
unfoldable pub end_of : List ℕ → ℕ → List ℕ → ℕ
end_of s at buffer = if (leb (at + length s) (length buffer)) (at + length s) at

-- and the buffer after that, of which nothing else changes
unfoldable pub added : List ℕ → ℕ → List ℕ → List ℕ
added s at buffer = if (leb (at + length s) (length buffer)) (put_at buffer at s) buffer

-- what every function promises: of a text and an index, where it ends, and the lent buffer before and after
pub record Adds (s : List ℕ) (at : ℕ) (before : List ℕ) (end : ℕ) (after : List ℕ) : Type 0 where
  pub ends : end ≡ end_of s at before
  pub buffer : after ≡ added s at before
