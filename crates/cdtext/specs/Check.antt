-- The two check bytes of a pack, bit by bit: "the CRC of the 16 before: polynomial 1021h, start 0, all bits inverted".
use Rattle.std.specs.Prelude.{◌≡◌, ℕ, ◌-◌, ◌*◌, ◌%◌, ◌<◌, List, [], ◌∷◌, leb, length, get_or}
use Rattle.std.specs.Int.Bits.{bit_xor}
use Rattle.basics.specs.Bytes.{if}

-- one bit of the division: the remainder of 16 bits moves up by one place, and the polynomial is taken from it where a 1 moves out
unfoldable pub bit_step : ℕ → ℕ
bit_step r = if (leb 0x8000 r) (bit_xor 0x1021 (r * 2 % 65536)) (r * 2 % 65536)

abbrev pub eight_bits : ℕ → ℕ
eight_bits r = bit_step (bit_step (bit_step (bit_step (bit_step (bit_step (bit_step (bit_step r)))))))

-- a byte comes in at the top, and its eight bits are worked off
abbrev pub byte_in : ℕ → ℕ → ℕ
byte_in r x = eight_bits (bit_xor r (x * 256))

-- the rule of the table of 256 remainders: at each place what is left of that byte alone
pub record AreRemainders (table : List ℕ) : Type 0 where
  pub long : length table ≡ 256
  pub each : (x : ℕ) → x < 256 → get_or table x 0 ≡ eight_bits (x * 256)

unfoldable pub remainder_from : ℕ → List ℕ → ℕ
remainder_from r [] = r
remainder_from r (x ∷ xs) = remainder_from (byte_in r x) xs

-- "all bits inverted"
abbrev pub inverted : ℕ → ℕ
inverted r = 65535 - r

-- "start 0"
unfoldable pub check_of : List ℕ → ℕ
check_of b = inverted (remainder_from 0 b)
