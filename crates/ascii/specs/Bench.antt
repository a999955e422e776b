-- Some texts as they are to be, as one statement about the definitions.
use Rattle.std.specs.Prelude.{◌≡◌, [], ◌∷◌}
use Rattle.ascii.specs.Text.{codes, parted, decimal}

pub record ExampleCodes : Type 0 where
  -- bytes with every kind of digit, and one byte
  pub bytes : parted (0x46 ∷ 0x0C ∷ 0xFF ∷ []) ≡ codes "46 0C FF"
  pub one : parted (0xA1 ∷ []) ≡ codes "A1"
  -- numbers without leading zeros, up to the largest
  pub nought : decimal 0 ≡ codes "0"
  pub hundred : decimal 100 ≡ codes "100"
  pub largest : decimal 18446744073709551615 ≡ codes "18446744073709551615"
