-- The example texts, computed from the definitions.
use mathlib.Core.Path.{refl}
use Rattle.ascii.specs.Text.{codes, parted, leading, decimal}
use Rattle.ascii.specs.Bench.{ExampleCodes}

pub example_codes : ExampleCodes
unfolding codes parted leading decimal
example_codes = record { bytes = refl; one = refl; nought = refl; hundred = refl; largest = refl }
