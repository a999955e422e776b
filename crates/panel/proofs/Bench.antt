-- The panels of `specs/Bench.antt`, computed. Assumes nothing.
use Rattle.std.proofs.Common.{refl}
use lib.Ieee.{of_int, round, div}
use Rattle.panel.specs.Bench.{ExamplePanels}

pub example_panels : ExamplePanels
unfolding of_int round div
example_panels = record {
  before_order = refl;
  half = (refl, refl);
  nearly = (refl, refl);
  refused = refl;
  failed = refl;
}
