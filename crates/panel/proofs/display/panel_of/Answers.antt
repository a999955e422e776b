use Rattle.std.proofs.Common.{refl, ap, ◌∙◌, rules}
use Rattle.panel.specs.declared.display.Panel.TheVariants as D
use Rattle.panel.specs.Panel.{fraction_of}
use Rattle.panel.proofs.Bench.{example_panels}
use Rattle.panel.proofs.Shown.{displays}
use Rattle.panel.proofs.display.panel_of.Goals as goal

pub returns-in-Idle : goal.returns-in-Idle
returns-in-Idle c = (displays c.args.r _ _ c.in-Idle.is (search rules) refl, example_panels)

pub returns-in-Going : goal.returns-in-Going
returns-in-Going c = (displays c.args.r _ _ c.in-Going.is (search rules) (ap D.Busy (c.fraction.ensures.quotient ∙ ap fraction_of c.latest.ensures)), example_panels)

pub returns-in-Finished : goal.returns-in-Finished
returns-in-Finished c = (displays c.args.r _ _ c.in-Finished.is (search rules) refl, example_panels)

pub returns-in-Stopped : goal.returns-in-Stopped
returns-in-Stopped c = (displays c.args.r _ _ c.in-Stopped.is (search rules) refl, example_panels)

pub returns-in-Failed : goal.returns-in-Failed
returns-in-Failed c = (displays c.args.r _ _ c.in-Failed.is (search rules) refl, example_panels)
