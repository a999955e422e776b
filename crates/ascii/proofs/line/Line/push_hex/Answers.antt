use Rattle.ascii.proofs.Lines.{ends, fits, full}
use Rattle.ascii.proofs.line.Line.push_hex.Goals as goal

pub invariant_of-self : goal.invariant_of-self
invariant_of-self g c = ends c.add_hex-self-inside.ensures.0 c.self.invariant c.self.told

pub returns-clause-fits : goal.returns-clause-fits
returns-clause-fits g c = rw (← c.self.view_is) (fits c.add_hex-self-inside.ensures.0 c.self.invariant c.self.told)

pub returns-clause-full : goal.returns-clause-full
returns-clause-full g c = rw (← c.self.view_is) (full c.add_hex-self-inside.ensures.0 c.self.invariant c.self.told)
