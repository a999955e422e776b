use mathlib.Core.Path.{sym, ◌∙◌}
use Rattle.ascii.proofs.Decimal.{same, short}
use Rattle.ascii.proofs.add_decimal.Goals as goal

pub returns : goal.returns
returns c =
    let n = c.args.n in
    let h = c.ranges.n.fits in
    (rw (c.as_bytes.ensures.value ∙ c.format.ensures.text ∙ sym (same n h)) at c.add.ensures, short n h)
