use mathlib.Core.Path.{sym, ap, ◌∙◌}
use Prim.Native.Nat.{◌+◌}
use native.Mathlib.Omega.{arith}
use lib.ListN.{drop}
use Rattle.cdtext.specs.Packs.{place_after}
use Rattle.cdtext.specs.declared.packs.Place.{Place}
use Rattle.cdtext.proofs.packs.Places.{place_next, place_end}
use Rattle.cdtext.proofs.packs.Place.after.Goals as goal

pub loop-x-preserved : goal.loop-x-preserved
loop-x-preserved c =
    let t = c.args.text.now in
    let v = c.loop-x in
    (omega arith, omega arith, ap (λ (p : Place). place_after p (drop (v.x-index + 1) t)) c.next-place.ensures.0 ∙ sym (place_next v.place t v.x-index (omega arith)) ∙ v.invariant.2)

pub returns : goal.returns
returns c = sym (place_end c.loop-x.place c.args.text.now c.loop-x.x-index (omega arith)) ∙ c.loop-x.invariant.2
