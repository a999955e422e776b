use mathlib.Core.Path.{◌≡◌}
use Prim.Native.Nat.{◌+◌, ◌≤◌}
use lib.ListN.{drop}
use Rattle.cdtext.specs.Packs.{place_after}
use Rattle.cdtext.proofs.packs.Place.after.Given as goal

abbrev pub invariant-loop-x : goal.invariant-loop-x
invariant-loop-x l = (l.place.track ≤ l.initial.place.track + l.x-index) × (l.place.count ≤ l.initial.place.count + l.x-index)
    × (place_after l.place (drop l.x-index l.text) ≡ place_after l.initial.place l.text)
