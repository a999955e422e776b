use mathlib.Core.Path.{◌≡◌}
use mathlib.Core.List.{◌++◌}
use Prim.Native.Nat.{◌*◌}
use lib.ListN.{drop}
use Rattle.cdtext.proofs.packs.Texts.{sizes_up_to}
use Rattle.cdtext.proofs.packs.put_sizes.Given as goal

abbrev pub invariant-loop-i : goal.invariant-loop-i
invariant-loop-i l = l.out ≡ sizes_up_to l.sizes l.n l.i ++ drop (18 * l.i) l.initial.out
