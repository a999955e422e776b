use Rattle.std.proofs.Common.{◌≡◌, take, nat_eq}
use Rattle.std.specs.List.{list_all}
use Rattle.mmc.proofs.bytes.all_zero.Given as goal

abbrev pub invariant-loop-x : goal.invariant-loop-x
invariant-loop-x l = l.zero ≡ list_all (λ x. nat_eq x 0) (take l.x-index l.s)
