use mathlib.Core.Path.{◌≡◌, refl}
use mathlib.Core.Bool.{true}
use mathlib.Core.List.{List}
use Prim.Native.Nat.{ℕ, ◌*◌}
use native.Mathlib.Omega.{arith}
use lib.ListN.{length}
use Rattle.cdtext.specs.Check.{bit_step, eight_bits, AreRemainders}
use Rattle.cdtext.proofs.check.Table.{holds, at}
use Rattle.cdtext.proofs.check.remainders.Goals as goal

-- one test over all entries gives the rule at each
by_test : {table : List ℕ} → length table ≡ 256 → holds (λ (x : ℕ). eight_bits (x * 256)) 0 table ≡ true → AreRemainders table
by_test {table} l t = record { long = l; each = λ x h. at (λ (x : ℕ). eight_bits (x * 256)) table t x (omega arith) }

pub returns : goal.returns
unfolding bit_step
returns c = by_test refl refl
