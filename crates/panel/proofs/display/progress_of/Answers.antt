use Rattle.std.proofs.Common.{◌≡◌, ℕ, ◌<◌, T, sym, ◌∙◌, subst, arith}
use lib.Ieee.{Float, to_unsigned, of_bits, of_int, round, neg}
use lib.Ieee.Casts.{to_unsigned-lt}
use Rattle.panel.specs.Panel.{times}
use Rattle.panel.proofs.Halving.{cast_back}
use Rattle.panel.proofs.Cutting.{in_64, cut, top, none}
use Rattle.panel.proofs.display.progress_of.Goals as goal

small : (n : ℕ) (y : Float) → n ≡ to_unsigned 16 y → n < 65536
small n y e = subst (λ (k : ℕ). k < 65536) (sym e) (to_unsigned-lt 16 y)

-- what it returns in each case is the cast
pub truncating_f64_to_u64-requires : goal.truncating_f64_to_u64-requires
unfolding of_bits of_int round neg
truncating_f64_to_u64-requires c = record { lower_bound = subst T (sym c.if-y.true) tt; upper_bound = in_64 (times c.args.x) c.if-y-2.true }

pub overflow_cast-result : goal.overflow_cast-result
unfolding of_bits of_int round neg
overflow_cast-result c = omega (arith, small _ _ (c.truncating_f64_to_u64.ensures ∙ cut (times c.args.x) c.if-y-2.true))

pub returns-then-y-2 : goal.returns-then-y-2
unfolding of_bits of_int round neg
returns-then-y-2 c = cast_back _ _ (c.truncating_f64_to_u64.ensures ∙ cut (times c.args.x) c.if-y-2.true)

pub returns-then-y : goal.returns-then-y
unfolding of_bits of_int round neg
returns-then-y c = cast_back _ _ (top (times c.args.x) c.if-y.true c.if-y-2.false)

pub returns : goal.returns
unfolding of_bits of_int round neg
returns c = cast_back _ _ (none (times c.args.x) c.if-y.false)
