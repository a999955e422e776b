use mathlib.Core.Path.{◌≡◌, sym, ap, ◌∙◌}
use mathlib.Core.List.{List}
use Prim.Native.Nat.{ℕ, ◌+◌, ◌*◌, ◌/◌, ◌%◌, ◌≤◌, ◌<◌}
use native.Mathlib.Omega.{arith}
use lib.Bits.{bit_xor, xor_lt}
use lib.ListN.{length, get_or, drop, drop_of_length-le}
use Rattle.basics.proofs.Lists.{drop_next}
use Rattle.cdtext.specs.Check.{AreRemainders, remainder_from, inverted, check_of}
use Rattle.cdtext.proofs.check.Xor.{byte_law, step_lt}
use Rattle.cdtext.proofs.check.check_of.Goals as goal

-- the byte at i comes in, by the table
next : (table : List ℕ) (r : ℕ) (b : List ℕ) (i : ℕ) → AreRemainders table → r < 65536 → i < length b → get_or b i 0 < 256 → remainder_from r (drop i b) ≡ remainder_from 0 b
    → (bit_xor (r * 256 % 65536) (get_or table (bit_xor (r / 256) (get_or b i 0)) 0) < 65536) × (remainder_from (bit_xor (r * 256 % 65536) (get_or table (bit_xor (r / 256) (get_or b i 0)) 0)) (drop (i + 1) b) ≡ remainder_from 0 b)
unfolding remainder_from
next table r b i t rl h xl e =
    let x = get_or b i 0 in
    let l : bit_xor (r / 256) x < 256 = xor_lt 8 (r / 256) x (omega arith) xl in
    let n = ap (bit_xor (r * 256 % 65536)) (t.each (bit_xor (r / 256) x) l) in
    (rw n (xor_lt 16 (r * 256 % 65536) _ (omega arith) (step_lt _)), ap (λ (s : ℕ). remainder_from s (drop (i + 1) b)) (n ∙ sym (byte_law r x)) ∙ sym (ap (remainder_from r) (drop_next b i h)) ∙ e)

-- no byte is left
end : (r : ℕ) (b : List ℕ) (i : ℕ) → length b ≤ i → remainder_from r (drop i b) ≡ remainder_from 0 b → inverted r ≡ check_of b
unfolding remainder_from check_of
end r b i h e = ap inverted (ap (remainder_from r) (sym (drop_of_length-le b h)) ∙ e)

pub loop-x-preserved : goal.loop-x-preserved
loop-x-preserved c =
    let v = c.loop-x in
    next c.remainders-table.result.now v.r c.args.b.now v.x-index c.remainders-table.ensures v.invariant.0 (omega arith) (omega (arith, c.type_inv.b v.x-index)) v.invariant.1

pub returns : goal.returns
returns c = end c.loop-x.r c.args.b.now c.loop-x.x-index (omega arith) c.loop-x.invariant.1
