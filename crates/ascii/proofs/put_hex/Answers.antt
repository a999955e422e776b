use mathlib.Core.Path.{◌≡◌, sym, ap, ◌∙◌}
use mathlib.Core.List.{List, []}
use Prim.Native.Nat.{ℕ, ◌+◌, ◌-◌}
use native.Mathlib.Omega.{arith}
use lib.ListN.{length, get_or, get_or-append}
use lib.Seq.{get_or-append_seam}
use Rattle.ascii.proofs.Hex.{both, spaced, none, whole}
use Rattle.ascii.proofs.put_hex.Goals as goal

pub returns-in_default : goal.returns-in_default
returns-in_default c = let a = c.args in none a.bytes.now a.out.now a.at c.in_default.ensures.cases

pub loop-byte-preserved : goal.loop-byte-preserved
loop-byte-preserved c =
    let a = c.args in
    let i = c.loop-byte.byte-index in
    let parts = c.in-Some.ensures.cases in
    let same : get_or c.in-Some.before.now i 0 ≡ get_or a.bytes.now i 0 = sym (ap (λ (l : List ℕ). get_or l i 0) parts.0 ∙ get_or-append _ _ 0 i c.loop-byte-test.true) in
    let b = both a.out.now a.bytes.now a.at i c.loop-byte.end c.requires c.loop-byte.invariant.0 c.loop-byte.out (omega arith) c.loop-byte.invariant.1 in
    let s = spaced a.out.now a.bytes.now a.at i c.loop-byte.end c.requires c.loop-byte.invariant.0 c.put_byte.new.out (omega (arith, parts.1)) (c.put_byte.ensures ∙ rw same b) in
    (omega arith, s)

pub returns : goal.returns
returns c =
    let a = c.args in
    let parts = c.in-Some.ensures.cases in
    let n : length c.in-Some.before.now ≡ length a.bytes.now - 1 = omega (arith, parts.1) in
    let j : c.loop-byte.byte-index ≡ length a.bytes.now - 1 = omega arith in
    let same : c.in-Some.last.now ≡ get_or a.bytes.now (length a.bytes.now - 1) 0 = sym (ap (λ (l : List ℕ). get_or l (length a.bytes.now - 1) 0) parts.0 ∙ rw (← n) (get_or-append_seam c.in-Some.before.now c.in-Some.last.now [] 0)) in
    let b = both a.out.now a.bytes.now a.at (length a.bytes.now - 1) c.loop-byte.end c.requires (omega arith) c.loop-byte.out (omega arith) (rw j at c.loop-byte.invariant.1) in
    whole a.out.now a.bytes.now c.put_byte-2.new.out a.at (c.loop-byte.end + 2) (omega arith) c.requires (omega arith) (c.put_byte-2.ensures ∙ rw same b)
