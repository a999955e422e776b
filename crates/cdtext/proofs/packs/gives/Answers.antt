use mathlib.Core.Path.{sym, ◌∙◌}
use Prim.Native.Nat.{◌*◌}
use lib.Seq.{length-take-le}
use native.Mathlib.Omega.{arith}
use Rattle.cdtext.proofs.packs.Making.{made_fit, made_are, none_are}
use Rattle.cdtext.proofs.packs.gives.Goals as goal

pub overflow_mul-packs : goal.overflow_mul-packs
overflow_mul-packs c = omega (arith, made_fit _ _ _ _ c.in-Ok.ensures.0.filled)

pub slice_bounds-packs-end : goal.slice_bounds-packs-end
slice_bounds-packs-end c = omega (arith, made_fit _ _ _ _ c.in-Ok.ensures.0.filled, c.make_packs.auto.out)

pub slice_bounds-same-end : goal.slice_bounds-same-end
slice_bounds-same-end c = sym (length-take-le (18 * c.in-Ok.n) c.make_packs.new.out (omega (arith, made_fit _ _ _ _ c.in-Ok.ensures.0.filled, c.make_packs.auto.out)))

pub returns-in-Ok : goal.returns-in-Ok
returns-in-Ok c = c.same.ensures ∙ made_are c.args.run.now c.args.b.now _ c.make_packs.new.out c.in-Ok.n c.in-Ok.ensures.0.filled

pub returns-in-Err : goal.returns-in-Err
returns-in-Err c =
    let e = c.in-Err.ensures.0 in
    none_are c.args.run.now c.args.b.now _ c.make_packs.new.out c.in-Err.field-0 e.filled (λ p h. omega (arith, e.few p h))
