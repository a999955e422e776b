use mathlib.Core.Path.{sym}
use native.Mathlib.Omega.{arith}
use Prim.Native.Nat.{◌+◌}
use lib.Seq.{length-take-le}
use Rattle.std.proofs.lemmas.Bool.{both_ways}
use Rattle.packs.proofs.Heads.{limits, whole, unlike}
use Rattle.packs.proofs.serve_payload.Goals as goal

pub stop-requires : goal.stop-requires
stop-requires c = unlike _ _ c.args.request c.requires.0 c.if-payload-request.true

pub overflow_add-request : goal.overflow_add-request
overflow_add-request c = omega (arith, (limits _ _ c.requires.0).0)

pub slice_bounds-reply-end : goal.slice_bounds-reply-end
slice_bounds-reply-end c = omega (arith, (limits _ _ c.requires.0).0)

pub slice_bounds-reply-end-2 : goal.slice_bounds-reply-end-2
slice_bounds-reply-end-2 c =
    sym (length-take-le (3 + c.args.request.room) c.args.out.now (omega (arith, (limits _ _ c.requires.0).0)))

pub reply-requires : goal.reply-requires
reply-requires c =
    (c.requires.0, whole _ _ c.args.request c.requires.0 c.if-payload-request.false, length-take-le (3 + c.args.request.room) c.args.out.now (omega (arith, (limits _ _ c.requires.0).0)))

pub returns : goal.returns
returns c e = absurd (both_ways _ e (whole _ _ c.args.request c.requires.0 c.if-payload-request.false))
