use mathlib.Core.Path.{sym}
use native.Mathlib.Omega.{arith}
use lib.Seq.{length-take-le}
use Rattle.packs.proofs.Heads.{limits, headless}
use Rattle.packs.proofs.serve_head.Goals as goal

pub slice_bounds-read_payload-end : goal.slice_bounds-read_payload-end
slice_bounds-read_payload-end c = omega (arith, (limits _ _ c.in-Some.ensures).1)

pub slice_bounds-read_payload-end-in-Some : goal.slice_bounds-read_payload-end-in-Some
slice_bounds-read_payload-end-in-Some c =
    sym (length-take-le c.in-Some.request.size c.args.payload.now (omega (arith, (limits _ _ c.in-Some.ensures).1)))

pub read_payload-requires : goal.read_payload-requires
read_payload-requires c =
    (c.in-Some.ensures, length-take-le c.in-Some.request.size c.args.payload.now (omega (arith, (limits _ _ c.in-Some.ensures).1)))

pub stop-requires : goal.stop-requires
stop-requires c = headless _ _ c.in-None.ensures
