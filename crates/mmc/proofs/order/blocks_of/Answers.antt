use Rattle.std.proofs.Common.{rules, arith, ◌≡◌, ◌∙◌, ◌<◌, sym}
use borrow.Author.Tests.{tests}
use Rattle.std.specs.List.{sum_by}
use Rattle.std.proofs.iter.runs.Sources.{sums}
use Rattle.std.proofs.lemmas.Iterator.{YieldsList-from_slice}
use Rattle.std.proofs.lemmas.Iterator.Adapters.{fits_from_length, at_most_from_yields_List}
use Rattle.mmc.proofs.order.Tracks.{blocks_each}
use Rattle.mmc.proofs.order.blocks_of.Goals as goal

pub returns : goal.returns
returns c =
    let ts = c.args.tracks.now in
    let each : c.sum.result ≡ sum_by (λ t. t.length.0) ts = search (rules, sums) in
    let run = c.sum.ensures.runs tt in
    let few : c.sum.result < 1099511627776 = omega (
      arith,
      run.3,
      fits_from_length _ _ 99 1099511627776 (at_most_from_yields_List (YieldsList-from_slice ts cc) (omega arith))
          c.map.ensures.closure (omega arith) (λ x r q k. search (rules, tests)) run.0 run.0.seen run.1,
    ) in
    (each ∙ sym (blocks_each ts), few)
