use Rattle.std.proofs.Common.{arith, ◌≡◌, ◌∙◌, sym}
use Rattle.std.specs.List.{list_all}
use Rattle.std.proofs.lemmas.Iterator.{YieldsList-from_slice}
use Rattle.std.proofs.lemmas.Iterator.Search.{all_from_yields_List}
use Rattle.mmc.specs.Order.{is_none}
use Rattle.mmc.proofs.order.Tracks.{none_each}
use Rattle.mmc.proofs.order.all_none.Goals as goal

pub returns : goal.returns
returns c =
    let ts = c.args.tracks.now in
    let each : c.all.result ≡ list_all is_none ts =
    all_from_yields_List is_none _ _ c.all.result c.all.ensures.ran
    (YieldsList-from_slice ts cc) (λ x b q r. grind arith) in
    each ∙ sym (none_each ts)
