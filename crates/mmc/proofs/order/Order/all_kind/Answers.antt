use Rattle.std.proofs.Common.{arith, ◌≡◌, ◌∙◌, sym}
use Rattle.std.specs.List.{list_all}
use Rattle.std.proofs.lemmas.Iterator.{YieldsList-from_slice}
use Rattle.std.proofs.lemmas.Iterator.Search.{all_from_yields_List}
use Rattle.mmc.specs.Order.{tracks_in, same_kind}
use Rattle.mmc.specs.declared.order.Track.{Track}
use Rattle.mmc.proofs.order.Tracks.{kind_each}
use Rattle.mmc.proofs.order.Order.all_kind.Goals as goal

pub returns : goal.returns
returns c =
    let k = c.args.kind in
    let ts = tracks_in c.args.self.now in
    let each : c.all.result ≡ list_all (λ (t : Track). same_kind k t.kind) ts =
    all_from_yields_List (λ (t : Track). same_kind k t.kind) _ _ c.all.result c.all.ensures.ran
    (YieldsList-from_slice ts cc) (λ x b q r. grind arith) in
    each ∙ sym (kind_each k ts)
